-- The tag of a key: the lower 48 bits of its SipHash-1-3, begun with a seed; 65,536 in place of less.
use Rattle.std.specs.Prelude.{max, ℕ, ◌%◌, List}
use Rattle.std.specs.declared.hash.DefaultHasher.{DefaultHasher}
use Rattle.std.specs.Hash.DefaultHasher.{finish, write}

abbrev pub tag_of : DefaultHasher → List ℕ → ℕ
tag_of seeded key = max (finish (write seeded key) % 281474976710656) 65536
