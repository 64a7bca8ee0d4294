-- The digest of bytes.
use Rattle.std.specs.Prelude.{ℕ, List}
use Rattle.std.specs.Hash.DefaultHasher as sip

-- what std's hasher answers that was given these bytes at once
abbrev pub digest_of : List ℕ → ℕ
digest_of bytes = sip.finish (sip.write sip.initial bytes)
