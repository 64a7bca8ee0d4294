-- Records of one size in far objects.
use Rattle.std.specs.Prelude.{ℕ, ◌-◌, min, ◌*◌, ◌/◌, ◌%◌, Bool, nat_lt, Option, Some, None, List, [], length, map, take, drop, slice_index}
use Rattle.std.specs.List.{range_with_len}
use Rattle.far_objects.specs.Far.{Far}
use Rattle.far_objects.specs.declared.objects.TheConstants.{MOST}

-- To a contract: records in their order, each of `size` bytes. honest: what is read is what was written. blocks: how many far objects they take
pub record Rows : Type 0 where
  pub honest : Bool
  pub size : ℕ
  pub blocks : ℕ
  pub items : List (List ℕ)

-- how many records fit into an object
abbrev pub per_block : ℕ → ℕ
per_block size = MOST / size

-- whether one record more fits into the blocks
abbrev pub has_room : Rows → Bool
has_room rows = nat_lt (length rows.items) (per_block rows.size * rows.blocks)

-- how many records are read at once, from record i on, into so many bytes
abbrev pub many_at : Rows → ℕ → ℕ → ℕ
many_at rows i n = min (min (n / rows.size) (length rows.items - i)) (per_block rows.size - i % per_block rows.size)

-- ---- the records of the objects
abbrev pub bytes_of : Option (List ℕ) → List ℕ
bytes_of None = []
bytes_of (Some bytes) = bytes

-- record i: a part of its object
abbrev pub row : Far → List ℕ → ℕ → ℕ → ℕ → List ℕ
row far blocks per size i = take size (drop ((i % per) * size) (bytes_of (far.bytes (slice_index blocks (i / per)))))

abbrev pub rows : Far → List ℕ → ℕ → ℕ → ℕ → List (List ℕ)
rows far blocks per size len = map (row far blocks per size) (range_with_len 0 len)

abbrev pub rows_of : Far → List ℕ → ℕ → ℕ → ℕ → Rows
rows_of far blocks per size len = record { honest = far.honest; size = size; blocks = length blocks; items = rows far blocks per size len }
