-- Values of one type in far objects.
use Rattle.std.specs.List.{range_with_len}
use Rattle.std.specs.Prelude.{ℕ, ◌*◌, ◌-◌, ◌%◌, min, take, drop, Bool, nat_lt, ◌&&◌, Option, Some, None, List, map, if◌then◌else◌}
use Rattle.far_word.specs.declared.refused.Refused.{Refused}
use Rattle.far_word.specs.declared.refused.Refused.TheVariants.{Range}
use Rattle.far_array.specs.Rows.{Rows, per_block}

-- To a contract: values in their order. honest: what is read is what was written. blocks: how many far objects they take
pub record Listed (A : Type 0) : Type 0 where
  pub honest : Bool
  pub blocks : ℕ
  pub items : List A

abbrev pub listed : {A : Type 0} → (List ℕ → A) → Rows → Listed A
listed decoded rows = record { honest = rows.honest; blocks = rows.blocks; items = map decoded rows.items }

-- there is no value i
abbrev pub beyond : ℕ → ℕ → Option Refused
beyond i n = if nat_lt i n then None else Some Range

-- there is no value i, or no value j
abbrev pub beyond_two : ℕ → ℕ → ℕ → Option Refused
beyond_two i j n = if nat_lt i n && nat_lt j n then None else Some Range

-- the first n values that stand in bytes, each of `size`
abbrev pub values_in : {A : Type 0} → (List ℕ → A) → ℕ → ℕ → List ℕ → List A
values_in decoded size n bytes = map (λ k. decoded (take size (drop (k * size) bytes))) (range_with_len 0 n)

-- how many values are read at once, from value i on, of so many: to the end of its object, or of the array
abbrev pub many_from : ℕ → ℕ → ℕ → ℕ
many_from size len i = min (len - i) (per_block size - i % per_block size)
