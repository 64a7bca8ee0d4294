-- The entries from a place on.
use Rattle.std.proofs.Common.{◌≡◌, ℕ, ◌≤◌, List, [], length, drop, ap}
use Rattle.std.proofs.lemmas.List.{drop_all}
use Rattle.far_index.specs.declared.slot.Slot.{Slot}
use Rattle.far_map.specs.Plain.{Plain, table_of}
use Rattle.far_map.specs.Slots.{Bytes, entries_in}
use Rattle.far_map.specs.Table.{Table}
use Rattle.far_map.specs.Walks.{Walked, walked}

abbrev pub table_in : Walked → Table
table_in w = record { honest = w.honest; entries = w.entries }

pub same_table : (p : Plain) (place : ℕ) (w : Walked) → walked p place ≡ w → table_of p ≡ table_in w
same_table p place w e = ap table_in e

module _ (b : Bytes) (ss : List Slot) (n : ℕ) where
  pub ended : length ss ≤ n → entries_in b (drop n ss) ≡ []
  ended whole = ap (entries_in b) (drop_all n ss whole)
