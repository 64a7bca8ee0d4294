-- The parts of a map as plain values, and what a map of them is.
use Rattle.std.specs.Prelude.{◌≡◌, ℕ, ◌<◌, ◌≤◌, true, List, length}
use Rattle.std.specs.FinMap as map
use Rattle.std.specs.declared.hash.DefaultHasher.{DefaultHasher}
use Rattle.far_objects.specs.Far.{Far}
use Rattle.far_index.specs.declared.slot.Slot.{Slot}
use Rattle.far_index.specs.Slots.{Reached}
use Rattle.far_map.specs.declared.near.Near.{Near}
use Rattle.far_map.specs.Slots.{entries_in, Apart, Held, Owned, Tagged, Distinct}
use Rattle.far_map.specs.Table.{Table}

pub record Plain : Type 0 where
  pub far : Far
  pub seed : DefaultHasher
  pub slots : List Slot
  pub buckets : ℕ
  pub count : ℕ

abbrev pub plain : Far → Near → Plain
plain far near = record { far = far; seed = near.seed; slots = near.slots; buckets = near.buckets; count = near.count }

abbrev pub table_of : Plain → Table
table_of p = record { honest = p.far.honest; entries = map.from_entries (entries_in p.far.bytes p.slots) }

-- what is said of bytes, and with them of keys, is said where the worker is honest
pub record Sound (p : Plain) : Type 0 where
  pub some : 0 < p.buckets
  pub fits : p.buckets ≤ length p.slots
  pub reached : Reached p.buckets p.slots
  pub apart : Apart p.slots
  pub held : Held p.far p.slots
  pub owned : Owned p.far p.slots
  pub tagged : p.far.honest ≡ true → Tagged p.seed p.far.bytes p.slots
  pub distinct : p.far.honest ≡ true → Distinct p.far.bytes p.slots
  pub counted : p.far.honest ≡ true → p.count ≡ map.len (table_of p).entries
