-- A map while its entries are told one by one.
use Rattle.std.specs.Prelude.{◌≡◌, ℕ, ◌&&◌, nat_le, Bool, true, false, List, [], ◌∷◌, length, drop, refl, if◌then◌else◌}
use Rattle.std.specs.Ordering.{nat_cmp}
use Rattle.std.specs.FinMap as map
use Rattle.std.specs.Coded.{Coded, code_by, coded×, coded_bool, coded_list, coded_ℕ}
use Rattle.far_map.specs.Entries.{Entry}
use Rattle.far_map.specs.Plain.{Plain, table_of}
use Rattle.far_map.specs.Slots.{entries_in}
use Rattle.far_map.specs.Table.{Entries}

-- honest: as a Table's. rest: the entries that weren't told yet, in the order in which they will be
pub record Walked : Type 0 where
  pub honest : Bool
  pub entries : Entries
  pub rest : List Entry

abbrev pub walked_code : Coded Walked
walked_code =
    code_by (Bool × (Entries × List Entry)) (coded× coded_bool (coded× (map.code (coded_list coded_ℕ) (coded_list coded_ℕ)) (coded_list (coded× (coded_list coded_ℕ) (coded_list coded_ℕ)))))
    (λ w. (w.honest, (w.entries, w.rest))) (λ p. record { honest = p.0; entries = p.1.0; rest = p.1.1 }) (λ _. refl)

abbrev pub walked : Plain → ℕ → Walked
walked p place = record { honest = p.far.honest; entries = (table_of p).entries; rest = entries_in p.far.bytes (drop place p.slots) }

-- the first entry that wasn't told was told, and counts as told if it has room; or each was
abbrev pub TellsNext : ℕ → ℕ → List Entry → Bool → List ℕ → List ℕ → List Entry → Type 0
TellsNext most_key most_value [] there key value rest = (there ≡ false) × (rest ≡ [])
TellsNext most_key most_value (e ∷ es) there key value rest =
    (there ≡ true) × (key ≡ e.0) × (value ≡ e.1) × (rest ≡ (if nat_le (length e.0) most_key && nat_le (length e.1) most_value then es else e ∷ es))
