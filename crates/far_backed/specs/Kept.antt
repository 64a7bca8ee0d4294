-- A map, as a contract has it.
use Rattle.std.specs.Prelude.{List, refl}
use Rattle.std.specs.FinMap as map
use Rattle.std.specs.Coded.{Coded, code_by, coded×, coded_list, coded_ℕ}
use Rattle.far_map.specs.Entries.{Entry}
use Rattle.far_map.specs.Table.{Entries}
use Rattle.far_dict.specs.Walks.{Walked}

-- its entries, and those that are still to be told one by one
pub record Kept : Type 0 where
  pub entries : Entries
  pub rest : List Entry

abbrev pub kept_code : Coded Kept
kept_code =
    code_by (Entries × List Entry) (coded× (map.code (coded_list coded_ℕ) (coded_list coded_ℕ)) (coded_list (coded× (coded_list coded_ℕ) (coded_list coded_ℕ))))
    (λ k. (k.entries, k.rest)) (λ p. record { entries = p.0; rest = p.1 }) (λ _. refl)

abbrev pub kept : Walked → Kept
kept w = record { entries = w.entries; rest = w.rest }
