-- A dictionary while its entries are told one by one.
use Rattle.std.specs.Prelude.{◌≡◌, ℕ, true, Bool, List, [], ◌++◌, drop, refl}
use Rattle.std.specs.FinMap as map
use Rattle.std.specs.Coded.{Coded, code_by, coded×, coded_bool, coded_list, coded_ℕ}
use Rattle.far_map.specs.Entries.{Entry}
use Rattle.far_map.specs.Table.{Entries, Table}
use Rattle.far_map.specs.Walks.{Walked as ShortWalked}
use Rattle.far_dict.specs.Dictionaries.{AreApart, Dictionary, both}

-- honest, honest_long: as a Dictionary's. rest: the entries that weren't told yet, in the order in which they will be
pub record Walked : Type 0 where
  pub honest : Bool
  pub honest_long : Bool
  pub entries : Entries
  pub rest : List Entry

abbrev pub walked_code : Coded Walked
walked_code =
    code_by (Bool × (Bool × (Entries × List Entry)))
    (coded× coded_bool (coded× coded_bool (coded× (map.code (coded_list coded_ℕ) (coded_list coded_ℕ)) (coded_list (coded× (coded_list coded_ℕ) (coded_list coded_ℕ))))))
    (λ w. (w.honest, (w.honest_long, (w.entries, w.rest)))) (λ p. record { honest = p.0; honest_long = p.1.0; entries = p.1.1.0; rest = p.1.1.1 }) (λ _. refl)

-- the short ones first, and of the long ones those after the first so many
abbrev pub walked : ShortWalked → Table → ℕ → Walked
walked short long told = record { honest = short.honest; honest_long = long.honest; entries = both short.entries long.entries; rest = short.rest ++ drop told (map.entries long.entries) }

abbrev pub short_table : ShortWalked → Table
short_table short = record { honest = short.honest; entries = short.entries }

abbrev pub dictionary_in : Walked → Dictionary
dictionary_in w = record { honest = w.honest; honest_long = w.honest_long; entries = w.entries }

-- keys are those of a table, in its order
abbrev pub AreNames : List (List ℕ) → Table → Type 0
AreNames names long = names ≡ map.keys long.entries

-- both workers read what was written
pub record IsHonest (w : Walked) : Type 0 where
  pub short : w.honest ≡ true
  pub long : w.honest_long ≡ true

-- ---- a dictionary at rest, or while its entries are told
abbrev pub resting : Dictionary → Walked
resting d = record { honest = d.honest; honest_long = d.honest_long; entries = d.entries; rest = [] }
