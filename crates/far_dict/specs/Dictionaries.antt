-- What a map of entries of any length is to a contract.
use Rattle.std.specs.Prelude.{◌≡◌, ℕ, Bool, true, None, List, ◌++◌, refl}
use Rattle.std.specs.FinMap as map
use Rattle.std.specs.Coded.{Coded, code_by, coded×, coded_bool, coded_list, coded_ℕ}
use Rattle.far_map.specs.Table.{Entries, Table}

-- honest: what the worker of the short entries reads is what was written. honest_long: the same of the long values' worker
pub record Dictionary : Type 0 where
  pub honest : Bool
  pub honest_long : Bool
  pub entries : Entries

abbrev pub dictionary_code : Coded Dictionary
dictionary_code =
    code_by (Bool × (Bool × Entries)) (coded× coded_bool (coded× coded_bool (map.code (coded_list coded_ℕ) (coded_list coded_ℕ)))) (λ d. (d.honest, (d.honest_long, d.entries)))
    (λ p. record { honest = p.0; honest_long = p.1.0; entries = p.1.1 }) (λ _. refl)

-- the entries of both
abbrev pub both : Entries → Entries → Entries
both short long = map.from_entries (map.entries short ++ map.entries long)

abbrev pub dictionary_of : Table → Table → Dictionary
dictionary_of short long = record { honest = short.honest; honest_long = long.honest; entries = both short.entries long.entries }

-- no key has a short entry and a long one
abbrev pub AreApart : Table → Table → Type 0
AreApart short long = short.honest ≡ true → (key : List ℕ) → map.contains_key long.entries key ≡ true → map.get short.entries key ≡ None

-- both workers read what was written
pub record IsHonest (d : Dictionary) : Type 0 where
  pub short : d.honest ≡ true
  pub long : d.honest_long ≡ true
