-- What a map is to a contract.
use Rattle.std.specs.Prelude.{ℕ, Bool, List, refl}
use Rattle.std.specs.Ordering.{nat_cmp}
use Rattle.std.specs.Cmp.Lexicographic.{slice_cmp}
use Rattle.std.specs.FinMap as map
use Rattle.std.specs.Coded.{Coded, code_by, coded×, coded_bool, coded_list, coded_ℕ}

abbrev pub Entries : Type 0
Entries = map.FinMap (slice_cmp nat_cmp) (List ℕ)

-- honest: what its worker reads is what was written
pub record Table : Type 0 where
  pub honest : Bool
  pub entries : Entries

abbrev pub table_code : Coded Table
table_code =
    code_by (Bool × Entries) (coded× coded_bool (map.code (coded_list coded_ℕ) (coded_list coded_ℕ))) (λ t. (t.honest, t.entries))
    (λ p. record { honest = p.0; entries = p.1 }) (λ _. refl)
