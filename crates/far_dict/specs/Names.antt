-- Which values are long, by their keys.
use Rattle.std.specs.Prelude.{ℕ, List, refl, map as each}
use Rattle.std.specs.Ordering.{nat_cmp}
use Rattle.std.specs.Cmp.Lexicographic.{slice_cmp}
use Rattle.std.specs.FinMap as map
use Rattle.std.specs.Coded.{Coded, code_by, coded×, coded_list, coded_ℕ}
use Rattle.far_large.specs.Parts.{Parts}

abbrev pub Names : Type 0
Names = map.FinMap (slice_cmp nat_cmp) Parts

abbrev pub parts_code : Coded Parts
parts_code = code_by (ℕ × List ℕ) (coded× coded_ℕ (coded_list coded_ℕ)) (λ p. (p.len, p.numbers)) (λ p. record { len = p.0; numbers = p.1 }) (λ _. refl)

abbrev pub names_code : Coded Names
names_code = map.code (coded_list coded_ℕ) parts_code

-- a table's entries, whose keys are given as bytes
abbrev pub rows : {K X : Type 0} → (K → List ℕ) → List (K × X) → List (List ℕ × X)
rows key es = each (λ e. (key e.0, e.1)) es

abbrev pub names_in : {K : Type 0} → (K → List ℕ) → List (K × Parts) → Names
names_in key es = map.from_entries (rows key es)
