-- What a tally of lines is to a contract.
use Rattle.std.specs.Prelude.{ℕ, zero, suc, ◌+◌, Bool, cond, List, [], ◌∷◌, map, refl}
use Rattle.std.specs.Str.{bytes_eq}
use Rattle.std.specs.Coded.{Coded, code_by, coded×, coded_bool, coded_list, coded_ℕ}
use Rattle.std.specs.declared.hash.DefaultHasher.{DefaultHasher}
use Rattle.far_seen.specs.Lines.{coded_seed}

-- lines, and how often each came
abbrev pub Counts : Type 0
Counts = List (List ℕ × ℕ)

-- honest: what its worker reads is what was written. lines: in the order in which each came first. stamps: of each what stamp was put,
-- with its count, whatever is read
pub record Tallied : Type 0 where
  pub honest : Bool
  pub lines : Counts
  pub seed : DefaultHasher
  pub stamps : Counts

abbrev coded_counts : Coded Counts
coded_counts = coded_list (coded× (coded_list coded_ℕ) coded_ℕ)

abbrev pub tallied_code : Coded Tallied
tallied_code =
    code_by (Bool × (Counts × (DefaultHasher × Counts))) (coded× coded_bool (coded× coded_counts (coded× coded_seed coded_counts))) (λ t. (t.honest, (t.lines, (t.seed, t.stamps))))
    (λ p. record { honest = p.0; lines = p.1.0; seed = p.1.1.0; stamps = p.1.1.1 }) (λ _. refl)

-- a line came: it stands there with one more, or comes last
abbrev pub counted : Counts → List ℕ → Counts
counted [] line = (line, 1) ∷ []
counted (p ∷ ps) line = cond (bytes_eq p.0 line) ((p.0, p.1 + 1) ∷ ps) (p ∷ counted ps line)

-- how many came in all
abbrev pub total : Counts → ℕ
total [] = 0
total (p ∷ ps) = p.1 + total ps

-- how many came of one line, or of one stamp
abbrev pub often : List ℕ → Counts → ℕ
often q [] = 0
often q (p ∷ ps) = cond (bytes_eq q p.0) (p.1 + often q ps) (often q ps)

-- how often each came
abbrev pub times : Counts → List ℕ
times ps = map (λ p. p.1) ps

abbrev pub line_of : Counts → ℕ → List ℕ
line_of [] i = []
line_of (p ∷ ps) zero = p.0
line_of (p ∷ ps) (suc i) = line_of ps i

abbrev pub count_of : Counts → ℕ → ℕ
count_of [] i = 0
count_of (p ∷ ps) zero = p.1
count_of (p ∷ ps) (suc i) = count_of ps i
