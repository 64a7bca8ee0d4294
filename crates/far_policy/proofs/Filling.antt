-- One place more of an array is in use.
use Rattle.std.proofs.Common.{◌≡◌, ℕ, ◌+◌, ◌-◌, ◌<◌, List, length, take, drop, set, replicate, ap, sym, ◌∙◌, arith}
use Rattle.std.proofs.lemmas.List.{length-take-le, length-set, drop-set-lt, drop-drop, drop-replicate}
use Rattle.far_policy.specs.declared.chosen.TheConstants.{MOST_CHOSEN}
use Rattle.far_policy.specs.Filled.{IsFilled}

pub filled_more : (logs : List ℕ) (count log : ℕ) → IsFilled logs count → count < MOST_CHOSEN → IsFilled (set logs count log) (count + 1)
filled_more logs count log filled lt = (
  omega arith,
  length-set logs count log ∙ filled.1,
  drop-set-lt (count + 1) logs count log (omega arith) ∙ sym (drop-drop 1 count logs) ∙ ap (drop 1) filled.2 ∙ drop-replicate 1 (MOST_CHOSEN - count) 0 ∙ ap (λ n. replicate n 0) (omega arith),
)

-- as many are in use as are in the list
pub as_many : (logs : List ℕ) (count : ℕ) (list : List ℕ) → IsFilled logs count → take count logs ≡ list → length list ≡ count
as_many logs count list filled is = ap length (sym is) ∙ length-take-le count logs (omega (arith, filled.0, filled.1))
