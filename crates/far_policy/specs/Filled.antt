-- An array of which a part is in use, from its front; the rest has zeros.
use Rattle.std.specs.Prelude.{◌≡◌, ℕ, ◌-◌, ◌≤◌, List, ◌++◌, length, take, drop, replicate}
use Rattle.std.proofs.Common.{ap, sym, subst, ◌∙◌, take-append-drop, length-take-le}
use Rattle.far_policy.specs.declared.chosen.TheConstants.{MOST_CHOSEN}

-- so many places of the array are in use, and the others have zeros
abbrev pub IsFilled : List ℕ → ℕ → Type 0
IsFilled logs count = (count ≤ MOST_CHOSEN) × (length logs ≡ MOST_CHOSEN) × (drop count logs ≡ replicate (MOST_CHOSEN - count) 0)

-- the array that has this list, and behind it zeros
abbrev pub filled_from : List ℕ → List ℕ
filled_from logs = logs ++ replicate (MOST_CHOSEN - length logs) 0

-- an array is the one that has the list in it
pub filled_from_view : (logs : List ℕ) (count : ℕ) → IsFilled logs count → (filled_from (take count logs) ≡ logs) × (length (take count logs) ≡ count)
filled_from_view logs count filled =
    let within : count ≤ length logs = subst (λ n. count ≤ n) (sym filled.1) filled.0 in
    let many : length (take count logs) ≡ count = length-take-le count logs within in (
      ap (λ n. take count logs ++ replicate (MOST_CHOSEN - n) 0) many ∙ ap (λ rest. take count logs ++ rest) (sym filled.2) ∙ take-append-drop count logs,
      many,
    )
