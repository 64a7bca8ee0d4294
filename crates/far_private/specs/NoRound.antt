-- Why no round begins.
use Rattle.std.specs.Prelude.{◌≡◌, ◌⊎◌, ℕ, List, Result, Err}
use Rattle.far_word.specs.declared.refused.Refused.{Refused}
use Rattle.far_word.specs.declared.refused.Refused.TheVariants.{EpochsSpent}
use Rattle.far_log.specs.declared.row.LogRow.{LogRow}
use Rattle.far_policy.specs.Choice.{IsBadChoice}

-- no later epoch is left, and the policy wasn't asked; or it refused, of the rows that it was handed
abbrev pub IsNoRound : {P : Type 0} → (P → List LogRow → ℕ → Result (List ℕ) Refused → P → Type 0) → P → P → ℕ → Refused → Type 0
IsNoRound gives policy later most why = ((why ≡ EpochsSpent) × (later ≡ policy)) ⊎ (IsBadChoice why × ((rows : List LogRow) × gives policy rows most (Err why) later))
