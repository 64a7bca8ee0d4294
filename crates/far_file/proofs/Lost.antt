-- A slot that was taken, and let go of again.
use Rattle.std.proofs.Common.{◌≡◌, ◌∙◌, inl, inr, sym, subst, ℕ, Option, Some, arith}
use Rattle.far_file.specs.Free.{IsFree, KeepsOwned, KeepsOwnedBut}

module _ (old mid new : ℕ → ℕ → Option ℕ) (class slot : ℕ) where
  pub taken_back : KeepsOwnedBut old mid class slot → KeepsOwnedBut mid new class slot → IsFree (new class slot) → KeepsOwned new old
  taken_back took gave free c s key low is = elim (gave c s) [
    | inl here ↦ absurd (omega (arith, low, free key (subst (λ t. new class t ≡ Some key) here.1 (subst (λ k. new k s ≡ Some key) here.0 is))))
    | inr same ↦ elim (took c s) [
      | inl here ↦ absurd (omega (arith, low, free key (subst (λ t. new class t ≡ Some key) here.1 (subst (λ k. new k s ≡ Some key) here.0 is))))
      | inr before ↦ sym before ∙ sym same ∙ is
    ]
  ]

-- all is as it was
pub as_before : (old new : ℕ → ℕ → Option ℕ) → ((c s : ℕ) → new c s ≡ old c s) → KeepsOwned new old
as_before old new same c s key low is = sym (same c s) ∙ is
