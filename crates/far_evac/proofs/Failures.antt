-- Which refusals say that the device failed.
use Rattle.std.proofs.Common.{◌≡◌, ◌⊎◌, Err, inl, inr, ap, sym, ◌∙◌}
use Rattle.far_word.specs.declared.refused.Refused.{Refused}
use Rattle.far_word.specs.declared.refused.Refused.TheVariants.{Device as Failed, Memory}
use Rattle.far_book.specs.book.Dealing.{is_failure}
use Rattle.far_evac.specs.declared.answers.EvacFault.{EvacFault}
use Rattle.far_evac.specs.Failing.{fails, is_of_device}

-- whatever a call of the book would have answered else
pub failure_alike : (A B : Type 0) (why : Refused) → (why ≡ Memory) ⊎ (why ≡ Failed) → is_failure {A = A} (Err why) ≡ is_failure {A = B} (Err why)
failure_alike A B why is = elim is [
  | inl e ↦ ap (λ w. is_failure {A = A} (Err w)) e ∙ sym (ap (λ w. is_failure {A = B} (Err w)) e)
  | inr e ↦ ap (λ w. is_failure {A = A} (Err w)) e ∙ sym (ap (λ w. is_failure {A = B} (Err w)) e)
]

-- whatever a call would have answered else
pub fails_alike : (A B : Type 0) (fault : EvacFault) → (fault.why ≡ Memory) ⊎ (fault.why ≡ Failed) → fails {A = A} (Err fault) ≡ fails {A = B} (Err fault)
fails_alike A B fault why = elim why [
  | inl e ↦ ap (λ w. is_failure {A = A} (Err w)) e ∙ sym (ap (λ w. is_failure {A = B} (Err w)) e)
  | inr e ↦ ap (λ w. is_failure {A = A} (Err w)) e ∙ sym (ap (λ w. is_failure {A = B} (Err w)) e)
]

-- whatever the call of the book, or the call that hands it on, would have answered else
pub fails_so : (A B : Type 0) (fault : EvacFault) → (fault.why ≡ Memory) ⊎ (fault.why ≡ Failed) → is_failure {A = A} (Err fault.why) ≡ fails {A = B} (Err fault)
fails_so A B fault why = elim why [
  | inl e ↦ ap (λ w. is_failure {A = A} (Err w)) e ∙ sym (ap is_of_device e)
  | inr e ↦ ap (λ w. is_failure {A = A} (Err w)) e ∙ sym (ap is_of_device e)
]
