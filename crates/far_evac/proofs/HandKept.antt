-- The hand of an evacuator is one, as its code has it and as its callers see it.
use Rattle.std.proofs.Common.{◌≡◌, subst}
use Rattle.far_hand.specs.Came.{Came}
use Rattle.far_evac.specs.EvacOf.{EvacOf}

module _ {N D E R : Type 0} {makes : N → E → R → N → Type 0} where
  pub since_evac : {e e' : EvacOf N D} {t : N} → e ≡ e' → Came makes e.book.near t → Came makes e'.book.near t
  since_evac {e} {e'} {t} same came = subst (λ (x : EvacOf N D). Came makes x.book.near t) same came
