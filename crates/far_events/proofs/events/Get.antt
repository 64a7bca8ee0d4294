-- What the test of the event Get looks at.
use Rattle.std.proofs.Common.{inl, inr, ◌≡◌, ◌≢◌, ℕ, ◌<◌, ◌∙◌, true, false, zero, suc, arith, ap, refl, sym}
use Rattle.std.proofs.lemmas.Bool.{cases_eq, false≢true, false_from_ne_true}
use Rattle.std.proofs.lemmas.Bool.Decides.{nat_tests}
use Rattle.far_events.specs.events.Get.{is_copied_at, none_copied, is_live_at, none_live}
use Rattle.far_events.specs.state.Jobs.{job_at}
use Rattle.far_events.specs.state.State.{Copying, State}

-- ---- the guard
pub none_below : (s : State) (l n i : ℕ) → none_live s l n ≡ true → i < n → is_live_at s l i ≡ false
none_below s l zero i h lt = absurd (omega arith)
none_below s l (suc n) i h lt = elim (cases_eq i n) [
  | inl e ↦ (let here : is_live_at s l n ≡ false = grind (arith, nat_tests) in ap (is_live_at s l) e ∙ here)
  | inr ne ↦ none_below s l n i (grind (arith, nat_tests)) (omega arith)
]

-- a live span below n shows
pub live_at : (s : State) (l n i : ℕ) → i < n → is_live_at s l i ≡ true → none_live s l n ≡ false
live_at s l n i lt live = false_from_ne_true _ (λ h. false≢true (sym (none_below s l n i h lt) ∙ live))

pub none_all : (s : State) (l n : ℕ) → ((i : ℕ) → i < n → is_live_at s l i ≡ false) → none_live s l n ≡ true
none_all s l zero h = refl
none_all s l (suc n) h = rw (none_all s l n (λ i lt. h i (omega arith)), h n (omega arith)) refl

-- ---- the jobs
pub uncopied_below : (k : Copying) (l n j : ℕ) → none_copied k l n ≡ true → j < n → is_copied_at l (job_at k.word j) ≡ false
uncopied_below k l zero j h lt = absurd (omega arith)
uncopied_below k l (suc n) j h lt = elim (cases_eq j n) [
  | inl e ↦ (let here : is_copied_at l (job_at k.word n) ≡ false = grind (arith, nat_tests) in ap (λ i. is_copied_at l (job_at k.word i)) e ∙ here)
  | inr ne ↦ uncopied_below k l n j (grind (arith, nat_tests)) (omega arith)
]

-- a job there shows
pub copied_at : (k : Copying) (l n j : ℕ) → j < n → is_copied_at l (job_at k.word j) ≡ true → none_copied k l n ≡ false
copied_at k l n j lt there = false_from_ne_true _ (λ h. false≢true (sym (uncopied_below k l n j h lt) ∙ there))

pub uncopied_all : (k : Copying) (l n : ℕ) → ((j : ℕ) → j < n → is_copied_at l (job_at k.word j) ≡ false) → none_copied k l n ≡ true
uncopied_all k l zero h = refl
uncopied_all k l (suc n) h = rw (uncopied_all k l n (λ j lt. h j (omega arith)), h n (omega arith)) refl
