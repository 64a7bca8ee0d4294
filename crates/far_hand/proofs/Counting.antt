-- What is counted on rests, from call to call.
use Rattle.std.proofs.Common.{◌≡◌, ◌⊎◌, ℕ, ◌+◌, ◌*◌, ◌/◌, ◌%◌, ◌<◌, ◌≤◌, Bool, true, false, inl, inr, refl, sym, ap, ◌∙◌, subst, arith}
use Rattle.std.proofs.Math.Logic.{∥∥₁_map}
use Rattle.std.proofs.lemmas.Bool.{false≢true}
use Rattle.far_word.specs.declared.sizes.TheConstants.{LOG_WORDS}
use Rattle.far_events.specs.events.Get.{after_get}
use Rattle.far_events.specs.state.State.{State, put}
use Rattle.far_events.proofs.Put.{put_both, put_other, put_same}
use Rattle.far_hand.specs.Finds.{Finds}
use Rattle.far_hand.specs.Masked.{AllFind, CountsOnRest, recounted}
use Rattle.far_hand.specs.Quiet.{IsQuietAt, IsQuietBy, RestsAt}
use Rattle.far_hand.proofs.Finding.{finds_same, near_found}
use Rattle.far_hand.proofs.Masking.{moved_known, quiet_found}

-- where quiet words stay so, what rests does
pub rests_more : {A B C : Type 0} → (B → C) → ∥ (A ⊎ B) ∥₁ → ∥ (A ⊎ C) ∥₁
rests_more {A} {B} {C} f rests = ∥∥₁_map rests one where
  one : A ⊎ B → A ⊎ C
  one (inl past) = inl past
  one (inr quiet) = inr (f quiet)

-- what is found shows as much as before, or more
quiet_more : (mutators : ℕ) (round clear : ℕ → Bool) (cell found : ℕ → ℕ) (a : ℕ) → AllFind cell found → IsQuietBy mutators round clear cell a → IsQuietBy mutators round clear found a
quiet_more mutators round clear cell found a finds x = let y = near_found (cell x.p) (found x.p) (finds x.p) x.len x.ds x.place x.marks x.near in record {
  p = x.p;
  len = x.len;
  ds = x.ds;
  place = x.place;
  marks = y.marks;
  index = x.index;
  pointer = x.pointer;
  near = y.near;
  quiet = quiet_found round clear x.p x.place x.marks y.marks (sym y.same) (moved_known (cell x.p) (found x.p) x.len x.ds x.place x.marks y.marks (finds x.p) x.near y.near) x.quiet;
  inside = x.inside;
  here = x.here;
}

pub counts_found : (s : State) (found : ℕ → ℕ) (counted : ℕ → Bool) (p w : ℕ) → CountsOnRest s found counted → Finds (found p) w → CountsOnRest s (put found p w) counted
counts_found s found counted p w counts f a known plain = rests_more
    (quiet_more s.mutators s.round s.clear found (put found p w) a
    (λ q. put_both (λ v. Finds (found q) v) found p w q (λ e. subst (λ k. Finds (found k) w) (sym e) f) (λ _. finds_same (found q))))
    (counts a known plain)

-- nothing is counted on
pub counts_none : (s : State) (found : ℕ → ℕ) → CountsOnRest s found (λ _. false)
counts_none s found a known plain = absurd (false≢true known)

module _ (s : State) (found : ℕ → ℕ) (counted : ℕ → Bool) where
  -- a word that rests, besides
  pub counts_one : (a : ℕ) → RestsAt (record s { cell = found }) a → CountsOnRest s found counted → CountsOnRest s found (put counted a true)
  counts_one a rests counts q = put_both (λ b. b ≡ true → s.starts q ≡ false → RestsAt (record s { cell = found }) q) counted a true q
      (λ e _ _. subst (RestsAt (record s { cell = found })) (sym e) rests) (λ _ known plain. counts q known plain)

  -- one past a tail
  pub counts_past : (l at : ℕ) → s.tail l ≤ at → at < LOG_WORDS → CountsOnRest s found counted → CountsOnRest s found (put counted (l * LOG_WORDS + at) true)
  counts_past l at past inside =
      let log : (l * LOG_WORDS + at) / LOG_WORDS ≡ l = omega arith in
      let here : (l * LOG_WORDS + at) % LOG_WORDS ≡ at = omega arith in
      counts_one (l * LOG_WORDS + at) ∣ inl (subst (λ (x : ℕ × ℕ). s.tail x.0 ≤ x.1) (λ i. (sym log i, sym here i)) past) ∣₁

  -- after a read
  pub counts_read : (l a : ℕ) (free quiet : Bool) → (quiet ≡ true → IsQuietAt (record s { cell = found }) a) → CountsOnRest s found counted →
      CountsOnRest (after_get s l free) found (recounted counted free quiet a)
  counts_read l a true quiet x counts = counts_none (after_get s l true) found
  counts_read l a false true x counts = counts_one a ∣ inr (x refl) ∣₁ counts
  counts_read l a false false x counts = counts

-- each cell is found where it was found, and here
pub finds_put : (found cell : ℕ → ℕ) (p w : ℕ) → AllFind found cell → cell p ≡ w → AllFind (put found p w) cell
finds_put found cell p w finds e q = put_both (λ v. Finds v (cell q)) found p w q
    (λ same. subst (λ v. Finds w v) (sym (ap cell same ∙ e)) (finds_same w)) (λ _. finds q)

-- a word named is found
pub finds_named : (found cell : ℕ → ℕ) (p w : ℕ) → AllFind found cell → AllFind (put found p w) (put cell p w)
finds_named found cell p w finds q = put_both (λ v. Finds v (put cell p w q)) found p w q
    (λ same. subst (λ v. Finds w v) (sym (put_same cell p w q same)) (finds_same w))
    (λ ne. subst (λ v. Finds (found q) v) (sym (put_other cell p w q ne)) (finds q))
