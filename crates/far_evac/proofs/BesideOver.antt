-- A walk over objects where copies may be offered goes on: what was dealt with first, and then.
use Rattle.std.proofs.Common.{◌≡◌, ◌++◌, ◌||◌, ◌⊎◌, ℕ, zero, suc, Bool, true, false, cond, Option, Some, None, List, [], ◌∷◌, inl, inr, ap, sym, refl, ◌∙◌, subst}
use Rattle.far_word.specs.declared.pointer.Place.{Place}
use Rattle.far_word.specs.declared.pointer.PtrWord.{PtrWord}
use Rattle.far_word.specs.declared.pointer.PtrWord.TheVariants.{Free, Near, Far}
use Rattle.far_word.specs.declared.refused.Refused.{Refused}
use Rattle.far_word.specs.declared.sizes.TheConstants.{JOBS}
use Rattle.far_word.specs.Pointer.{read_of}
use Rattle.far_events.specs.state.Jobs.{job_at, near_place}
use Rattle.far_events.specs.state.State.{State}
use Rattle.far_hand.specs.Finds.{body_of}
use Rattle.far_book.specs.book.Jobs.{copies_from, has_job, has_job_at, is_good, noted_of, some_copies}
use Rattle.far_evac.specs.AnyHand.{Knows, KnowsWalked}
use Rattle.far_evac.specs.Beside.{At, Before, Behind, Dealing, DealsBeside, End, OverObjects}
use Rattle.far_evac.specs.Moment.{Moment}
use Rattle.far_evac.specs.Walk.{Walked}
use Rattle.far_evac.proofs.Hands.{knows_more}
use Rattle.far_evac.proofs.Walks.{knows_same}

-- ---- one thing after the other
pub then_known : (w u t : Walked) → KnowsWalked w u → KnowsWalked u t → KnowsWalked w t
then_known w u t first then = record {
  moment = record {
    core = knows_more w.moment.core u.moment.core t.moment.core first.moment.core then.moment.core;
    rest = then.moment.rest ∙ ap (λ (x : Moment). record x { core = t.moment.core }) first.moment.rest;
  };
  tally = then.tally ∙ first.tally;
}

pub walked_same : (w : Walked) → KnowsWalked w w
walked_same w = record { moment = record { core = knows_same w.moment.core; rest = refl }; tally = refl }

-- ---- who has a job isn't changed by marks
near_body : (o : Option PtrWord) → near_place (body_of o) ≡ near_place o
near_body None = refl
near_body (Some Free) = refl
near_body (Some (Near len ds place m)) = refl
near_body (Some (Far len ds m)) = refl

module _ (s t : State) (k : Knows s t) where
  place_known : (p : ℕ) → near_place (read_of (t.cell p)) ≡ near_place (read_of (s.cell p))
  place_known p = sym (near_body (read_of (t.cell p))) ∙ ap near_place (k.found p).body ∙ near_body (read_of (s.cell p))

  some_known : (p : ℕ) (at : Place) (n : ℕ) → some_copies t p at n ≡ some_copies s p at n
  some_known p at n = ap (λ x. some_copies x p at n) k.rest ∙ alike n where
    alike : (n : ℕ) → some_copies (record s { cell = t.cell; word = t.word; stored = t.stored }) p at n ≡ some_copies s p at n
    alike zero = refl
    alike (suc n) = ap (λ b. b || copies_from p at (noted_of (job_at s.copying.word n) (is_good s.round_epoch s.round s.copying.since n))) (alike n)

  at_known : (p : ℕ) (o : Option Place) → has_job_at t p o ≡ has_job_at s p o
  at_known p None = refl
  at_known p (Some at) = some_known p at JOBS

  pub job_known : (p : ℕ) → has_job t p ≡ has_job s p
  job_known p = ap (has_job_at t p) (place_known p) ∙ at_known p (near_place (read_of (s.cell p)))

module _ (D : Type 0) (Asks : State → ℕ → Dealing → D → D → Type 0) (Fails : State → ℕ → Refused → D → D → Type 0) where
  -- ---- the first object has no job: it is the first too many; or it is dealt with, or refused
  abbrev Halted : Walked → Walked → ℕ → End → D → D → Type 0
  Halted w t more e old new = KnowsWalked w t × (more ≡ 0) × (e ≡ Before) × (new ≡ old)

  abbrev Deals : ℕ → List ℕ → ℕ → Walked → Walked → ℕ → End → D → D → Type 0
  Deals p ps n w t more e old new = ((v : Walked) × (a : Walked) × (between : D) × KnowsWalked w v × DealsBeside D Asks v p a old between × OverObjects D Asks Fails ps n a t more e between new)
      ⊎ ((v : Walked) × (why : Refused) × KnowsWalked w v × KnowsWalked v t × Fails v.moment.core p why old new × (more ≡ suc n) × (e ≡ At p why))

  -- ---- marks that are found before a walk are found on it
  halted_more : (w u t : Walked) (more : ℕ) (e : End) (old new : D) → KnowsWalked w u → Halted u t more e old new → Halted w t more e old new
  halted_more w u t more e old new k (knows, is, end, same) = (then_known w u t k knows, is, end, same)

  deals_more : (p : ℕ) (ps : List ℕ) (n : ℕ) (w u t : Walked) (more : ℕ) (e : End) (old new : D) → KnowsWalked w u → Deals p ps n u t more e old new → Deals p ps n w t more e old new
  deals_more p ps n w u t more e old new k (inl (v, a, between, knows, deals, rest)) = inl (v, a, between, then_known w u v k knows, deals, rest)
  deals_more p ps n w u t more e old new k (inr (v, why, knows, then, fails, some, at)) = inr (v, why, then_known w u v k knows, then, fails, some, at)

  either : (A B C E : Type 0) (b c : Bool) → c ≡ b → (A → C) → (B → E) → cond b A B → cond c C E
  either A B C E true c same f g h = subst (λ x. cond x C E) (sym same) (f h)
  either A B C E false c same f g h = subst (λ x. cond x C E) (sym same) (g h)

  pub over_more : (ys : List ℕ) (n : ℕ) (w u t : Walked) (more : ℕ) (e : End) (old new : D) → KnowsWalked w u → OverObjects D Asks Fails ys n u t more e old new → OverObjects D Asks Fails ys n w t more e old new
  over_more [] n w u t more e old new k (knows, is, end, same) = (then_known w u t k knows, is, end, same)
  over_more (p ∷ ps) zero w u t more e old new k h =
      either (OverObjects D Asks Fails ps zero u t more e old new) (Halted u t more e old new) (OverObjects D Asks Fails ps zero w t more e old new) (Halted w t more e old new)
      (has_job u.moment.core p) (has_job w.moment.core p) (sym (job_known w.moment.core u.moment.core k.moment.core p))
      (over_more ps zero w u t more e old new k) (halted_more w u t more e old new k) h
  over_more (p ∷ ps) (suc n) w u t more e old new k h =
      either (OverObjects D Asks Fails ps (suc n) u t more e old new) (Deals p ps n u t more e old new) (OverObjects D Asks Fails ps (suc n) w t more e old new) (Deals p ps n w t more e old new)
      (has_job u.moment.core p) (has_job w.moment.core p) (sym (job_known w.moment.core u.moment.core k.moment.core p))
      (over_more ps (suc n) w u t more e old new k) (deals_more p ps n w u t more e old new k) h

  -- ---- first these objects, and then those
  halted_not : {X : Type 0} (w u : Walked) (more : ℕ) (old mid : D) → Halted w u more Behind old mid → X
  halted_not w u more old mid (knows, none, odd, same) = absurd cc

  deals_then : (p : ℕ) (ps ys : List ℕ) (n : ℕ) (w u t : Walked) (more m : ℕ) (e : End) (old mid new : D) →
      ((a : Walked) (between : D) → OverObjects D Asks Fails ps n a u more Behind between mid → OverObjects D Asks Fails (ps ++ ys) n a t m e between new) →
      Deals p ps n w u more Behind old mid → Deals p (ps ++ ys) n w t m e old new
  deals_then p ps ys n w u t more m e old mid new on (inl (v, a, between, knows, deals, rest)) = inl (v, a, between, knows, deals, on a between rest)
  deals_then p ps ys n w u t more m e old mid new on (inr (v, why, knows, known, fails, some, odd)) = absurd cc

  pub over_then : (xs ys : List ℕ) (n : ℕ) (w u t : Walked) (more m : ℕ) (e : End) (old mid new : D) → OverObjects D Asks Fails xs n w u more Behind old mid → OverObjects D Asks Fails ys more u t m e mid new → OverObjects D Asks Fails (xs ++ ys) n w t m e old new
  over_then [] ys n w u t more m e old mid new (knows, is, end, same) then =
      over_more ys n w u t m e old new knows (subst (λ k. OverObjects D Asks Fails ys k u t m e old new) is (subst (λ d. OverObjects D Asks Fails ys more u t m e d new) same then))
  over_then (p ∷ ps) ys zero w u t more m e old mid new h then =
      either (OverObjects D Asks Fails ps zero w u more Behind old mid) (Halted w u more Behind old mid) (OverObjects D Asks Fails (ps ++ ys) zero w t m e old new) (Halted w t m e old new)
      (has_job w.moment.core p) (has_job w.moment.core p) refl (λ rest. over_then ps ys zero w u t more m e old mid new rest then) (halted_not w u more old mid) h
  over_then (p ∷ ps) ys (suc n) w u t more m e old mid new h then =
      either (OverObjects D Asks Fails ps (suc n) w u more Behind old mid) (Deals p ps n w u more Behind old mid) (OverObjects D Asks Fails (ps ++ ys) (suc n) w t m e old new) (Deals p (ps ++ ys) n w t m e old new)
      (has_job w.moment.core p) (has_job w.moment.core p) refl (λ rest. over_then ps ys (suc n) w u t more m e old mid new rest then)
      (deals_then p ps ys n w u t more m e old mid new (λ a between rest. over_then ps ys n a u t more m e between mid new rest then)) h

  -- ---- one object: it has a job; it is dealt with; it is the first too many; or it was refused
  pub over_job : (p n : ℕ) (w t : Walked) (old : D) → has_job w.moment.core p ≡ true → KnowsWalked w t → OverObjects D Asks Fails (p ∷ []) n w t n Behind old old
  over_job p zero w t old has knows = subst (λ b. cond b (OverObjects D Asks Fails [] zero w t zero Behind old old) (Halted w t zero Behind old old)) (sym has) (knows, refl, refl, refl)
  over_job p (suc n) w t old has knows = subst (λ b. cond b (OverObjects D Asks Fails [] (suc n) w t (suc n) Behind old old) (Deals p [] n w t (suc n) Behind old old)) (sym has) (knows, refl, refl, refl)

  pub over_one : (p n : ℕ) (w v t : Walked) (old new : D) → has_job w.moment.core p ≡ false → KnowsWalked w v → DealsBeside D Asks v p t old new → OverObjects D Asks Fails (p ∷ []) (suc n) w t n Behind old new
  over_one p n w v t old new has knows deals = subst (λ b. cond b (OverObjects D Asks Fails [] (suc n) w t n Behind old new) (Deals p [] n w t n Behind old new))
      (sym has) (inl (v, t, new, knows, deals, (walked_same t, refl, refl, refl)))

  pub over_stops : (p : ℕ) (ps : List ℕ) (w t : Walked) (old : D) → has_job w.moment.core p ≡ false → KnowsWalked w t → OverObjects D Asks Fails (p ∷ ps) zero w t zero Before old old
  over_stops p ps w t old has knows = subst (λ b. cond b (OverObjects D Asks Fails ps zero w t zero Before old old) (Halted w t zero Before old old)) (sym has) (knows, refl, refl, refl)

  pub over_fails : (p : ℕ) (ps : List ℕ) (n : ℕ) (w v t : Walked) (why : Refused) (old new : D) → has_job w.moment.core p ≡ false → KnowsWalked w v → KnowsWalked v t → Fails v.moment.core p why old new →
      OverObjects D Asks Fails (p ∷ ps) (suc n) w t (suc n) (At p why) old new
  over_fails p ps n w v t why old new has knows then fails = subst (λ b. cond b (OverObjects D Asks Fails ps (suc n) w t (suc n) (At p why) old new) (Deals p ps n w t (suc n) (At p why) old new))
      (sym has) (inr (v, why, knows, then, fails, refl, refl))
