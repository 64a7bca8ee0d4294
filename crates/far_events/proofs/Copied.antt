-- A copy that a job has made: what its test says, and where it stands.
use Rattle.std.proofs.Common.{◌≡◌, ◌≢◌, ℕ, ◌/◌, ◌<◌, ◌∙◌, Bool, true, false, nat_eq, suc, zero, arith, inl, inr, ap, refl, sym, Option, Some, None}
use Rattle.std.specs.Prelude.{◌⊎◌, ◌==◌, ◌&&◌, cond, is_some}
use Rattle.std.proofs.lemmas.Bool.{cases_eq, cond_both, eq-eqb, eqb-true, false≢true}
use Rattle.far_word.specs.declared.job.JobWord.{JobWord}
use Rattle.far_word.specs.declared.job.JobWord.TheVariants.{Empty, Offered, Taken, Finished}
use Rattle.far_word.specs.declared.pointer.Place.{Place}
use Rattle.far_word.specs.declared.pointer.PtrWord.{PtrWord}
use Rattle.far_word.specs.declared.pointer.PtrWord.TheVariants.{Free, Near, Far}
use Rattle.far_word.specs.declared.sizes.TheConstants.{JOBS, LOG_WORDS}
use Rattle.far_word.specs.Job.{job_of}
use Rattle.far_word.specs.Pointer.{read_of}
use Rattle.far_events.specs.events.Copied.{WasCopied, IsCopied, copied_below, copied_job, says_copied, has_copied, is_place}
use Rattle.far_events.specs.events.namings.Moves.{MayMove}
use Rattle.far_events.specs.events.Quiet.{IsQuiet}
use Rattle.far_events.specs.state.Jobs.{job_at, job_said, near_place}
use Rattle.far_events.specs.state.Law.{Law}
use Rattle.far_events.specs.state.Spans.{names_place}
use Rattle.far_events.specs.state.State.{Copying, State, addr}
use Rattle.far_events.proofs.Bounds.{log_inside}
use Rattle.far_events.proofs.Guards.{parts}
use Rattle.far_events.proofs.JobPlaces.{job_bounds}

-- ---- the test
place_is : (x y : Place) → is_place x y ≡ true → x ≡ y
place_is x y h = let e = parts (nat_eq x.log y.log) (nat_eq x.at y.at) h in let a = eqb-true x.log y.log e.0 in let b = eqb-true x.at y.at e.1 in λ i. record { log = a i; at = b i }

place_test : (x y : Place) → x ≡ y → is_place x y ≡ true
place_test x y e = rw e (rw (eq-eqb y.log y.log refl, eq-eqb y.at y.at refl) refl)

finish_says : (p : ℕ) (from to : Place) (o : Option JobWord) → says_copied p from to o ≡ true → (c : ℕ) × (o ≡ Some (Finished (record { pointer = p; from = from; to = to }) c))
finish_says p from to None h = absurd (false≢true h)
finish_says p from to (Some Empty) h = absurd (false≢true h)
finish_says p from to (Some (Offered job)) h = absurd (false≢true h)
finish_says p from to (Some (Taken job c)) h = absurd (false≢true h)
finish_says p from to (Some (Finished job c)) h =
    let a = parts (nat_eq job.pointer p && is_place job.from from) (is_place job.to to) h in
    let b = parts (nat_eq job.pointer p) (is_place job.from from) a.0 in
    let x = eqb-true job.pointer p b.0 in let y = place_is job.from from b.1 in let z = place_is job.to to a.1 in
    (c, λ i. Some (Finished (record { pointer = x i; from = y i; to = z i }) c))

at_place : (o : Option PtrWord) (place : Place) → names_place o place.log place.at ≡ true → near_place o ≡ Some place
at_place None place h = absurd (false≢true h)
at_place (Some Free) place h = absurd (false≢true h)
at_place (Some (Near len ds at m)) place h = ap (λ x. Some x) (place_is at place h)
at_place (Some (Far len ds m)) place h = absurd (false≢true h)

place_names : (o : Option PtrWord) (place : Place) → near_place o ≡ Some place → names_place o place.log place.at ≡ true
place_names None place e = absurd cc
place_names (Some Free) place e = absurd cc
place_names (Some (Near len ds at m)) place e = place_test at place (let same : at ≡ place = cc in same)
place_names (Some (Far len ds m)) place e = absurd cc

module _ (s : State) (p : ℕ) (from to : Place) where
  -- a job that is found has made the copy
  found : (n j : ℕ) → copied_below s p from to n ≡ Some j → (j < n) × (has_copied s p from to j ≡ true)
  found zero j e = absurd cc
  found (suc n) j e = cond_both (has_copied s p from to n) (Some n) (copied_below s p from to n) (λ o. o ≡ Some j → (j < suc n) × (has_copied s p from to j ≡ true))
      (λ here e. let same : n ≡ j = cc in (omega (arith, same), ap (has_copied s p from to) (sym same) ∙ here))
      (λ _ e. let x = found n j e in (omega (arith, x.0), x.1)) e

  finds : (n j : ℕ) → j < n → has_copied s p from to j ≡ true → is_some (copied_below s p from to n) ≡ true
  finds zero j lt h = absurd (omega arith)
  finds (suc n) j lt h = cond_both (has_copied s p from to n) (Some n) (copied_below s p from to n) (λ o. is_some o ≡ true) (λ _. refl)
      (λ other. elim (cases_eq j n) [
        | inl e ↦ absurd (false≢true (sym other ∙ ap (has_copied s p from to) (sym e) ∙ h))
        | inr ne ↦ finds n j (omega arith) h
      ])

  pub copied_fact : (j : ℕ) → copied_job s p from to ≡ Some j → (c : ℕ) × IsCopied s p from to j c
  copied_fact j = cond_both (names_place (read_of (s.cell p)) from.log from.at) (copied_below s p from to JOBS) None (λ o. o ≡ Some j → (c : ℕ) × IsCopied s p from to j c)
      (λ at e.
      let x = found JOBS j e in
      let a = parts (says_copied p from to (job_of (s.copying.word j)) && nat_eq (s.copying.since j) s.round_epoch) (s.round from.log) x.1 in
      let b = parts (says_copied p from to (job_of (s.copying.word j))) (nat_eq (s.copying.since j) s.round_epoch) a.0 in
      let says = finish_says p from to (job_of (s.copying.word j)) b.0 in
      (says.0, record { low = x.0; lies = at_place (read_of (s.cell p)) from at; finished = says.1; good = (eqb-true (s.copying.since j) s.round_epoch b.1, a.1) }))
      (λ _ e. absurd cc)

  pub copied_test : WasCopied s p from to → is_some (copied_job s p from to) ≡ true
  copied_test (j, c, h) =
      let a : says_copied p from to (job_of (s.copying.word j)) ≡ true = rw h.finished (rw (eq-eqb p p refl, place_test from from refl, place_test to to refl) refl) in
      let b : has_copied s p from to j ≡ true = rw (a, eq-eqb (s.copying.since j) s.round_epoch h.good.0, h.good.1) refl in
      rw (place_names (read_of (s.cell p)) from h.lies) (finds JOBS j h.low b)

  -- a span that is begun only now is no copy
  pub none_copied_there : Law s → s.starts (addr to) ≡ false → copied_job s p from to ≡ None
  none_copied_there law fresh = none_of (copied_job s p from to) (λ j e.
      let x = copied_fact j e in
      let at : job_at s.copying.word j ≡ Some (record { pointer = p; from = from; to = to }) = ap job_said x.1.finished in
      false≢true (sym fresh ∙ (law.copies.jobs.job_spans j _ at).to)) where
        none_of : (o : Option ℕ) → ((j : ℕ) → o ≢ Some j) → o ≡ None
        none_of None h = refl
        none_of (Some j) h = absurd (h j refl)

-- ---- where nothing was copied
-- no finished job has copied the pointer's object from here to there
abbrev pub NoCopy : Copying → ℕ → Place → Place → Type 0
NoCopy k p from to = (j c : ℕ) → job_of (k.word j) ≢ Some (Finished (record { pointer = p; from = from; to = to }) c)

pub no_copy_there : (s : State) → Law s → (p : ℕ) (from to : Place) → s.starts (addr to) ≡ false → NoCopy s.copying p from to
no_copy_there s law p from to fresh j c e = false≢true (sym fresh ∙ (law.copies.jobs.job_spans j (record { pointer = p; from = from; to = to }) (ap job_said e)).to)

pub none_copied : (s : State) (p : ℕ) (from to : Place) → NoCopy s.copying p from to → copied_job s p from to ≡ None
none_copied s p from to none = at_job (copied_job s p from to) refl where
  at_job : (o : Option ℕ) → copied_job s p from to ≡ o → o ≡ None
  at_job None e = refl
  at_job (Some j) e = let x = copied_fact s p from to j e in absurd (none j x.0 x.1.finished)

-- ---- two states in which the same was copied
abbrev names_at : Option Place → ℕ → ℕ → Bool
names_at None l at = false
names_at (Some place) l at = (place.log == l) && (place.at == at)

names_by_place : (o : Option PtrWord) (l at : ℕ) → names_place o l at ≡ names_at (near_place o) l at
names_by_place None l at = refl
names_by_place (Some Free) l at = refl
names_by_place (Some (Near len ds place m)) l at = refl
names_by_place (Some (Far len ds m)) l at = refl

module _ (s t : State) (p : ℕ) (from to : Place) (copying : t.copying ≡ s.copying) (round : t.round ≡ s.round) (epoch : t.round_epoch ≡ s.round_epoch)
    (cell : near_place (read_of (t.cell p)) ≡ near_place (read_of (s.cell p))) where
  has_same : (j : ℕ) → has_copied t p from to j ≡ has_copied s p from to j
  has_same j = λ i. has_copied (record s { copying = copying i; round = round i; round_epoch = epoch i }) p from to j

  below_same : (n : ℕ) → copied_below t p from to n ≡ copied_below s p from to n
  below_same zero = refl
  below_same (suc n) = λ i. cond (has_same n i) (Some n) (below_same n i)

  place_same : names_place (read_of (t.cell p)) from.log from.at ≡ names_place (read_of (s.cell p)) from.log from.at
  place_same = names_by_place (read_of (t.cell p)) from.log from.at ∙ ap (λ o. names_at o from.log from.at) cell ∙ sym (names_by_place (read_of (s.cell p)) from.log from.at)

  pub copied_same : copied_job t p from to ≡ copied_job s p from to
  copied_same = λ i. cond (place_same i) (below_same JOBS i) None

-- nor is it in the round
pub copied_outside : (s : State) → Law s → (p : ℕ) (from to : Place) (j c : ℕ) → IsCopied s p from to j c → s.round to.log ≡ false
copied_outside s law p from to j c h = law.copies.good.outside j (record { pointer = p; from = from; to = to }) (ap job_said h.finished) h.good

-- what may be named to a copy is quiet, by the round
pub copied_quiet : (s : State) → Law s → (p : ℕ) (from to : Place) (j c : ℕ) → IsCopied s p from to j c → IsQuiet s p
copied_quiet s law p from to j c h = at_cell (read_of (s.cell p)) refl where
  at_cell : (o : Option PtrWord) → read_of (s.cell p) ≡ o → IsQuiet s p
  at_cell None e = let odd : None ≡ Some from = sym (ap near_place e) ∙ h.lies in absurd cc
  at_cell (Some Free) e = let odd : None ≡ Some from = sym (ap near_place e) ∙ h.lies in absurd cc
  at_cell (Some (Near len ds place m)) e =
      let both : Some place ≡ Some from = sym (ap near_place e) ∙ h.lies in
      let one : place ≡ from = cc in
      let chosen : s.round place.log ≡ true = ap (λ (x : Place). s.round x.log) one ∙ h.good.1 in
      inr (len, ds, place, m, e, law.rounds.round_evac p len ds place m e chosen, chosen, law.copies.good.seen j (record { pointer = p; from = from; to = to }) (ap job_said h.finished) h.good)
  at_cell (Some (Far len ds m)) e = let odd : None ≡ Some from = sym (ap near_place e) ∙ h.lies in absurd cc

-- so what moves is quiet, whichever way it goes
pub moves_quiet : (s : State) → Law s → (p len ds : ℕ) (from to : Place) → MayMove s p len ds from to ⊎ WasCopied s p from to → IsQuiet s p
moves_quiet s law p len ds from to (inl may) = may.quiet
moves_quiet s law p len ds from to (inr (j, c, h)) = copied_quiet s law p from to j c h

-- a copy stands elsewhere, where a span has begun
pub copied_elsewhere : (s : State) → Law s → (p : ℕ) (from to : Place) (j c : ℕ) → IsCopied s p from to j c → to ≢ from
copied_elsewhere s law p from to j c h =
    let at : job_at s.copying.word j ≡ Some (record { pointer = p; from = from; to = to }) = ap job_said h.finished in
    law.copies.jobs.target_no_source j j _ _ at at (at_named (s.copying.named j) refl) where
      at_named : (b : Bool) → s.copying.named j ≡ b → b ≡ false
      at_named true e = absurd (law.copies.aims.left j _ (ap job_said h.finished) e h.lies)
      at_named false e = refl

pub copied_stands : (s : State) → Law s → (p : ℕ) (from to : Place) (j c : ℕ) → IsCopied s p from to j c → (s.starts (addr to) ≡ true) × (to.log < s.logs)
copied_stands s law p from to j c h =
    let at : job_at s.copying.word j ≡ Some (record { pointer = p; from = from; to = to }) = ap job_said h.finished in
    let begun = (law.copies.jobs.job_spans j _ at).to in
    let bounds = (job_bounds s.copying j _ at).to in
    let log : addr to / LOG_WORDS ≡ to.log = omega (arith, bounds) in
    let inside : addr to / LOG_WORDS < s.logs = log_inside s law (addr to / LOG_WORDS) (let span = law.spans.span (addr to) begun in omega (arith, span.fits)) in
    (begun, omega (arith, inside, log))
