-- Why a pointer comes to a job's target by the naming that takes its copy alone.
use Rattle.std.proofs.Common.{◌≡◌, ◌≢◌, ℕ, ◌^◌, ◌∙◌, bit_or, Bool, true, false, cond, nat_eq, arith, inl, inr, ap, refl, sym, subst, Option, Some, None}
use Rattle.std.specs.Prelude.{◌⊎◌, is_some}
use Rattle.std.proofs.lemmas.Bool.{cases_eq, cond_both, eqb-true, eq-eqb, false≢true, true≢false}
use Rattle.far_word.specs.declared.job.Job.{Job}
use Rattle.far_word.specs.declared.mark.Mark.{Mark as MarkKind}
use Rattle.far_word.specs.declared.mark.Mark.TheVariants.{Hot, Evac, Dirty}
use Rattle.far_word.specs.declared.mark.Marks.{Marks}
use Rattle.far_word.specs.declared.pointer.Place.{Place}
use Rattle.far_word.specs.declared.pointer.PtrWord.{PtrWord}
use Rattle.far_word.specs.declared.pointer.PtrWord.TheVariants as pointer
use Rattle.far_word.specs.declared.pointer.PtrWord.TheVariants.{Near, Far}
use Rattle.far_word.specs.Job.{job_of}
use Rattle.far_word.specs.Mark.{position}
use Rattle.far_word.specs.Pointer.{read_of, with_mark, without_evac}
use Rattle.far_events.specs.declared.event.Event.{Event}
use Rattle.far_events.specs.declared.event.Event.TheVariants.{ReadEpoch, Open, Pin, Load, Store, Soil, Close, Adopt, Put, Name, See, Mark, Ask, Get, Clear, Advance, Look, Offer, PeekJob, SeeJob, Claim, ReadLength, Read, Write, Finish, Collect}
use Rattle.far_events.specs.declared.event.Reply.{Reply}
use Rattle.far_events.specs.declared.event.Reply.TheVariants.{Refused}
use Rattle.far_events.specs.declared.naming.Naming.{Naming}
use Rattle.far_events.specs.declared.naming.Naming.TheVariants.{Places, Retires, Evicts, Stays, Moves, Fetches}
use Rattle.far_events.specs.events.Copied.{WasCopied, copied_job}
use Rattle.far_events.specs.events.Legal.{Legal}
use Rattle.far_events.specs.events.Name.{after_naming}
use Rattle.far_events.specs.events.Naming.{IsNaming, naming_of}
use Rattle.far_events.specs.events.namings.Moves.{after_move}
use Rattle.far_events.specs.events.Offer.{after_offer}
use Rattle.far_events.specs.events.Step.{is_legal, after, answer, step_of, touches}
use Rattle.far_events.specs.declared.event.Task.{Task}
use Rattle.far_events.specs.events.Finish.{job_spot}
use Rattle.far_events.specs.events.Touch.{BookView, CellAt}
use Rattle.far_core.specs.laws.RefusedNamings.{IsElsewhere}
use Rattle.far_core.specs.laws.Taking.{IsVoid, TakesCopy, CopiesAreTaken, TakingIsRefused}
use Rattle.far_events.specs.state.Jobs.{is_finished, job_at, job_said, near_place}
use Rattle.far_events.specs.state.Law.{Law}
use Rattle.far_events.specs.state.State.{State, put}
use Rattle.far_events.proofs.Cells.{map_mark, read_hot}
use Rattle.far_events.proofs.Copied.{copied_fact, copied_test}
use Rattle.far_core.proofs.events.Name.{naming_owed}
use Rattle.far_events.proofs.JobPlaces.{job_bounds}
use Rattle.far_events.proofs.MadeNamings.{unbegun}
use Rattle.far_events.proofs.Namings.{naming_only, naming_says}
use Rattle.far_core.proofs.Owing.{is_fact, owed}
use Rattle.far_events.proofs.Put.{put_other, put_same}
use Rattle.far_core.proofs.RefusedEvents.{refused}
use Rattle.far_core.proofs.RefusedNamings.{spanned}

-- ---- a naming that comes to a job's target is of a copy
near_says : (o : Option PtrWord) (place : Place) → near_place o ≡ Some place → (len ds : ℕ) × (m : Marks) × (o ≡ Some (Near len ds place m))
near_says None place e = absurd cc
near_says (Some pointer.Free) place e = absurd cc
near_says (Some (Near len ds at m)) place e = let same : at ≡ place = cc in (len, ds, m, ap (λ x. Some (Near len ds x m)) same)
near_says (Some (Far len ds m)) place e = absurd cc

away : (old : ℕ) (to : Place) → near_place (read_of old) ≢ Some to → IsElsewhere old to
away old to ne n d m e = ne (ap near_place e)

module _ (s : State) (law : Law s) (p old new j len ds : ℕ) (job : Job) (k : Marks) (at : job_at s.copying.word j ≡ Some job) (near : read_of new ≡ Some (Near len ds job.to k)) (elsewhere : IsElsewhere old job.to) where
  -- a span begins at the target already
  by_copy : Legal s (Name p old new) → ((from : Place) → ¬ WasCopied s p from job.to) → ⊥
  by_copy h none =
      let x = spanned s p new h.1.0 (read_of old) (read_of new) len ds job.to k h.1.1 h.1.2 near elsewhere none in
      let b = (job_bounds s.copying j job at).to in
      false≢true (sym (unbegun s law job.to x.span.next (omega (arith, b))) ∙ (law.copies.jobs.job_spans j job at).to)

  -- the job that made the copy is this one
  the_job : (from : Place) (h : WasCopied s p from job.to) → (h.0 ≡ j) × (job ≡ record { pointer = p; from = from; to = job.to })
  the_job from h =
      let own : job_at s.copying.word h.0 ≡ Some (record { pointer = p; from = from; to = job.to }) = ap job_said h.2.finished in
      let same : h.0 ≡ j = law.copies.jobs.targets_differ h.0 j _ job own at refl in
      let both : Some job ≡ Some (record { pointer = p; from = from; to = job.to }) = sym at ∙ ap (job_at s.copying.word) (sym same) ∙ own in
      (same, cc)

  unless_finished : is_finished (job_of (s.copying.word j)) ≡ false → (from : Place) → ¬ WasCopied s p from job.to
  unless_finished undone from h = let x = the_job from h in true≢false (sym (ap is_finished h.2.finished) ∙ ap (λ i. is_finished (job_of (s.copying.word i))) x.0 ∙ undone)

  unless_void : IsVoid s j job → (from : Place) → ¬ WasCopied s p from job.to
  unless_void (inl old) from h = let x = the_job from h in old (ap s.copying.since (sym x.0) ∙ h.2.good.0 ∙ law.rounds.own_epoch)
  unless_void (inr (inl out)) from h = let x = the_job from h in false≢true (sym out ∙ ap (λ (o : Job). s.round o.from.log) x.1 ∙ h.2.good.1)
  unless_void (inr (inr gone)) from h = let x = the_job from h in gone (ap (λ (o : Job). near_place (read_of (s.cell o.pointer))) x.1 ∙ h.2.lies ∙ ap (λ (o : Job). Some o.from) (sym x.1))

  unless_own : p ≢ job.pointer → (from : Place) → ¬ WasCopied s p from job.to
  unless_own ne from h = ne (sym (ap (λ (o : Job). o.pointer) (the_job from h).1))

  unless_named : s.copying.named j ≡ true → (from : Place) → ¬ WasCopied s p from job.to
  unless_named done from h = let x = the_job from h in law.copies.aims.left j job at done (ap (λ (o : Job). near_place (read_of (s.cell o.pointer))) x.1 ∙ h.2.lies ∙ ap (λ (o : Job). Some o.from) (sym x.1))

pub taking_refused : (s : State) → Law s → TakingIsRefused s
taking_refused s law = record {
  free_source = λ l at j job is e. refused s law (Get l at true) (λ h. (h.2.2 j job is).0 e);
  free_target = λ l at j job is e. refused s law (Get l at true) (λ h. (h.2.2 j job is).1 e);
  unfinished = λ p old new j len ds job k at near elsewhere undone. refused s law (Name p old new)
      (λ h. by_copy s law p old new j len ds job k at near elsewhere h (unless_finished s law p old new j len ds job k at near elsewhere undone));
  void = λ p old new j len ds job k at near elsewhere void. refused s law (Name p old new)
      (λ h. by_copy s law p old new j len ds job k at near elsewhere h (unless_void s law p old new j len ds job k at near elsewhere void));
  others = λ p old new j len ds job k at near elsewhere ne. refused s law (Name p old new)
      (λ h. by_copy s law p old new j len ds job k at near elsewhere h (unless_own s law p old new j len ds job k at near elsewhere ne));
  again = λ p old new j len ds job k at near elsewhere done. refused s law (Name p old new)
      (λ h. by_copy s law p old new j len ds job k at near elsewhere h (unless_named s law p old new j len ds job k at near elsewhere done));
}

-- ---- what a step makes
step_made : (s : State) (e : Event) → is_legal s e ≡ true → (step_of s e).0 ≡ after s e
step_made s e h = ap (λ b. (cond {A = State × Reply} b (after s e, answer s e) (s, Refused)).0) h

step_refused : (s : State) (e : Event) → is_legal s e ≡ false → (step_of s e).0 ≡ s
step_refused s e h = ap (λ b. (cond {A = State × Reply} b (after s e, answer s e) (s, Refused)).0) h

-- ---- a naming that finds a copy takes it
record Finds (s : State) (p old new j : ℕ) : Type 0 where
  pub len : ℕ
  pub ds : ℕ
  pub from : Place
  pub to : Place
  pub legal : is_legal s (Name p old new) ≡ true
  pub is : s.cell p ≡ old
  pub form : naming_of (read_of old) (read_of new) ≡ Some (Moves len ds from to)
  pub found : copied_job s p from to ≡ Some j

not_true : (b : Bool) → (b ≡ true → ⊥) → b ≡ false
not_true true never = absurd (never refl)
not_true false never = refl

module _ (s : State) (p old new : ℕ) (legal : is_legal s (Name p old new) ≡ true) (is : s.cell p ≡ old) where
  named_state : (step_of s (Name p old new)).0 ≡ after_naming s p new (naming_of (read_of old) (read_of new))
  named_state = step_made s (Name p old new) legal ∙ ap (λ b. cond b (after_naming s p new (naming_of (read_of old) (read_of new))) s) (eq-eqb (s.cell p) old is)

takes_copy : (s : State) → Law s → (p old new j : ℕ) → (h : Finds s p old new j) → TakesCopy s p old new j (record { pointer = p; from = h.from; to = h.to })
takes_copy s law p old new j h =
    let x = copied_fact s p h.from h.to j h.found in
    let at : job_at s.copying.word j ≡ Some (record { pointer = p; from = h.from; to = h.to }) = ap job_said x.1.finished in
    let unnamed : s.copying.named j ≡ false = not_true (s.copying.named j) (λ e. law.copies.aims.left j _ at e x.1.lies) in
    let says = naming_says (read_of old) (read_of new) (Moves h.len h.ds h.from h.to) h.form in
    let then : (step_of s (Name p old new)).0 ≡ after_move s p new h.len h.to (Some j) =
    named_state s p old new h.legal h.is ∙ ap (after_naming s p new) h.form ∙ ap (after_move s p new h.len h.to) h.found in
    record {
      copier = x.0;
      own = refl;
      found = h.is;
      lies = ap (λ w. near_place (read_of w)) (sym h.is) ∙ x.1.lies;
      comes = ap near_place says.1;
      finished = x.1.finished;
      since = x.1.good.0 ∙ law.rounds.own_epoch;
      chosen = x.1.good.1;
      before = unnamed;
      same = λ i lt. law.copies.same.finished j x.0 _ x.1.finished x.1.good unnamed i lt;
      after = (ap (λ (t : State). t.cell p) then ∙ put_same s.cell p new p refl, ap (λ (t : State). t.copying.named j) then ∙ put_same s.copying.named j true j refl);
    }

-- ---- a pointer that comes to a job's target
copied_or_none : (s : State) (p : ℕ) (to : Place) → ((from : Place) × (i : ℕ) × (copied_job s p from to ≡ Some i)) ⊎ ((from : Place) → ¬ WasCopied s p from to)
copied_or_none s p to = at_place (near_place (read_of (s.cell p))) refl where
  at_job : (from : Place) → near_place (read_of (s.cell p)) ≡ Some from → (o : Option ℕ) → copied_job s p from to ≡ o →
      ((from : Place) × (i : ℕ) × (copied_job s p from to ≡ Some i)) ⊎ ((from : Place) → ¬ WasCopied s p from to)
  at_job from lies None e = inr (λ other h.
      let both : Some other ≡ Some from = sym h.2.lies ∙ lies in
      let one : other ≡ from = cc in
      false≢true (sym (ap is_some e) ∙ copied_test s p from to (subst (λ (x : Place). WasCopied s p x to) one h)))
  at_job from lies (Some i) e = inl (from, i, e)

  at_place : (o : Option Place) → near_place (read_of (s.cell p)) ≡ o → ((from : Place) × (i : ℕ) × (copied_job s p from to ≡ Some i)) ⊎ ((from : Place) → ¬ WasCopied s p from to)
  at_place None e = inr (λ from h. let odd : None ≡ Some from = sym e ∙ h.2.lies in absurd cc)
  at_place (Some from) e = at_job from e (copied_job s p from to) refl

-- two near words of different places make a move
moves : (form : Naming) (a b : Option PtrWord) (from to : Place) → IsNaming form a b → near_place a ≡ Some from → near_place b ≡ Some to → near_place a ≢ Some to →
    (len ds : ℕ) × (form ≡ Moves len ds from to)
moves (Places len ds at) a b from to h x y ne = let odd : None ≡ Some from = sym (ap near_place h.0) ∙ x in absurd cc
moves Retires a b from to h x y ne = let odd : None ≡ Some to = sym (ap near_place h.1) ∙ y in absurd cc
moves (Evicts len at) a b from to (ds, m, was, alive, wanted, is) x y ne = let odd : None ≡ Some to = sym (ap near_place is) ∙ y in absurd cc
moves Stays a b from to (len, ds, at, m, was, alive, moved, out, is) x y ne = absurd (ne (ap near_place was ∙ sym (ap near_place is) ∙ y))
moves (Moves len ds at there) a b from to ((m, was, alive, other), is) x y ne =
    let both : Some at ≡ Some from = sym (ap near_place was) ∙ x in
    let here : at ≡ from = cc in
    let two : Some there ≡ Some to = sym (ap near_place is) ∙ y in
    let end : there ≡ to = cc in
    (len, ds, λ i. Moves len ds (here i) (end i))
moves (Fetches len ds at) a b from to ((m, was, alive), is) x y ne = let odd : None ≡ Some from = sym (ap near_place was) ∙ x in absurd cc

comes_to : (s : State) → Law s → (p old new j : ℕ) (job : Job) → is_legal s (Name p old new) ≡ true → s.cell p ≡ old → job_at s.copying.word j ≡ Some job →
    near_place (read_of old) ≢ Some job.to → near_place (read_of new) ≡ Some job.to → TakesCopy s p old new j job
comes_to s law p old new j job legal is at ne to = elim (copied_or_none s p job.to) [
  | inl (from, i, found) ↦ (let x = copied_fact s p from job.to i found in
      let one = the_job s law p old new j near.0 near.1 job near.2 at near.3 elsewhere from (i, x.0, x.1) in
      let form = moves h.1.0 (read_of old) (read_of new) from job.to h.1.1 (ap (λ w. near_place (read_of w)) (sym is) ∙ x.1.lies) to ne in
      let finds : Finds s p old new i = record {
        len = form.0;
        ds = form.1;
        from = from;
        to = job.to;
        legal = legal;
        is = is;
        found = found;
        form = naming_only h.1.0 (read_of old) (read_of new) h.1.1 ∙ ap Some form.2;
      } in
      subst (λ (k : Job). TakesCopy s p old new j k) (sym one.1) (subst (λ n. TakesCopy s p old new n (record { pointer = p; from = from; to = job.to })) one.0 (takes_copy s law p old new i finds)))
  | inr none ↦ absurd (by_copy s law p old new j near.0 near.1 job near.2 at near.3 elsewhere h none)
] where
  h : Legal s (Name p old new)
  h = is_fact s (Name p old new) law legal

  near : (len ds : ℕ) × (m : Marks) × (read_of new ≡ Some (Near len ds job.to m))
  near = near_says (read_of new) job.to to

  elsewhere : IsElsewhere old job.to
  elsewhere = away old job.to ne

-- ---- where a pointer lies changes by a naming alone
abbrev StaysNear : State → Event → ℕ → Type 0
StaysNear s e p = near_place (read_of ((step_of s e).0.cell p)) ≡ near_place (read_of (s.cell p))

abbrev Lies : State → Event → ℕ → Type 0
Lies s e p = StaysNear s e p ⊎ ((old new : ℕ) × (e ≡ Name p old new) × (is_legal s (Name p old new) ≡ true) × (s.cell p ≡ old) × ((step_of s (Name p old new)).0.cell p ≡ new))

lies_still : (s : State) (e : Event) (p : ℕ) → (is_legal s e ≡ true → near_place (read_of ((after s e).cell p)) ≡ near_place (read_of (s.cell p))) → Lies s e p
lies_still s e p h = inl (cond_both (is_legal s e) (after s e, answer s e) (s, Refused) (λ (x : State × Reply). near_place (read_of (x.0.cell p)) ≡ near_place (read_of (s.cell p))) h (λ _. refl))

-- another cell is touched, or none
elsewhere_touched : (s : State) (e : Event) (p : ℕ) → (touches s e).word ≢ Some (CellAt p) → Lies s e p
elsewhere_touched s e p ne = lies_still s e p (λ _. ap (λ w. near_place (read_of w)) (((owed e).within s).words (CellAt p) ne))

-- a mark more or less leaves it where it is
near_mark : (k : MarkKind) (v : PtrWord) → near_place (Some (with_mark k v)) ≡ near_place (Some v)
near_mark k pointer.Free = refl
near_mark k (Near len ds place m) = refl
near_mark k (Far len ds m) = refl

near_clear : (v : PtrWord) → near_place (Some (without_evac v)) ≡ near_place (Some v)
near_clear pointer.Free = refl
near_clear (Near len ds place m) = refl
near_clear (Far len ds m) = refl

same_near : (s : State) → Law s → (p w : ℕ) (f : PtrWord → PtrWord) → ((v : PtrWord) → near_place (Some (f v)) ≡ near_place (Some v)) →
    ((v : PtrWord) → read_of (s.cell p) ≡ Some v → read_of w ≡ Some (f v)) → near_place (read_of w) ≡ near_place (read_of (s.cell p))
same_near s law p w f keeps reads = at (read_of (s.cell p)) refl where
  at : (o : Option PtrWord) → read_of (s.cell p) ≡ o → near_place (read_of w) ≡ near_place (read_of (s.cell p))
  at None e = absurd (false≢true (sym (ap is_some e) ∙ (law.cells.cell_read p).1))
  at (Some v) e = ap near_place (reads v e) ∙ keeps v ∙ sym (ap near_place e)

at_cell : (s : State) (e : Event) (p q : ℕ) → (touches s e).word ≡ Some (CellAt q) → (is_legal s e ≡ true → near_place (read_of ((after s e).cell q)) ≡ near_place (read_of (s.cell q))) → Lies s e p
at_cell s e p q touched same = elim (cases_eq p q) [
  | inl at ↦ lies_still s e p (λ h. subst (λ n. near_place (read_of ((after s e).cell n)) ≡ near_place (read_of (s.cell n))) (sym at) (same h))
  | inr ne ↦ elsewhere_touched s e p (λ is. let odd : Some (CellAt q) ≡ Some (CellAt p) = sym touched ∙ is in let one : q ≡ p = cc in ne (sym one))
]

lies_pin : (s : State) → Law s → (m p q : ℕ) → Lies s (Pin m q) p
lies_pin s law m p q = at_cell s (Pin m q) p q refl (λ h.
    let legal = is_fact s (Pin m q) law h in
    let marked = (read_hot (s.cell q) (law.cells.cell_read q).0 (law.views.used_cell q legal.2)).0 in
    ap (λ w. near_place (read_of w)) (put_same s.cell q _ q refl)
    ∙ same_near s law q (bit_or (s.cell q) (2 ^ position Hot)) (with_mark Hot) (near_mark Hot) (λ v e. marked ∙ ap (map_mark Hot) e))

lies_mark : (s : State) → Law s → (p q : ℕ) → Lies s (Mark q) p
lies_mark s law p q = at_cell s (Mark q) p q refl (λ h.
    same_near s law q ((after s (Mark q)).cell q) (with_mark Evac) (near_mark Evac) ((owed (Mark q)).reports s law (is_fact s (Mark q) law h)).1)

lies_ask : (s : State) → Law s → (m p q : ℕ) (k : MarkKind) → Lies s (Ask m q k) p
lies_ask s law m p q k = at_cell s (Ask m q k) p q refl (λ h.
    same_near s law q ((after s (Ask m q k)).cell q) (with_mark k) (near_mark k) ((owed (Ask m q k)).reports s law (is_fact s (Ask m q k) law h)).1)

lies_soil : (s : State) → Law s → (m p q : ℕ) → Lies s (Soil m q) p
lies_soil s law m p q = at_cell s (Soil m q) p q refl (λ h.
    same_near s law q ((after s (Soil m q)).cell q) (with_mark Dirty) (near_mark Dirty) ((owed (Soil m q)).reports s law (is_fact s (Soil m q) law h)).2)

lies_clear : (s : State) → Law s → (p q : ℕ) → Lies s (Clear q) p
lies_clear s law p q = at_cell s (Clear q) p q refl (λ h.
    same_near s law q ((after s (Clear q)).cell q) without_evac near_clear ((owed (Clear q)).reports s law (is_fact s (Clear q) law h)).1)

lies_name : (s : State) → Law s → (p q old new : ℕ) → Lies s (Name q old new) p
lies_name s law p q old new = elim (cases_eq p q) [
  | inl at ↦ subst (λ n. Lies s (Name n old new) p) at (own (is_legal s (Name p old new)) refl)
  | inr ne ↦ elsewhere_touched s (Name q old new) p (λ is. let one : q ≡ p = cc in ne (sym one))
] where
  found : is_legal s (Name p old new) ≡ true → (b : Bool) → nat_eq (s.cell p) old ≡ b → Lies s (Name p old new) p
  found h true e =
      let legal = is_fact s (Name p old new) law h in
      let is = eqb-true (s.cell p) old e in
      let comes : (after_naming s p new (naming_of (read_of old) (read_of new))).cell p ≡ new = rw (naming_only legal.1.0 _ _ legal.1.1) ((naming_owed p new legal.1.0).names s) in
      inr (old, new, refl, h, is, ap (λ (t : State). t.cell p) (named_state s p old new h is) ∙ comes)
  found h false e = lies_still s (Name p old new) p (λ _. ap (λ b. near_place (read_of ((cond {A = State} b (after_naming s p new (naming_of (read_of old) (read_of new))) s).cell p))) e)

  own : (b : Bool) → is_legal s (Name p old new) ≡ b → Lies s (Name p old new) p
  own true h = found h (nat_eq (s.cell p) old) refl
  own false h = inl (ap (λ (t : State). near_place (read_of (t.cell p))) (step_refused s (Name p old new) h))

no_cell : (o : Option Task) (p : ℕ) → job_spot o ≢ Some (CellAt p)
no_cell None p e = cc
no_cell (Some t) p e = cc

lies : (s : State) → Law s → (e : Event) (p : ℕ) → Lies s e p
lies s law (ReadEpoch m) p = elsewhere_touched s (ReadEpoch m) p (λ x. cc)
lies s law (Open m) p = elsewhere_touched s (Open m) p (λ x. cc)
lies s law (Pin m q) p = lies_pin s law m p q
lies s law (Load m q i) p = elsewhere_touched s (Load m q i) p (λ x. cc)
lies s law (Store m q i w) p = elsewhere_touched s (Store m q i w) p (λ x. cc)
lies s law (Soil m q) p = lies_soil s law m p q
lies s law (Close m) p = elsewhere_touched s (Close m) p (λ x. cc)
lies s law (Adopt m q) p = elsewhere_touched s (Adopt m q) p (λ x. cc)
lies s law (Put l at w) p = elsewhere_touched s (Put l at w) p (λ x. cc)
lies s law (Name q old new) p = lies_name s law p q old new
lies s law (See q) p = elsewhere_touched s (See q) p (λ x. cc)
lies s law (Mark q) p = lies_mark s law p q
lies s law (Ask m q k) p = lies_ask s law m p q k
lies s law (Get l at free) p = elsewhere_touched s (Get l at free) p (λ x. cc)
lies s law (Clear q) p = lies_clear s law p q
lies s law (Advance logs) p = elsewhere_touched s (Advance logs) p (λ x. cc)
lies s law (Look m) p = elsewhere_touched s (Look m) p (λ x. cc)
lies s law (Offer i q to) p = elsewhere_touched s (Offer i q to) p (λ x. cc)
lies s law (PeekJob c i) p = elsewhere_touched s (PeekJob c i) p (λ x. cc)
lies s law (SeeJob i) p = elsewhere_touched s (SeeJob i) p (λ x. cc)
lies s law (Claim c i old) p = elsewhere_touched s (Claim c i old) p (λ x. cc)
lies s law (ReadLength c) p = elsewhere_touched s (ReadLength c) p (λ x. cc)
lies s law (Read c i) p = elsewhere_touched s (Read c i) p (λ x. cc)
lies s law (Write c i) p = elsewhere_touched s (Write c i) p (λ x. cc)
lies s law (Finish c) p = elsewhere_touched s (Finish c) p (no_cell (s.copying.task c) p)
lies s law (Collect i old) p = elsewhere_touched s (Collect i old) p (λ x. cc)

comes : (s : State) → Law s → (e : Event) (p j : ℕ) (job : Job) → job_at s.copying.word j ≡ Some job → near_place (read_of (s.cell p)) ≢ Some job.to →
    near_place (read_of ((step_of s e).0.cell p)) ≡ Some job.to → (old new : ℕ) × (e ≡ Name p old new) × TakesCopy s p old new j job
comes s law e p j job at ne to = elim (lies s law e p) [
  | inl same ↦ absurd (ne (sym same ∙ to))
  | inr (old, new, is, legal, found, after) ↦ (
    old,
    new,
    is,
    comes_to s law p old new j job legal found at
        (λ h. ne (ap (λ w. near_place (read_of w)) found ∙ h))
        (ap (λ w. near_place (read_of w)) (sym after) ∙ ap (λ x. near_place (read_of ((step_of s x).0.cell p))) (sym is) ∙ to),
  )
]

-- ---- what the book notes of a job
record OffersAnew (s : State) (e : Event) (j : ℕ) : Type 0 where
  pub pointer : ℕ
  pub to : Place
  pub is : e ≡ Offer j pointer to
  pub unnamed : (step_of s e).0.copying.named j ≡ false

-- it stays as it was; or a naming finds the job's copy; or another job is offered there
abbrev Notes : State → Event → ℕ → Type 0
Notes s e j = ((step_of s e).0.copying.named j ≡ s.copying.named j) ⊎ (((p old new : ℕ) × (e ≡ Name p old new) × Finds s p old new j) ⊎ OffersAnew s e j)

stays : (s : State) (e : Event) (j : ℕ) → (after s e).copying.named j ≡ s.copying.named j → Notes s e j
stays s e j h = inl (cond_both (is_legal s e) (after s e, answer s e) (s, Refused) (λ (x : State × Reply). x.0.copying.named j ≡ s.copying.named j) (λ _. h) (λ _. refl))

-- what leaves the book's view leaves this
unseen : (s : State) (e : Event) (j : ℕ) → (touches s e).part ≢ BookView → Notes s e j
unseen s e j ne = stays s e j (ap (λ (f : ℕ → Bool). f j) (((owed e).within s).book ne).9)

notes_offer : (s : State) (i p : ℕ) (to : Place) (j : ℕ) → Notes s (Offer i p to) j
notes_offer s i p to j = at_legal (is_legal s (Offer i p to)) refl where
  at_cell : is_legal s (Offer i p to) ≡ true → (o : Option PtrWord) → read_of (s.cell p) ≡ o → Notes s (Offer i p to) j
  at_cell h None e = stays s (Offer i p to) j (ap (λ o. (after_offer s i p to o).copying.named j) e)
  at_cell h (Some pointer.Free) e = stays s (Offer i p to) j (ap (λ o. (after_offer s i p to o).copying.named j) e)
  at_cell h (Some (Near len ds from m)) e =
      let then : (step_of s (Offer i p to)).0.copying.named j ≡ put s.copying.named i false j =
      ap (λ (t : State). t.copying.named j) (step_made s (Offer i p to) h) ∙ ap (λ o. (after_offer s i p to o).copying.named j) e in
      elim (cases_eq j i) [
        | inl at ↦ inr (inr (record { pointer = p; to = to; is = ap (λ n. Offer n p to) (sym at); unnamed = then ∙ put_same s.copying.named i false j at }))
        | inr ne ↦ inl (then ∙ put_other s.copying.named i false j ne)
      ]
  at_cell h (Some (Far len ds m)) e = stays s (Offer i p to) j (ap (λ o. (after_offer s i p to o).copying.named j) e)

  at_legal : (b : Bool) → is_legal s (Offer i p to) ≡ b → Notes s (Offer i p to) j
  at_legal true h = at_cell h (read_of (s.cell p)) refl
  at_legal false h = inl (ap (λ (t : State). t.copying.named j) (step_refused s (Offer i p to) h))

notes_name : (s : State) (p old new j : ℕ) → Notes s (Name p old new) j
notes_name s p old new j = at_legal (is_legal s (Name p old new)) refl where
  then : is_legal s (Name p old new) ≡ true → s.cell p ≡ old → (o : Option Naming) → naming_of (read_of old) (read_of new) ≡ o →
      (step_of s (Name p old new)).0.copying.named j ≡ (after_naming s p new o).copying.named j
  then h is o e = ap (λ (t : State). t.copying.named j) (named_state s p old new h is ∙ ap (after_naming s p new) e)

  at_job : (h : is_legal s (Name p old new) ≡ true) (is : s.cell p ≡ old) (len ds : ℕ) (from to : Place) → naming_of (read_of old) (read_of new) ≡ Some (Moves len ds from to) →
      (o : Option ℕ) → copied_job s p from to ≡ o → Notes s (Name p old new) j
  at_job h is len ds from to e None none = inl (then h is (Some (Moves len ds from to)) e ∙ ap (λ o. (after_move s p new len to o).copying.named j) none)
  at_job h is len ds from to e (Some i) found = elim (cases_eq j i) [
    | inl at ↦ inr (inl (p, old, new, refl, record { len = len; ds = ds; from = from; to = to; legal = h; is = is; form = e; found = found ∙ ap (λ n. Some n) (sym at) }))
    | inr ne ↦ inl (then h is (Some (Moves len ds from to)) e ∙ ap (λ o. (after_move s p new len to o).copying.named j) found ∙ put_other s.copying.named i true j ne)
  ]

  at_form : (h : is_legal s (Name p old new) ≡ true) (is : s.cell p ≡ old) (o : Option Naming) → naming_of (read_of old) (read_of new) ≡ o → Notes s (Name p old new) j
  at_form h is None e = inl (then h is None e)
  at_form h is (Some (Places len ds place)) e = inl (then h is (Some (Places len ds place)) e)
  at_form h is (Some Retires) e = inl (then h is (Some Retires) e)
  at_form h is (Some (Evicts len place)) e = inl (then h is (Some (Evicts len place)) e)
  at_form h is (Some Stays) e = inl (then h is (Some Stays) e)
  at_form h is (Some (Moves len ds from to)) e = at_job h is len ds from to e (copied_job s p from to) refl
  at_form h is (Some (Fetches len ds place)) e = inl (then h is (Some (Fetches len ds place)) e)

  at_cell : (h : is_legal s (Name p old new) ≡ true) (b : Bool) → nat_eq (s.cell p) old ≡ b → Notes s (Name p old new) j
  at_cell h true e = at_form h (eqb-true (s.cell p) old e) (naming_of (read_of old) (read_of new)) refl
  at_cell h false e = stays s (Name p old new) j (ap (λ b. (cond b (after_naming s p new (naming_of (read_of old) (read_of new))) s).copying.named j) e)

  at_legal : (b : Bool) → is_legal s (Name p old new) ≡ b → Notes s (Name p old new) j
  at_legal true h = at_cell h (nat_eq (s.cell p) old) refl
  at_legal false h = inl (ap (λ (t : State). t.copying.named j) (step_refused s (Name p old new) h))

notes : (s : State) (e : Event) (j : ℕ) → Notes s e j
notes s (ReadEpoch m) j = unseen s (ReadEpoch m) j (λ x. cc)
notes s (Open m) j = unseen s (Open m) j (λ x. cc)
notes s (Pin m p) j = unseen s (Pin m p) j (λ x. cc)
notes s (Load m p i) j = unseen s (Load m p i) j (λ x. cc)
notes s (Store m p i w) j = unseen s (Store m p i w) j (λ x. cc)
notes s (Soil m p) j = unseen s (Soil m p) j (λ x. cc)
notes s (Close m) j = unseen s (Close m) j (λ x. cc)
notes s (Adopt m p) j = unseen s (Adopt m p) j (λ x. cc)
notes s (Put l at w) j = unseen s (Put l at w) j (λ x. cc)
notes s (Name p old new) j = notes_name s p old new j
notes s (See p) j = unseen s (See p) j (λ x. cc)
notes s (Mark p) j = unseen s (Mark p) j (λ x. cc)
notes s (Ask m p k) j = unseen s (Ask m p k) j (λ x. cc)
notes s (Get l at false) j = stays s (Get l at false) j refl
notes s (Get l at true) j = stays s (Get l at true) j refl
notes s (Clear p) j = stays s (Clear p) j refl
notes s (Advance logs) j = stays s (Advance logs) j refl
notes s (Look m) j = stays s (Look m) j refl
notes s (Offer i p to) j = notes_offer s i p to j
notes s (PeekJob c i) j = unseen s (PeekJob c i) j (λ x. cc)
notes s (SeeJob i) j = unseen s (SeeJob i) j (λ x. cc)
notes s (Claim c i old) j = unseen s (Claim c i old) j (λ x. cc)
notes s (ReadLength c) j = unseen s (ReadLength c) j (λ x. cc)
notes s (Read c i) j = unseen s (Read c i) j (λ x. cc)
notes s (Write c i) j = unseen s (Write c i) j (λ x. cc)
notes s (Finish c) j = unseen s (Finish c) j (λ x. cc)
notes s (Collect i old) j = unseen s (Collect i old) j (λ x. cc)

-- ---- of which round a job is: that stays, or another job is offered there
abbrev Dates : State → Event → ℕ → Type 0
Dates s e j = ((step_of s e).0.copying.since j ≡ s.copying.since j) ⊎ ((p : ℕ) × (to : Place) × (e ≡ Offer j p to))

undated : (s : State) (e : Event) (j : ℕ) → (after s e).copying.since j ≡ s.copying.since j → Dates s e j
undated s e j h = inl (cond_both (is_legal s e) (after s e, answer s e) (s, Refused) (λ (x : State × Reply). x.0.copying.since j ≡ s.copying.since j) (λ _. h) (λ _. refl))

-- what leaves the book's view leaves this too
unseen_date : (s : State) (e : Event) (j : ℕ) → (touches s e).part ≢ BookView → Dates s e j
unseen_date s e j ne = undated s e j (ap (λ (f : ℕ → ℕ). f j) (((owed e).within s).book ne).8)

move_date : (s : State) (p new len : ℕ) (to : Place) (o : Option ℕ) → (after_move s p new len to o).copying.since ≡ s.copying.since
move_date s p new len to None = refl
move_date s p new len to (Some i) = refl

naming_date : (s : State) (p new : ℕ) (o : Option Naming) → (after_naming s p new o).copying.since ≡ s.copying.since
naming_date s p new None = refl
naming_date s p new (Some (Places len ds place)) = refl
naming_date s p new (Some Retires) = refl
naming_date s p new (Some (Evicts len place)) = refl
naming_date s p new (Some Stays) = refl
naming_date s p new (Some (Moves len ds from to)) = move_date s p new len to (copied_job s p from to)
naming_date s p new (Some (Fetches len ds place)) = refl

dates_name : (s : State) (p old new j : ℕ) → Dates s (Name p old new) j
dates_name s p old new j = undated s (Name p old new) j (cond_both (nat_eq (s.cell p) old) (after_naming s p new (naming_of (read_of old) (read_of new))) s (λ (x : State). x.copying.since j ≡ s.copying.since j)
    (λ _. ap (λ (f : ℕ → ℕ). f j) (naming_date s p new (naming_of (read_of old) (read_of new)))) (λ _. refl))

offer_date : (s : State) (i p : ℕ) (to : Place) (j : ℕ) → j ≢ i → (o : Option PtrWord) → (after_offer s i p to o).copying.since j ≡ s.copying.since j
offer_date s i p to j ne None = refl
offer_date s i p to j ne (Some pointer.Free) = refl
offer_date s i p to j ne (Some (Near len ds from m)) = put_other s.copying.since i s.round_epoch j ne
offer_date s i p to j ne (Some (Far len ds m)) = refl

dates_offer : (s : State) (i p : ℕ) (to : Place) (j : ℕ) → Dates s (Offer i p to) j
dates_offer s i p to j = elim (cases_eq j i) [
  | inl at ↦ inr (p, to, ap (λ n. Offer n p to) (sym at))
  | inr ne ↦ undated s (Offer i p to) j (offer_date s i p to j ne (read_of (s.cell p)))
]

dates : (s : State) (e : Event) (j : ℕ) → Dates s e j
dates s (ReadEpoch m) j = unseen_date s (ReadEpoch m) j (λ x. cc)
dates s (Open m) j = unseen_date s (Open m) j (λ x. cc)
dates s (Pin m p) j = unseen_date s (Pin m p) j (λ x. cc)
dates s (Load m p i) j = unseen_date s (Load m p i) j (λ x. cc)
dates s (Store m p i w) j = unseen_date s (Store m p i w) j (λ x. cc)
dates s (Soil m p) j = unseen_date s (Soil m p) j (λ x. cc)
dates s (Close m) j = unseen_date s (Close m) j (λ x. cc)
dates s (Adopt m p) j = unseen_date s (Adopt m p) j (λ x. cc)
dates s (Put l at w) j = unseen_date s (Put l at w) j (λ x. cc)
dates s (Name p old new) j = dates_name s p old new j
dates s (See p) j = unseen_date s (See p) j (λ x. cc)
dates s (Mark p) j = unseen_date s (Mark p) j (λ x. cc)
dates s (Ask m p k) j = unseen_date s (Ask m p k) j (λ x. cc)
dates s (Get l at false) j = undated s (Get l at false) j refl
dates s (Get l at true) j = undated s (Get l at true) j refl
dates s (Clear p) j = undated s (Clear p) j refl
dates s (Advance logs) j = undated s (Advance logs) j refl
dates s (Look m) j = undated s (Look m) j refl
dates s (Offer i p to) j = dates_offer s i p to j
dates s (PeekJob c i) j = unseen_date s (PeekJob c i) j (λ x. cc)
dates s (SeeJob i) j = unseen_date s (SeeJob i) j (λ x. cc)
dates s (Claim c i old) j = unseen_date s (Claim c i old) j (λ x. cc)
dates s (ReadLength c) j = unseen_date s (ReadLength c) j (λ x. cc)
dates s (Read c i) j = unseen_date s (Read c i) j (λ x. cc)
dates s (Write c i) j = unseen_date s (Write c i) j (λ x. cc)
dates s (Finish c) j = unseen_date s (Finish c) j (λ x. cc)
dates s (Collect i old) j = unseen_date s (Collect i old) j (λ x. cc)

pub copies_taken : (s : State) → Law s → CopiesAreTaken s
copies_taken s law = record {
  comes = comes s law;
  noted = λ e j before after. elim (notes s e j) [
    | inl same ↦ absurd (false≢true (sym before ∙ sym same ∙ after))
    | inr (inl (p, old, new, is, finds)) ↦ (old, new, record { pointer = p; from = finds.from; to = finds.to }, is, takes_copy s law p old new j finds)
    | inr (inr offers) ↦ absurd (false≢true (sym offers.unnamed ∙ after))
  ];
  until = λ e j before after. elim (notes s e j) [
    | inl same ↦ absurd (true≢false (sym before ∙ sym same ∙ after))
    | inr (inl (p, old, new, is, finds)) ↦ absurd (true≢false (sym (takes_copy s law p old new j finds).after.1 ∙ sym (ap (λ x. (step_of s x).0.copying.named j) is) ∙ after))
    | inr (inr offers) ↦ (offers.pointer, offers.to, offers.is)
  ];
  dated = λ e j other. elim (dates s e j) [ inl same ↦ absurd (other same) | inr offered ↦ offered ];
}
