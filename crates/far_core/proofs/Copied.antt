-- Naming a copy: what its test says, and that the law stays.
use Rattle.std.proofs.Common.{◌≡◌, ◌≢◌, ℕ, ◌+◌, ◌*◌, ◌/◌, ◌^◌, ◌<◌, ◌∙◌, Bool, true, false, arith, inl, inr, ap, refl, sym, Option, Some, None}
use Rattle.std.proofs.lemmas.Bool.{false≢true, true≢false}
use Rattle.far_word.specs.declared.job.Job.{Job}
use Rattle.far_word.specs.declared.mark.Marks.{Marks}
use Rattle.far_word.specs.declared.pointer.Place.{Place}
use Rattle.far_word.specs.declared.pointer.PtrWord.TheVariants.{Free, Near}
use Rattle.far_word.specs.declared.sizes.TheConstants.{CELLS, LOG_WORDS}
use Rattle.far_word.specs.Job.{job_of}
use Rattle.far_word.specs.Pointer.{read_of}
use Rattle.far_word.specs.Sizes.{words_for}
use Rattle.far_events.specs.events.Copied.{IsCopied, with_named}
use Rattle.far_events.specs.events.Naming.{unmarked}
use Rattle.far_events.specs.state.Jobs.{is_finished, job_at, job_said, near_place}
use Rattle.far_events.specs.state.Law.{Law, Heads, head_len, in_use}
use Rattle.far_events.specs.state.State.{State, addr, put}
use Rattle.far_events.proofs.Bounds.{span_len}
use Rattle.far_events.proofs.Cells.{held_near}
use Rattle.far_events.proofs.JobPlaces.{job_bounds}
use Rattle.far_events.specs.declared.event.Kind.{Kind}
use Rattle.far_events.specs.declared.event.Kind.TheVariants as kinds
use Rattle.far_core.specs.world.WorldOf.{is_group}
use Rattle.far_core.proofs.KeepPlace.{law_with_named}
use Rattle.far_events.proofs.Put.{put_both, put_cases, put_cases_of}
use Rattle.far_core.proofs.TakingSpans.{clean_at}

-- ---- the copy is named
module _ (s : State) (law : Law s) (p new len ds : ℕ) (from to : Place) (m : Marks) (j c : ℕ) (h : IsCopied s p from to j c)
    (near : read_of (s.cell p) ≡ Some (Near len ds from m)) (kept : m.dropped ≡ false) (says : read_of new ≡ Some (Near len ds to (unmarked m.dirty))) (fits : new < 2 ^ 64) (cell : p < CELLS * s.mutators) where
  abbrev job : Job
  job = record { pointer = p; from = from; to = to }

  here : job_at s.copying.word j ≡ Some job
  here = ap job_said h.finished

  -- it wasn't named before, since the pointer lies at the source
  unnamed : s.copying.named j ≡ false
  unnamed = at_named (s.copying.named j) refl where
    at_named : (b : Bool) → s.copying.named j ≡ b → b ≡ false
    at_named true e = absurd (law.copies.aims.left j job here e h.lies)
    at_named false e = refl

  -- its owner was seen clear, so it views nothing in the round
  pub unheld : s.held p ≡ None
  unheld = at_held (s.held p) refl where
    at_held : (o : Option Place) → s.held p ≡ o → o ≡ None
    at_held None e = refl
    at_held (Some place) e =
        let x = held_near _ place (law.views.held_names p place e) in
        let both : Some (Near len ds from m) ≡ Some (Near x.len x.ds place x.marks) = sym near ∙ x.near in
        let same : from ≡ place = cc in
        absurd (false≢true (sym (law.clears.clear_unviewed p place e (law.copies.good.seen j job here h.good)) ∙ ap (λ (y : Place). s.round y.log) (sym same) ∙ h.good.1))

  -- the words at both places are the same
  pub same : (i : ℕ) → i < words_for len → s.word (addr to + 1 + i) ≡ s.word (addr from + 1 + i)
  same i lt =
      let long : head_len (s.word (addr from)) ≡ len = rw (span_len s law p len ds from m near) refl in
      law.copies.same.finished j c job h.finished h.good unnamed i (omega (arith, long))

  heads : Heads s.word s.starts p len ds to
  heads = let x = law.copies.jobs.job_spans j job here in record { placed = x.to; head = x.alike ∙ (law.cells.cell_near p len ds from m near).head }

  abbrev named : ℕ → Bool
  named = put s.copying.named j true

  -- what isn't named now wasn't, and is another job
  still : (i : ℕ) → named i ≡ false → (i ≢ j) × (s.copying.named i ≡ false)
  still i e = elim (put_cases s.copying.named j true i false e) [ inl (_, odd) ↦ absurd (true≢false odd) | inr both ↦ both ]

  pub keeps_named : Law (with_named s p new j)
  keeps_named =
      let k = s.copying in
      let copies = law.copies in
      law_with_named s law p len ds to (unmarked m.dirty) new says fits cell unheld (λ _. ap in_use says) heads (copies.good.outside j job here h.good)
      (λ honest unused i lt. same i lt ∙ (law.unadopted honest p unused).near len ds from m near kept i lt)
      (clean_at s law p new len ds to m.dirty says (λ none. (law.cleans p).back len ds from m near none)
      (λ honest none i lt. (law.cleans p).same honest len ds from m near none i lt ∙ sym (same i lt)))
      _ (record {
        jobs = record {
          job_read = copies.jobs.job_read;
          job_range = copies.jobs.job_range;
          job_spans = copies.jobs.job_spans;
          targets_differ = copies.jobs.targets_differ;
          target_no_source = λ i n a b e f u. copies.jobs.target_no_source i n a b e f (still i u).1;
          unfinished_unnamed = λ i x e undone. put_both (λ b. b ≡ false) k.named j true i
              (λ is. absurd (true≢false (sym (ap is_finished h.finished) ∙ ap (λ n. is_finished (job_of (k.word n))) (sym is) ∙ undone))) (λ _. copies.jobs.unfinished_unnamed i x e undone);
        };
        taken = copies.taken;
        aims = record {
          unnamed = λ i x e u is. let old = still i u in elim (put_cases_of s.cell p new x.pointer (λ w. near_place (read_of w) ≡ Some x.to) is) [
            | inl (_, is) ↦ (let both : Some to ≡ Some x.to = sym (ap near_place says) ∙ is in
                old.0 (copies.jobs.targets_differ i j x job e here (let one : to ≡ x.to = cc in sym one)))
            | inr (_, is) ↦ copies.aims.unnamed i x e old.1 is
          ];
          left = λ i x e u is. elim (put_cases_of s.cell p new x.pointer (λ w. near_place (read_of w) ≡ Some x.from) is) [
            | inl (_, is) ↦ (let both : Some to ≡ Some x.from = sym (ap near_place says) ∙ is in
                copies.jobs.target_no_source j i job x here e unnamed (let one : to ≡ x.from = cc in one))
            | inr (ne, is) ↦ elim (put_cases k.named j true i true u) [
              | inl (at, _) ↦ (let both : Some x ≡ Some job = sym e ∙ ap (job_at k.word) at ∙ here in let one : x ≡ job = cc in ne (ap (λ (o : Job). o.pointer) one))
              | inr (_, u) ↦ copies.aims.left i x e u is
            ]
          ];
        };
        good = copies.good;
        same = record {
          read = copies.same.read;
          written = copies.same.written;
          finished = λ i d x is g u. copies.same.finished i d x is g (still i u).1;
        };
      })

group_is : (k : Kind) → k ≢ kinds.Free → is_group k ≡ true
group_is kinds.Free ne = absurd (ne refl)
group_is kinds.Open ne = refl
group_is kinds.Sealed ne = refl

-- the log of a copy is no free one
pub copied_group : (s : State) → Law s → (p : ℕ) (from to : Place) (j c : ℕ) → IsCopied s p from to j c → is_group (s.kind to.log) ≡ true
copied_group s law p from to j c h =
    let at : job_at s.copying.word j ≡ Some (record { pointer = p; from = from; to = to }) = ap job_said h.finished in
    let span = law.spans.span (addr to) (law.copies.jobs.job_spans j _ at).to in
    let bounds = (job_bounds s.copying j _ at).to in
    let log : addr to / LOG_WORDS ≡ to.log = omega (arith, bounds) in
    group_is (s.kind to.log) (λ free. let none : s.tail to.log ≡ 0 = law.logs.free_tail to.log free in
    let here : s.tail (addr to / LOG_WORDS) ≡ s.tail to.log = ap s.tail log in omega (arith, span.fits))
