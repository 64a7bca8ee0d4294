-- Copiers may do whatever the core allows: a legal event of a copier leads to words and views for which the rule holds, beside the same view of the book.
use Rattle.std.proofs.Common.{◌≡◌, ◌<◌, ℕ, Bool, true, List, Option, Some, None, refl, sym, ap, ◌∙◌, subst, arith}
use Rattle.std.proofs.lemmas.Bool.{false≢true}
use mathlib.Core.Option.{some}
use lib.ListN.{get_elem?}
use Rattle.far_word.specs.declared.sizes.TheConstants.{MOST_COPIERS}
use Rattle.far_events.specs.declared.event.Event.{Event}
use Rattle.far_events.specs.declared.event.Event.TheVariants.{PeekJob, Claim, ReadLength, Read, Write, Finish}
use Rattle.far_events.specs.declared.event.Reply.{Reply}
use Rattle.far_events.specs.declared.event.Task.{Task}
use Rattle.far_events.specs.events.Legal.{Legal}
use Rattle.far_events.specs.events.Step.{Fits, after}
use Rattle.far_events.specs.state.State.{State}
use Rattle.far_events.proofs.JobPlaces.{task_lies}
use Rattle.far_hand.specs.Makers.{ByCopier, maker}
use Rattle.far_table.specs.BookSeats.{MayBe, is_copiers}
use Rattle.far_table.specs.Rule.{Facts}
use Rattle.far_table.specs.StateOf.{state_of}
use Rattle.far_table.specs.View.{BookView, CopierView, OtherViews, with_copier}
use Rattle.far_table.proofs.CopyFrames.{CopyStep, copy_facts}
use Rattle.far_table.proofs.CopySteps.{claim_step, finish_step, measure_step, read_is, read_step, task_is, write_step, written_is}
use Rattle.far_table.proofs.Places.{one_there}

module _ (ws : List ℕ) (b : BookView) (os : OtherViews) (f : Facts ws b os) where
  abbrev s : State
  s = state_of ws b os

  acts : (v : CopierView) (at : get_elem? os.copiers v.number ≡ some v) (e : Event) → maker e ≡ ByCopier v.number → Fits e → (r : Reply) (later : List ℕ) (w : CopierView) →
      CopyStep ws b os v e r later w → MayBe b (after s e)
  acts v at e by fits r later w k = record { words = later; others = with_copier os v.number w; facts = copy_facts ws b os f v at e by fits r later w k; is = k.becomes.is }

  -- an event of the copier of a number is one of its view's
  by_copier : (e : ℕ → Event) → ((v : CopierView) → get_elem? os.copiers v.number ≡ some v → Legal s (e v.number) → MayBe b (after s (e v.number))) → (c : ℕ) → c < MOST_COPIERS →
      Legal s (e c) → MayBe b (after s (e c))
  by_copier e act c small legal =
      let eight = f.eight in
      let x = one_there os.copiers c (omega (arith, small, eight)) in
      let number : (x.0).number ≡ c = f.copiers c x.0 x.1 in
      subst (λ k. Legal s (e k) → MayBe b (after s (e k))) number (act x.0 (ap (get_elem? os.copiers) number ∙ x.1)) legal

  few : (c : ℕ) (t : Task) → s.copying.task c ≡ Some t → c < MOST_COPIERS
  few c t has = (task_lies s f.law c t has).1.1

  module _ (v : CopierView) (at : get_elem? os.copiers v.number ≡ some v) where
    task : (x : Option Task) → s.copying.task v.number ≡ x → v.task ≡ x
    task x h = sym (task_is ws b os f v at) ∙ h

    claims : (j old : ℕ) → Fits (Claim v.number j old) → Legal s (Claim v.number j old) → MayBe b (after s (Claim v.number j old))
    claims j old fits h = acts v at (Claim v.number j old) refl fits _ _ _ (claim_step ws b os f v at j h.1 old h.3.0 (task None h.2) h.3.1)

    measures : Legal s (ReadLength v.number) → MayBe b (after s (ReadLength v.number))
    measures h = acts v at (ReadLength v.number) refl tt _ _ _ (measure_step ws b os f v at h.0 (task (Some h.0) h.1))

    reads : (i : ℕ) → Legal s (Read v.number i) → MayBe b (after s (Read v.number i))
    reads i h = acts v at (Read v.number i) refl tt _ _ _ (read_step ws b os f v at h.0 (task (Some h.0) h.1) i h.2)

    writes : (i : ℕ) → Legal s (Write v.number i) → MayBe b (after s (Write v.number i))
    writes i h = acts v at (Write v.number i) refl tt _ _ _ (write_step ws b os f v at h.0 (task (Some h.0) h.2) i h.1 (sym (ap (λ (g : ℕ → Option ℕ). g i) (read_is ws b os f v at)) ∙ h.3))

    finishes : Legal s (Finish v.number) → MayBe b (after s (Finish v.number))
    finishes h = acts v at (Finish v.number) refl tt _ _ _ (finish_step ws b os f v at h.0 (task (Some h.0) h.1) (λ i lt. sym (ap (λ (g : ℕ → Bool). g i) (written_is ws b os f v at)) ∙ h.2 i lt))

  pub may_act : (e : Event) → is_copiers e ≡ true → Fits e → Legal s e → MayBe b (after s e)
  may_act (PeekJob c j) own fits h = record { words = ws; others = os; facts = f; is = refl }
  may_act (Claim c j old) own fits h = by_copier (λ k. Claim k j old) (λ v at. claims v at j old fits) c h.0 h
  may_act (ReadLength c) own fits h = by_copier ReadLength measures c (few c h.0 h.1) h
  may_act (Read c i) own fits h = by_copier (λ k. Read k i) (λ v at. reads v at i) c (few c h.0 h.1) h
  may_act (Write c i) own fits h = by_copier (λ k. Write k i) (λ v at. writes v at i) c (few c h.0 h.2) h
  may_act (Finish c) own fits h = by_copier Finish finishes c (few c h.0 h.1) h
  may_act e own fits h = absurd (false≢true own)
