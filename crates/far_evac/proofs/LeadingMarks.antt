-- Marking leads by legal events: each mark is one, and where no object lacks EVAC the epoch rises by one more.
use Rattle.std.proofs.Common.{◌≡◌, ℕ, ◌+◌, ◌*◌, ◌^◌, ◌%◌, ◌<◌, ◌≤◌, ◌==◌, ◌||◌, ◌&&◌, true, false, not, eqb, nat_lt, Some, List, [], ◌∷◌, length, bit_or, arith, ap, sym, refl, ◌∙◌, subst}
use Rattle.std.proofs.lemmas.Bool.{cond_both, eq-eqb, false≢true}
use Rattle.std.proofs.lemmas.Bool.Decides.{nat_tests}
use Rattle.std.proofs.lemmas.List.{drop_all}
use Rattle.std.proofs.lemmas.Nat.Bits.{bit_at-zero}
use Rattle.std.proofs.Math.Bool.{and-false, or_comm}
use Rattle.far_word.specs.declared.mark.Mark.TheVariants.{Evac}
use Rattle.far_word.specs.declared.job.Job.{Job}
use Rattle.far_word.specs.declared.mark.Marks.{Marks}
use Rattle.far_word.specs.declared.pointer.Place.{Place}
use Rattle.far_word.specs.declared.pointer.PtrWord.TheVariants.{Near}
use Rattle.far_word.specs.declared.sizes.TheConstants.{CELLS, EPOCH_END, MOST_LOGS}
use Rattle.far_word.specs.Mark.{marks_with, position}
use Rattle.far_word.specs.Pointer.{read_of}
use Rattle.far_word.proofs.PointerLaws.{with_mark_read}
use Rattle.far_events.specs.declared.event.Event.TheVariants.{Advance, Mark}
use Rattle.far_events.specs.declared.event.Kind.TheVariants as kinds
use Rattle.far_events.specs.events.Advance.{MayAdvance, is_among}
use Rattle.far_events.specs.events.Mark.{IsSealedNear, is_sealed}
use Rattle.far_events.specs.state.Jobs.{near_place}
use Rattle.far_events.specs.state.Law.{Law}
use Rattle.far_events.specs.state.State.{State}
use Rattle.far_events.proofs.Put.{put_both}
use Rattle.far_book.specs.book.Dealing.{has_evac}
use Rattle.far_book.specs.book.Effects.{marked}
use Rattle.far_book.specs.book.Reached.{Reached}
use Rattle.far_book.proofs.region.Owns.{own_law}
use Rattle.far_book.proofs.region.Reaching.{reached_law, reached_more, reached_one}
use Rattle.far_evac.specs.declared.phase.Phase.TheVariants.{Evacuating, Marking, Waiting}
use Rattle.far_evac.specs.Laws.{but_evac}
use Rattle.far_evac.specs.Leading.{Leads, MarkingLeads}
use Rattle.far_evac.specs.Live.{lacking, live_among}
use Rattle.far_evac.specs.Marking.{leaves_some, marked_core, newly_marked}
use Rattle.far_evac.specs.Moment.{Moment}
use Rattle.far_evac.specs.MomentLaw.{MomentLaw, has_risen, is_idle}
use Rattle.far_evac.specs.RoundSteps.{advanced, among}
use Rattle.far_evac.specs.StillCopies.{StillCopies}
use Rattle.far_evac.proofs.HeldJobs.{lies_near, none_copies}
use Rattle.far_evac.proofs.Leading.{all_lives, in_heap, reached_each}
use Rattle.far_evac.proofs.LiveOnce.{LivesIn, near_at}
use Rattle.far_evac.proofs.Lacking.{each_has, left_to}
use Rattle.far_evac.proofs.LogBits.{with_log}
use Rattle.far_evac.proofs.Marks.{all_filter, all_take, marking_like, marks_cells}
use Rattle.far_evac.proofs.NearBut.{near_but}
use Rattle.far_evac.proofs.Onward.{sealed_inside}
use Rattle.far_evac.proofs.Readiness.{round_is_event}
use Rattle.far_evac.proofs.Bools.{or_left, or_right}

-- ---- marks
abbrev IsSealedOf : State → ℕ → Type 0
IsSealedOf s p = (p < CELLS * s.mutators) × IsSealedNear s p

sealed_near : (s : State) → Law s → (l p : ℕ) → s.kind l ≡ kinds.Sealed → LivesIn s l p → IsSealedOf s p
sealed_near s law l p shut h =
    let x = near_at (read_of (s.cell p)) l h.0 h.1 in
    let here : s.kind x.place.log ≡ kinds.Sealed = ap s.kind x.log ∙ shut in
    (in_heap s law p x.len x.ds x.place x.marks x.near, (x.len, x.ds, x.place, x.marks, x.near, sealed_inside s (own_law s law) x.place.log here, here))

still_sealed : (s : State) → Law s → (p q : ℕ) → IsSealedOf s p → IsSealedOf s q → IsSealedOf (marked s p) q
still_sealed s law p q (range, (len, ds, place, marks, near, log, shut)) (inside, (n, d, at, k, is, there, sealed)) = (
  inside,
  put_both (λ w. (n d : ℕ) × (at : Place) × (k : Marks) × (read_of w ≡ Some (Near n d at k)) × (at.log < s.logs) × (s.kind at.log ≡ kinds.Sealed)) s.cell p (bit_or (s.cell p) (2 ^ position Evac)) q
      (λ _. (len, ds, place, marks_with Evac marks, with_mark_read Evac (s.cell p) (Near len ds place marks) (law.cells.cell_read p).0 near refl, log, shut)) (λ _. (n, d, at, k, is, there, sealed)),
)

-- ---- some logs as the bits of a number
abbrev bits_of : List ℕ → ℕ
bits_of [] = 0
bits_of (l ∷ ls) = bit_or (bits_of ls) (1 * 2 ^ l % 2 ^ 64)

bits_are : (ls : List ℕ) → ((l : ℕ) → among ls l ≡ true → l < MOST_LOGS) → (k : ℕ) → is_among (bits_of ls) k ≡ among ls k
bits_are [] few k = ap (λ v. nat_lt k MOST_LOGS && (v == 1)) (bit_at-zero k) ∙ and-false (nat_lt k MOST_LOGS)
bits_are (l ∷ ls) few k =
    with_log (bits_of ls) l (few l (or_left (eqb l l) (among ls l) (eq-eqb l l refl))) k
    ∙ ap (λ b. b || eqb k l) (bits_are ls (λ j member. few j (or_right (eqb j l) (among ls j) member)) k)
    ∙ or_comm (among ls k) (eqb k l)

-- ---- a call that marks
module _ (m : Moment) (n : ℕ) (law : Law m.core) (moment : MomentLaw m) (marks : m.phase ≡ Marking) where
  abbrev ps : List ℕ
  ps = newly_marked m n

  abbrev t : State
  t = marked_core m n

  way : Reached m.core t
  way = reached_each (λ p. Mark p) (λ p. tt) (λ p. tt) IsSealedOf (λ s p h. h) still_sealed ps m.core law
      (all_take (IsSealedOf m.core) n (lacking m.core m.collection) (all_filter (IsSealedOf m.core) (λ p. not (has_evac (read_of (m.core.cell p)))) (live_among m.core m.collection)
      (all_lives (IsSealedOf m.core) m.core m.collection (λ l p member h. sealed_near m.core law l p (moment.sealed l member) h))))

  law_then : Law t
  law_then = reached_law m.core t law way

  not_risen : has_risen m.phase ≡ true → ⊥
  not_risen risen = false≢true (sym (ap has_risen marks) ∙ risen)

  -- jobs are all void, as they were
  held_marking : (j : ℕ) (job : Job) → StillCopies (record m.core { cell = t.cell }) j job → (m.phase ≡ Evacuating) × (among m.collection job.from.log ≡ true)
  held_marking j job still =
      let x = lies_near (read_of (t.cell job.pointer)) job.from still.lies in
      let was = near_but (read_of (m.core.cell job.pointer)) x.len x.ds job.from x.marks (ap but_evac (sym x.near) ∙ (marking_like m n (λ p. (law.cells.cell_read p).0) job.pointer).same) in
      moment.held j job record { says = still.says; good = still.good; lies = ap near_place was.1 }

  leads_on : Leads m (record m { core = t })
  leads_on = record {
    reached = way;
    law = law_then;
    moment = subst (λ (core : State). MomentLaw (record m { core = core })) (sym (marks_cells ps m.core)) record {
      order = moment.order;
      order_once = moment.order_once;
      sealed = moment.sealed;
      collection_once = moment.collection_once;
      runs = moment.runs;
      round = λ risen. absurd (not_risen risen);
      only = λ risen. absurd (not_risen risen);
      clear = λ leaves. absurd (not_risen (ap has_risen leaves));
      later = moment.later;
      alone = moment.alone;
      held = held_marking;
    };
    copying = refl;
  }

  module _ (none : leaves_some m n ≡ false) where
    abbrev rises : Moment
    rises = record m { core = advanced t m.collection; phase = Waiting }

    same_kind : (l : ℕ) → t.kind l ≡ m.core.kind l
    same_kind l = ap (λ (u : State). u.kind l) (marks_cells ps m.core)

    held_sealed : (l : ℕ) → among m.collection l ≡ true → t.kind l ≡ kinds.Sealed
    held_sealed l member = same_kind l ∙ moment.sealed l member

    few : length (lacking m.core m.collection) ≤ n
    few = grind (arith, nat_tests, none)

    none_lacks : lacking t m.collection ≡ []
    none_lacks = left_to m.collection moment.collection_once m.core (λ p. (law.cells.cell_read p).0) n ∙ drop_all n (lacking m.core m.collection) few

    abbrev bits : ℕ
    bits = bits_of m.collection

    same : (l : ℕ) → is_among bits l ≡ among m.collection l
    same = bits_are m.collection (λ l member. omega (arith, sealed_inside t (own_law t law_then) l (held_sealed l member), law_then.shape.few_logs))

    same_epoch : t.epoch ≡ m.core.epoch
    same_epoch = ap (λ (u : State). u.epoch) (marks_cells ps m.core)

    may : MayAdvance t bits
    may = record {
      below = subst (λ e. e + 1 < EPOCH_END) (sym same_epoch) (moment.later marks);
      shut = λ l h. let sealed = held_sealed l (sym (same l) ∙ h) in (sealed_inside t (own_law t law_then) l sealed, sealed);
      marked = λ p len ds place k near member. each_has t (own_law t law_then) m.collection none_lacks p len ds place k near (sym (same place.log) ∙ member);
    }

    way_up : Reached m.core (advanced t m.collection)
    way_up = reached_more m.core t (advanced t m.collection) way (subst (Reached t) (sym (round_is_event t m.collection bits same)) (reached_one t (Advance bits) may tt tt))

    leads_up : Leads m rises
    leads_up = record {
      reached = way_up;
      law = reached_law m.core (advanced t m.collection) law way_up;
      moment = record {
        order = λ l. moment.order l ∙ ap is_sealed (sym (same_kind l));
        order_once = moment.order_once;
        sealed = held_sealed;
        collection_once = moment.collection_once;
        runs = moment.runs ∙ ap is_idle marks;
        round = λ _ l member. member;
        only = λ _ l member. member;
        clear = λ leaves. absurd cc;
        later = λ odd. absurd cc;
        alone = λ e j. ap (λ (u : State). u.copying.word j) (marks_cells ps m.core) ∙ moment.alone e j;
        held = λ j job still. absurd (none_copies t (own_law t law_then) (advanced t m.collection) refl refl j job still);
      };
      copying = refl;
    }

pub marking : MarkingLeads
marking m n law moment marks = cond_both (leaves_some m n) (record m { core = marked_core m n }) (record m { core = advanced (marked_core m n) m.collection; phase = Waiting }) (Leads m)
    (λ _. leads_on m n law moment marks) (leads_up m n law moment marks)
