-- What the record of a round says where no round is running, where one begins, and where objects begin to leave.
use Rattle.std.proofs.Common.{◌≡◌, ℕ, ◌+◌, ◌<◌, ◌≤◌, true, false, [], length, take, eqb, arith, ap, sym, ◌∙◌, subst}
use Rattle.std.specs.List.{IsDistinct}
use Rattle.std.proofs.lemmas.Bool.{true≢false, false≢true}
use Rattle.std.proofs.lemmas.Map.Keys.{IsDistinct-from_apart}
use Rattle.far_word.specs.declared.sizes.TheConstants.{EPOCH_END}
use Rattle.far_events.specs.declared.event.Kind.TheVariants as kinds
use Rattle.far_events.specs.state.Law.{Law}
use Rattle.far_events.specs.state.State.{State}
use Rattle.far_book.specs.book.NextLive.{IsBoundary}
use Rattle.far_book.specs.book.Own.{own_part}
use Rattle.far_book.proofs.region.NextLives.{lives_from_start}
use Rattle.far_evac.specs.declared.phase.Phase.{Phase}
use Rattle.far_evac.specs.declared.phase.Phase.TheVariants.{Idle, Marking}
use Rattle.far_evac.specs.declared.round.Round.{Round}
use Rattle.far_evac.specs.Live.{is_empty}
use Rattle.far_evac.specs.MomentLaw.{has_risen, is_idle}
use Rattle.far_evac.specs.RoundSteps.{among}
use Rattle.far_evac.specs.Standing.{InRound, collection_in, collection_of}

-- ---- no round
pub none_once : IsDistinct eqb []
none_once = IsDistinct-from_apart eqb [] (λ i j d lt le. absurd (omega arith))

no_risen : (phase : Phase) → phase ≡ Idle → has_risen phase ≡ true → ⊥
no_risen phase idle risen = false≢true (sym (ap has_risen idle) ∙ risen)

idle_held : (r : Round) → r.phase ≡ Idle → collection_in r ≡ []
idle_held r idle = ap (λ phase. collection_of phase r.chosen r.index) idle

pub idle_round : (s : State) (r : Round) → r.phase ≡ Idle → r.index ≤ length r.chosen → InRound s r
idle_round s r idle index = record {
  holds = record {
    sealed = λ l held. absurd (false≢true (sym (ap (λ ls. among ls l) (idle_held r idle)) ∙ held));
    once = subst (IsDistinct eqb) (sym (idle_held r idle)) none_once;
    runs = ap is_empty (idle_held r idle) ∙ sym (ap is_idle idle);
    round = λ risen l held. absurd (false≢true (sym (ap (λ ls. among ls l) (idle_held r idle)) ∙ held));
    only = λ risen l is. absurd (no_risen r.phase idle risen);
    clear = λ leaves k lt. absurd (true≢false (sym (ap is_idle idle) ∙ ap is_idle leaves));
    later = λ marks. absurd (true≢false (sym (ap is_idle idle) ∙ ap is_idle marks));
  };
  stands = record {
    index = index;
    begins = λ running l ls e. absurd (true≢false (sym (ap is_idle idle) ∙ running));
    marked = λ marks. absurd (true≢false (sym (ap is_idle idle) ∙ ap is_idle marks));
    marked_here = λ marks. absurd (true≢false (sym (ap is_idle idle) ∙ ap is_idle marks));
    left = λ leaves. absurd (true≢false (sym (ap is_idle idle) ∙ ap is_idle leaves));
    seen = λ waits. absurd (true≢false (sym (ap is_idle idle) ∙ ap is_idle waits));
    unseen = λ waits. absurd (true≢false (sym (ap is_idle idle) ∙ ap is_idle waits));
  };
}

-- ---- a round begins
-- at word 0 a span of a log begins, or its spans end
pub at_start : (s : State) → Law (own_part s) → (l : ℕ) → IsBoundary s l 0
at_start s law l = (lives_from_start s law l).0

pub chosen_round : (s : State) (r : Round) → Law (own_part s) → r.phase ≡ Marking → r.index ≡ 0 → r.at ≡ 0 → ((l : ℕ) → among r.chosen l ≡ true → s.kind l ≡ kinds.Sealed) → IsDistinct eqb r.chosen →
    is_empty r.chosen ≡ false → s.epoch + 1 < EPOCH_END → InRound s r
chosen_round s r law marks index at sealed once some later =
    let held : collection_in r ≡ r.chosen = ap (λ phase. collection_of phase r.chosen r.index) marks in record {
      holds = record {
        sealed = λ l is. sealed l (sym (ap (λ ls. among ls l) held) ∙ is);
        once = subst (IsDistinct eqb) (sym held) once;
        runs = ap is_empty held ∙ some ∙ sym (ap is_idle marks);
        round = λ risen l is. absurd (false≢true (sym (ap has_risen marks) ∙ risen));
        only = λ risen l is. absurd (false≢true (sym (ap has_risen marks) ∙ risen));
        clear = λ leaves k lt. absurd (false≢true (sym (ap has_risen marks) ∙ ap has_risen leaves));
        later = λ _. later;
      };
      stands = record {
        index = omega (arith, index);
        begins = λ running l ls e. subst (IsBoundary s l) (sym at) (at_start s law l);
        marked = λ _ p len ds place more near is. absurd (false≢true (sym (ap (λ n. among (take n r.chosen) place.log) index) ∙ is));
        marked_here = λ _ l ls e p len ds place more near here lt. absurd (omega (arith, at, lt));
        left = λ leaves. absurd (false≢true (sym (ap has_risen marks) ∙ ap has_risen leaves));
        seen = λ waits. absurd (false≢true (sym (ap has_risen marks) ∙ ap has_risen waits));
        unseen = λ waits. absurd (false≢true (sym (ap has_risen marks) ∙ ap has_risen waits));
      };
    }
