-- What many steps of marking make of a moment, and where none is left the epoch rises.
use Rattle.std.proofs.Common.{◌≡◌, ◌≢◌, ℕ, zero, suc, ◌+◌, ◌^◌, ◌<◌, ◌≤◌, Bool, true, false, cond, not, eqb, Option, Some, None, List, [], ◌∷◌, length, take, drop, arith, ap, sym, refl, ◌∙◌, subst}
use Rattle.far_evac.proofs.Settling.{moment_more}
use Rattle.far_evac.proofs.LiveOnce.{one_more}
use Rattle.std.specs.Prelude.{IfSome, IfNone, fold, is_some}
use Rattle.std.specs.List.{IsDistinct}
use Rattle.std.proofs.lemmas.Bool.{true≢false, false≢true}
use Rattle.std.proofs.lemmas.Bool.Decides.{nat_tests}
use Rattle.std.proofs.lemmas.List.{take_all}
use Rattle.far_log.specs.declared.span.Span.{Span}
use Rattle.far_events.specs.declared.event.Event.TheVariants.{Advance}
use Rattle.far_events.specs.events.Advance.{is_among}
use Rattle.far_events.specs.events.Step.{after}
use Rattle.far_events.specs.state.Law.{Law}
use Rattle.far_events.specs.state.State.{State}
use Rattle.far_hand.specs.Known.{Forgets}
use Rattle.far_hand.specs.Rounds.{MayChoose}
use Rattle.far_book.specs.book.Effects.{marked}
use Rattle.far_book.specs.book.Own.{own_part}
use Rattle.far_evac.specs.declared.phase.Phase.TheVariants.{Marking, Waiting, Evacuating}
use Rattle.far_evac.specs.declared.round.Round.{Round}
use Rattle.far_evac.specs.AnyHand.{Knows, KnowsMoment, MarksSome}
use Rattle.far_evac.specs.Cursor.{StandsAt, first_marked}
use Rattle.far_evac.specs.Live.{is_empty, lacking}
use Rattle.far_evac.specs.Marking.{after_marking, leaves_some, marked_core, newly_marked}
use Rattle.far_evac.specs.Moment.{Moment}
use Rattle.far_evac.specs.MomentLaw.{is_idle}
use Rattle.far_evac.specs.RoundSteps.{advanced, among}
use Rattle.far_evac.specs.Standing.{HoldsJobs, InRound, collection_in}
use Rattle.far_evac.proofs.Changing.{advanced_known}
use Rattle.far_evac.proofs.SmallSteps.{drop_next}
use Rattle.far_evac.proofs.Hands.{knows_forgotten, knows_more}
use Rattle.far_evac.proofs.HeldJobs.{none_copies}
use Rattle.far_evac.proofs.Lacking.{each_has, lacking_known, left_to, next_known, next_marked}
use Rattle.far_evac.proofs.MarkSteps.{Sought, none_shown, some_shown}
use Rattle.far_evac.proofs.Onward.{chosen_sealed, held_marking, sealed_inside}
use Rattle.far_evac.proofs.Readiness.{round_is_event}
use Rattle.far_evac.proofs.Standings.{at_start}

-- ---- lists
drop_none : (k : ℕ) (xs : List ℕ) → drop k xs ≡ [] → length xs ≤ k
drop_none k [] e = omega arith
drop_none zero (x ∷ xs) e = absurd cc
drop_none (suc k) (x ∷ xs) e = let h = drop_none k xs e in omega (arith, h)

empty_is : (xs : List ℕ) → false ≡ not (is_empty xs) → xs ≡ []
empty_is [] e = refl
empty_is (x ∷ xs) e = absurd (false≢true e)

more_left : (k : ℕ) (all xs : List ℕ) → drop k all ≡ xs → true ≡ not (is_empty xs) → k + 1 ≤ length all
more_left k all [] e some = absurd (true≢false some)
more_left k all (x ∷ xs) e some = let h = (drop_next k all x xs e).1 in omega (arith, h)

-- ---- whether one is left
module _ {s t : State} {r next : Round} (sought : Sought s t r next) (law : Law (own_part t)) where
  pub left_shown : (o : Option Span) → IfSome o (λ (span : Span). StandsAt t next span) → IfNone o (next.index ≡ length r.chosen) → is_some o ≡ not (is_empty (lacking s (collection_in r)))
  left_shown (Some span) stands end = some_shown sought law span stands
  left_shown None stands end = none_shown sought end

-- ---- one more
module _ (m : Moment) (once : IsDistinct eqb m.collection) (fits : (q : ℕ) → m.core.cell q < 2 ^ 64) where
  abbrev all : List ℕ
  all = lacking m.core m.collection

  abbrev after_steps : ℕ → Moment
  after_steps k = record m { core = marked_core m k }

  module _ (k : ℕ) (a : Moment) (known : KnowsMoment (after_steps k) a) where
    pub same_held : a.collection ≡ m.collection
    same_held = ap (λ (x : Moment). x.collection) known.rest

    pub left_here : lacking a.core a.collection ≡ drop k all
    left_here = ap (lacking a.core) same_held ∙ lacking_known (marked_core m k) a.core known.core m.collection ∙ left_to m.collection once m.core fits k

    pub over_here : false ≡ not (is_empty (lacking a.core a.collection)) → drop k all ≡ []
    over_here none = sym left_here ∙ empty_is (lacking a.core a.collection) none

    pub more_here : true ≡ not (is_empty (lacking a.core a.collection)) → k + 1 ≤ length all
    more_here some = more_left k all (lacking a.core a.collection) (sym left_here) some

    abbrev step : Moment
    step = record a { core = first_marked a.core (lacking a.core a.collection) }

    pub run_known : ((q : ℕ) → a.core.cell q < 2 ^ 64) → (b : Moment) → KnowsMoment step b → KnowsMoment (after_steps (k + 1)) b
    run_known here b then = subst (λ n. KnowsMoment (after_steps n) b) (one_more k) record {
      core = next_known m.collection once m.core fits k a.core known.core here b.core (subst (λ held. Knows (first_marked a.core (lacking a.core held)) b.core) same_held then.core);
      rest = then.rest ∙ ap (λ (x : Moment). record x { core = b.core }) known.rest;
    }

    pub run_exact : (b : Moment) → a ≡ after_steps k → b ≡ step → b ≡ after_steps (k + 1)
    run_exact b is then =
        then ∙ ap (λ (x : Moment). record x { core = first_marked x.core (lacking x.core x.collection) }) is
        ∙ ap (λ (core : State). record m { core = core }) (next_marked m.collection once m.core fits k) ∙ ap after_steps (one_more k)

  -- where none is left, more steps change nothing
  module _ (k n : ℕ) (none : drop k all ≡ []) (lt : k < n) where
    all_taken : (j : ℕ) → k ≤ j → take j all ≡ all
    all_taken j le = let few = drop_none k all none in take_all j all (omega (arith, few, le))

    pub over_core : after_steps (k + 1) ≡ after_steps n
    over_core = ap (λ ps. record m { core = fold marked m.core ps }) (all_taken (k + 1) (omega arith) ∙ sym (all_taken n (omega (arith, lt))))

    pub over_count : k ≤ length all → k ≡ length (newly_marked m n)
    over_count le =
        let few = drop_none k all none in
        let same : length (take n all) ≡ length all = ap length (all_taken n (omega (arith, lt))) in
        omega (arith, few, le, same)

  -- ---- the end of a call
  module _ (n : ℕ) {a b : Moment} (known : KnowsMoment (after_steps n) a) (then : KnowsMoment a b) where
    some_more : true ≡ not (is_empty (lacking a.core a.collection)) → leaves_some m n ≡ true
    some_more some = let le = more_here n a known some in grind (arith, nat_tests, le)

    none_more : false ≡ not (is_empty (lacking a.core a.collection)) → leaves_some m n ≡ false
    none_more none = let le = drop_none n all (over_here n a known none) in grind (arith, nat_tests, le)

    abbrev waits : Moment
    waits = record m { core = advanced (marked_core m n) m.collection; phase = Waiting }

    marks_on : leaves_some m n ≡ true → after_marking m n ≡ after_steps n
    marks_on e = ap (λ b. cond b (after_steps n) waits) e

    marks_all : leaves_some m n ≡ false → after_marking m n ≡ waits
    marks_all e = ap (λ b. cond b (after_steps n) waits) e

    pub marks_some : true ≡ not (is_empty (lacking a.core a.collection)) → (count : ℕ) → count ≡ length (newly_marked m n) → MarksSome m b n count None
    marks_some some count is = record {
      leaves = subst (λ x. KnowsMoment x b) (sym (marks_on (some_more some))) (moment_more (after_steps n) a b known then);
      counted = is;
      epoch = sym (ap (λ b. cond b None (Some (m.core.epoch + 1))) (some_more some));
    }

    pub marks_some_exactly : true ≡ not (is_empty (lacking a.core a.collection)) → a ≡ after_steps n → b ≡ a → b ≡ after_marking m n
    marks_some_exactly some is same = same ∙ is ∙ sym (marks_on (some_more some))

    pub none_then : false ≡ not (is_empty (lacking a.core a.collection)) → lacking b.core b.collection ≡ []
    none_then none =
        ap (lacking b.core) (ap (λ (x : Moment). x.collection) then.rest) ∙ lacking_known a.core b.core then.core a.collection ∙ empty_is (lacking a.core a.collection) none

    both : KnowsMoment (after_steps n) b
    both = moment_more (after_steps n) a b known then

    abbrev rises : Moment
    rises = record b { core = advanced b.core b.collection; phase = Waiting }

    fold_epoch : (ps : List ℕ) (s : State) → (fold marked s ps).epoch ≡ s.epoch
    fold_epoch [] s = refl
    fold_epoch (p ∷ ps) s = fold_epoch ps (marked s p)

    same_epoch : b.core.epoch ≡ m.core.epoch
    same_epoch = ap (λ (u : State). u.epoch) both.core.rest ∙ fold_epoch (newly_marked m n) m.core

    pub marks_every : false ≡ not (is_empty (lacking a.core a.collection)) → (c : Moment) → KnowsMoment rises c → (count epoch : ℕ) → count ≡ length (newly_marked m n) → epoch ≡ b.core.epoch + 1 → MarksSome m c n count (Some epoch)
    marks_every none c last count epoch is rose = record {
      leaves = subst (λ x. KnowsMoment x c) (sym (marks_all (none_more none))) record {
        core = knows_more (advanced (marked_core m n) m.collection) (advanced b.core m.collection) c.core (advanced_known (marked_core m n) b.core m.collection both.core)
            (subst (λ held. Knows (advanced b.core held) c.core) (ap (λ (x : Moment). x.collection) both.rest) last.core);
        rest = last.rest ∙ ap (λ (x : Moment). record x { core = c.core; phase = Waiting }) both.rest;
      };
      counted = is;
      epoch = ap Some (rose ∙ ap (λ e. e + 1) same_epoch) ∙ sym (ap (λ b. cond b None (Some (m.core.epoch + 1))) (none_more none));
    }

    pub marks_every_exactly : false ≡ not (is_empty (lacking a.core a.collection)) → (c : Moment) → a ≡ after_steps n → b ≡ a → c ≡ rises → c ≡ after_marking m n
    marks_every_exactly none c is same last =
        last ∙ ap (λ (x : Moment). record x { core = advanced x.core x.collection; phase = Waiting }) (same ∙ is) ∙ sym (marks_all (none_more none))

-- ---- the epoch rises
not_back : Waiting ≢ Marking
not_back e = absurd cc

not_far : Waiting ≢ Evacuating
not_far e = absurd cc

module _ (s : State) (r : Round) (in_round : InRound s r) (marks : r.phase ≡ Marking) (bits : ℕ) (same : (l : ℕ) → is_among bits l ≡ among r.chosen l) where
  held_are : collection_in r ≡ r.chosen
  held_are = held_marking r.phase r.chosen r.index marks

  pub may_choose : Law (own_part s) → lacking s (collection_in r) ≡ [] → MayChoose s bits
  may_choose law none = record {
    shut = λ l h. let sealed = chosen_sealed s r in_round marks l (sym (same l) ∙ h) in (sealed_inside s law l sealed, sealed);
    marked = λ p len ds place m near h. each_has s law r.chosen (ap (lacking s) (sym held_are) ∙ none) p len ds place m near (sym (same place.log) ∙ h);
  }

  module _ (t : State) (law : Law (own_part t)) (is : t ≡ record (after s (Advance bits)) { word = t.word }) where
    rises_so : t ≡ record (advanced s r.chosen) { word = t.word }
    rises_so = is ∙ ap (λ (u : State). record u { word = t.word }) (sym (round_is_event s r.chosen bits same))

    pub waits_so : InRound t (record { phase = Waiting; chosen = r.chosen; index = 0; at = 0; seen = 0 })
    waits_so = record {
      holds = record {
        sealed = λ l member. ap (λ (u : State). u.kind l) rises_so ∙ chosen_sealed s r in_round marks l member;
        once = subst (IsDistinct eqb) held_are in_round.holds.once;
        runs = ap is_empty (sym held_are) ∙ in_round.holds.runs ∙ ap is_idle marks;
        round = λ _ l member. ap (λ (u : State). u.round l) rises_so ∙ member;
        only = λ _ l is. sym (ap (λ (u : State). u.round l) rises_so) ∙ is;
        clear = λ e. absurd (not_far e);
        later = λ e. absurd (not_back e);
      };
      stands = record {
        index = omega arith;
        begins = λ _ l ls _. at_start t law l;
        marked = λ e. absurd (not_back e);
        marked_here = λ e. absurd (not_back e);
        left = λ e. absurd (not_far e);
        seen = λ _ k lt. absurd (omega (arith, lt));
        unseen = λ _ k _. ap (λ (u : State). u.clear k) rises_so;
      };
    }

    -- no job is one of a round that has just begun
    pub jobs_wait : Law (own_part s) → {copying : Bool} → HoldsJobs s copying r.phase (collection_in r) → HoldsJobs t copying Waiting r.chosen
    jobs_wait old h = record {
      alone = λ e j. ap (λ (u : State). u.copying.word j) rises_so ∙ h.alone e j;
      held = λ j job still. absurd (none_copies s old t (ap (λ (u : State). u.copying.since) rises_so) (ap (λ (u : State). u.round_epoch) rises_so) j job still);
    }

    pub rises_known : Forgets s t → Knows (advanced s (collection_in r)) t
    rises_known forgot = subst (λ held. Knows (advanced s held) t) (sym held_are)
        (knows_forgotten (advanced s r.chosen) t rises_so record { known = forgot.known; headers = forgot.headers } law)

  pub rises_exactly : (t : State) → t ≡ after s (Advance bits) → t ≡ advanced s (collection_in r)
  rises_exactly t is = is ∙ sym (round_is_event s r.chosen bits same) ∙ ap (advanced s) (sym held_are)

  pub waiting_held : r.chosen ≡ collection_in r
  waiting_held = sym held_are
