-- How many objects and logs a round deals with at most, so that no sum of its turns is too large.
use Rattle.std.proofs.Common.{◌≡◌, ◌≢◌, ℕ, zero, suc, ◌+◌, ◌*◌, ◌<◌, ◌≤◌, Bool, true, false, cond, nat_lt, List, [], ◌∷◌, length, arith, ap, sym, refl, ◌∙◌, subst, filter}
use Rattle.std.proofs.lemmas.Bool.{cond_both, true≢false}
use Rattle.std.proofs.lemmas.List.{length-append, length-drop, length-map}
use Rattle.std.proofs.lemmas.Map.Steps.{length-le_from_distinct_below}
use Rattle.far_word.specs.declared.sizes.TheConstants.{LOG_WORDS, MOST_LOGS}
use Rattle.far_word.specs.Sizes.{size_of}
use Rattle.far_log.specs.declared.span.Span.{Span}
use Rattle.far_log.specs.Spans.{head_len, span_at, spans_from, spans_in}
use Rattle.far_events.specs.state.Law.{Law}
use Rattle.far_events.specs.state.Spans.{spans_of, is_live, word_in}
use Rattle.far_events.specs.state.State.{State}
use Rattle.far_book.specs.book.Own.{own_part}
use Rattle.far_evac.specs.declared.phase.Phase.{Phase}
use Rattle.far_evac.specs.declared.phase.Phase.TheVariants.{Idle, Marking, Waiting, Evacuating}
use Rattle.far_evac.specs.AnyHand.{Evacuates, StopsAt, WalksTo}
use Rattle.far_evac.specs.AnyTurns.{TurnsTo}
use Rattle.far_evac.specs.Laws.{DealtInOrder}
use Rattle.far_evac.specs.Live.{live_in, live_among, pointers_of}
use Rattle.far_evac.specs.Moment.{Moment, Tally, nothing, plus}
use Rattle.far_evac.specs.MomentLaw.{MomentLaw, has_risen}
use Rattle.far_evac.specs.Ready.{Ready}
use Rattle.far_evac.specs.Turning.{GoesOn, IsBounded, IsBoundedBy, IsCountedIn, IsSmall, IsWithin, most_objects, most_turns}
use Rattle.far_evac.specs.Turns.{turn_size}
use Rattle.far_evac.specs.Walk.{Walked, ended, is_done, left}
use Rattle.far_evac.proofs.InOrder.{in_order}
use Rattle.far_evac.proofs.Readiness.{risen_is_ready}
use Rattle.far_evac.proofs.Rounds.{turn_ends, walks_phase}
use Rattle.far_evac.proofs.OfOneKind.{sealed_used}

-- ---- a log has no more objects than words, and a heap no more logs than a heap may have
few_spans : (word : ℕ → ℕ) (tail at fuel : ℕ) → length (spans_from word tail at fuel) ≤ fuel
few_spans word tail at zero = omega arith
few_spans word tail at (suc fuel) = cond_both (nat_lt at tail) (span_at word at ∷ spans_from word tail (at + size_of (head_len (word at))) fuel) [] (λ (xs : List Span). length xs ≤ suc fuel)
    (λ _. let rest = few_spans word tail (at + size_of (head_len (word at))) fuel in omega (arith, rest)) (λ _. omega arith)

few_passed : (test : Span → Bool) (xs : List Span) → length (filter test xs) ≤ length xs
few_passed test [] = omega arith
few_passed test (x ∷ xs) = cond_both (test x) (x ∷ filter test xs) (filter test xs) (λ (ys : List Span). length ys ≤ length (x ∷ xs))
    (λ _. let rest = few_passed test xs in omega (arith, rest)) (λ _. let rest = few_passed test xs in omega (arith, rest))

few_of_spans : (test : Span → Bool) (xs : List Span) (n : ℕ) → length xs ≤ n → length (pointers_of (filter test xs)) ≤ n
few_of_spans test xs n few = omega (arith, length-map (filter test xs) (λ (span : Span). span.p), few_passed test xs, few)

module _ (s : State) (short : (l : ℕ) → s.tail l ≤ LOG_WORDS) where
  few_in : (l : ℕ) → length (live_in s l) ≤ LOG_WORDS
  unfolding live_in spans_of spans_in
  few_in l = few_of_spans (is_live s l) (spans_from (word_in s l) (s.tail l) 0 (s.tail l)) LOG_WORDS (let few = few_spans (word_in s l) (s.tail l) 0 (s.tail l) in omega (arith, few, short l))

  few_among : (ls : List ℕ) → length (live_among s ls) ≤ length ls * LOG_WORDS
  few_among [] = omega arith
  few_among (l ∷ ls) = omega (arith, length-append (live_in s l) (live_among s ls), few_in l, few_among ls)

module _ (m : Moment) (law : Law (own_part m.core)) (agrees : MomentLaw m) where
  few_held : length m.collection ≤ MOST_LOGS
  few_held = length-le_from_distinct_below m.collection MOST_LOGS agrees.collection_once
      (λ l held. omega (arith, law.logs.log_range l (sealed_used (m.core.kind l) (agrees.sealed l held)), law.shape.few_logs))

  few_left : length (live_among m.core m.collection) ≤ most_objects
  few_left = omega (arith, few_among m.core law.logs.tail_end m.collection, few_held)

  -- nothing was counted yet
  pub starts_within : IsWithin m nothing
  starts_within = record { objects = omega (arith, few_left); logs = omega (arith, few_held); fresh = λ _. refl }

-- ---- after a walk
module _ (m : Moment) (total : Tally) (within : IsWithin m total) (ready : Ready m.core m.collection) (k : ℕ) (w : Walked) (walks : WalksTo m k w) where
  order : DealtInOrder m k w
  order = in_order m k w ready walks

  fewer : length (left w) + k ≡ length (live_among m.core m.collection)
  fewer = omega (arith, ap length order.left, length-drop k (live_among m.core m.collection), order.enough)

  fewer_held : length w.moment.collection + w.tally.freed ≡ length m.collection
  fewer_held = omega (arith, ap length order.gives.collection, length-drop w.tally.freed m.collection, order.gives.most)

  pub walk_bounded : IsBounded (plus total w.tally)
  walk_bounded = record { objects = omega (arith, within.objects, order.counted, order.enough); logs = omega (arith, within.logs, order.gives.most) }

  pub walk_within : m.phase ≡ Evacuating → IsWithin w.moment (plus total w.tally)
  walk_within leaves = record {
    objects = omega (arith, within.objects, order.counted, fewer);
    logs = omega (arith, within.logs, fewer_held);
    fresh = λ other. absurd (other (walks_phase m k w walks ∙ leaves));
  }

-- ---- after a turn
within_bounded : (m : Moment) (total : Tally) → IsWithin m total → IsBounded total
within_bounded m total within = record { objects = omega (arith, within.objects); logs = omega (arith, within.logs) }

not_done : (w : Walked) → is_done w ≡ false → ended w ≡ w.moment
not_done w more = ap (λ b. cond b (record w.moment { phase = Idle }) w.moment) more

not_leaving : (phase : Phase) → has_risen phase ≡ false → phase ≢ Evacuating
not_leaving phase early e = true≢false (sym (ap has_risen e) ∙ early)

waits_not : (phase : Phase) → phase ≡ Waiting → phase ≢ Evacuating
waits_not phase waits leaves = absurd cc

module _ (m t : Moment) (law : Law (own_part m.core)) (agrees : MomentLaw m) (law_then : Law (own_part t.core)) (agrees_then : MomentLaw t) (alone : m.copying ≡ false) (total tally : Tally) (done : Bool) (within : IsWithin m total) where
  abbrev StaysWithin : Type 0
  StaysWithin = IsBounded (plus total tally) × (done ≡ false → IsWithin t (plus total tally))

  -- a turn that counts nothing, before objects leave
  counts_none : m.phase ≢ Evacuating → tally ≡ nothing → StaysWithin
  counts_none early none =
      let sum : plus total tally ≡ nothing = ap (λ a. plus a tally) (within.fresh early) ∙ ap (plus nothing) none in
      let after : IsWithin t (plus total tally) = subst (IsWithin t) (sym sum) (starts_within t law_then agrees_then) in (within_bounded t (plus total tally) after, λ _. after)

  leaves_some : m.phase ≡ Evacuating → Evacuates m turn_size t tally done → StaysWithin
  leaves_some leaves (k, w, walks, is, counts, over) =
      let ready = risen_is_ready m law agrees (ap has_risen leaves) in
      let sum : plus total w.tally ≡ plus total tally = ap (plus total) (sym counts) in (
        subst IsBounded sum (walk_bounded m total within ready k w walks.walks),
        λ goes.
            let same : w.moment ≡ t = sym (not_done w (sym over ∙ goes)) ∙ sym is in
            subst (λ a. IsWithin t a) sum (subst (λ x. IsWithin x (plus total w.tally)) same (walk_within m total within ready k w walks.walks leaves)),
      )

  stays_by : (phase : Phase) → m.phase ≡ phase → TurnsTo m phase tally done t → StaysWithin
  stays_by Idle e turns = absurd turns
  stays_by Marking e (none, _, _) = counts_none (not_leaving m.phase (ap has_risen e)) none
  stays_by Waiting e (none, _, _) = counts_none (waits_not m.phase e) none
  stays_by Evacuating e turns = leaves_some e (turns.alone alone)

  pub turn_goes_on : TurnsTo m m.phase tally done t → GoesOn t (plus total tally) done
  turn_goes_on turns = let (bounded, after) = stays_by m.phase refl turns in record { bounded = bounded; more = λ goes. (after goes, turn_ends m t m.phase tally done refl turns ∙ goes) }

-- a turn that stopped at an object
pub stop_bounded : (m t : Moment) → Law (own_part m.core) → MomentLaw m → (total tally : Tally) → IsWithin m total → m.phase ≡ Evacuating → StopsAt m turn_size t tally → IsBounded (plus total tally)
stop_bounded m t law agrees total tally within leaves (k, w, walks, few, more, known, counts) =
    subst IsBounded (ap (plus total) (sym counts)) (walk_bounded m total within (risen_is_ready m law agrees (ap has_risen leaves)) k w walks)

-- ---- what a call tells by itself: how much was done at most
pub walk_counts : (m : Moment) → Law (own_part m.core) → MomentLaw m → m.phase ≡ Evacuating → (k : ℕ) (w : Walked) → WalksTo m k w → IsBounded w.tally
walk_counts m law agrees leaves k w walks =
    let sum = walk_bounded m nothing (starts_within m law agrees) (risen_is_ready m law agrees (ap has_risen leaves)) k w walks in
    record { objects = omega (arith, sum.objects); logs = omega (arith, sum.logs) }

-- ---- the sums of turns are words
pub small_bounded : (total : Tally) → IsBounded total → IsSmall total
small_bounded total h = record { objects = omega (arith, h.objects); logs = omega (arith, h.logs) }

pub bounded_beside : (copying : Bool) → copying ≡ true → (total : Tally) → IsBoundedBy copying total → IsBoundedBy true total
bounded_beside copying is total h = subst (λ b. IsBoundedBy b total) is h

pub counts_more : (turns : ℕ) (before more : Tally) → IsCountedIn turns before → IsBoundedBy true more → IsCountedIn (turns + 1) (plus before more)
counts_more turns before more h g = record { objects = omega (arith, h.objects, g.objects); logs = omega (arith, h.logs, g.logs) }

pub few_more : (turns : ℕ) → turns < most_turns → turns + 1 ≤ most_turns
few_more turns few = omega (arith, few)

pub small_counted : (turns : ℕ) (total : Tally) → turns ≤ most_turns → IsCountedIn turns total → IsSmall total
small_counted turns total few h = record { objects = omega (arith, few, h.objects); logs = omega (arith, few, h.logs) }
