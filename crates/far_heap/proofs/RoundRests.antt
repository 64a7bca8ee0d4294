-- What a turn leaves of the logs of its round.
use Rattle.std.proofs.Common.{◌≡◌, ◌≢◌, ℕ, ◌+◌, ◌-◌, Bool, true, false, cond, List, [], ◌∷◌, drop, length, refl, ap, subst, sym, ◌∙◌, inl, inr}
use Rattle.std.specs.Prelude.{not, eqb}
use Rattle.std.proofs.lemmas.Bool.{and_parts, eqb-true, false≢true, or_cases, or_left, or_right}
use Rattle.std.proofs.lemmas.List.{drop-drop}
use Rattle.std.proofs.lemmas.Slice.Eq.{bytes_eq-Decides}
use Rattle.std.specs.List.{ends_with, list_all}
use Rattle.far_word.specs.declared.refused.Refused.{Refused}
use Rattle.far_events.specs.state.Law.{Law}
use Rattle.far_events.specs.state.State.{State}
use Rattle.far_book.specs.book.Own.{own_part}
use Rattle.far_evac.specs.AnyHand.{KnowsMoment, Polls}
use Rattle.far_evac.specs.AnyTurns.{TurnsTo}
use Rattle.far_evac.specs.Beside.{At, Before, Behind, Dealing, End, OverLogs, WalksBeside, may_free}
use Rattle.far_evac.specs.ByCopying.{EvacuatesBy, StopsBy}
use Rattle.far_evac.specs.Live.{is_empty}
use Rattle.far_evac.specs.Moment.{Moment, Tally}
use Rattle.far_evac.specs.MomentLaw.{MomentLaw, is_idle}
use Rattle.far_evac.specs.RoundSteps.{among}
use Rattle.far_evac.specs.Turns.{turn_size}
use Rattle.far_evac.specs.Walk.{Walked, ended, is_done}
use Rattle.far_evac.specs.declared.answers.Polled.{Polled}
use Rattle.far_evac.specs.declared.answers.Polled.TheVariants.{Clear, StillOpen}
use Rattle.far_evac.specs.declared.phase.Phase.{Phase}
use Rattle.far_evac.specs.declared.phase.Phase.TheVariants.{Evacuating, Idle, Marking, Waiting}
use Rattle.far_evac.proofs.Given.{gives_back}
use Rattle.far_evac.proofs.Readiness.{risen_is_ready}
use Rattle.far_evac.proofs.RoomTurns.{marking_held}
use Rattle.far_heap.specs.Rounds.{IsRest, is_rest, is_round_of}

-- ---- those that are left are some of those that were chosen
rest_on : (logs left more : List ℕ) (n : ℕ) → IsRest false logs left → more ≡ drop n left → IsRest false logs more
rest_on logs left more n (k, is) next = (k + n, next ∙ ap (drop n) is ∙ drop-drop n k logs)

rest_same : (copying : Bool) (logs left more : List ℕ) → IsRest copying logs left → more ≡ left → IsRest copying logs more
rest_same copying logs left more rest same = subst (IsRest copying logs) (sym same) rest

ends_so : (logs left : List ℕ) → ends_with eqb logs left ≡ true → IsRest false logs left
ends_so logs left h = (length logs - length left, (bytes_eq-Decides left (drop (length logs - length left) logs)).0 h)

among_by : (logs : List ℕ) (x l : ℕ) → among logs x ≡ true → eqb l x ≡ true → among logs l ≡ true
among_by logs x l h is = subst (λ y. among logs y ≡ true) (sym (eqb-true l x is)) h

all_among : (logs left : List ℕ) → list_all (among logs) left ≡ true → IsRest true logs left
all_among logs [] h l none = absurd (false≢true none)
all_among logs (x ∷ xs) h l there =
    let parts = and_parts (among logs x) (list_all (among logs) xs) h in
    elim (or_cases (eqb l x) (among xs l) there) [
      | inl here ↦ among_by logs x l parts.0 here
      | inr later ↦ all_among logs xs parts.1 l later
    ]

rest_by_test : (copying : Bool) (logs left : List ℕ) → is_rest copying logs left ≡ true → IsRest copying logs left
rest_by_test false logs left h = ends_so logs left h
rest_by_test true logs left h = all_among logs left h

pub rest_is : (copying : Bool) (logs left : List ℕ) → is_round_of copying logs left ≡ true → IsRest copying logs left
rest_is copying logs left h = rest_by_test copying logs left (and_parts (not (is_empty left)) (is_rest copying logs left) h).1

some_left : (copying : Bool) (logs left : List ℕ) → is_round_of copying logs left ≡ true → is_empty left ≡ false
some_left copying logs [] h = absurd (false≢true h)
some_left copying logs (l ∷ ls) h = refl

-- the round of some logs runs
pub runs_on : (copying : Bool) (logs : List ℕ) (m : Moment) → MomentLaw m → is_round_of copying logs m.collection ≡ true → m.phase ≢ Idle
runs_on copying logs m law h idle = false≢true (sym (some_left copying logs m.collection h) ∙ law.runs ∙ ap is_idle idle)

held_known : (m t : Moment) → KnowsMoment m t → t.collection ≡ m.collection
held_known m t known = ap (λ (x : Moment). x.collection) known.rest

held_ended : (w : Walked) (over : Bool) → is_done w ≡ over → (ended w).collection ≡ w.moment.collection
held_ended w true e = rw e refl
held_ended w false e = rw e refl

-- ---- a walk over logs beside copiers keeps some of them
among_first : (l x : ℕ) (ls : List ℕ) → among ls l ≡ true → among (x ∷ ls) l ≡ true
among_first l x ls h = or_right (eqb l x) (among ls l) h

kept_first : (free : Bool) (x : ℕ) (ls rest kept : List ℕ) → IsRest true ls rest → kept ≡ cond free rest (x ∷ rest) → IsRest true (x ∷ ls) kept
kept_first true x ls rest kept some is l there = among_first l x ls (some l (subst (λ k. among k l ≡ true) is there))
kept_first false x ls rest kept some is l there =
    elim (or_cases (eqb l x) (among rest l) (subst (λ k. among k l ≡ true) is there)) [
      | inl here ↦ or_left (eqb l x) (among ls l) here
      | inr later ↦ among_first l x ls (some l later)
    ]

module _ (D : Type 0) (Asks : State → ℕ → Dealing → D → D → Type 0) (Fails : State → ℕ → Refused → D → D → Type 0) where
  kept_some : (ls : List ℕ) (n : ℕ) (w t : Walked) (kept : List ℕ) (end : End) (old new : D) → OverLogs D Asks Fails ls n w t kept end old new → IsRest true ls kept
  kept_some [] n w t kept end old new (known, none, at_end, same) = rest_same true [] [] kept (λ l h. h) none
  kept_some (x ∷ ls) n w t kept end old new (v, u, more, Behind, between, known, over, (rest, on, is)) =
      kept_first (may_free u.moment.core x) x ls rest kept (kept_some ls more _ t rest end between new on) is
  kept_some (x ∷ ls) n w t kept end old new (v, u, more, Before, between, known, over, (same, is, stops, asks)) = rest_same true (x ∷ ls) (x ∷ ls) kept (λ l h. h) is
  kept_some (x ∷ ls) n w t kept end old new (v, u, more, At p why, between, known, over, (same, is, stops, asks)) = rest_same true (x ∷ ls) (x ∷ ls) kept (λ l h. h) is

  walk_rest : (logs : List ℕ) (m : Moment) (n : ℕ) (w : Walked) (end : End) (old new : D) → IsRest true logs m.collection → WalksBeside D Asks Fails m n w end old new → IsRest true logs w.moment.collection
  walk_rest logs m n w end old new rest (u, t, kept, collects, over, is) =
      rest_same true logs kept w.moment.collection (λ l there. rest l (kept_some m.collection n u t kept end old new over l there)) (ap (λ (z : Walked). z.moment.collection) is)

-- ---- a turn
module _ (logs : List ℕ) (m t : Moment) where
  rest_polled : (copying : Bool) → IsRest copying logs m.collection → (answer : Polled) → Polls m t answer → IsRest copying logs t.collection
  rest_polled copying rest Clear polls = rest_same copying logs m.collection t.collection rest (held_known _ t polls)
  rest_polled copying rest (StillOpen k epoch) polls = rest_same copying logs m.collection t.collection rest (held_known _ t polls.leaves)

  module _ (law : Law (own_part m.core)) (moment : MomentLaw m) where
    rest_leaving : (copying : Bool) (n : ℕ) (tally : Tally) (over : Bool) → m.copying ≡ copying → IsRest copying logs m.collection → m.phase ≡ Evacuating → EvacuatesBy m n t tally over →
        IsRest copying logs t.collection
    rest_leaving false n tally over alone rest is by =
        let (k, w, walks, ends, counted, done) = by.alone alone in
        let ready = risen_is_ready m law moment (rw is refl) in
        let back = gives_back m k w ready walks.walks in
        rest_on logs m.collection t.collection w.tally.freed rest (ap (λ (x : Moment). x.collection) ends ∙ held_ended w (is_done w) refl ∙ back.collection)
    rest_leaving true n tally over beside rest is by =
        let e = by.beside beside in
        rest_same true logs e.stood.moment.collection t.collection (walk_rest _ _ _ logs m n e.stood e.end _ _ rest e.walks)
        (ap (λ (x : Moment). x.collection) e.ends ∙ held_ended e.stood (is_done e.stood) refl)

    rest_by : (copying : Bool) (phase : Phase) (tally : Tally) (over : Bool) → m.copying ≡ copying → IsRest copying logs m.collection → m.phase ≡ phase → TurnsTo m phase tally over t → IsRest copying logs t.collection
    rest_by copying Idle tally over c rest is made = absurd made
    rest_by copying Marking tally over c rest is (none, going, (count, waiting, marks)) = rest_same copying logs m.collection t.collection rest (held_known _ t marks.leaves ∙ marking_held m turn_size)
    rest_by copying Waiting tally over c rest is (none, going, (answer, polls)) = rest_polled copying rest answer polls
    rest_by copying Evacuating tally over c rest is by = rest_leaving copying turn_size tally over c rest is by

    pub rest_turned : IsRest m.copying logs m.collection → (tally : Tally) (over : Bool) → TurnsTo m m.phase tally over t → IsRest m.copying logs t.collection
    rest_turned rest tally over made = rest_by m.copying m.phase tally over refl rest refl made

    rest_stopping : (copying : Bool) (n : ℕ) (tally : Tally) → m.copying ≡ copying → IsRest copying logs m.collection → m.phase ≡ Evacuating → StopsBy m n t tally → IsRest copying logs t.collection
    rest_stopping false n tally alone rest is by =
        let (k, w, walks, few, going, known, counted) = by.alone alone in
        let ready = risen_is_ready m law moment (rw is refl) in
        rest_on logs m.collection t.collection w.tally.freed rest (held_known w.moment t known ∙ (gives_back m k w ready walks).collection)
    rest_stopping true n tally beside rest is by =
        let e = by.beside beside in
        rest_same true logs e.stood.moment.collection t.collection (walk_rest _ _ _ logs m n e.stood _ _ _ rest e.walks) (ap (λ (x : Moment). x.collection) e.stops)

    pub rest_stopped : IsRest m.copying logs m.collection → (n : ℕ) (tally : Tally) → m.phase ≡ Evacuating → StopsBy m n t tally → IsRest m.copying logs t.collection
    rest_stopped rest n tally is by = rest_stopping m.copying n tally refl rest is by
