-- Logs come back empty.
use Rattle.std.proofs.Common.{◌≡◌, ℕ, suc, ◌+◌, false, not, List, [], ◌∷◌, take, drop, arith, ap, refl, ◌∙◌, subst}
use Rattle.std.specs.List.{AllByRecursion}
use Rattle.std.proofs.lemmas.Bool.{cond_both}
use Rattle.far_word.specs.Pointer.{read_of}
use Rattle.far_log.specs.Spans.{spans_in, taken_by}
use Rattle.far_events.specs.declared.event.Kind.TheVariants.{Free}
use Rattle.far_events.specs.state.Spans.{is_live, spans_of, word_in}
use Rattle.far_events.specs.state.State.{State}
use Rattle.far_events.proofs.Put.{put_both, put_same}
use Rattle.far_evac.specs.AnyHand.{FindsFirst, KnowsWalked, found_first}
use Rattle.far_evac.specs.Emptied.{EmptiesLogs, IsEmptied, LogsComeBackEmpty}
use Rattle.far_evac.specs.Live.{is_empty, live_in}
use Rattle.far_evac.specs.Moment.{Moment}
use Rattle.far_evac.specs.Walk.{Walked, begun, freed, left, passed, settled, way_of}
use Rattle.far_evac.proofs.Framed.{passed_frame, so_one}
use Rattle.far_evac.proofs.LiveOnce.{each_map}
use Rattle.far_evac.proofs.SmallSteps.{dealt_is, gone_so}

-- a log that is free, has tail 0, and isn't in the round, in parts
record IsBare (s : State) (l : ℕ) : Type 0 where
  free : s.kind l ≡ Free
  tail : s.tail l ≡ 0
  round : s.round l ≡ false

no_spans : (s : State) (l : ℕ) → s.tail l ≡ 0 → spans_of s l ≡ []
unfolding spans_of spans_in
no_spans s l e = ap (spans_in (word_in s l)) e

emptied_of : (s : State) (l : ℕ) → IsBare s l → IsEmptied s l
emptied_of s l bare = record { free = bare.free; tail = bare.tail; live = ap (taken_by (is_live s l)) (no_spans s l bare.tail); dead = ap (taken_by (λ span. not (is_live s l span))) (no_spans s l bare.tail); round = bare.round }

-- ---- logs in front are given back
freed_bare : (v : Walked) (l : ℕ) → IsBare (freed v l).moment.core l
freed_bare v l = record {
  free = put_same v.moment.core.kind l Free l refl;
  tail = put_same v.moment.core.tail l 0 l refl;
  round = put_same v.moment.core.round l false l refl;
}

still_bare : (v : Walked) (l k : ℕ) → IsBare v.moment.core k → IsBare (freed v l).moment.core k
still_bare v l k bare = record {
  free = put_both (λ x. x ≡ Free) v.moment.core.kind l Free k (λ _. refl) (λ _. bare.free);
  tail = put_both (λ x. x ≡ 0) v.moment.core.tail l 0 k (λ _. refl) (λ _. bare.tail);
  round = put_both (λ x. x ≡ false) v.moment.core.round l false k (λ _. refl) (λ _. bare.round);
}

passed_bare : (ls : List ℕ) (v : Walked) (k : ℕ) → IsBare v.moment.core k → IsBare (passed v ls).moment.core k
passed_bare [] v k bare = bare
passed_bare (l ∷ ls) v k bare = cond_both (is_empty (live_in v.moment.core l)) (passed (freed v l) ls) (record v { moment = record v.moment { collection = l ∷ ls } })
    (λ (w : Walked). IsBare w.moment.core k) (λ _. passed_bare ls (freed v l) k (still_bare v l k bare)) (λ _. bare)

-- from v, where these logs are the collection set, to w
record Passes (v : Walked) (ls : List ℕ) (w : Walked) : Type 0 where
  count : ℕ
  counted : w.tally.freed ≡ v.tally.freed + count
  held : w.moment.collection ≡ drop count ls
  bare : AllByRecursion (IsBare w.moment.core) (take count ls)

one_more : (a b n : ℕ) → a ≡ b + 1 + n → a ≡ b + suc n
one_more a b n e = omega (arith, e)

none_more : (a : ℕ) → a ≡ a + 0
none_more a = omega arith

passes : (ls : List ℕ) (v : Walked) → Passes v ls (passed v ls)
passes [] v = record { count = 0; counted = none_more v.tally.freed; held = refl; bare = tt }
passes (l ∷ ls) v = cond_both (is_empty (live_in v.moment.core l)) (passed (freed v l) ls) (record v { moment = record v.moment { collection = l ∷ ls } }) (Passes v (l ∷ ls))
    (λ _. let h = passes ls (freed v l) in record {
      count = suc h.count;
      counted = one_more (passed (freed v l) ls).tally.freed v.tally.freed h.count h.counted;
      held = h.held;
      bare = (passed_bare ls (freed v l) l (freed_bare v l), h.bare);
    })
    (λ _. record { count = 0; counted = none_more v.tally.freed; held = refl; bare = tt })

-- ---- as far as it is known
bare_known : (w t : Walked) → KnowsWalked w t → (l : ℕ) → IsBare w.moment.core l → IsBare t.moment.core l
bare_known w t known l bare = let e = known.moment.core.rest in record {
  free = ap (λ (s : State). s.kind l) e ∙ bare.free;
  tail = ap (λ (s : State). s.tail l) e ∙ bare.tail;
  round = ap (λ (s : State). s.round l) e ∙ bare.round;
}

empties : (u v t : Walked) → v.moment.collection ≡ u.moment.collection → v.tally.freed ≡ u.tally.freed → v.moment.core.epoch ≡ u.moment.core.epoch → KnowsWalked (settled v) t → EmptiesLogs u t
empties u v t held freed_same epoch known =
    let h = passes v.moment.collection v in record {
      count = h.count;
      counted = ap (λ x. x.freed) known.tally ∙ h.counted ∙ ap (λ x. x + h.count) freed_same;
      collection = ap (λ (x : Moment). x.collection) known.moment.rest ∙ h.held ∙ ap (drop h.count) held;
      emptied = subst (λ xs. AllByRecursion (IsEmptied t.moment.core) (take h.count xs)) held
          (each_map (λ l bare. emptied_of t.moment.core l (bare_known (settled v) t known l bare)) (take h.count v.moment.collection) h.bare);
      epoch = ap (λ (s : State). s.epoch) known.moment.core.rest ∙ ap (λ (w : Walked). w.moment.core.epoch) (passed_frame v.moment.collection v) ∙ epoch;
    }

dealt_empties : (u t : Walked) (word : ℕ) (ps : List ℕ) → FindsFirst false u word ps → KnowsWalked (found_first u word ps) t → EmptiesLogs u t
dealt_empties u t word [] finds leaves = absurd finds
dealt_empties u t word (p ∷ ps) finds leaves =
    let way = way_of u.moment.core (read_of word) in
    empties u (gone_so u u.moment.collection p way) t refl refl (ap (λ (s : State). s.epoch) (so_one u.moment.core p way).frame) (subst (λ v. KnowsWalked (settled v) t) (dealt_is u p way) leaves)

pub come_back_empty : LogsComeBackEmpty
come_back_empty m u t word = record {
  first = λ walks. empties (begun m) (begun m) t refl refl refl walks.0;
  each = λ deals. dealt_empties u t word (left u) deals.finds deals.leaves;
}
