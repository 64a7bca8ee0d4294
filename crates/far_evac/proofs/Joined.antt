-- Two walks, one after the other, are one walk.
use Rattle.std.proofs.Common.{◌≡◌, ℕ, zero, suc, ◌+◌, cond, List, [], ◌∷◌, arith, ap, sym, refl, ◌∙◌, Bool}
use Rattle.std.proofs.lemmas.Bool.{cond_both}
use Rattle.far_word.specs.Pointer.{read_of}
use Rattle.far_events.specs.state.State.{State}
use Rattle.far_evac.specs.declared.phase.Phase.{Phase}
use Rattle.far_evac.specs.Dealings.{BeginsLive}
use Rattle.far_evac.specs.Laws.{with_before}
use Rattle.far_evac.specs.Live.{live_in, is_empty}
use Rattle.far_evac.specs.Moment.{Moment, Tally, nothing, plus}
use Rattle.far_evac.specs.Walk.{Walked, Way, Drops, Moves, Goes, begun, dealt_first, dealt_so, freed, left, passed, settled, walked, way_of}
use Rattle.far_evac.proofs.SmallSteps.{walked_front}
use Rattle.far_evac.proofs.Tours.{stand, steps, walked_steps}

-- ---- what was done before is only added
abbrev tally_of : ℕ → ℕ → ℕ → ℕ → Tally
tally_of moved far dropped freed = record { moved = moved; far = far; dropped = dropped; freed = freed }

add_one : (a b : ℕ) → a + b + 1 ≡ a + (b + 1)
add_one a b = omega arith

module _ (x : Tally) where
  so_before : (w : Walked) (p : ℕ) (way : Way) → dealt_so (with_before x w) p way ≡ with_before x (dealt_so w p way)
  so_before w p Drops = ap (λ n. record (dealt_so w p Drops) { tally = tally_of (x.moved + w.tally.moved) (x.far + w.tally.far) n (x.freed + w.tally.freed) }) (add_one x.dropped w.tally.dropped)
  so_before w p (Moves place) =
      ap (λ n. record (dealt_so w p (Moves place)) { tally = tally_of n (x.far + w.tally.far) (x.dropped + w.tally.dropped) (x.freed + w.tally.freed) }) (add_one x.moved w.tally.moved)
  so_before w p Goes = ap (λ n. record (dealt_so w p Goes) { tally = tally_of (x.moved + w.tally.moved) n (x.dropped + w.tally.dropped) (x.freed + w.tally.freed) }) (add_one x.far w.tally.far)

  freed_before : (w : Walked) (l : ℕ) → freed (with_before x w) l ≡ with_before x (freed w l)
  freed_before w l = ap (λ n. record (freed w l) { tally = tally_of (x.moved + w.tally.moved) (x.far + w.tally.far) (x.dropped + w.tally.dropped) n }) (add_one x.freed w.tally.freed)

  passed_before : (ls : List ℕ) (w : Walked) → passed (with_before x w) ls ≡ with_before x (passed w ls)
  passed_before [] w = refl
  passed_before (l ∷ ls) w = cond_both (is_empty (live_in w.moment.core l)) (passed (freed w l) ls) (record w { moment = record w.moment { collection = l ∷ ls } })
      (λ (v : Walked). cond (is_empty (live_in w.moment.core l)) (passed (freed (with_before x w) l) ls) (with_before x (record w { moment = record w.moment { collection = l ∷ ls } })) ≡ with_before x v)
      (λ none. ap (λ b. cond b (passed (freed (with_before x w) l) ls) (with_before x (record w { moment = record w.moment { collection = l ∷ ls } }))) none
      ∙ ap (λ v. passed v ls) (freed_before w l) ∙ passed_before ls (freed w l))
      (λ some. ap (λ b. cond b (passed (freed (with_before x w) l) ls) (with_before x (record w { moment = record w.moment { collection = l ∷ ls } }))) some)

  first_before : (w : Walked) (ps : List ℕ) → dealt_first (with_before x w) ps ≡ with_before x (dealt_first w ps)
  first_before w [] = refl
  first_before w (p ∷ ps) =
      let way = way_of w.moment.core (read_of (w.moment.core.cell p)) in
      ap settled (so_before w p way) ∙ passed_before (dealt_so w p way).moment.collection (dealt_so w p way)

  steps_before : (n : ℕ) (w : Walked) → steps n (with_before x w) ≡ with_before x (steps n w)
  steps_before zero w = refl
  steps_before (suc n) w = ap (λ v. dealt_first v (left v)) (steps_before n w) ∙ first_before (steps n w) (left (steps n w))

-- ---- a walk that has stopped begins again where it stands
settled_front : (s : State) (order : List ℕ) (phase : Phase) (copying : Bool) (held : List ℕ) (tally : Tally) → BeginsLive s held → settled (stand s order phase copying held tally) ≡ stand s order phase copying held tally
settled_front s order phase copying [] tally begins = refl
settled_front s order phase copying (l ∷ ls) tally begins = ap (λ b. cond b (passed (freed (stand s order phase copying (l ∷ ls) tally) l) ls) (stand s order phase copying (l ∷ ls) tally)) begins

none_more : (n : ℕ) → n + 0 ≡ n
none_more n = omega arith

pub plus_nothing : (t : Tally) → plus t nothing ≡ t
plus_nothing t =
    ap (λ n. tally_of n (t.far + 0) (t.dropped + 0) (t.freed + 0)) (none_more t.moved) ∙ ap (λ n. tally_of t.moved n (t.dropped + 0) (t.freed + 0)) (none_more t.far)
    ∙ ap (λ n. tally_of t.moved t.far n (t.freed + 0)) (none_more t.dropped) ∙ ap (λ n. tally_of t.moved t.far t.dropped n) (none_more t.freed)

walked_on : (m : Moment) (a b : ℕ) → walked m (a + b) ≡ steps b (walked m a)
walked_on m a zero = ap (walked m) (none_more a)
walked_on m a (suc b) = let more : a + suc b ≡ suc (a + b) = omega arith in ap (walked m) more ∙ ap (λ v. dealt_first v (left v)) (walked_on m a b)

abbrev walk_at : Moment → Tally → Walked
walk_at m tally = record { moment = m; tally = tally }

pub walks_join : (m : Moment) (a b : ℕ) → walked m (a + b) ≡ with_before (walked m a).tally (walked (walked m a).moment b)
walks_join m a b =
    let w = walked m a in
    let begins_again : settled (begun w.moment) ≡ begun w.moment = settled_front w.moment.core w.moment.order w.moment.phase w.moment.copying w.moment.collection nothing (walked_front m a) in
    walked_on m a b
    ∙ ap (λ tally. steps b (walk_at w.moment tally)) (sym (plus_nothing w.tally))
    ∙ steps_before w.tally b (begun w.moment)
    ∙ ap (with_before w.tally) (sym (walked_steps w.moment b ∙ ap (steps b) begins_again))
