-- The walk is a tour of stops that were listed before it began.
use Rattle.std.proofs.Common.{◌≡◌, ◌≢◌, ℕ, zero, suc, ◌+◌, ◌≤◌, Bool, true, false, cond, eqb, Option, Some, List, [], ◌∷◌, ◌++◌, map, arith, ap, sym, refl, ◌∙◌}
use Rattle.std.specs.List.{AllByRecursion, IsDistinct}
use Rattle.std.specs.Prelude.{fold}
use Rattle.std.proofs.lemmas.Bool.{eqb-false}
use Rattle.std.proofs.lemmas.Map.Keys.{IsDistinct-head, IsDistinct-tail}
use Rattle.far_word.specs.declared.pointer.Place.{Place}
use Rattle.far_word.specs.declared.pointer.PtrWord.{PtrWord}
use Rattle.far_word.specs.declared.sizes.TheConstants.{LOG_WORDS}
use Rattle.far_word.specs.Pointer.{read_of}
use Rattle.far_word.specs.Sizes.{size_of}
use Rattle.far_events.specs.declared.event.Kind.TheVariants as kinds
use Rattle.far_core.specs.state.Room.{room}
use Rattle.far_events.specs.state.State.{State}
use Rattle.far_events.proofs.Put.{put_both, put_other}
use Rattle.far_book.specs.book.Effects.{order_after}
use Rattle.far_hand.specs.Finds.{Finds, marks_in}
use Rattle.far_hand.proofs.Finding.{IsNearTo, finds_same, near_found}
use Rattle.far_evac.proofs.Bools.{neither}
use Rattle.far_evac.specs.declared.phase.Phase.{Phase}
use Rattle.far_evac.specs.declared.phase.Phase.TheVariants as phases
use Rattle.far_evac.specs.Live.{live_in, live_among, is_empty}
use Rattle.far_evac.specs.Moment.{Moment, Tally, nothing}
use Rattle.far_book.specs.book.Releasing.{released}
use Rattle.far_evac.specs.Stops.{Stop, Object, End, tour, front, stopped, toured}
use Rattle.far_evac.specs.Walk.{Walked, Way, Drops, Moves, Goes, begun, dealt_first, dealt_so, freed, hot_way, left, passed, settled, walked, way_of}
use Rattle.far_evac.specs.Ready.{Ready, IsOfRound}
use Rattle.far_evac.specs.Dealings.{is_away, is_nowhere}
use Rattle.far_events.specs.events.Clear.{is_near}
use Rattle.far_evac.proofs.Dealt.{Gone, Leaves, gone_dropped, gone_far, gone_moved, leaves_dropped, leaves_far, leaves_moved}
use Rattle.far_evac.proofs.LiveLists.{live_released}
use Rattle.far_evac.proofs.LiveOnce.{NearAt, but, but_first, but_none, first_named, near_at, not_there, once_live}

-- a walk by its parts
abbrev pub stand : State → List ℕ → Phase → Bool → List ℕ → Tally → Walked
stand s order phase copying held tally = record { moment = record { core = s; order = order; phase = phase; collection = held; copying = copying }; tally = tally }

-- ---- so many objects more
abbrev pub steps : ℕ → Walked → Walked
steps zero w = w
steps (suc n) w = let v = steps n w in dealt_first v (left v)

pub walked_steps : (m : Moment) (n : ℕ) → walked m n ≡ steps n (settled (begun m))
walked_steps m zero = refl
walked_steps m (suc n) = ap (λ v. dealt_first v (left v)) (walked_steps m n)

pub steps_first : (n : ℕ) (w : Walked) → steps (suc n) w ≡ steps n (dealt_first w (left w))
steps_first zero w = refl
steps_first (suc n) w = ap (λ v. dealt_first v (left v)) (steps_first n w)

pub steps_over : (n : ℕ) (w : Walked) → left w ≡ [] → steps n w ≡ w
steps_over zero w none = refl
steps_over (suc n) w none = ap (λ v. dealt_first v (left v)) (steps_over n w none) ∙ ap (dealt_first w) none

-- ---- the log in front is given back
-- no log stands twice in a list
pub others : (l : ℕ) (ls : List ℕ) → IsDistinct eqb (l ∷ ls) → AllByRecursion (λ k. k ≢ l) ls
others l ls once = go ls (IsDistinct-head eqb l ls once) where
  go : (ks : List ℕ) → AllByRecursion (λ k. eqb l k ≡ false) ks → AllByRecursion (λ k. k ≢ l) ks
  go [] h = tt
  go (k ∷ ks) h = (λ e. eqb-false l k h.0 (sym e), go ks h.1)

module _ (s : State) (l : ℕ) (ls : List ℕ) (ready : Ready s (l ∷ ls)) where
  held_on : (ks : List ℕ) → AllByRecursion (λ k. k ≢ l) ks → AllByRecursion (IsOfRound s) ks → AllByRecursion (IsOfRound (released s l)) ks
  held_on [] apart h = tt
  held_on (k ∷ ks) apart h = ((put_other s.kind l kinds.Free k apart.0 ∙ h.0.0, h.0.1, put_other s.round l false k apart.0 ∙ h.0.2), held_on ks apart.1 h.1)

  sealed_front : s.current ≢ l
  sealed_front e = let odd : kinds.Open ≡ kinds.Sealed = sym ready.opens ∙ ap s.kind e ∙ ready.logs.0.0 in absurd cc

  pub ready_released : Ready (released s l) ls
  ready_released = record {
    layout = ready.layout;
    short = λ k. put_both (λ tail. tail ≤ LOG_WORDS) s.tail l 0 k (λ _. omega arith) (λ _. ready.short k);
    opens = put_other s.kind l kinds.Free s.current sealed_front ∙ ready.opens;
    current = ready.current;
    few = ready.few;
    logs = held_on ls (others l ls ready.once) ready.logs.1;
    once = IsDistinct-tail eqb l ls ready.once;
  }

  tour_on : (ks : List ℕ) → AllByRecursion (λ k. k ≢ l) ks → tour (released s l) ks ≡ tour s ks
  tour_on [] apart = refl
  tour_on (k ∷ ks) apart = ap (λ live. (map Object live ++ (End k ∷ [])) ++ tour (released s l) ks) (live_released s l k apart.0)
      ∙ ap (λ stops. (map Object (live_in s k) ++ (End k ∷ [])) ++ stops) (tour_on ks apart.1)

  pub tour_released : tour (released s l) ls ≡ tour s ls
  tour_released = tour_on ls (others l ls ready.once)

-- what the collection set was before doesn't matter
pub passed_any : (w : Walked) (old ls : List ℕ) → passed (record w { moment = record w.moment { collection = old } }) ls ≡ passed w ls
passed_any w old [] = refl
passed_any w old (l ∷ ls) = ap (λ t. cond (is_empty (live_in w.moment.core l)) t (record w { moment = record w.moment { collection = l ∷ ls } })) (passed_any (freed w l) old ls)

-- ---- the first object is dealt with
module _ (s : State) (l : ℕ) (ls : List ℕ) (p : ℕ) (ps : List ℕ) (ready : Ready s (l ∷ ls)) (first : live_in s l ≡ p ∷ ps) (t : State) (after : Leaves s p t (l ∷ ls)) where
  rest_here : live_in t l ≡ ps
  rest_here = after.lists.0 ∙ ap (but p) first ∙ but_first p ps (once_live s l p ps first)

  pub rest_there : (ks : List ℕ) → AllByRecursion (λ k. k ≢ l) ks → AllByRecursion (λ k. live_in t k ≡ but p (live_in s k)) ks → AllByRecursion (λ k. live_in t k ≡ live_in s k) ks
  rest_there [] apart lists = tt
  rest_there (k ∷ ks) apart lists = (lists.0 ∙ but_none p (live_in s k) (not_there s k l p (first_named s l p ps first) apart.0), rest_there ks apart.1 lists.1)

  tour_same : (ks : List ℕ) → AllByRecursion (λ k. live_in t k ≡ live_in s k) ks → tour t ks ≡ tour s ks
  tour_same [] h = refl
  tour_same (k ∷ ks) h = ap (λ live. (map Object live ++ (End k ∷ [])) ++ tour t ks) h.0 ∙ ap (λ stops. (map Object (live_in s k) ++ (End k ∷ [])) ++ stops) (tour_same ks h.1)

  pub tour_next : tour t (l ∷ ls) ≡ (map Object ps ++ (End l ∷ [])) ++ tour s ls
  tour_next = ap (λ live. (map Object live ++ (End l ∷ [])) ++ tour t ls) rest_here
      ∙ ap (λ stops. (map Object ps ++ (End l ∷ [])) ++ stops) (tour_same ls (rest_there ls (others l ls ready.once) after.lists.1))

  left_same : (ks : List ℕ) → AllByRecursion (λ k. live_in t k ≡ live_in s k) ks → live_among t ks ≡ live_among s ks
  left_same [] h = refl
  left_same (k ∷ ks) h = ap (λ live. live ++ live_among t ks) h.0 ∙ ap (λ more. live_in s k ++ more) (left_same ks h.1)

  -- all others are left
  pub left_next : live_among t (l ∷ ls) ≡ ps ++ live_among s ls
  left_next = ap (λ live. live ++ live_among t ls) rest_here ∙ ap (λ more. ps ++ more) (left_same ls (rest_there ls (others l ls ready.once) after.lists.1))

-- why an object goes its way
pub moves_when : (dropped hot : Bool) (o : Option Place) (place : Place) → cond dropped Drops (cond hot (hot_way o) Goes) ≡ Moves place → (dropped ≡ false) × (o ≡ Some place)
moves_when false true (Some to) place e = (refl, cc)
moves_when _ _ _ place e = absurd cc

pub goes_when : (dropped hot : Bool) (o : Option Place) → cond dropped Drops (cond hot (hot_way o) Goes) ≡ Goes → dropped ≡ false
goes_when true hot o e = absurd cc
goes_when false hot o e = refl

-- the state after an object was dealt with in a way
abbrev pub core_so : State → ℕ → Way → State
core_so s p way = (dealt_so (stand s [] phases.Idle false [] nothing) p way).moment.core

-- what its cell says then
abbrev pub test_of : Way → Option PtrWord → Bool
test_of Drops = is_nowhere
test_of (Moves place) = is_near
test_of Goes = is_away

module _ (s : State) (l : ℕ) (ls : List ℕ) (p : ℕ) (ps : List ℕ) (ready : Ready s (l ∷ ls)) (first : live_in s l ≡ p ∷ ps) where
  abbrev here : ℕ
  here = (first_named s l p ps first).0

  at_home : NearAt (read_of (s.cell p)) l here
  at_home = near_at (read_of (s.cell p)) l here (first_named s l p ps first).1

  marked : at_home.marks.evac ≡ true
  marked = ready.logs.0.1 p at_home.len at_home.ds at_home.place at_home.marks at_home.near at_home.log

  -- a word that was found in its cell says the same place, and DROP where that was known
  module _ (word : ℕ) (finds : Finds (s.cell p) word) where
    found : IsNearTo (read_of word) at_home.len at_home.ds at_home.place at_home.marks.evac
    found = near_found (s.cell p) word finds at_home.len at_home.ds at_home.place at_home.marks at_home.near

    alive : found.marks.dropped ≡ false → at_home.marks.dropped ≡ false
    alive = neither found.marks.dropped at_home.marks.dropped
        (λ h. sym (ap (λ o. (marks_in o).dropped) found.near) ∙ finds.dropped (ap (λ o. (marks_in o).dropped) at_home.near ∙ h))

    pub leaves_found : (way : Way) → way_of s (read_of word) ≡ way → Leaves s p (core_so s p way) (l ∷ ls)
    leaves_found Drops e = leaves_dropped s (l ∷ ls) ready p
    leaves_found (Moves place) e =
        let why = moves_when found.marks.dropped found.marks.hot (room s (size_of at_home.len) false) place (sym (ap (way_of s) found.near) ∙ e) in
        leaves_moved s (l ∷ ls) ready p at_home.len at_home.ds at_home.place at_home.marks at_home.near marked (alive why.0) place why.1
    leaves_found Goes e =
        leaves_far s (l ∷ ls) ready p at_home.len at_home.ds at_home.place at_home.marks at_home.near marked
        (alive (goes_when found.marks.dropped found.marks.hot (room s (size_of at_home.len) false) (sym (ap (way_of s) found.near) ∙ e)))

    pub gone_found : (way : Way) → way_of s (read_of word) ≡ way → Gone s p (core_so s p way) (l ∷ ls) (test_of way)
    gone_found Drops e = gone_dropped s (l ∷ ls) ready p
    gone_found (Moves place) e =
        let why = moves_when found.marks.dropped found.marks.hot (room s (size_of at_home.len) false) place (sym (ap (way_of s) found.near) ∙ e) in
        gone_moved s (l ∷ ls) ready p at_home.len at_home.ds at_home.place at_home.marks at_home.near marked (alive why.0) place why.1
    gone_found Goes e =
        gone_far s (l ∷ ls) ready p at_home.len at_home.ds at_home.place at_home.marks at_home.near marked
        (alive (goes_when found.marks.dropped found.marks.hot (room s (size_of at_home.len) false) (sym (ap (way_of s) found.near) ∙ e)))

  pub leaves_so : (way : Way) → way_of s (read_of (s.cell p)) ≡ way → Leaves s p (core_so s p way) (l ∷ ls)
  leaves_so = leaves_found (s.cell p) (finds_same (s.cell p))

-- ---- stop after stop
abbrev pub first_live : State → List ℕ → List ℕ
first_live s [] = []
first_live s (l ∷ ls) = live_in s l

abbrev Tours : List Stop → ℕ → Phase → Bool → State → List ℕ → List ℕ → Tally → Type 0
Tours stops n phase copying s order held tally = Ready s held → tour s held ≡ stops → fold stopped (stand s order phase copying held tally) (front n stops) ≡ steps n (settled (stand s order phase copying held tally))

dealt_tours : (rest : List Stop) (n : ℕ) (phase : Phase) (copying : Bool) (s : State) (order : List ℕ) (l : ℕ) (ls : List ℕ) (tally : Tally) (p : ℕ) (ps : List ℕ) →
    Ready s (l ∷ ls) → live_in s l ≡ p ∷ ps → (map Object ps ++ (End l ∷ [])) ++ tour s ls ≡ rest →
    ((t : State) (now : List ℕ) (sum : Tally) → Tours rest n phase copying t now (l ∷ ls) sum) →
    (way : Way) → way_of s (read_of (s.cell p)) ≡ way →
    fold stopped (dealt_so (stand s order phase copying (l ∷ ls) tally) p way) (front n rest) ≡ steps n (settled (dealt_so (stand s order phase copying (l ∷ ls) tally) p way))
dealt_tours rest n phase copying s order l ls tally p ps ready first is next Drops e =
    let after = leaves_so s l ls p ps ready first Drops e in
    next (core_so s p Drops) order (record tally { dropped = tally.dropped + 1 }) after.ready (tour_next s l ls p ps ready first (core_so s p Drops) after ∙ is)
dealt_tours rest n phase copying s order l ls tally p ps ready first is next (Moves place) e =
    let after = leaves_so s l ls p ps ready first (Moves place) e in
    next (core_so s p (Moves place)) (order_after s order place) (record tally { moved = tally.moved + 1 }) after.ready (tour_next s l ls p ps ready first (core_so s p (Moves place)) after ∙ is)
dealt_tours rest n phase copying s order l ls tally p ps ready first is next Goes e =
    let after = leaves_so s l ls p ps ready first Goes e in
    next (core_so s p Goes) order (record tally { far = tally.far + 1 }) after.ready (tour_next s l ls p ps ready first (core_so s p Goes) after ∙ is)

-- what begins with an object or an end is no other list
tours : (stops : List Stop) (n : ℕ) (phase : Phase) (copying : Bool) (s : State) (order held : List ℕ) (tally : Tally) (live : List ℕ) → first_live s held ≡ live → Tours stops n phase copying s order held tally
tours [] n phase copying s order [] tally live f = λ ready e. sym (steps_over n (stand s order phase copying [] tally) refl)
tours [] n phase copying s order (l ∷ ls) tally [] f = λ ready e. let odd : End l ∷ tour s ls ≡ [] = sym (ap (λ xs. (map Object xs ++ (End l ∷ [])) ++ tour s ls) f) ∙ e in absurd cc
tours [] n phase copying s order (l ∷ ls) tally (p ∷ ps) f =
    λ ready e. let odd : Object p ∷ ((map Object ps ++ (End l ∷ [])) ++ tour s ls) ≡ [] = sym (ap (λ xs. (map Object xs ++ (End l ∷ [])) ++ tour s ls) f) ∙ e in absurd cc
tours (End k ∷ rest) n phase copying s order (l ∷ ls) tally [] f = λ ready e.
    let both : End l ∷ tour s ls ≡ End k ∷ rest = sym (ap (λ xs. (map Object xs ++ (End l ∷ [])) ++ tour s ls) f) ∙ e in
    let same : l ≡ k = cc in
    let more : tour s ls ≡ rest = cc in
    let w = stand s order phase copying (l ∷ ls) tally in
    let v = stopped w (End l) in
    ap (λ x. fold stopped (stopped w (End x)) (front n rest)) (sym same)
    ∙ tours rest n phase copying (released s l) v.moment.order ls v.tally (first_live (released s l) ls) refl (ready_released s l ls ready) (tour_released s l ls ready ∙ more)
    ∙ ap (steps n) (passed_any (freed w l) ls ls ∙ sym (ap (λ xs. cond (is_empty xs) (passed (freed w l) ls) w) f))
tours (End k ∷ rest) n phase copying s order (l ∷ ls) tally (p ∷ ps) f =
    λ ready e. let odd : Object p ∷ ((map Object ps ++ (End l ∷ [])) ++ tour s ls) ≡ End k ∷ rest = sym (ap (λ xs. (map Object xs ++ (End l ∷ [])) ++ tour s ls) f) ∙ e in absurd cc
tours (Object q ∷ rest) n phase copying s order (l ∷ ls) tally [] f =
    λ ready e. let odd : End l ∷ tour s ls ≡ Object q ∷ rest = sym (ap (λ xs. (map Object xs ++ (End l ∷ [])) ++ tour s ls) f) ∙ e in absurd cc
tours (Object q ∷ rest) zero phase copying s order (l ∷ ls) tally (p ∷ ps) f = λ ready e.
    let w = stand s order phase copying (l ∷ ls) tally in sym (ap (λ xs. cond (is_empty xs) (passed (freed w l) ls) w) f)
tours (Object q ∷ rest) (suc n) phase copying s order (l ∷ ls) tally (p ∷ ps) f = λ ready e.
    let both : Object p ∷ ((map Object ps ++ (End l ∷ [])) ++ tour s ls) ≡ Object q ∷ rest = sym (ap (λ xs. (map Object xs ++ (End l ∷ [])) ++ tour s ls) f) ∙ e in
    let same : p ≡ q = cc in
    let more : (map Object ps ++ (End l ∷ [])) ++ tour s ls ≡ rest = cc in
    let w = stand s order phase copying (l ∷ ls) tally in
    let rests : settled w ≡ w = ap (λ xs. cond (is_empty xs) (passed (freed w l) ls) w) f in
    let lives : left w ≡ p ∷ (ps ++ live_among s ls) = ap (λ xs. xs ++ live_among s ls) f in
    ap (λ x. fold stopped (stopped w (Object x)) (front n rest)) (sym same)
    ∙ dealt_tours rest n phase copying s order l ls tally p ps ready f more (λ t now sum. tours rest n phase copying t now (l ∷ ls) sum (live_in t l) refl) (way_of s (read_of (s.cell p))) refl
    ∙ sym (ap (steps (suc n)) rests ∙ steps_first n w ∙ ap (λ xs. steps n (dealt_first w xs)) lives)
tours _ n phase copying s order [] tally live f = λ ready e. absurd cc

-- where a walk may go on, it is the tour
pub walk_tours : (m : Moment) (n : ℕ) → Ready m.core m.collection → walked m n ≡ toured m n
walk_tours m n ready = walked_steps m n ∙ sym (tours (tour m.core m.collection) n m.phase m.copying m.core m.order m.collection nothing (first_live m.core m.collection) refl ready refl)
