-- An object leaves its log as a word says that was found in its cell.
use Rattle.std.proofs.Common.{◌≡◌, ℕ, ◌*◌, ◌/◌, ◌<◌, ◌||◌, ◌&&◌, Bool, true, false, cond, eqb, Option, Some, None, Result, Ok, Err, List, [], ◌∷◌, ◌++◌, IfOk, IfErr, IfSome, IfNone, MatchOption, arith, ap, sym, refl, ◌∙◌, subst}
use Rattle.std.proofs.lemmas.Bool.{eq-eqb, true≢false, false_from_ne_true, or_parts}
use Rattle.far_word.specs.declared.pointer.Place.{Place}
use Rattle.far_word.specs.declared.pointer.PtrWord.TheVariants.{Free, Near, Far}
use Rattle.far_word.specs.declared.pointer.PtrWord.{PtrWord}
use Rattle.far_word.specs.declared.refused.Refused.{Refused}
use Rattle.far_word.specs.declared.sizes.TheConstants.{CELLS}
use Rattle.far_word.specs.Pointer.{IsPtr, read_of}
use Rattle.far_word.specs.Sizes.{size_of}
use Rattle.far_word.proofs.PointerLaws.{read_says}
use Rattle.far_events.specs.events.Naming.{is_dropped, no_marks}
use Rattle.far_events.specs.state.Law.{Law, is_dirty}
use Rattle.far_core.specs.state.Room.{room}
use Rattle.far_events.specs.state.State.{State}
use Rattle.far_events.proofs.Copied.{NoCopy}
use Rattle.far_events.proofs.Put.{put_same}
use Rattle.far_hand.specs.Finds.{Finds, body_of, marks_in}
use Rattle.far_book.specs.book.Dealing.{IsRetired, IsSeen, goal, has_evac, moved_now, order_moved, MovedBy}
use Rattle.far_hand.specs.Quiet.{IsQuietNear}
use Rattle.far_book.specs.book.Effects.{evicted, moved, order_after, retired, stayed, with_free_cell}
use Rattle.far_book.specs.book.Evicting.{GoesFar}
use Rattle.far_book.specs.book.Own.{own_part}
use Rattle.far_book.specs.book.Renaming.{seen}
use Rattle.far_book.specs.book.SealedLogs.{KeepsSealed}
use Rattle.far_hand.proofs.Finding.{IsNearTo, finds_more, finds_same, near_found}
use Rattle.far_hand.proofs.RoundSteps.{quiet_seen}
use Rattle.far_book.proofs.region.Calls.{put_put}
use Rattle.far_book.proofs.region.Evictions.{evicted_is}
use Rattle.far_book.proofs.region.Moved.{drop_of, evac_of, goal_there, no_copy_in_room}
use Rattle.far_book.proofs.region.Retires.{retired_is}
use Rattle.far_book.proofs.region.SealedKept.{sealed_logs_kept}
use Rattle.far_evac.specs.declared.evac.evacuating.Fate.{Fate}
use Rattle.far_evac.specs.declared.evac.evacuating.Fate.TheVariants as fates
use Rattle.far_evac.specs.declared.phase.Phase.TheVariants.{Evacuating}
use Rattle.far_evac.specs.AnyHand.{Knows}
use Rattle.far_evac.specs.Asked.{IsToBeWritten}
use Rattle.far_evac.specs.Leaving.{GoesAway, LeavesAs, LeavesBy, core_by, fate_by, goes_near, near_fate, order_by}
use Rattle.far_evac.specs.Live.{live_in, live_among}
use Rattle.far_evac.specs.Moment.{Moment}
use Rattle.far_evac.specs.MomentLaw.{MomentLaw, has_risen}
use Rattle.far_evac.specs.RoundSteps.{among}
use Rattle.far_evac.specs.Walk.{Way, Drops, Goes, Moves, hot_way, way_of}
use Rattle.far_evac.proofs.Bools.{neither}
use Rattle.far_evac.proofs.Dealt.{NewPlace, room_new}
use Rattle.far_evac.proofs.Hands.{evicted_seen, freed_seen, knows_far, knows_left, knows_more, knows_seen, knows_spans, knows_words, moved_more}
use Rattle.far_evac.proofs.LiveOnce.{LivesIn, first_named, near_at}
use Rattle.far_evac.proofs.Tours.{goes_when, moves_when}
use Rattle.far_evac.proofs.Leading.{not_zero}

or_other : (a b : Bool) → (a || b) ≡ true → a ≡ false → b ≡ true
or_other true b h none = absurd (true≢false none)
or_other false b h none = h

-- ---- a quiet near object with EVAC
module _ (s : State) (p : ℕ) (q : IsQuietNear s p) (law : Law (own_part s)) (evac : has_evac (read_of (s.cell p)) ≡ true) where
  pub wanted : q.marks.evac ≡ true
  wanted = evac_of (read_of (s.cell p)) true q.len q.ds q.place q.marks q.near evac

  layout : IsPtr (Near q.len q.ds q.place no_marks)
  layout = (read_says (s.cell p) (Near q.len q.ds q.place q.marks) (law.cells.cell_read p).0 q.near).0

  far_layout : IsPtr (Far q.len q.ds no_marks)
  far_layout = (layout.0, layout.1, layout.2, refl, refl)

  to_layout : (to : Place) → room s (size_of q.len) false ≡ Some to → IsPtr (Near q.len q.ds to no_marks)
  to_layout to is =
      let current = law.logs.log_range s.current (λ free. let odd = sym free ∙ law.logs.is_open in absurd cc) in
      let new : NewPlace s (size_of q.len) to = room_new s law.logs.is_open current (size_of q.len) (omega (arith, layout.4)) to is in
      (layout.0, layout.1, layout.2, omega (arith, new.log, law.shape.few_logs), new.fits)

  uncopied : (to : Place) → room s (size_of q.len) false ≡ Some to → NoCopy s.copying p q.place to
  uncopied to is = no_copy_in_room s law p (size_of q.len) q.place to false (omega arith) (omega (arith, layout.4)) is

  -- it went far, and its cell said before that it isn't dropped
  pub far_known : (t : State) → Law (own_part t) → is_dropped (read_of (s.cell p)) ≡ false → GoesFar s t p → Knows (evicted s p) t
  far_known t new alive goes =
      let undropped = drop_of (read_of (s.cell p)) q.len q.ds q.place q.marks q.near alive in
      knows_far s t p q.len q.ds q.place q.marks q.near far_layout (evicted_is s p q.len q.ds q.place far_layout q.marks q.near undropped wanted) goes new

  -- ---- a word that was found in its cell
  module _ (w : ℕ) (finds : Finds (s.cell p) w) where
    pub found : IsNearTo (read_of w) q.len q.ds q.place q.marks.evac
    found = near_found (s.cell p) w finds q.len q.ds q.place q.marks q.near

    pub alive_before : found.marks.dropped ≡ false → q.marks.dropped ≡ false
    alive_before = neither found.marks.dropped q.marks.dropped
        (λ h. sym (ap (λ o. (marks_in o).dropped) found.near) ∙ finds.dropped (ap (λ o. (marks_in o).dropped) q.near ∙ h))

    abbrev hot_one : Way
    hot_one = hot_way (room s (size_of q.len) false)

    pub drops : is_dropped (read_of w) ≡ true → way_of s (read_of w) ≡ Drops
    drops h = ap (way_of s) found.near ∙ ap (λ b. cond b Drops (cond found.marks.hot hot_one Goes)) (sym (ap is_dropped found.near) ∙ h)

    cold : goes_near (read_of w) ≡ false → way_of s (read_of w) ≡ Goes
    cold h =
        let none = or_parts found.marks.dropped found.marks.hot (sym (ap goes_near found.near) ∙ h) in
        ap (way_of s) found.near ∙ ap (λ b. cond b Drops (cond found.marks.hot hot_one Goes)) none.0 ∙ ap (λ b. cond b hot_one Goes) none.1

    -- it was to go far at once, and its write was refused
    pub owed_cold : goes_near (read_of w) ≡ false → (still : Type 0) → (still → w ≡ s.cell p) → (t : State) → is_dirty (read_of (t.cell p)) ≡ true → IsToBeWritten still s t p
    owed_cold h still exact t dirty = record { word = w; found = finds; goes = cold h; dirty = dirty; exact = exact }

    pub cold_alive : goes_near (read_of w) ≡ false → is_dropped (read_of w) ≡ false
    cold_alive h = ap is_dropped found.near ∙ (or_parts found.marks.dropped found.marks.hot (sym (ap goes_near found.near) ∙ h)).0

    hot : goes_near (read_of w) ≡ true → is_dropped (read_of w) ≡ false → way_of s (read_of w) ≡ hot_one
    hot h alive =
        let undropped : found.marks.dropped ≡ false = sym (ap is_dropped found.near) ∙ alive in
        ap (way_of s) found.near ∙ ap (λ b. cond b Drops (cond found.marks.hot hot_one Goes)) undropped
        ∙ ap (λ b. cond b hot_one Goes) (or_other found.marks.dropped found.marks.hot (sym (ap goes_near found.near) ∙ h) undropped)

    -- ---- the state in which it was found
    word_here : (seen s p w).cell p ≡ w
    word_here = put_same s.cell p w p refl

    pub evac_seen : has_evac (read_of ((seen s p w).cell p)) ≡ true
    evac_seen = ap (λ x. has_evac (read_of x)) word_here ∙ ap has_evac found.near ∙ found.same ∙ wanted

    pub evac_found : (u : State) → u ≡ seen s p w → has_evac (read_of (u.cell p)) ≡ true
    evac_found u is = subst (λ (x : State). has_evac (read_of (x.cell p)) ≡ true) (sym is) evac_seen

    pub quiet_here : (u : State) → u ≡ seen s p w → IsQuietNear u p
    quiet_here u is = subst (λ (x : State). IsQuietNear x p) (sym is) (quiet_seen s p w finds q)

    pub later_found : (v : ℕ) → Finds ((seen s p w).cell p) v → Finds (s.cell p) v
    later_found v f = finds_more (s.cell p) w v finds (subst (λ x. Finds x v) word_here f)

    pub evicted_there : is_dropped (read_of w) ≡ false → evicted (seen s p w) p ≡ evicted s p
    evicted_there alive = evicted_seen s p w q.len q.ds q.place q.marks q.near finds alive wanted far_layout

    pub moved_there : is_dropped (read_of w) ≡ false → (place : Place) → room s (size_of q.len) false ≡ Some place → Knows (moved s p place) (moved (seen s p w) p place)
    moved_there alive place there = moved_more s p w q.len q.ds q.place q.marks q.near finds alive wanted place (to_layout place there) (uncopied place there)

  -- a DROP was found later
  drop_leaves : (w : ℕ) → Finds (s.cell p) w → (t : State) (order after : List ℕ) (v : ℕ) → Finds ((seen s p w).cell p) v → is_dropped (read_of v) ≡ true → Knows (with_free_cell (seen s p w) p) t → after ≡ order →
      LeavesBy s order t after p fates.Dropped
  drop_leaves w finds t order after v later dropped knows same =
      let here = later_found w finds v later in
      let way = drops v here dropped in record {
        word = v;
        found = here;
        core = subst (λ x. Knows (core_by s p x) t) (sym way) (subst (λ x. Knows x t) (freed_seen s p w) knows);
        sealed = same ∙ sym (ap (order_by s order) way);
        is = sym (ap fate_by way);
      }

  -- it went far, or a DROP was found meanwhile, in a state where another word was found than that which sent it
  away : (w v : ℕ) → Finds (s.cell p) w → Finds (s.cell p) v → is_dropped (read_of v) ≡ false → way_of s (read_of w) ≡ Goes → (t : State) (order after : List ℕ) → after ≡ order → (fate : Fate) →
      GoesAway (seen s p v) t p fate → LeavesBy s order t after p fate
  away w v finds later alive way t order after same fates.Moved goes = absurd goes
  away w v finds later alive way t order after same fates.Far goes = record {
    word = w;
    found = finds;
    core = subst (λ x. Knows (core_by s p x) t) (sym way) (subst (λ x. Knows x t) (evicted_there v later alive) goes);
    sealed = same ∙ sym (ap (order_by s order) way);
    is = sym (ap fate_by way);
  }
  away w v finds later alive way t order after same fates.Dropped goes = drop_leaves v later t order after goes.0 goes.1 goes.2 goes.3 same

  -- ---- what send_off does: w was found in u, and t is where it ends
  module _ (w : ℕ) (finds : Finds (s.cell p) w) (u : State) (is : u ≡ seen s p w) (t : State) (order after : List ℕ) where
    pub sent_cold : goes_near (read_of w) ≡ false → after ≡ order → (fate : Fate) → GoesAway u t p fate → LeavesBy s order t after p fate
    sent_cold h same fate goes =
        away w w finds finds (cold_alive w finds h) (cold w finds h) t order after same fate (subst (λ (x : State). GoesAway x t p fate) is goes)

    pub sent_dropped : (still : Type 0) → Law (own_part t) → IsRetired still u t p → after ≡ order → LeavesBy s order t after p fates.Dropped
    sent_dropped still new gone same =
        let knows : Knows (with_free_cell u p) t = knows_spans (with_free_cell u p) t gone.leaves new in
        drop_leaves w finds t order after gone.word (subst (λ (x : State). Finds (x.cell p) gone.word) is gone.found) gone.dropped (subst (λ (x : State). Knows (with_free_cell x p) t) is knows) same

    -- what move_now says of it in u
    here_evac : IsNearTo (read_of (u.cell p)) q.len q.ds q.place q.marks.evac
    here_evac = let f = found w finds in record { marks = f.marks; near = ap (λ (x : State). read_of (x.cell p)) is ∙ ap read_of (word_here w finds) ∙ f.near; same = f.same }

    pub goal_is : goal u p ≡ room s (size_of q.len) false
    goal_is = goal_there u p (quiet_here w finds u is) q.len q.ds q.place here_evac.marks here_evac.near (here_evac.same ∙ wanted) ∙ ap (λ (x : State). room x (size_of q.len) false) is

    order_is : (place : Place) → order_moved u p order place ≡ order_after s order place
    order_is place = ap (λ b. cond b (order_after u order place) order) (evac_found w finds u is) ∙ ap (λ (x : State). order_after x order place) is

    pub sent_near : goes_near (read_of w) ≡ true → (is_dropped (read_of (u.cell p)) ≡ true → ⊥) → (place : Place) → goal u p ≡ Some place → Law (own_part t) → MovedBy u t p place →
        after ≡ order_moved u p order place → LeavesBy s order t after p fates.Moved
    sent_near h undropped place to new by sealed =
        let there : room s (size_of q.len) false ≡ Some place = sym goal_is ∙ to in
        let alive : is_dropped (read_of w) ≡ false = false_from_ne_true (is_dropped (read_of w)) (λ d. undropped (ap (λ (x : State). is_dropped (read_of (x.cell p))) is ∙ ap (λ x. is_dropped (read_of x)) (word_here w finds) ∙ d)) in
        let way : way_of s (read_of w) ≡ Moves place = hot w finds h alive ∙ ap hot_way there in
        let v = by.word in
        let later = later_found w finds v (subst (λ (x : State). Finds (x.cell p) v) is by.found) in
        let at : moved_now (seen u p v) p place ≡ moved (seen s p v) p place =
        ap (λ (x : State). moved_now (seen x p v) p place) is
        ∙ (λ i. moved_now (record s { cell = put_put s.cell p w v i }) p place)
        ∙ ap (λ b. cond b (moved (seen s p v) p place) (stayed (seen s p v) p)) (evac_seen v later) in
        let moves = knows_more (moved s p place) (moved (seen s p v) p place) t (moved_there v later by.alive place there) (subst (λ x. Knows x t) at (knows_left (moved_now (seen u p v) p place) t by.leaves new)) in
        record {
          word = w;
          found = finds;
          core = subst (λ x. Knows (core_by s p x) t) (sym way) moves;
          sealed = sealed ∙ order_is place ∙ sym (ap (order_by s order) way);
          is = sym (ap fate_by way);
        }

    -- it lies elsewhere, or was found dropped
    pub sent_there : (still : Type 0) → goes_near (read_of w) ≡ true → (o : Option Place) (before : List ℕ) → before ≡ order → ((x y : Result (Option Place) Refused) → x ≡ Ok o → y ≡ Ok None → is_dropped (read_of (u.cell p)) ≡ true → x ≡ y) →
        IfSome o (λ place. goal u p ≡ Some place) → Law (own_part t) → IfSome o (λ place. MovedBy u t p place) → IfNone o (IsRetired still u t p) →
        MatchOption o (after ≡ before) (λ place. after ≡ order_moved u p before place) → LeavesBy s order t after p (near_fate o)
    sent_there still h (Some place) before same asked to new leaves gone sealed =
        sent_near h (λ d. let odd : Ok (Some place) ≡ Ok None = asked (Ok (Some place)) (Ok None) refl refl d in absurd cc) place to new leaves (subst (λ order. after ≡ order_moved u p order place) same sealed)
    sent_there still h None before same asked to new leaves gone sealed = sent_dropped still new gone (sealed ∙ same)

    -- there was no room
    found_alive : (is_dropped (read_of (u.cell p)) ≡ true → ⊥) → is_dropped (read_of w) ≡ false
    found_alive undropped = false_from_ne_true (is_dropped (read_of w)) (λ d. undropped (ap (λ (x : State). is_dropped (read_of (x.cell p))) is ∙ ap (λ x. is_dropped (read_of x)) (word_here w finds) ∙ d))

    crowded : goes_near (read_of w) ≡ true → (is_dropped (read_of (u.cell p)) ≡ true → ⊥) → goal u p ≡ None → way_of s (read_of w) ≡ Goes
    crowded near undropped none = hot w finds near (found_alive undropped) ∙ ap hot_way (sym goal_is ∙ none)

    pub owed_away : goes_near (read_of w) ≡ true → (is_dropped (read_of (u.cell p)) ≡ true → ⊥) → goal u p ≡ None → (still : Type 0) → (still → w ≡ s.cell p) → is_dirty (read_of (t.cell p)) ≡ true → IsToBeWritten still s t p
    owed_away near undropped none still exact dirty = record { word = w; found = finds; goes = crowded near undropped none; dirty = dirty; exact = exact }

    -- v is where it was sent far from then
    pub sent_away : goes_near (read_of w) ≡ true → (is_dropped (read_of (u.cell p)) ≡ true → ⊥) → goal u p ≡ None → (v : State) (h : IsSeen u v p) → v.word ≡ u.word → after ≡ order → (fate : Fate) →
        GoesAway v t p fate → LeavesBy s order t after p fate
    sent_away near undropped none v h words same fate goes =
        let way : way_of s (read_of w) ≡ Goes = crowded near undropped none in
        let later : Finds (s.cell p) h.word = later_found w finds h.word (subst (λ (x : State). Finds (x.cell p) h.word) is h.found) in
        away w h.word finds later h.alive way t order after same fate (subst (λ (x : State). GoesAway x t p fate) (seen_again v h words) goes) where
          seen_again : (v : State) (h : IsSeen u v p) → v.word ≡ u.word → v ≡ seen s p h.word
          seen_again v h words = h.leads ∙ (λ i. record (seen u p h.word) { word = words i }) ∙ ap (λ (x : State). seen x p h.word) is ∙ (λ i. record s { cell = put_put s.cell p w h.word i })

-- a quiet object is quiet still, where words were read and one was found in its cell
pub quiet_still : (s t : State) (p : ℕ) → IsSeen s t p → IsQuietNear s p → IsQuietNear t p
quiet_still s t p h q =
    let r = quiet_seen s p h.word h.found q in
    subst (λ (x : State). IsQuietNear x p) (sym h.leads) record { len = r.len; ds = r.ds; place = r.place; marks = r.marks; near = r.near; quiet = r.quiet }

-- the cell then, and its EVAC
pub cell_then : (s t : State) (p : ℕ) (h : IsSeen s t p) → t.cell p ≡ h.word
cell_then s t p h = ap (λ (x : State). x.cell p) h.leads ∙ put_same s.cell p h.word p refl

pub evac_still : (s t : State) (p : ℕ) → IsSeen s t p → has_evac (read_of (s.cell p)) ≡ true → has_evac (read_of (t.cell p)) ≡ true
evac_still s t p h evac =
    ap (λ w. has_evac (read_of w)) (cell_then s t p h) ∙ sym (evac_body (read_of h.word)) ∙ ap has_evac h.found.body ∙ evac_body (read_of (s.cell p)) ∙ evac where
      evac_body : (o : Option PtrWord) → has_evac (body_of o) ≡ has_evac o
      evac_body None = refl
      evac_body (Some Free) = refl
      evac_body (Some (Near len ds place marks)) = refl
      evac_body (Some (Far len ds marks)) = refl

-- ---- where no word changes but by this: the cell says how it leaves, u is that state still, and t is where it ends
module _ (s : State) (p : ℕ) (q : IsQuietNear s p) (law : Law (own_part s)) (evac : has_evac (read_of (s.cell p)) ≡ true) (u : State) (same : u ≡ s) (t : State) (order : List ℕ) where
  abbrev cell : ℕ
  cell = s.cell p

  goes_so : way_of s (read_of cell) ≡ Goes → (after : List ℕ) → after ≡ order → (fate : Fate) → (fate ≡ fates.Far) × (t ≡ evicted u p) → LeavesAs s order t after p cell fate
  goes_so way after sealed fate went = record {
    core = went.1 ∙ ap (λ (x : State). evicted x p) same ∙ sym (ap (core_by s p) way);
    sealed = sealed ∙ sym (ap (order_by s order) way);
    is = went.0 ∙ sym (ap fate_by way);
  }

  pub cold_exactly : goes_near (read_of cell) ≡ false → (after : List ℕ) → after ≡ order → (fate : Fate) → (fate ≡ fates.Far) × (t ≡ evicted u p) → LeavesAs s order t after p cell fate
  cold_exactly h = goes_so (cold s p q law evac cell (finds_same cell) h)

  -- what is known of the cell in that state
  undropped : (is_dropped (read_of (u.cell p)) ≡ true → ⊥) → is_dropped (read_of cell) ≡ false
  undropped never = false_from_ne_true (is_dropped (read_of cell)) (λ d. never (ap (λ (x : State). is_dropped (read_of (x.cell p))) same ∙ d))

  room_is : goal u p ≡ room s (size_of q.len) false
  room_is = ap (λ (x : State). goal x p) same ∙ goal_there s p q q.len q.ds q.place q.marks q.near (wanted s p q law evac)

  pub away_exactly : goes_near (read_of cell) ≡ true → (is_dropped (read_of (u.cell p)) ≡ true → ⊥) → goal u p ≡ None → (after : List ℕ) → after ≡ order → (fate : Fate) → (fate ≡ fates.Far) × (t ≡ evicted u p) →
      LeavesAs s order t after p cell fate
  away_exactly near never none = goes_so (hot s p q law evac cell (finds_same cell) near (undropped never) ∙ ap hot_way (sym room_is ∙ none))

  pub there_exactly : (still : Type 0) → still → goes_near (read_of cell) ≡ true → (after mid : List ℕ) → mid ≡ order → (result : Result (Option Place) Refused) (o : Option Place) → result ≡ Ok o → (is_dropped (read_of (u.cell p)) ≡ true → result ≡ Ok None) → IfSome o (λ place. goal u p ≡ Some place) →
      IfSome o (λ place. t ≡ moved_now u p place) → IfNone o (IsRetired still u t p) → MatchOption o (after ≡ mid) (λ place. after ≡ order_moved u p mid place) → LeavesAs s order t after p cell (near_fate o)
  there_exactly still so near after mid first result (Some place) made asked to moves gone sealed =
      let never : is_dropped (read_of (u.cell p)) ≡ true → ⊥ = λ d. let odd : Ok (Some place) ≡ Ok None = sym made ∙ asked d in absurd cc in
      let way : way_of s (read_of cell) ≡ Moves place = hot s p q law evac cell (finds_same cell) near (undropped never) ∙ ap hot_way (sym room_is ∙ to) in record {
        core = moves ∙ ap (λ (x : State). moved_now x p place) same ∙ ap (λ b. cond b (moved s p place) (stayed s p)) evac ∙ sym (ap (core_by s p) way);
        sealed = sealed ∙ ap (λ (x : State). order_moved x p mid place) same ∙ ap (λ b. cond b (order_after s mid place) mid) evac ∙ ap (λ (o : List ℕ). order_after s o place) first ∙ sym (ap (order_by s order) way);
        is = sym (ap fate_by way);
      }
  there_exactly still so near after mid first result None made asked to moves gone sealed =
      let d : is_dropped (read_of cell) ≡ true = sym (ap (λ (x : State). is_dropped (read_of (x.cell p))) same) ∙ gone.asked so in
      let way : way_of s (read_of cell) ≡ Drops = drops s p q law evac cell (finds_same cell) d in record {
        core = gone.exact so ∙ ap (λ (x : State). retired x p) same ∙ retired_is s p d ∙ sym (ap (core_by s p) way);
        sealed = sealed ∙ first ∙ sym (ap (order_by s order) way);
        is = sym (ap fate_by way);
      }

-- ---- what is known where nothing was done
pub seen_known : (s t : State) (p : ℕ) → IsSeen s t p → Law (own_part t) → Knows s t
seen_known s t p h law =
    knows_more s (seen s p h.word) t (knows_seen s p h.word h.found) (knows_words (seen s p h.word) t h.leads (λ a begun. h.keeps.headers a (ap (λ (u : State). u.starts a) h.leads ∙ begun)) law)

pub found_here : (s u : State) (p w : ℕ) → Finds (s.cell p) w → u ≡ seen s p w → Knows s u
found_here s u p w finds is = subst (Knows s) (sym is) (knows_seen s p w finds)

-- ---- answers
pub ok_map : {A B : Type 0} {P Q : A → Type 0} → (result : Result A B) → ((x : A) → P x → Q x) → IfOk result P → IfOk result Q
ok_map (Ok x) f h = f x h
ok_map (Err why) f h = tt

pub err_map : {A B : Type 0} {P Q : B → Type 0} → (result : Result A B) → ((x : B) → P x → Q x) → IfErr result P → IfErr result Q
err_map (Ok x) f h = tt
err_map (Err why) f h = f why h

pub err_all : {A B : Type 0} {P Q R S : B → Type 0} → (result : Result A B) → ((x : B) → P x → Q x → R x → S x) → IfErr result P → IfErr result Q → IfErr result R → IfErr result S
err_all (Ok x) f h g k = tt
err_all (Err why) f h g k = f why h g k

pub err_given : {A B : Type 0} (Given : Type 0) (P : B → Type 0) → (result : Result A B) → (Given → IfErr result P) → IfErr result (λ x. Given → P x)
err_given Given P (Ok x) h = tt
err_given Given P (Err why) h = h

pub err_any : {A B : Type 0} {P : B → Type 0} → (result : Result A B) → ((x : B) → P x) → IfErr result P
err_any (Ok x) f = tt
err_any (Err why) f = f why

-- an answer that was refused is no other
pub no_answer : {A : Type 0} {P : Type 0} → (result : Result A Refused) (why : Refused) (x : A) → result ≡ Err why → (P → result ≡ Ok x) → P → ⊥
no_answer result why x refused asked h = let odd : Err why ≡ Ok x = sym refused ∙ asked h in absurd cc

-- ---- the object that a walk deals with next
record FirstAmong (s : State) (held : List ℕ) (p : ℕ) : Type 0 where
  l : ℕ
  member : among held l ≡ true
  lives : LivesIn s l p

first_here : (s : State) (l : ℕ) (ls : List ℕ) (p : ℕ) (rest live : List ℕ) → live_in s l ≡ live → live ++ live_among s ls ≡ p ∷ rest → (live_among s ls ≡ p ∷ rest → FirstAmong s ls p) → FirstAmong s (l ∷ ls) p
first_here s l ls p rest [] is e next =
    let more = next e in record { l = more.l; member = ap (λ b. eqb more.l l || b) more.member ∙ or_true (eqb more.l l); lives = more.lives } where
      or_true : (a : Bool) → (a || true) ≡ true
      or_true true = refl
      or_true false = refl
first_here s l ls p rest (q ∷ qs) is e next =
    let same : q ≡ p = cc in
    record { l = l; member = ap (λ b. b || among ls l) (eq-eqb l l refl); lives = first_named s l p qs (is ∙ ap (λ x. x ∷ qs) same) }

first_among : (s : State) (ls : List ℕ) (p : ℕ) (rest : List ℕ) → live_among s ls ≡ p ∷ rest → FirstAmong s ls p
first_among s [] p rest e = absurd cc
first_among s (l ∷ ls) p rest e = first_here s l ls p rest (live_in s l) refl e (first_among s ls p rest)

pub quiet_by : (m e r c : Bool) → e ≡ true → r ≡ true → c ≡ true → (m || (e && r && c)) ≡ true
quiet_by true e r c evac round clear = refl
quiet_by false e r c evac round clear = rw (evac, round, clear) refl

pub record Wanted (s : State) (p : ℕ) : Type 0 where
  pub pointer : p < CELLS * s.mutators
  pub quiet : IsQuietNear s p
  pub evac : has_evac (read_of (s.cell p)) ≡ true

pub first_wanted : (m : Moment) → Law (own_part m.core) → MomentLaw m → m.phase ≡ Evacuating → (p : ℕ) (rest : List ℕ) → live_among m.core m.collection ≡ p ∷ rest → Wanted m.core p
first_wanted m law moment walks p rest e =
    let s = m.core in
    let first = first_among s m.collection p rest e in
    let n = near_at (read_of (s.cell p)) first.l first.lives.0 first.lives.1 in
    let round : s.round n.place.log ≡ true = ap s.round n.log ∙ moment.round (ap has_risen walks) first.l first.member in
    let evac : n.marks.evac ≡ true = law.rounds.round_evac p n.len n.ds n.place n.marks n.near round in
    let pointer : p < CELLS * s.mutators = law.cells.cell_range p (not_zero (s.cell p) n.len n.ds n.place n.marks n.near) in
    let clear : s.clear (p / CELLS) ≡ true = moment.clear walks (p / CELLS) (omega (arith, pointer)) in
    record {
      pointer = pointer;
      quiet = record { len = n.len; ds = n.ds; place = n.place; marks = n.marks; near = n.near; quiet = quiet_by n.marks.moved n.marks.evac (s.round n.place.log) (s.clear (p / CELLS)) evac round clear };
      evac = ap has_evac n.near ∙ evac;
    }

-- ---- and then the round stands where it stood
module _ (s : State) (p : ℕ) (q : IsQuietNear s p) (law : Law (own_part s)) (evac : has_evac (read_of (s.cell p)) ≡ true) (w : ℕ) (finds : Finds (s.cell p) w) where
  abbrev f : IsNearTo (read_of w) q.len q.ds q.place q.marks.evac
  f = found s p q law evac w finds

  pub sealed_kept : (way : Way) → way_of s (read_of w) ≡ way → KeepsSealed s (core_by s p way)
  sealed_kept Drops e = (sealed_logs_kept s p 0 0 law).ends
  sealed_kept (Moves place) e =
      let why = moves_when f.marks.dropped f.marks.hot (room s (size_of q.len) false) place (sym (ap (way_of s) f.near) ∙ e) in
      (sealed_logs_kept s p q.len q.ds law).moves q.place place q.marks q.near (wanted s p q law evac) (alive_before s p q law evac w finds why.0) why.1
  sealed_kept Goes e =
      let why = goes_when f.marks.dropped f.marks.hot (room s (size_of q.len) false) (sym (ap (way_of s) f.near) ∙ e) in
      (sealed_logs_kept s p q.len q.ds law).goes q.place q.marks q.near (wanted s p q law evac) (alive_before s p q law evac w finds why)
