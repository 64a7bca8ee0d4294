-- An object is dealt with where copies may be offered, as a word says that was found in its cell.
use Rattle.far_book.specs.book.Effects.{moved}
use Rattle.std.proofs.Common.{◌≡◌, ◌⊎◌, ◌+◌, ◌<◌, ◌≤◌, ◌==◌, ◌/◌, ◌||◌, ℕ, Bool, true, false, cond, Option, Some, None, Result, Ok, Err, IfOk, IfErr, List, [], inl, inr, arith, ap, sym, refl, ◌∙◌, subst}
use Rattle.std.proofs.lemmas.Bool.{eq-eqb, eqb-true, true≢false}
use Rattle.far_word.specs.declared.mark.Marks.{Marks}
use Rattle.far_word.specs.declared.pointer.Place.{Place}
use Rattle.far_word.specs.declared.pointer.PtrWord.{PtrWord}
use Rattle.far_word.specs.declared.pointer.PtrWord.TheVariants.{Free, Near, Far}
use Rattle.far_word.specs.declared.sizes.TheConstants.{CELLS, JOBS}
use Rattle.far_word.specs.Pointer.{read_of}
use Rattle.far_word.specs.Sizes.{size_of}
use Rattle.far_device.specs.declared.fault.DeviceFault.{DeviceFault}
use Rattle.far_word.specs.declared.refused.Refused.{Refused}
use Rattle.far_word.specs.declared.refused.Refused.TheVariants.{Device as Failed, Memory}
use Rattle.far_book.proofs.region.Calls.{put_put}
use Rattle.far_events.specs.events.Naming.{is_dropped}
use Rattle.far_events.specs.events.Offer as event
use Rattle.far_events.specs.events.Quiet.{IsClearNear}
use Rattle.far_events.specs.state.Law.{Law}
use Rattle.far_core.specs.state.Room.{room}
use Rattle.far_events.specs.state.Spans.{spans_of}
use Rattle.far_events.specs.state.State.{State}
use Rattle.far_events.proofs.Put.{put_both, put_same}
use Rattle.far_hand.specs.Finds.{Finds, marks_in}
use Rattle.far_hand.specs.Quiet.{IsQuietNear}
use Rattle.far_hand.proofs.Finding.{IsNearTo, finds_same}
use Rattle.far_book.specs.book.Dealing.{goal, has_evac, is_failure}
use Rattle.far_book.specs.book.Fetching.{order_fetched}
use Rattle.far_book.specs.book.Offering.{IsLookedAt, IsLowestEmpty, NoneEmpty, OffersCopy, offered, offered_of, with_ends}
use Rattle.far_book.specs.book.Own.{own_part}
use Rattle.far_book.specs.book.Renaming.{seen}
use Rattle.far_evac.specs.declared.evac.beside.Warmth.TheVariants.{Cold, Dropped, Hot}
use Rattle.far_evac.specs.declared.evac.evacuating.Fate.{Fate}
use Rattle.far_evac.specs.AnyHand.{Knows, KnowsWalked}
use Rattle.far_evac.specs.Beside.{AsksBeside, Dealing, Leaves, Offers, dealing_of, dealt_by, hot_dealing, lowest_empty}
use Rattle.far_evac.specs.BookStands.{GoesBeside, core_beside, fate_beside, known, order_beside, warmth_of}
use Rattle.far_evac.specs.declared.evac.evacuating.Fate.TheVariants as fates
use Rattle.far_evac.specs.Leaving.{AsksAs, GoesAway, LeavesBy, core_by, counted_as, fate_by, goes_near}
use Rattle.far_evac.specs.Moment.{Moment, Tally, objects_in}
use Rattle.far_evac.specs.Walk.{Walked, Way, Drops, Goes, Moves, hot_way, way_of}
use Rattle.far_evac.specs.WayLaws.{ObjectsGoBesideCopiers}
use Rattle.far_evac.proofs.Asking.{asks_alike}
use Rattle.far_evac.proofs.Bools.{neither}
use Rattle.far_evac.proofs.Failures.{failure_alike}
use Rattle.far_evac.proofs.Hands.{freed_seen, knows_forgotten, knows_more}
use Rattle.far_evac.proofs.SendingOff.{drops, evicted_there, found, goal_is, later_found, moved_there, quiet_by, sent_cold}
use Rattle.far_evac.proofs.Tours.{goes_when, moves_when}
use Rattle.far_evac.proofs.Unviewed.{found_in, none_found}
use Rattle.far_evac.proofs.WalkingOn.{dealt_way}

-- ---- the lowest empty job
pub lowest_is : (s : State) (j : ℕ) → IsLowestEmpty s j → lowest_empty s ≡ Some j
lowest_is s j h = by_case (lowest_empty s) refl where
  by_case : (o : Option ℕ) → lowest_empty s ≡ o → o ≡ Some j
  by_case None e = absurd (true≢false (sym (eq-eqb (s.copying.word j) 0 h.1) ∙ none_found (λ i. s.copying.word i == 0) j 0 JOBS e (omega arith) (omega (arith, h.0))))
  by_case (Some k) e =
      let x = found_in (λ i. s.copying.word i == 0) k 0 JOBS e in
      let not_before : ¬ (k < j) = λ lt. h.2 k lt (eqb-true (s.copying.word k) 0 x.0) in
      let not_behind : ¬ (j < k) = λ lt. true≢false (sym (eq-eqb (s.copying.word j) 0 h.1) ∙ x.2 j (omega arith) lt) in
      let same : k ≡ j = omega (arith, not_before, not_behind) in
      ap Some same

pub none_lowest : (s : State) → NoneEmpty s → lowest_empty s ≡ None
none_lowest s none = by_case (lowest_empty s) refl where
  by_case : (o : Option ℕ) → lowest_empty s ≡ o → o ≡ None
  by_case None e = refl
  by_case (Some k) e = let x = found_in (λ i. s.copying.word i == 0) k 0 JOBS e in absurd (none k (omega (arith, x.1)) (eqb-true (s.copying.word k) 0 x.0))

-- ---- an object goes by its marks
no_room : (e : Option ℕ) → hot_dealing e None ≡ Leaves Goes
no_room None = refl
no_room (Some j) = refl

module _ (s : State) (len ds : ℕ) (from : Place) (marks : Marks) where
  by_drop : marks.dropped ≡ true → dealing_of s (Some (Near len ds from marks)) ≡ Leaves Drops
  by_drop e = ap (λ b. cond b (Leaves Drops) (cond marks.hot (hot_dealing (lowest_empty s) (room s (size_of len) false)) (Leaves Goes))) e

  by_hot : (hot : Bool) → marks.dropped ≡ false → marks.hot ≡ hot → dealing_of s (Some (Near len ds from marks)) ≡ cond hot (hot_dealing (lowest_empty s) (room s (size_of len) false)) (Leaves Goes)
  by_hot hot alive e =
      ap (λ b. cond b (Leaves Drops) (cond marks.hot (hot_dealing (lowest_empty s) (room s (size_of len) false)) (Leaves Goes))) alive
      ∙ ap (λ b. cond b (hot_dealing (lowest_empty s) (room s (size_of len) false)) (Leaves Goes)) e

  by_room : (r : Option Place) → marks.dropped ≡ false → marks.hot ≡ true → room s (size_of len) false ≡ r → dealing_of s (Some (Near len ds from marks)) ≡ hot_dealing (lowest_empty s) r
  by_room r alive hot e = by_hot true alive hot ∙ ap (hot_dealing (lowest_empty s)) e

pub objects_go_beside_copiers : ObjectsGoBesideCopiers
objects_go_beside_copiers w t p len ds from marks h near = record {
  dropped = λ e. goes (Leaves Drops) (by_drop w.moment.core len ds from marks e);
  cold = λ alive cold. goes (Leaves Goes) (by_hot w.moment.core len ds from marks false alive cold);
  crowded = λ alive hot none. goes (Leaves Goes) (by_room w.moment.core len ds from marks None alive hot none ∙ no_room (lowest_empty w.moment.core));
  offers = λ j to alive hot there lowest. goes (Offers j to) (by_room w.moment.core len ds from marks (Some to) alive hot there ∙ ap (λ e. hot_dealing e (Some to)) (lowest_is w.moment.core j lowest));
  moves = λ to alive hot there none. goes (Leaves (Moves to)) (by_room w.moment.core len ds from marks (Some to) alive hot there ∙ ap (λ e. hot_dealing e (Some to)) (none_lowest w.moment.core none));
} where
  goes : (d : Dealing) → dealing_of w.moment.core (Some (Near len ds from marks)) ≡ d → KnowsWalked (dealt_by w p d) t
  goes d is = subst (λ x. KnowsWalked (dealt_by w p x) t) (ap (dealing_of w.moment.core) near ∙ is) h.known

-- ---- what leaves its log is dealt with so, unless its copy could be offered
leaves_by : (dropped hot : Bool) (e : Option ℕ) (r : Option Place) → ((to : Place) → cond dropped Drops (cond hot (hot_way r) Goes) ≡ Moves to → e ≡ None) →
    cond dropped (Leaves Drops) (cond hot (hot_dealing e r) (Leaves Goes)) ≡ Leaves (cond dropped Drops (cond hot (hot_way r) Goes))
leaves_by true hot e r none = refl
leaves_by false false e r none = refl
leaves_by false true e (Some to) none = ap (λ x. hot_dealing x (Some to)) (none to refl)
leaves_by false true None None none = refl
leaves_by false true (Some j) None none = refl

pub dealing_leaves : (s : State) (o : Option PtrWord) → ((to : Place) → way_of s o ≡ Moves to → lowest_empty s ≡ None) → dealing_of s o ≡ Leaves (way_of s o)
dealing_leaves s None none = refl
dealing_leaves s (Some Free) none = refl
dealing_leaves s (Some (Near len ds place marks)) none = leaves_by marks.dropped marks.hot (lowest_empty s) (room s (size_of len) false) none
dealing_leaves s (Some (Far len ds marks)) none = refl

module _ (D : Type 0) (writes : D → ℕ → List ℕ → Result (Unit {0}) DeviceFault → D → Type 0) (lets_go : D → ℕ → D → Type 0) where
  pub goes_beside : (s t : State) (order after : List ℕ) (p : ℕ) (fate : Fate) (h : LeavesBy s order t after p fate) → ((to : Place) → way_of s (read_of h.word) ≡ Moves to → lowest_empty s ≡ None) → (old new : D) →
      AsksAs D writes lets_go s p fate old new → GoesBeside D writes lets_go s order t after p (Some fate) old new
  goes_beside s t order after p fate h none old new asked =
      let way = way_of s (read_of h.word) in
      let dealing = dealing_leaves s (read_of h.word) none in record {
        word = h.word;
        found = h.found;
        core = subst (λ x. Knows (core_beside s p x) t) (sym dealing) h.core;
        sealed = h.sealed ∙ sym (ap (order_beside s order) dealing);
        is = ap Some h.is ∙ sym (ap fate_beside dealing);
        asks = subst (λ x. AsksBeside D writes lets_go s p x old new) (sym dealing) (asks_alike D writes lets_go s p asked.0 way old new (sym asked.1 ∙ h.is) asked.2);
      }

-- ---- an object whose owner was seen clear
pub quiet_clear : (s : State) (p : ℕ) → IsClearNear s p → IsQuietNear s p
quiet_clear s p (len, ds, place, m, near, evac, round, clear) =
    record { len = len; ds = ds; place = place; marks = m; near = near; quiet = quiet_by m.moved m.evac (s.round place.log) (s.clear (p / CELLS)) evac round clear }

pub evac_clear : (s : State) (p : ℕ) → IsClearNear s p → has_evac (read_of (s.cell p)) ≡ true
evac_clear s p (len, ds, place, m, near, evac, round, clear) = ap has_evac near ∙ evac

-- ---- answers
pub known_ok : (P : Option Fate → Type 0) (r : Result Fate Refused) (x : Result (Option Fate) Refused) → x ≡ known r → IfOk r (λ fate. P (Some fate)) → IfOk x P
known_ok P (Ok fate) x is h = subst (λ y. IfOk y P) (sym is) h
known_ok P (Err why) x is h = subst (λ y. IfOk y P) (sym is) tt

pub known_err : (P : Refused → Type 0) (r : Result Fate Refused) (x : Result (Option Fate) Refused) → x ≡ known r → IfErr r P → IfErr x P
known_err P (Ok fate) x is h = subst (λ y. IfErr y P) (sym is) tt
known_err P (Err why) x is h = subst (λ y. IfErr y P) (sym is) h

pub ok_two : {P Q R : Fate → Type 0} (r : Result Fate Refused) → ((fate : Fate) → P fate → Q fate → R fate) → IfOk r P → IfOk r Q → IfOk r R
ok_two (Ok fate) f h g = f fate h g
ok_two (Err why) f h g = tt

-- a DROP that was found stays
drop_more : (w v : ℕ) → Finds w v → is_dropped (read_of w) ≡ true → is_dropped (read_of v) ≡ true
drop_more w v finds dropped = marks_drop (read_of v) (finds.dropped (drop_marks (read_of w) dropped)) where
  drop_marks : (o : Option PtrWord) → is_dropped o ≡ true → (marks_in o).dropped ≡ true
  drop_marks (Some (Near len ds place m)) e = e
  drop_marks (Some (Far len ds m)) e = e
  drop_marks None e = absurd (true≢false (sym e))
  drop_marks (Some Free) e = absurd (true≢false (sym e))

  marks_drop : (o : Option PtrWord) → (marks_in o).dropped ≡ true → is_dropped o ≡ true
  marks_drop (Some (Near len ds place m)) e = e
  marks_drop (Some (Far len ds m)) e = e
  marks_drop None e = absurd (true≢false (sym e))
  marks_drop (Some Free) e = absurd (true≢false (sym e))

-- ---- what an offer leaves
abbrev pub offer_made : State → ℕ → ℕ → ℕ → ℕ → Place → Place → State
offer_made s j p len ds from to = event.offered (with_ends s p len ds to) j len (record { pointer = p; from = from; to = to })

pub offered_is : (s : State) (j p : ℕ) (to : Place) (len ds : ℕ) (from : Place) (m : Marks) → read_of (s.cell p) ≡ Some (Near len ds from m) → offered s j p to ≡ offer_made s j p len ds from to
offered_is s j p to len ds from m near = ap (offered_of s j p to) near ∙ ap (event.after_offer (with_ends s p len ds to) j p to) near

known_made : (s t : State) (j p len ds : ℕ) (from to : Place) → t ≡ record s { cell = t.cell } → ((o : ℕ) → Finds (s.cell o) (t.cell o)) → Knows (offer_made s j p len ds from to) (offer_made t j p len ds from to)
unfolding spans_of
known_made s t j p len ds from to is finds = subst (λ (x : State). Knows (offer_made s j p len ds from to) (offer_made x j p len ds from to)) (sym is)
    (record { found = finds; spans = λ l. refl; stored = λ o n d i marks far lt known. refl; rest = refl })

-- ---- a word was found before
cold_when : (dropped hot : Bool) → cond dropped Dropped (cond hot Hot Cold) ≡ Cold → (dropped || hot) ≡ false
cold_when false false e = refl
cold_when _ _ e = absurd cc

dropped_when : (dropped hot : Bool) → cond dropped Dropped (cond hot Hot Cold) ≡ Dropped → dropped ≡ true
dropped_when true hot e = refl
dropped_when false true e = absurd cc
dropped_when false false e = absurd cc

not_moved : (u t : State) (p : ℕ) (fate : Fate) → GoesAway u t p fate → fate ≡ fates.Moved → ⊥
not_moved u t p fates.Moved goes e = goes
not_moved u t p fates.Far goes e = absurd cc
not_moved u t p fates.Dropped goes e = absurd cc

hot_when : (dropped hot : Bool) → cond dropped Dropped (cond hot Hot Cold) ≡ Hot → (dropped ≡ false) × (hot ≡ true)
hot_when false true e = (refl, refl)
hot_when _ _ e = absurd cc

module _ (s : State) (p : ℕ) (q : IsQuietNear s p) (law : Law (own_part s)) (evac : has_evac (read_of (s.cell p)) ≡ true) (w : ℕ) (finds : Finds (s.cell p) w) where
  abbrev f0 : IsNearTo (read_of w) q.len q.ds q.place q.marks.evac
  f0 = found s p q law evac w finds

  here0 : (seen s p w).cell p ≡ w
  here0 = put_same s.cell p w p refl

  -- a word that is found later isn't dropped where this isn't known to be
  alive_here : (v : ℕ) → Finds ((seen s p w).cell p) v → (g : IsNearTo (read_of v) q.len q.ds q.place q.marks.evac) → g.marks.dropped ≡ false → is_dropped (read_of w) ≡ false
  alive_here v later g alive =
      let more : Finds w v = subst (λ x. Finds x v) here0 later in
      ap is_dropped f0.near ∙ neither g.marks.dropped f0.marks.dropped (λ d. sym (ap (λ o. (marks_in o).dropped) g.near) ∙ more.dropped (ap (λ o. (marks_in o).dropped) f0.near ∙ d)) alive

  pub leaves_before_of : (t : State) (order after : List ℕ) (fate : Fate) → (h : LeavesBy (seen s p w) order t after p fate) → (x : LeavesBy s order t after p fate) × (x.word ≡ h.word)
  leaves_before_of t order after fate h = (record { word = h.word; found = there; core = before (way_of s (read_of h.word)) refl h.core; sealed = h.sealed; is = h.is }, refl) where
    there : Finds (s.cell p) h.word
    there = later_found s p q law evac w finds h.word h.found

    g : IsNearTo (read_of h.word) q.len q.ds q.place q.marks.evac
    g = found s p q law evac h.word there

    before : (way : Way) → way_of s (read_of h.word) ≡ way → Knows (core_by (seen s p w) p way) t → Knows (core_by s p way) t
    before Drops e known = subst (λ x. Knows x t) (freed_seen s p w) known
    before (Moves to) e known =
        let why = moves_when g.marks.dropped g.marks.hot (room s (size_of q.len) false) to (sym (ap (way_of s) g.near) ∙ e) in
        knows_more (moved s p to) (moved (seen s p w) p to) t (moved_there s p q law evac w finds (alive_here h.word h.found g why.0) to why.1) known
    before Goes e known =
        let alive = goes_when g.marks.dropped g.marks.hot (room s (size_of q.len) false) (sym (ap (way_of s) g.near) ∙ e) in
        subst (λ x. Knows x t) (evicted_there s p q law evac w finds (alive_here h.word h.found g alive)) known

module _ (s : State) (p : ℕ) (q : IsQuietNear s p) (law : Law (own_part s)) (evac : has_evac (read_of (s.cell p)) ≡ true) (w : ℕ) (finds : Finds (s.cell p) w) where
  leaves_before : (t : State) (order after : List ℕ) (fate : Fate) (h : LeavesBy (seen s p w) order t after p fate) → (x : LeavesBy s order t after p fate) × (x.word ≡ h.word)
  leaves_before = leaves_before_of s p q law evac w finds

  abbrev f : IsNearTo (read_of w) q.len q.ds q.place q.marks.evac
  f = found s p q law evac w finds

  here : (seen s p w).cell p ≡ w
  here = put_same s.cell p w p refl

  -- ---- it left its log: u is where the word was found
  module _ (D : Type 0) (writes : D → ℕ → List ℕ → Result (Unit {0}) DeviceFault → D → Type 0) (lets_go : D → ℕ → D → Type 0) (u : State) (is : u ≡ seen s p w) (t : State) (order after : List ℕ) (fate : Fate) (old new : D)
      (asks : AsksAs D writes lets_go s p fate old new) where
    pub is_cold : warmth_of (read_of w) ≡ Cold → goes_near (read_of w) ≡ false
    is_cold warm = ap goes_near f.near ∙ cold_when f.marks.dropped f.marks.hot (sym (ap warmth_of f.near) ∙ warm)

    pub cold_beside : warmth_of (read_of w) ≡ Cold → after ≡ order → GoesAway u t p fate → GoesBeside D writes lets_go s order t after p (Some fate) old new
    cold_beside warm same goes =
        let h = sent_cold s p q law evac w finds u is t order after (is_cold warm) same fate goes in
        goes_beside D writes lets_go s t order after p fate h (λ to e. absurd (not_moved u t p fate goes (h.is ∙ ap fate_by e))) old new asks

    pub dropped_beside : warmth_of (read_of w) ≡ Dropped → LeavesBy u order t after p fate → GoesBeside D writes lets_go s order t after p (Some fate) old new
    dropped_beside warm leaves =
        let before = subst (λ (x : State). LeavesBy x order t after p fate) is leaves in
        let (h, same) = leaves_before t order after fate before in
        let gone : is_dropped (read_of w) ≡ true = ap is_dropped f.near ∙ dropped_when f.marks.dropped f.marks.hot (sym (ap warmth_of f.near) ∙ warm) in
        let more : Finds w h.word = subst (Finds w) (sym same) (subst (λ x. Finds x before.word) here before.found) in
        let there : is_dropped (read_of h.word) ≡ true = drop_more w h.word more gone in
        goes_beside D writes lets_go s t order after p fate h (λ to e. let odd : Drops ≡ Moves to = sym (drops s p q law evac h.word h.found there) ∙ e in absurd cc) old new asks

    -- no job was empty, or there was no room
    pub hot_beside : NoneEmpty u ⊎ (goal u p ≡ None) → (v : State) → IsLookedAt u v p → LeavesBy v order t after p fate → GoesBeside D writes lets_go s order t after p (Some fate) old new
    hot_beside none v look leaves =
        let finds_v = later_found s p q law evac w finds look.word (subst (λ (x : State). Finds (x.cell p) look.word) is look.found) in
        let is_v : v ≡ seen s p look.word = look.is ∙ ap (λ (x : State). seen x p look.word) is ∙ (λ i. record s { cell = put_put s.cell p w look.word i }) in
        let (h, _) = leaves_after look.word finds_v (subst (λ (x : State). LeavesBy x order t after p fate) is_v leaves) in
        goes_beside D writes lets_go s t order after p fate h (λ to e. no_offer to h.word h.found e none) old new asks where
          leaves_after : (w' : ℕ) → Finds (s.cell p) w' → (h : LeavesBy (seen s p w') order t after p fate) → (x : LeavesBy s order t after p fate) × (x.word ≡ h.word)
          leaves_after w' finds' h = leaves_before_of s p q law evac w' finds' t order after fate h

          no_offer : (to : Place) (x : ℕ) → Finds (s.cell p) x → way_of s (read_of x) ≡ Moves to → NoneEmpty u ⊎ (goal u p ≡ None) → lowest_empty s ≡ None
          no_offer to x finds_x e (inl none) = none_lowest s (subst NoneEmpty is none)
          no_offer to x finds_x e (inr none) =
              let g = found s p q law evac x finds_x in
              let why = moves_when g.marks.dropped g.marks.hot (room s (size_of q.len) false) to (sym (ap (way_of s) g.near) ∙ e) in
              let odd : None ≡ Some to = sym none ∙ goal_is s p q law evac w finds u is t [] [] ∙ why.1 in absurd cc

  -- ---- its copy was offered
  module _ (warm : warmth_of (read_of w) ≡ Hot) (t : State) (h : OffersCopy (seen s p w) t p) (then : Law (own_part t)) where
    marks_are : (f.marks.dropped ≡ false) × (f.marks.hot ≡ true)
    marks_are = hot_when f.marks.dropped f.marks.hot (sym (ap warmth_of f.near) ∙ warm)

    there : room s (size_of q.len) false ≡ Some h.to
    there = sym (goal_is s p q law evac w finds (seen s p w) refl t [] []) ∙ h.place

    offers : dealing_of s (read_of w) ≡ Offers h.job h.to
    offers =
        ap (dealing_of s) f.near ∙ ap (λ b. cond b (Leaves Drops) (cond f.marks.hot (hot_dealing (lowest_empty s) (room s (size_of q.len) false)) (Leaves Goes))) marks_are.0
        ∙ ap (λ b. cond b (hot_dealing (lowest_empty s) (room s (size_of q.len) false)) (Leaves Goes)) marks_are.1
        ∙ ap (λ e. hot_dealing e (room s (size_of q.len) false)) (lowest_is s h.job h.lowest) ∙ ap (hot_dealing (Some h.job)) there

    -- as the cell is known, and as it was found last
    abbrev last : State
    last = seen (seen s p w) p h.word

    cell_last : Finds (s.cell p) (last.cell p)
    cell_last = subst (Finds (s.cell p)) (sym (put_same (seen s p w).cell p h.word p refl)) (later_found s p q law evac w finds h.word h.found)

    g : IsNearTo (read_of (last.cell p)) q.len q.ds q.place q.marks.evac
    g = found s p q law evac (last.cell p) cell_last

    cells : (o : ℕ) → Finds (s.cell o) (last.cell o)
    cells o = put_both (λ v. Finds (s.cell o) v) (seen s p w).cell p h.word o
        (λ e. subst (λ x. Finds (s.cell x) h.word) (sym e) (later_found s p q law evac w finds h.word h.found))
        (λ ne. put_both (λ v. Finds (s.cell o) v) s.cell p w o (λ e. subst (λ x. Finds (s.cell x) w) (sym e) finds) (λ _. finds_same (s.cell o)))

    known_offer : Knows (offered s h.job p h.to) (offered last h.job p h.to)
    known_offer = subst (λ x. Knows x (offered last h.job p h.to)) (sym (offered_is s h.job p h.to q.len q.ds q.place q.marks q.near))
        (subst (Knows (offer_made s h.job p q.len q.ds q.place h.to)) (sym (offered_is last h.job p h.to q.len q.ds q.place g.marks g.near)) (known_made s last h.job p q.len q.ds q.place h.to refl cells))

    pub offers_beside : (D : Type 0) (writes : D → ℕ → List ℕ → Result (Unit {0}) DeviceFault → D → Type 0) (lets_go : D → ℕ → D → Type 0) (order after : List ℕ) → after ≡ order_fetched (seen s p w) order (goal (seen s p w) p) → (old new : D) → new ≡ old →
        GoesBeside D writes lets_go s order t after p None old new
    offers_beside D writes lets_go order after sealed old new same = record {
      word = w;
      found = finds;
      core = subst (λ x. Knows (core_beside s p x) t) (sym offers) (knows_more (offered s h.job p h.to) (offered last h.job p h.to) t known_offer (knows_forgotten (offered last h.job p h.to) t h.leads h.forgot then));
      sealed = sealed ∙ ap (order_fetched (seen s p w) order) h.place ∙ sym (ap (order_beside s order) offers);
      is = sym (ap fate_beside offers);
      asks = subst (λ x. AsksBeside D writes lets_go s p x old new) (sym offers) same;
    }

-- ---- and is counted
some_is : (a b : Fate) → Some a ≡ Some b → a ≡ b
some_is a b e = cc

pub deals_so : (w : Walked) (t : Moment) (tally : Tally) (p : ℕ) (fate : Fate) (d : Dealing) → Knows (core_beside w.moment.core p d) t.core → t.order ≡ order_beside w.moment.core w.moment.order d → Some fate ≡ fate_beside d →
    t.phase ≡ w.moment.phase → t.collection ≡ w.moment.collection → t.copying ≡ w.moment.copying → tally ≡ counted_as w.tally fate → KnowsWalked (dealt_by w p d) (record { moment = t; tally = tally })
deals_so w t tally p fate (Leaves way) core order is phase held copies counted = dealt_way w t tally p fate way core order (some_is fate (fate_by way) is) phase held copies counted
deals_so w t tally p fate (Offers j to) core order is phase held copies counted = absurd cc

-- its copy is offered, and it isn't counted yet
pub deals_offered : (w : Walked) (t : Moment) (p : ℕ) (d : Dealing) → Knows (core_beside w.moment.core p d) t.core → t.order ≡ order_beside w.moment.core w.moment.order d → None ≡ fate_beside d →
    t.phase ≡ w.moment.phase → t.collection ≡ w.moment.collection → t.copying ≡ w.moment.copying → KnowsWalked (dealt_by w p d) (record { moment = t; tally = w.tally })
deals_offered w t p (Leaves way) core order is phase held copies = absurd cc
deals_offered w t p (Offers j to) core order is phase held copies = record {
  moment = record { core = core; rest = λ i. record { core = t.core; order = order i; phase = phase i; collection = held i; copying = copies i } };
  tally = refl;
}

-- ---- a refusal of the device is handed on
pub known_fails : (r : Result Fate Refused) → IfErr r (λ why. (why ≡ Memory) ⊎ (why ≡ Failed)) → is_failure {A = Option Fate} (known r) ≡ is_failure {A = Fate} r
known_fails (Ok fate) is = refl
known_fails (Err why) is = failure_alike (Option Fate) Fate why is

pub counted_one : (t : Tally) (fate : Fate) → objects_in (counted_as t fate) ≤ objects_in t + 1
counted_one t fates.Moved = omega arith
counted_one t fates.Far = omega arith
counted_one t fates.Dropped = omega arith

pub freed_still : (t : Tally) (fate : Fate) → (counted_as t fate).freed ≡ t.freed
freed_still t fates.Moved = refl
freed_still t fates.Far = refl
freed_still t fates.Dropped = refl
