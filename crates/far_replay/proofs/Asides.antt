-- What mutators make of a core beside a round: which log is open then, and so the order of the sealed ones; and that the round is left alone.
use Rattle.std.proofs.Common.{◌≡◌, ℕ, ◌<◌, ◌≤◌, ◌==◌, ◌&&◌, Bool, true, false, cond, not, refl, sym, ap, subst, ◌∙◌, Option, Some, None, is_some, List, [], ◌∷◌, ◌++◌, inl, inr, if◌then◌else◌, arith}
use Rattle.std.proofs.lemmas.Bool.{cond_both, eq-eqb}
use Rattle.far_word.specs.declared.mark.Mark.TheVariants.{Dropped, Moved}
use Rattle.far_word.specs.declared.mark.Marks.{Marks}
use Rattle.far_word.specs.declared.pointer.Place.{Place}
use Rattle.far_word.specs.declared.pointer.PtrWord.{PtrWord}
use Rattle.far_word.specs.declared.pointer.PtrWord.TheVariants.{Free, Near, Far}
use Rattle.far_word.specs.declared.sizes.TheConstants.{LONGEST}
use Rattle.far_word.specs.Pointer.{IsPtr, read_of}
use Rattle.far_word.specs.Sizes.{size_of}
use Rattle.far_word.proofs.PointerLaws.{read_says}
use Rattle.far_events.specs.declared.event.Event.TheVariants.{Ask}
use Rattle.far_events.specs.events.Naming.{is_dropped}
use Rattle.far_events.specs.events.Step.{after, after_close, after_pin, is_opened}
use Rattle.far_events.specs.state.Law.{Law}
use Rattle.far_core.specs.state.Room.{room}
use Rattle.far_events.specs.state.State.{State}
use Rattle.far_hand.specs.Quiet.{is_quiet}
use Rattle.far_book.specs.book.Dealing.{goal, goal_of, has_evac, moved_now}
use Rattle.far_book.specs.book.Effects.{fetched, moved, order_after, placed, stayed, with_blank_span, with_free_cell}
use Rattle.far_book.specs.book.Fetching.{far_len, order_fetched}
use Rattle.far_book.proofs.region.Owns.{own_law}
use Rattle.far_book.proofs.region.Fetched.{fetched_come}
use Rattle.far_book.proofs.region.Moved.{moved_is, stayed_is, no_copy_in_room}
use Rattle.far_book.proofs.region.Places.{named_is}
use Rattle.far_evac.specs.Callers.{StepsAside}
use Rattle.far_evac.proofs.StepsAside.{fetching_aside, layout, moving_aside, placing_aside, steps_join, still_aside}
use Rattle.far_alone.specs.Dereference.{come, come_of, comes_to, comes_to_of, dereferenced, has_no_room, sought, sought_of, order_come, order_come_of, order_dereferenced}
use Rattle.far_alone.specs.Effects.{is_slow, with_data, with_epoch, with_object, with_scope, with_view, without_object}
use Rattle.far_replay.specs.Moment.{Moment, with_core}
use Rattle.far_alone.specs.Objects.{lowest_cell, uses}
use Rattle.far_replay.specs.Turn.{with_new}
use Rattle.far_replay.proofs.Brought.{MayBring}
use Rattle.far_replay.proofs.Dereferences.{sought_law, sought_may}
use Rattle.far_alone.proofs.Drops.{retired_either}
use Rattle.far_alone.proofs.Lowest.{lowest_cell_is}

-- ---- the order, by which log is open
-- where the open log was another, it is the youngest of the sealed ones
abbrev pub grown : List ℕ → ℕ → ℕ → List ℕ
grown order was open_now = if open_now == was then order else order ++ was ∷ []

pub grown_not : (order : List ℕ) (was open_now : ℕ) → open_now ≡ was → grown order was open_now ≡ order
grown_not order was open_now same = ap (λ b. if b then order else order ++ was ∷ []) (eq-eqb open_now was same)

-- ---- the same log is open after all that takes no span
pub view_current : (s : State) (p : ℕ) → (with_view s p).current ≡ s.current
view_current s p = cond_both (is_some (s.held p)) s (after_pin s p) (λ (t : State). t.current ≡ s.current) (λ _. refl) (λ _. refl)

asked_current : (s : State) (m p : ℕ) (o : Option PtrWord) → (sought_of s m p o).current ≡ s.current
asked_current s m p (Some Free) = refl
asked_current s m p _ = refl

pub sought_current : (s : State) (m p : ℕ) → (sought s m p).current ≡ s.current
sought_current s m p = asked_current (with_view s p) m p (read_of ((with_view s p).cell p)) ∙ view_current s p

-- ---- and the round is left alone
pub same_aside : (s : State) → StepsAside s s
same_aside s = still_aside s s refl refl refl refl refl refl refl refl refl

pub view_aside : (s : State) (p : ℕ) → StepsAside s (with_view s p)
view_aside s p = cond_both (is_some (s.held p)) s (after_pin s p) (StepsAside s) (λ _. same_aside s) (λ _. still_aside s (after_pin s p) refl refl refl refl refl refl refl refl refl)

asked_aside : (s : State) (m p : ℕ) (o : Option PtrWord) → StepsAside s (sought_of s m p o)
asked_aside s m p (Some (Near len ds place marks)) = still_aside s (after s (Ask m p Moved)) refl refl refl refl refl refl refl refl refl
asked_aside s m p _ = same_aside s

pub sought_aside : (s : State) (m p : ℕ) → StepsAside s (sought s m p)
sought_aside s m p = steps_join s (with_view s p) (sought s m p) (view_aside s p) (asked_aside (with_view s p) m p (read_of ((with_view s p).cell p))) (inl (view_current s p))

pub without_aside : (s : State) (m p : ℕ) → StepsAside s (without_object s m p)
without_aside s m p =
    let t : State = after s (Ask m p Dropped) in
    retired_either (StepsAside s) t p (still_aside s t refl refl refl refl refl refl refl refl refl) (still_aside s (with_free_cell t p) refl refl refl refl refl refl refl refl refl)

pub scope_aside : (s : State) (m : ℕ) → StepsAside s (with_scope s m)
scope_aside s m = still_aside s (with_scope s m) refl refl refl refl refl refl refl refl refl

pub epoch_aside : (s : State) (m : ℕ) → StepsAside s (with_epoch s m)
epoch_aside s m = still_aside s (with_epoch s m) refl refl refl refl refl refl refl refl refl

pub close_aside : (s : State) (m : ℕ) → StepsAside s (after_close s m)
close_aside s m = still_aside s (after_close s m) refl refl refl refl refl refl refl refl refl

-- ---- a new object
-- its log is the open one
placed_current : (s : State) (p len ds : ℕ) (place : Place) → Law s → s.cell p ≡ 0 → 0 < len → len ≤ LONGEST → ds < 256 → room s (size_of len) true ≡ Some place → (placed s p len ds place).current ≡ place.log
placed_current s p len ds place law free some most structure found =
    ap (λ (t : State). t.current) (named_is (with_blank_span s p len ds place) p len ds place free (layout s law len ds place true some most structure found))

pub order_new : (now : Moment) (m len ds p : ℕ) (place : Place) → Law now.core → 0 < len → len ≤ LONGEST → ds < 256 → lowest_cell now.core m ≡ Some p → room now.core (size_of len) true ≡ Some place →
    (with_core now (with_new now.core m len ds (Some p) (Some place))).order ≡ order_fetched now.core now.order (Some place)
order_new now m len ds p place law some most structure cell found =
    ap (grown now.order now.core.current) (placed_current now.core p len ds place law (lowest_cell_is now.core m p cell).2 some most structure found)

pub new_aside : (s : State) (m len ds p : ℕ) (place : Place) → Law s → 0 < len → len ≤ LONGEST → ds < 256 → lowest_cell s m ≡ Some p → room s (size_of len) true ≡ Some place → StepsAside s (with_object s m p len ds place)
new_aside s m len ds p place law some most structure cell found =
    let t : State = placed s p len ds place in
    let u : State = with_object s m p len ds place in
    steps_join s t u (placing_aside s p len ds place true law (lowest_cell_is s m p cell).2 some most structure found) (still_aside t u refl refl refl refl refl refl refl refl refl) (inr refl)

-- ---- an object that comes to where a view may rest
-- near it has moved, or stayed
module _ (s : State) (law : Law s) (p len ds : ℕ) (from place : Place) (marks : Marks) (near : read_of (s.cell p) ≡ Some (Near len ds from marks)) (asked : marks.moved ≡ true) (alive : marks.dropped ≡ false) where
  says : IsPtr (Near len ds from marks)
  says = (read_says (s.cell p) (Near len ds from marks) (law.cells.cell_read p).0 near).0

  moved_current : marks.evac ≡ true → room s (size_of len) false ≡ Some place → (moved s p place).current ≡ place.log
  moved_current wanted found = ap (λ (t : State). t.current) (moved_is s p len ds from place marks near alive wanted (layout s law len ds place false says.0 says.1 says.2 found)
      (no_copy_in_room s (own_law s law) p (size_of len) from place false (omega arith) (omega (arith, says.1)) found))

  stayed_current : marks.evac ≡ false → (stayed s p).current ≡ s.current
  stayed_current unwanted = ap (λ (t : State). t.current) (stayed_is s p len ds from marks near alive asked unwanted (says.0, says.1, says.2, says.3, says.4))

  near_order : (order : List ℕ) (b : Bool) → marks.evac ≡ b → cond b (room s (size_of len) false) (Some from) ≡ Some place →
      grown order s.current (cond b (moved s p place) (stayed s p)).current ≡ cond b (order_after s order place) order
  near_order order true wanted found = ap (grown order s.current) (moved_current wanted found)
  near_order order false unwanted found = grown_not order s.current (stayed s p).current (stayed_current unwanted)

-- far it was fetched
fetched_current : (s : State) (law : Law s) (p len ds : ℕ) (place : Place) (marks : Marks) → read_of (s.cell p) ≡ Some (Far len ds marks) → marks.dropped ≡ false → room s (size_of len) true ≡ Some place →
    (fetched s p place (s.stored p)).current ≡ place.log
fetched_current s law p len ds place marks far alive found =
    let says = (read_says (s.cell p) (Far len ds marks) (law.cells.cell_read p).0 far).0 in
    ap (λ (t : State). t.current) (fetched_come s s p len ds place (s.stored p) marks far alive (layout s law len ds place true says.0 says.1 says.2 found))

come_order_of : (s : State) (law : Law s) (p : ℕ) (place : Place) (order : List ℕ) (o : Option PtrWord) → read_of (s.cell p) ≡ o → MayBring o → comes_to_of s p o ≡ Some place →
    grown order s.current (come_of s p (Some place) o).current ≡ order_come_of s order p (Some place) o
come_order_of s law p place order (Some (Near len ds from marks)) e may found =
    let to : cond marks.evac (room s (size_of len) false) (Some from) ≡ Some place = sym (ap (goal_of s) e) ∙ found in
    subst (λ b. grown order s.current (cond b (moved s p place) (stayed s p)).current ≡ cond b (order_after s order place) order) (sym (ap has_evac e))
    (near_order s law p len ds from place marks e may.0 may.1 order marks.evac refl to)
come_order_of s law p place order (Some (Far len ds marks)) e may found =
    let to : room s (size_of len) true ≡ Some place = sym (ap (λ o. room s (size_of (far_len o)) true) e) ∙ found in
    ap (grown order s.current) (fetched_current s law p len ds place marks e may to)
come_order_of s law p place order _ e may found = absurd may

pub come_order : (s : State) (law : Law s) (p : ℕ) (place : Place) (order : List ℕ) → MayBring (read_of (s.cell p)) → comes_to s p ≡ Some place → grown order s.current (come s p).current ≡ order_come s order p
come_order s law p place order may found = subst (λ x. grown order s.current (come_of s p x (read_of (s.cell p))).current ≡ order_come_of s order p x (read_of (s.cell p))) (sym found)
    (come_order_of s law p place order (read_of (s.cell p)) refl may found)

-- so the round is left alone
near_aside : (s : State) (law : Law s) (p len ds : ℕ) (from place : Place) (marks : Marks) → read_of (s.cell p) ≡ Some (Near len ds from marks) → marks.moved ≡ true → marks.dropped ≡ false → goal s p ≡ Some place →
    StepsAside s (moved_now s p place)
near_aside s law p len ds from place marks near asked alive found =
    let quiet : is_quiet s.round s.clear p from marks ≡ true = rw asked refl in
    moving_aside s p place law (record { len = len; ds = ds; place = from; marks = marks; near = near; quiet = quiet }) (ap is_dropped near ∙ alive) found

come_aside_of : (s : State) (law : Law s) (p : ℕ) (place : Place) (o : Option PtrWord) → read_of (s.cell p) ≡ o → MayBring o → comes_to_of s p o ≡ Some place → StepsAside s (come_of s p (Some place) o)
come_aside_of s law p place (Some (Near len ds from marks)) e may found = near_aside s law p len ds from place marks e may.0 may.1 found
come_aside_of s law p place (Some (Far len ds marks)) e may found = fetching_aside s p place (s.stored p) law (record { len = len; ds = ds; marks = marks; far = e }) (ap is_dropped e ∙ may) found
come_aside_of s law p place _ e may found = absurd may

pub come_aside : (s : State) (law : Law s) (p : ℕ) (place : Place) → MayBring (read_of (s.cell p)) → comes_to s p ≡ Some place → StepsAside s (come s p)
come_aside s law p place may found = subst (λ x. StepsAside s (come_of s p x (read_of (s.cell p)))) (sym found) (come_aside_of s law p place (read_of (s.cell p)) refl may found)

-- ---- a dereference
module _ (s : State) (m p : ℕ) (law : Law s) (opened : is_opened s m ≡ true) (ours : uses s m p ≡ true) where
  place_of : (o : Option Place) → not (is_some o) ≡ false → (place : Place) × (o ≡ Some place)
  place_of None e = absurd cc
  place_of (Some place) e = (place, refl)

  -- by a pin that gives no view, or by a pin alone
  either_way : (P : Bool → State → Type 0) → (is_slow s p ≡ true → (place : Place) → comes_to (sought s m p) p ≡ Some place → P true (with_view (come (sought s m p) p) p)) → P false (with_view s p) →
      (b : Bool) → is_slow s p ≡ b → (b && not (is_some (comes_to (sought s m p) p))) ≡ false → P b (if b then with_view (come (sought s m p) p) p else with_view s p)
  either_way P slowly fast true slow found = let there = place_of (comes_to (sought s m p) p) found in slowly slow there.0 there.1
  either_way P slowly fast false e found = fast

  slow_order : (order : List ℕ) → is_slow s p ≡ true → (place : Place) → comes_to (sought s m p) p ≡ Some place →
      grown order s.current (with_view (come (sought s m p) p) p).current ≡ order_come (sought s m p) order p
  slow_order order slow place found =
      ap (grown order s.current) (view_current (come (sought s m p) p) p) ∙ ap (λ was. grown order was (come (sought s m p) p).current) (sym (sought_current s m p))
      ∙ come_order (sought s m p) (sought_law s m p law opened ours slow) p place order (sought_may s m p law opened ours slow) found

  deref_order : (order : List ℕ) → has_no_room s m p ≡ false → grown order s.current (dereferenced s m p).current ≡ order_dereferenced s order m p
  deref_order order found = either_way (λ b t. grown order s.current t.current ≡ (if b then order_come (sought s m p) order p else order)) (slow_order order)
      (grown_not order s.current (with_view s p).current (view_current s p)) (is_slow s p) refl found

  slow_aside : is_slow s p ≡ true → (place : Place) → comes_to (sought s m p) p ≡ Some place → StepsAside s (with_view (come (sought s m p) p) p)
  slow_aside slow place found =
      let u : State = sought s m p in
      let came = come_aside u (sought_law s m p law opened ours slow) p place (sought_may s m p law opened ours slow) found in
      steps_join s (come u p) (with_view (come u p) p) (steps_join s u (come u p) (sought_aside s m p) came (inl (sought_current s m p))) (view_aside (come u p) p) (inr (view_current (come u p) p))

  pub derefs_aside : has_no_room s m p ≡ false → StepsAside s (dereferenced s m p)
  derefs_aside found = either_way (λ b t. StepsAside s t) slow_aside (view_aside s p) (is_slow s p) refl found

pub order_derefs : (now : Moment) (m p : ℕ) → Law now.core → is_opened now.core m ≡ true → uses now.core m p ≡ true → has_no_room now.core m p ≡ false →
    (with_core now (dereferenced now.core m p)).order ≡ order_dereferenced now.core now.order m p
order_derefs now m p law opened ours found = deref_order now.core m p law opened ours now.order found

pub writes_aside : (s : State) (m p from : ℕ) (bytes : List ℕ) → Law s → is_opened s m ≡ true → uses s m p ≡ true → has_no_room s m p ≡ false → StepsAside s (with_data (dereferenced s m p) p from bytes)
writes_aside s m p from bytes law opened ours found =
    let t : State = dereferenced s m p in
    steps_join s t (with_data t p from bytes) (derefs_aside s m p law opened ours found) (still_aside t (with_data t p from bytes) refl refl refl refl refl refl refl refl refl) (inr refl)
