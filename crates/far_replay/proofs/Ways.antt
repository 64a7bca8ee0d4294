-- Each command that is told by events leads from a moment to the next in one of nine ways. A row a command stands here; what is so of each way is so of each command (`by_way`).
use Rattle.std.proofs.Common.{◌≡◌, ℕ, ◌+◌, ◌<◌, ◌≤◌, Bool, true, false, not, ◌&&◌, nat_lt, nat_le, refl, sym, subst, arith, Option, Some, None, List, [], ◌∷◌, ◌++◌, length, is_some}
use Rattle.std.proofs.lemmas.Bool.{ltb-true}
use Rattle.std.proofs.lemmas.Bool.Decides.{nat_tests}
use Rattle.far_word.specs.declared.pointer.Place.{Place}
use Rattle.far_word.specs.declared.refused.Refused.{Refused as Refusal}
use Rattle.far_word.specs.declared.refused.Refused.TheVariants.{NoRoom, NoPointer, Length, Closed, AlreadyOpen, NotHeld, Range, Held, Marked}
use Rattle.far_word.specs.declared.sizes.TheConstants.{LONGEST}
use Rattle.far_word.specs.Sizes.{size_of}
use Rattle.far_events.specs.declared.event.Event.{Event}
use Rattle.far_events.specs.declared.event.Event.TheVariants.{ReadEpoch as ReadsEpoch, Close as Closes}
use Rattle.far_core.specs.state.Room.{room}
use Rattle.far_events.specs.state.State.{State}
use Rattle.far_events.specs.events.Step.{is_opened, after_close}
use Rattle.far_events.proofs.Bounds.{some_of}
use Rattle.far_replay.specs.Moment.{Moment, moment_of, with_core}
use Rattle.far_text.specs.Command.{Command, New, Open, On, Use, Reads, Writes, Views, Close, Drop, Try, Epoch, Mutator, Evacuator}
use Rattle.far_alone.specs.Events.{new_events, open_events, view_events, sought_events, drop_events}
use Rattle.far_replay.specs.Events.{turn_events, refused_events, events_for, IsNoStep}
use Rattle.far_alone.specs.Objects.{uses, object_len, lowest_cell, is_range}
use Rattle.far_alone.specs.Dereference.{dereferenced, has_no_room, sought}
use Rattle.far_alone.specs.Effects.{with_object, with_view, is_slow, with_epoch, with_scope, without_object}
use Rattle.far_replay.specs.Turn.{after_use, turn_effect, refused_effect, effect, with_new, access_causes, first_cause, refusal, unless}
use Rattle.far_alone.proofs.Drops.{unheld_is}

-- ---- what no refusal says
-- four causes that aren't there
pub four : (a b c d : Bool) (w x y z : Refusal) → first_cause ((not a, w) ∷ (not b, x) ∷ (not c, y) ∷ (not d, z) ∷ []) ≡ None → (a ≡ true) × (b ≡ true) × (c ≡ true) × (d ≡ true)
four true true true true w x y z e = (refl, refl, refl, refl)
four _ _ _ _ w x y z e = absurd cc

-- three, and a fourth that is said otherwise
pub tried : (a b c d : Bool) (w x y z : Refusal) → first_cause ((not a, w) ∷ (not b, x) ∷ (not c, y) ∷ (d, z) ∷ []) ≡ None → (a ≡ true) × (b ≡ true) × (c ≡ true) × (d ≡ false)
tried true true true false w x y z e = (refl, refl, refl, refl)
tried _ _ _ _ w x y z e = absurd cc

-- and what is so where a mark is the cause
pub marked_last : (a b c d : Bool) (w v : ℕ) → first_cause ((not a, Range) ∷ (not b, Closed) ∷ (not c, NotHeld) ∷ (d, Marked w) ∷ []) ≡ Some (Marked v) → (a ≡ true) × (b ≡ true) × (c ≡ true) × (d ≡ true) × (v ≡ w)
marked_last true true true true w v e = (refl, refl, refl, refl, cc)
marked_last _ _ _ _ w v e = absurd cc

-- and where want of room is
pub room_last : (a b c d : Bool) → first_cause ((not a, Range) ∷ (not b, Closed) ∷ (not c, NotHeld) ∷ (d, NoRoom) ∷ []) ≡ Some NoRoom → (a ≡ true) × (b ≡ true) × (c ≡ true) × (d ≡ true)
room_last true true true true e = (refl, refl, refl, refl)
room_last _ _ _ _ e = absurd cc

-- what none of five says; and what want of room says
pub five : (a b c d e : Bool) → first_cause ((not a, Range) ∷ (not b, Closed) ∷ (not c, NotHeld) ∷ (not d, Range) ∷ (e, NoRoom) ∷ []) ≡ None → (a ≡ true) × (b ≡ true) × (c ≡ true) × (d ≡ true) × (e ≡ false)
five true true true true false h = (refl, refl, refl, refl, refl)
five _ _ _ _ _ h = absurd cc

pub room_lacks : (a b c d e : Bool) → first_cause ((not a, Range) ∷ (not b, Closed) ∷ (not c, NotHeld) ∷ (not d, Range) ∷ (e, NoRoom) ∷ []) ≡ Some NoRoom →
    (a ≡ true) × (b ≡ true) × (c ≡ true) × (e ≡ true)
room_lacks true true true true true h = (refl, refl, refl, refl)
room_lacks _ _ _ _ _ h = absurd cc

-- two of them
pub two : (a b : Bool) (w x : Refusal) → first_cause ((not a, w) ∷ (b, x) ∷ []) ≡ None → (a ≡ true) × (b ≡ false)
two true false w x e = (refl, refl)
two _ _ w x e = absurd cc

-- three of them
pub three : (a b c : Bool) (w x y : Refusal) → first_cause ((not a, w) ∷ (not b, x) ∷ (c, y) ∷ []) ≡ None → (a ≡ true) × (b ≡ true) × (c ≡ false)
three true true false w x y e = (refl, refl, refl)
three _ _ _ w x y e = absurd cc

-- what a command that may read or write an object has
pub record Access (s : State) (m p from count : ℕ) : Type 0 where
  pub opened : is_opened s m ≡ true
  pub ours : uses s m p ≡ true
  pub some : 0 < count
  pub within : from + count ≤ object_len s p
  pub room : has_no_room s m p ≡ false

-- what a read or a write that isn't refused has
pub access_fact : (s : State) (m p from count : ℕ) → first_cause (access_causes (moment_of s) m p from count ++ (has_no_room s m p, NoRoom) ∷ []) ≡ None → Access s m p from count
access_fact s m p from count e =
    let h = five (nat_lt m s.mutators) (is_opened s m) (uses s m p) (is_range (object_len s p) from count) (has_no_room s m p) e in
    let range : is_range (object_len s p) from count ≡ true = h.3 in
    let some : 0 < count = grind (arith, nat_tests, range) in
    let within : from + count ≤ object_len s p = grind (arith, nat_tests, range) in
    record { opened = h.1; ours = h.2; some = some; within = within; room = h.4 }

-- what a command that may reach an object has: an open scope, the object, and room for it; and what one has that is refused for want of room
pub may_reach : (now : Moment) (m p : ℕ) (how : Use) → refusal now (Mutator m (On p how)) ≡ None → (is_opened now.core m ≡ true) × (uses now.core m p ≡ true) × (has_no_room now.core m p ≡ false)
may_reach now m p (Writes from bytes) e =
    let h = five (nat_lt m now.core.mutators) (is_opened now.core m) (uses now.core m p) (is_range (object_len now.core p) from (length bytes)) (has_no_room now.core m p) e in (h.1, h.2, h.4)
may_reach now m p (Reads from len) e =
    let h = five (nat_lt m now.core.mutators) (is_opened now.core m) (uses now.core m p) (is_range (object_len now.core p) from len) (has_no_room now.core m p) e in (h.1, h.2, h.4)
may_reach now m p Views e =
    let h = tried (nat_lt m now.core.mutators) (is_opened now.core m) (uses now.core m p) (has_no_room now.core m p) Range Closed NotHeld NoRoom e in (h.1, h.2, h.3)

pub lacks_place : (now : Moment) (m p : ℕ) (how : Use) → refusal now (Mutator m (On p how)) ≡ Some NoRoom → (is_opened now.core m ≡ true) × (uses now.core m p ≡ true) × (has_no_room now.core m p ≡ true)
lacks_place now m p (Writes from bytes) e =
    let h = room_lacks (nat_lt m now.core.mutators) (is_opened now.core m) (uses now.core m p) (is_range (object_len now.core p) from (length bytes)) (has_no_room now.core m p) e in (h.1, h.2, h.3)
lacks_place now m p (Reads from len) e =
    let h = room_lacks (nat_lt m now.core.mutators) (is_opened now.core m) (uses now.core m p) (is_range (object_len now.core p) from len) (has_no_room now.core m p) e in (h.1, h.2, h.3)
lacks_place now m p Views e =
    let h = room_last (nat_lt m now.core.mutators) (is_opened now.core m) (uses now.core m p) (has_no_room now.core m p) e in (h.1, h.2, h.3)

-- ---- a new object
-- what the tests of a new object say
pub new_sizes : (m mutators len ds : ℕ) → (nat_lt m mutators && nat_lt ds 256) ≡ true → (nat_lt 0 len && nat_le len LONGEST) ≡ true → (m < mutators) × (ds < 256) × (0 < len) × (len ≤ LONGEST)
new_sizes m mutators len ds a b = (grind (arith, nat_tests), grind (arith, nat_tests), grind (arith, nat_tests), grind (arith, nat_tests))

-- none of them failed, if it isn't refused
pub new_tests : (s : State) (m len ds : ℕ) → refusal (moment_of s) (Mutator m (New len ds)) ≡ None →
    ((nat_lt m s.mutators && nat_lt ds 256) ≡ true) × ((nat_lt 0 len && nat_le len LONGEST) ≡ true) × (is_some (lowest_cell s m) ≡ true) × (is_some (room s (size_of len) true) ≡ true)
new_tests s m len ds = four (nat_lt m s.mutators && nat_lt ds 256) (nat_lt 0 len && nat_le len LONGEST) (is_some (lowest_cell s m)) (is_some (room s (size_of len) true)) Range Length NoPointer NoRoom

-- which sizes and numbers it has then
pub new_numbers : (s : State) (m len ds : ℕ) → refusal (moment_of s) (Mutator m (New len ds)) ≡ None → (m < s.mutators) × (ds < 256) × (0 < len) × (len ≤ LONGEST)
new_numbers s m len ds e = let tests = new_tests s m len ds e in new_sizes m s.mutators len ds tests.0 tests.1

-- ---- a scope
-- a scope that isn't open is closed
pub scope_is_shut : (s : State) (m : ℕ) → nat_lt m s.mutators ≡ true → is_opened s m ≡ false → (m < s.mutators) × (s.scope m ≡ 0)
scope_is_shut s m within opened = (grind (arith, nat_tests), grind (arith, nat_tests))

opened_by : (a b : Bool) → first_cause ((not a, Range) ∷ (not b, Closed) ∷ []) ≡ None → b ≡ true
opened_by true true e = refl
opened_by true false e = absurd cc
opened_by false b e = absurd cc

-- ---- the ways
-- nothing is made; a new object; a scope opens; its epoch is read; it closes; an object is pinned, by a try; it is sought in vain; it is brought, and used; it is ended
module _ (now : Moment) (P : Command → List Event → Moment → Type 0)
    (stays : (c : Command) → P c [] now)
    (makes : (m len ds p : ℕ) (place : Place) → refusal now (Mutator m (New len ds)) ≡ None → lowest_cell now.core m ≡ Some p → room now.core (size_of len) true ≡ Some place →
    P (Mutator m (New len ds)) (new_events m len ds (Some p) (Some place)) (with_core now (with_object now.core m p len ds place)))
    (opens : (m : ℕ) → (m < now.core.mutators) × (now.core.scope m ≡ 0) → P (Mutator m Open) (open_events now.core m) (with_core now (with_scope now.core m)))
    (reads : (m : ℕ) → (m < now.core.mutators) × (now.core.scope m ≡ 0) → P (Mutator m Epoch) (ReadsEpoch m ∷ []) (with_core now (with_epoch now.core m)))
    (closes : (m : ℕ) → is_opened now.core m ≡ true → P (Mutator m Close) (Closes m ∷ []) (with_core now (after_close now.core m)))
    (pins : (m p : ℕ) → is_opened now.core m ≡ true → uses now.core m p ≡ true → P (Mutator m (Try p)) (view_events now.core m p) (with_core now (with_view now.core p)))
    (seeks : (m p : ℕ) (how : Use) → is_opened now.core m ≡ true → uses now.core m p ≡ true → has_no_room now.core m p ≡ true →
    P (Mutator m (On p how)) (sought_events now.core m p) (with_core now (sought now.core m p)))
    (brings : (m p : ℕ) (how : Use) → refusal now (Mutator m (On p how)) ≡ None →
    P (Mutator m (On p how)) (turn_events now (Mutator m (On p how))) (with_core now (after_use (dereferenced now.core m p) p how)))
    (ends : (m p : ℕ) → m < now.core.mutators → uses now.core m p ≡ true → now.core.held p ≡ None → P (Mutator m (Drop p)) (drop_events now.core m p) (with_core now (without_object now.core m p))) where
  made : (m len ds : ℕ) → refusal now (Mutator m (New len ds)) ≡ None →
      P (Mutator m (New len ds)) (turn_events now (Mutator m (New len ds))) (turn_effect now (Mutator m (New len ds)))
  made m len ds e =
      let tests = new_tests now.core m len ds e in
      let cell = some_of (lowest_cell now.core m) tests.2 in
      let found = some_of (room now.core (size_of len) true) tests.3 in
      subst (λ (x : Option ℕ × Option Place). P (Mutator m (New len ds)) (new_events m len ds x.0 x.1) (with_core now (with_new now.core m len ds x.0 x.1)))
      (λ i. (sym cell.1 i, sym found.1 i)) (makes m len ds cell.0 found.0 e cell.1 found.1)

  -- a command that isn't refused
  turned : (c : Command) → IsNoStep c → refusal now c ≡ None → P c (turn_events now c) (turn_effect now c)
  turned (Mutator m (New len ds)) told e = made m len ds e
  turned (Mutator m Open) told e =
      let h = two (nat_lt m now.core.mutators) (is_opened now.core m) Range AlreadyOpen e in
      opens m (scope_is_shut now.core m h.0 h.1)
  turned (Mutator m Epoch) told e =
      let h = two (nat_lt m now.core.mutators) (is_opened now.core m) Range AlreadyOpen e in
      reads m (scope_is_shut now.core m h.0 h.1)
  turned (Mutator m Close) told e = closes m (opened_by (nat_lt m now.core.mutators) (is_opened now.core m) e)
  turned (Mutator m (On p how)) told e = brings m p how e
  turned (Mutator m (Drop p)) told e =
      let h = three (nat_lt m now.core.mutators) (uses now.core m p) (is_some (now.core.held p)) Range NotHeld Held e in
      ends m p (ltb-true m now.core.mutators h.0) h.1 (unheld_is (now.core.held p) h.2)
  turned (Mutator m (Try p)) told e =
      let h = tried (nat_lt m now.core.mutators) (is_opened now.core m) (uses now.core m p) (is_slow now.core p) Range Closed NotHeld (Marked (now.core.cell p)) e in
      pins m p h.1 h.2
  turned (Evacuator step) told e = absurd told
  turned c told e = stays c

  -- a refused one: where a mark was found, the pin; where there was no place, the owner's asking too; else nothing
  refused : (c : Command) (why : Refusal) → IsNoStep c → refusal now c ≡ Some why → P c (refused_events now c why) (refused_effect now c why)
  refused (Mutator m (On p how)) NoRoom told e =
      let h = lacks_place now m p how e in
      seeks m p how h.0 h.1 h.2
  refused (Mutator m (Try p)) (Marked word) told e =
      let h = marked_last (nat_lt m now.core.mutators) (is_opened now.core m) (uses now.core m p) (is_slow now.core p) (now.core.cell p) word e in
      pins m p h.1 h.2
  refused (Evacuator step) why told e = absurd told
  refused c why told e = stays c

  by_refusal : (c : Command) (o : Option Refusal) → IsNoStep c → refusal now c ≡ o → P c (unless o (refused_events now c) (turn_events now c)) (unless o (refused_effect now c) (turn_effect now c))
  by_refusal c None told e = turned c told e
  by_refusal c (Some why) told e = refused c why told e

  -- each command
  pub by_way : (c : Command) → IsNoStep c → P c (events_for now c) (effect now c)
  by_way c told = by_refusal c (refusal now c) told refl
