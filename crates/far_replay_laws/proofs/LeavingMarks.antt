-- Which marks a dereference leaves, whether it is refused or not.
use Rattle.std.proofs.Common.{◌≡◌, ◌≢◌, ℕ, ◌/◌, ◌^◌, Bool, true, false, not, nat_lt, nat_eq, refl, sym, ap, subst, ◌∙◌, is_some, Option, Some, None, bit_or, if◌then◌else◌}
use Rattle.std.specs.Prelude.{◌&&◌, ◌||◌}
use Rattle.std.proofs.lemmas.Bool.{and_parts, cond_both, false≢true, not-false, not-true}
use Rattle.far_word.specs.declared.mark.Mark.TheVariants.{Hot, Dirty}
use Rattle.far_word.specs.declared.pointer.Place.{Place}
use Rattle.far_word.specs.declared.pointer.PtrWord.{PtrWord}
use Rattle.far_word.specs.declared.pointer.PtrWord.TheVariants.{Free, Near, Far}
use Rattle.far_word.specs.declared.refused.Refused.{Refused as Refusal}
use Rattle.far_word.specs.declared.refused.Refused.TheVariants.{Closed, NotHeld, Range, Marked as MarkFound}
use Rattle.far_word.specs.declared.sizes.TheConstants.{CELLS}
use Rattle.far_word.specs.Mark.{position}
use Rattle.far_word.specs.Pointer.{read_of}
use Rattle.far_events.specs.events.Step.{after_pin, is_opened, place_to_view}
use Rattle.far_events.specs.state.Law.{Law, in_use, is_dirty, held_place}
use Rattle.far_events.specs.state.State.{State}
use Rattle.far_events.proofs.Cells.{map_mark, read_hot}
use Rattle.far_events.proofs.Put.{put_other, put_same}
use Rattle.far_events.proofs.Bounds.{some_of}
use Rattle.far_text.specs.Command.{Command, On, Use, Writes, Views, Try, Mutator}
use Rattle.far_replay.specs.Answers.{Commanded, Served, Unbrought, IsMoment}
use Rattle.far_replay.specs.Commanded.{KeepsFar}
use Rattle.far_replay.proofs.Outcomes.{by_outcome}
use Rattle.far_alone.specs.Dereference.{come, comes_to, dereferenced, has_no_room, sought}
use Rattle.far_alone.specs.Effects.{is_slow, with_data, with_view}
use Rattle.far_alone.specs.Events.{come_events}
use Rattle.far_replay.specs.Taking.{LacksRoom}
use Rattle.far_replay_laws.specs.LeftMarks.{GainsDirty, GainsForRoom, GainsHot, IsHotAlone, LeavesHot, LeavesMarks, LeavesWritten, OthersStay, RefusedLeaves, TryLeaves, is_hot}
use Rattle.far_replay.specs.Moment.{Moment, as_if_stored, with_stored}
use Rattle.far_alone.specs.Objects.{uses}
use Rattle.far_reply.specs.Reply.{Reply, Refused}
use Rattle.far_replay.specs.Turn.{causes, refusal, unless, turn_effect, refused_effect, turn_reply, reply_to}
use Rattle.far_alone.proofs.Bringing.{asked_keeps, brought_keeps, slow_unheld}
use Rattle.far_replay.proofs.Brought.{brought}
use Rattle.far_replay.proofs.Dereferences.{derefs, sought_lacks, sought_law, sought_may, sought_word}
use Rattle.far_alone.proofs.Drops.{unheld_is}
use Rattle.far_replay.proofs.Drops.{viewed_is}
use Rattle.far_replay_laws.proofs.HotViews.{moment_hot}
use Rattle.far_replay.proofs.Lasting.{moment_lasts, misled_from}
use Rattle.far_alone.proofs.Leading.{leads_law}
use Rattle.far_replay_laws.proofs.Refusals.{EachFirst, among, of_far}
use Rattle.far_alone.proofs.Soiling.{soiled_reads}
use Rattle.far_replay.proofs.TakingView.{asked_word}
use Rattle.far_replay.proofs.Ways.{may_reach, tried}
use Rattle.far_alone.proofs.Views.{anew_is, fast_dereference, fast_seen, Already, Anew, Seen, pin_read, slow_parts}
use Rattle.far_replay_laws.proofs.Misleading.{as_misled}
use Rattle.far_core.specs.world.WorldOf.{world_of}

-- ---- what a cell says with HOT, and with MOVE
hot_gained : (o n : Option PtrWord) → in_use o ≡ true → n ≡ map_mark Hot o → GainsHot o n
hot_gained (Some (Near len ds place m)) n used e = e
hot_gained (Some (Far len ds m)) n used e = e
hot_gained _ n used e = absurd (false≢true used)

-- DIRTY is as it was
asked_dirt : (o : Option PtrWord) → is_dirty (asked_word o) ≡ is_dirty o
asked_dirt (Some Free) = refl
asked_dirt _ = refl

wanted : (s : State) (o n : Option PtrWord) → LacksRoom s o → n ≡ asked_word o → GainsForRoom o n
wanted s (Some (Near len ds place m)) n h e = (h.0, e ∙ ap (λ b. Some (Near len ds place record { hot = true; evac = b; moved = true; dropped = m.dropped; dirty = m.dirty })) h.0)
wanted s (Some (Far len ds m)) n h e = e
wanted s _ n h e = absurd h

-- a pin gives a view of what has no mark but HOT
bare : (a b c : Bool) (at place : Place) → (if a || b || c then None else Some at) ≡ Some place → (a ≡ false) × (b ≡ false) × (c ≡ false)
bare false false false at place e = (refl, refl, refl)
bare _ _ _ at place e = absurd cc

pinned_alone : (o : Option PtrWord) (place : Place) → place_to_view o ≡ Some place → IsHotAlone (is_dirty o) (map_mark Hot o)
pinned_alone (Some (Near len ds at m)) place e =
    let none = bare m.evac m.moved m.dropped at place e in (
      len,
      ds,
      at,
      ap (λ b. Some (Near len ds at record { hot = true; evac = b; moved = m.moved; dropped = m.dropped; dirty = m.dirty })) none.0
          ∙ ap (λ b. Some (Near len ds at record { hot = true; evac = false; moved = b; dropped = m.dropped; dirty = m.dirty })) none.1
          ∙ ap (λ b. Some (Near len ds at record { hot = true; evac = false; moved = false; dropped = b; dirty = m.dirty })) none.2,
    )
pinned_alone _ place e = absurd cc

-- ---- the cells after a view
view_cells : (s : State) (p q : ℕ) → q ≢ p → (with_view s p).cell q ≡ s.cell q
view_cells s p q ne = cond_both (is_some (s.held p)) s (after_pin s p) (λ (t : State). t.cell q ≡ s.cell q) (λ _. refl) (λ _. put_other s.cell p (bit_or (s.cell p) (2 ^ position Hot)) q ne)

record Left (s : State) (p : ℕ) (cell : ℕ → ℕ) : Type 0 where
  again : is_some (s.held p) ≡ true → cell p ≡ s.cell p
  anew : is_some (s.held p) ≡ false → IsHotAlone (is_dirty (read_of (s.cell p))) (read_of (cell p))
  others : (q : ℕ) → q ≢ p → cell q ≡ s.cell q

leaves_hot : (s t : State) (p : ℕ) → Left s p t.cell → (is_some (s.held p) ≡ true → is_hot (read_of (s.cell p)) ≡ true) → LeavesHot s t p
leaves_hot s t p left hot = record {
  hot = by_view (is_some (s.held p)) refl;
  again = λ viewed. left.again (viewed_is s p true viewed);
  anew = λ free. left.anew (viewed_is s p false free);
  others = left.others;
} where
  by_view : (b : Bool) → is_some (s.held p) ≡ b → is_hot (read_of (t.cell p)) ≡ true
  by_view true e = ap (λ w. is_hot (read_of w)) (left.again e) ∙ hot e
  by_view false e = ap is_hot (left.anew e).3

-- ---- and after a write
dirtied : (o : Option PtrWord) (place : Place) → held_place o ≡ Some place → GainsDirty o (map_mark Dirty o)
dirtied (Some (Near len ds at m)) place e = refl
dirtied _ place e = absurd cc

dirty_hot : (o : Option PtrWord) → is_hot (map_mark Dirty o) ≡ is_hot o
dirty_hot (Some Free) = refl
dirty_hot _ = refl

leaves_written : (s t u : State) (p : ℕ) → Law s → Left s p t.cell → (is_some (s.held p) ≡ true → is_hot (read_of (s.cell p)) ≡ true) → read_of (u.cell p) ≡ map_mark Dirty (read_of (t.cell p)) →
    ((q : ℕ) → q ≢ p → u.cell q ≡ t.cell q) → LeavesWritten s u p
leaves_written s t u p law left hot says same =
    let x = leaves_hot s t p left hot in
    record {
      hot = ap is_hot says ∙ dirty_hot (read_of (t.cell p)) ∙ x.hot;
      again = λ viewed.
          let held = viewed_is s p true viewed in
          let there = some_of (s.held p) held in
          subst (GainsDirty (read_of (s.cell p))) (sym (says ∙ ap (λ w. map_mark Dirty (read_of w)) (left.again held))) (dirtied (read_of (s.cell p)) there.0 (law.views.held_names p there.0 there.1));
      anew = λ free. let alone = left.anew (viewed_is s p false free) in (alone.0, alone.1, alone.2, says ∙ ap (map_mark Dirty) alone.3);
      others = λ q ne. same q ne ∙ left.others q ne;
    }

module _ (s : State) (m p : ℕ) (law : Law s) (opened : is_opened s m ≡ true) (ours : uses s m p ≡ true) where
  used : s.used p ≡ true
  used = (and_parts (nat_eq (p / CELLS) m) (s.used p) ours).1

  pin_says : is_some (s.held p) ≡ false → read_of ((with_view s p).cell p) ≡ map_mark Hot (read_of (s.cell p))
  pin_says free = ap (λ (t : State). read_of (t.cell p)) (anew_is s p (unheld_is (s.held p) free)) ∙ pin_read s m p law opened ours

  -- by a pin alone
  fast_left : is_slow s p ≡ false → Left s p (with_view s p).cell
  fast_left fast = record {
    again = λ e. ap (λ b. (if b then s else after_pin s p).cell p) e;
    anew = λ free. subst (IsHotAlone (is_dirty (read_of (s.cell p)))) (sym (pin_says free)) (by_seen free (fast_seen s p fast));
    others = view_cells s p;
  } where
    by_seen : is_some (s.held p) ≡ false → Seen s p → IsHotAlone (is_dirty (read_of (s.cell p))) (map_mark Hot (read_of (s.cell p)))
    by_seen free (Already place e) = absurd (false≢true (sym free ∙ ap is_some e))
    by_seen free (Anew place e can_view) = pinned_alone (read_of (s.cell p)) place can_view

  -- a pin that finds a mark
  found_gains : is_slow s p ≡ true → GainsHot (read_of (s.cell p)) (read_of ((with_view s p).cell p))
  found_gains slow = hot_gained (read_of (s.cell p)) (read_of ((with_view s p).cell p)) (law.views.used_cell p used) (pin_says (slow_parts s p slow).0)

  -- want of room
  room_gains : has_no_room s m p ≡ true → GainsForRoom (read_of (s.cell p)) (read_of ((sought s m p).cell p)) × OthersStay s (sought s m p) p
  room_gains full =
      let both = and_parts (is_slow s p) (not (is_some (comes_to (sought s m p) p))) full in
      let none = unheld_is (comes_to (sought s m p) p) (not-true (is_some (comes_to (sought s m p) p)) both.1) in
      let pinned : State = with_view s p in (
        wanted s (read_of (s.cell p)) (read_of ((sought s m p).cell p)) (sought_lacks s m p law opened ours both.0 none).1 (sought_word s m p law opened ours both.0),
        (λ q ne. (asked_keeps pinned m p (read_of (pinned.cell p))).cells q ne ∙ view_cells s p q ne),
      )

  -- a pin, the owner's asking, what brings the object, and a pin again
  slow_left : (place : Place) → is_slow s p ≡ true → comes_to (sought s m p) p ≡ Some place → Left s p (dereferenced s m p).cell
  slow_left place slow found =
      let pinned : State = with_view s p in
      let there : State = come (sought s m p) p in
      let comes = brought (sought s m p) (sought_law s m p law opened ours slow) p place (sought_may s m p law opened ours slow) found in
      let there_law = leads_law (sought s m p) there (come_events (sought s m p) p) (sought_law s m p law opened ours slow) comes.leads in
      let owners = brought_keeps pinned m p in
      let unheld : there.held p ≡ None = ap (λ (f : ℕ → Option Place). f p) owners.held ∙ slow_unheld s pinned m p refl slow in
      let ends : (dereferenced s m p).cell ≡ (after_pin there p).cell =
      ap (λ b. (if b then with_view (come (sought s m p) p) p else with_view s p).cell) slow ∙ ap (λ (t : State). t.cell) (anew_is there p unheld) in
      let says : read_of ((after_pin there p).cell p) ≡ map_mark Hot (read_of (there.cell p)) =
      ap read_of (put_same there.cell p (bit_or (there.cell p) (2 ^ position Hot)) p refl) ∙ (read_hot (there.cell p) (there_law.cells.cell_read p).0 (ap in_use comes.near)).0 in
      record {
        again = λ e. absurd (false≢true (sym (slow_parts s p slow).0 ∙ e));
        anew = λ free.
            let dirty : comes.dirty ≡ is_dirty (read_of (s.cell p)) = comes.still ∙ ap is_dirty (sought_word s m p law opened ours slow) ∙ asked_dirt (read_of (s.cell p)) in
            subst (λ b. IsHotAlone b (read_of ((dereferenced s m p).cell p))) dirty (comes.len, comes.ds, comes.place, ap (λ (f : ℕ → ℕ). read_of (f p)) ends ∙ says ∙ ap (map_mark Hot) comes.near);
        others = λ q ne. ap (λ (f : ℕ → ℕ). f q) ends ∙ put_other there.cell p (bit_or (there.cell p) (2 ^ position Hot)) q ne ∙ owners.cells q ne ∙ view_cells s p q ne;
      }

  left_by : (b : Bool) → is_slow s p ≡ b → (b && not (is_some (comes_to (sought s m p) p))) ≡ false → Left s p (dereferenced s m p).cell
  left_by true slow room = let at = some_of (comes_to (sought s m p) p) (not-false (is_some (comes_to (sought s m p) p)) room) in slow_left at.0 slow at.1
  left_by false fast room = subst (λ (t : State). Left s p t.cell) (sym (fast_dereference s m p fast)) (fast_left fast)

  left : has_no_room s m p ≡ false → Left s p (dereferenced s m p).cell
  left room = left_by (is_slow s p) refl room

-- ---- each command
-- what a refusal leaves, by its cause
use_refused : (now : Moment) (m p : ℕ) (how : Use) → Law now.core → EachFirst (λ why. RefusedLeaves now.core p why (refused_effect now (Mutator m (On p how)) why).core) (causes now (Mutator m (On p how)))
use_refused now m p Views law =
    ((λ _. refl), λ _. ((λ _. refl), λ shut. ((λ _. refl), λ other. (room_gains now.core m p law (not-false (is_opened now.core m) shut) (not-false (uses now.core m p) other), λ _. tt))))
use_refused now m p how law =
    ((λ _. refl), λ _. ((λ _. refl), λ shut. ((λ _. refl), λ other. ((λ _. refl), λ _. (room_gains now.core m p law (not-false (is_opened now.core m) shut) (not-false (uses now.core m p) other), λ _. tt)))))

try_refused : (now : Moment) (m p : ℕ) (why : Refusal) → Law now.core → refusal now (Mutator m (Try p)) ≡ Some why →
    TryLeaves now.core p why (refused_effect now (Mutator m (Try p)) why).core
try_refused now m p why law e = among (λ x. TryLeaves now.core p x (refused_effect now (Mutator m (Try p)) x).core) (causes now (Mutator m (Try p))) why (
  (λ _. refl),
  λ _. (
    (λ _. refl),
    λ shut. (
      (λ _. refl),
      λ other. (
        (λ slow. (refl, found_gains now.core m p law (not-false (is_opened now.core m) shut) (not-false (uses now.core m p) other) slow, view_cells now.core p)),
        λ _. tt,
      ),
    ),
  ),
) e

leaves : (now : Moment) (c : Command) (o : Option Refusal) → IsMoment now → refusal now c ≡ o →
    LeavesMarks now.core c (unless o Refused (turn_reply now c)) (unless o (refused_effect now c) (turn_effect now c)).core
leaves now (Mutator m (On p (Writes from bytes))) None is e =
    let h = may_reach now m p (Writes from bytes) e in
    let law = (moment_lasts now is).law in
    let t : State = dereferenced now.core m p in
    let led = derefs now.core m p law h.0 h.1 h.2 in
    leaves_written now.core t (with_data t p from bytes) p law (left now.core m p law h.0 h.1 h.2) (moment_hot now is p)
    (soiled_reads t led.law m p led.view.len led.view.place led.view.holds) (λ q ne. put_other t.cell p (bit_or (t.cell p) (2 ^ position Dirty)) q ne)
leaves now (Mutator m (On p how)) None is e =
    let h = may_reach now m p how e in
    leaves_hot now.core (dereferenced now.core m p) p (left now.core m p (moment_lasts now is).law h.0 h.1 h.2) (moment_hot now is p)
leaves now (Mutator m (On p how)) (Some why) is e =
    among (λ why. RefusedLeaves now.core p why (refused_effect now (Mutator m (On p how)) why).core) (causes now (Mutator m (On p how))) why (use_refused now m p how (moment_lasts now is).law) e
leaves now (Mutator m (Try p)) None is e =
    let h = tried (nat_lt m now.core.mutators) (is_opened now.core m) (uses now.core m p) (is_slow now.core p) Range Closed NotHeld (MarkFound (now.core.cell p)) e in
    leaves_hot now.core (with_view now.core p) p (fast_left now.core m p (moment_lasts now is).law h.1 h.2 h.3) (moment_hot now is p)
leaves now (Mutator m (Try p)) (Some why) is e = try_refused now m p why (moment_lasts now is).law e
leaves now _ o is e = tt

pub served_leaves : (now : Moment) (c : Command) (r : Reply) (next : Moment) → IsMoment now → Served now c r next → LeavesMarks now.core c r next.core
served_leaves now c r next is h =
    subst (λ x. LeavesMarks now.core c x next.core) (sym h.reply)
    (subst (λ (x : Moment). LeavesMarks now.core c (reply_to now c) x.core) (sym h.moment) (leaves now c (refusal now c) is refl))

-- one that the device refuses leaves HOT, as a try does
far_leaves : (s t : State) (p : ℕ) (why : Refusal) → KeepsFar why → GainsHot (read_of (s.cell p)) (read_of (t.cell p)) × OthersStay s t p → RefusedLeaves s p why t
far_leaves s t p why h gains = of_far (λ x. RefusedLeaves s p x t) why h gains gains

tried_leaves : (now : Moment) (c : Command) (why : Refusal) (m p : ℕ) (r : Reply) (next : Moment) → IsMoment now → Unbrought why now c m p r next → RefusedLeaves now.core p why next.core
tried_leaves now c why m p r next is h =
    let x = served_leaves now _ _ next is h.tried in
    far_leaves now.core next.core p why h.cause (x.1, x.2)

-- and one that is given other words leaves what it would if they were stored
hot_as_if : (s t : State) (p : ℕ) (row : ℕ → ℕ) → LeavesHot (with_stored s p row) (with_stored t p row) p → LeavesHot s t p
unfolding world_of
hot_as_if s t p row x = record { hot = x.hot; again = x.again; anew = x.anew; others = x.others }

written_as_if : (s t : State) (p : ℕ) (row : ℕ → ℕ) → LeavesWritten (with_stored s p row) (with_stored t p row) p → LeavesWritten s t p
unfolding world_of
written_as_if s t p row x = record { hot = x.hot; again = x.again; anew = x.anew; others = x.others }

pub commands_leave : (now : Moment) (c : Command) (r : Reply) (next : Moment) → IsMoment now → Commanded now c r next → LeavesMarks now.core c r next.core
commands_leave now c r next is h = by_outcome now r next (λ d. LeavesMarks now.core d r next.core)
    (λ d h. served_leaves now d r next is h)
    (λ why m p how h. subst (λ x. LeavesMarks now.core (Mutator m (On p how)) x next.core) (sym h.reply) (tried_leaves now (Mutator m (On p how)) why m p r next is h))
    (λ why objects count h. tt)
    (λ why turns objects policy most count h. tt)
    (λ row m p d asks h. as_misled row now r next m p (λ now c r next. LeavesMarks now.core c r next.core) (λ from bytes. written_as_if now.core next.core p row) (λ from len bytes. hot_as_if now.core next.core p row) (hot_as_if now.core next.core p row)
    d asks h (served_leaves (as_if_stored now p row) d r (as_if_stored next p row) (misled_from row now d p r next is h) h.served))
    c h
