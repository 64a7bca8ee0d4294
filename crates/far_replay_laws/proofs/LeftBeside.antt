-- A command that is no step of the evacuator leaves what isn't of its own object or scope.
use Rattle.std.proofs.Common.{◌≡◌, ℕ, ◌/◌, ◌^◌, true, false, not, refl, sym, ap, subst, ◌∙◌, is_some, Option, Some, None, List, ◌==◌, bit_or}
use Rattle.std.proofs.lemmas.Bool.{cond-false, cond_both, ne_eqb}
use Rattle.far_word.specs.declared.mark.Mark.{Mark}
use Rattle.far_word.specs.declared.mark.Mark.TheVariants.{Hot, Moved, Dropped, Dirty}
use Rattle.far_word.specs.declared.pointer.Place.{Place}
use Rattle.far_word.specs.declared.pointer.PtrWord.{PtrWord}
use Rattle.far_word.specs.declared.pointer.PtrWord.TheVariants.{Near, Far}
use Rattle.far_word.specs.declared.refused.Refused.{Refused as Refusal}
use Rattle.far_word.specs.declared.refused.Refused.TheVariants.{NoRoom, Marked}
use Rattle.far_word.specs.declared.sizes.TheConstants.{CELLS}
use Rattle.far_word.specs.Mark.{position}
use Rattle.far_word.specs.Pointer.{IsPtr, read_of}
use Rattle.far_word.specs.Sizes.{size_of}
use Rattle.far_word.proofs.PointerLaws.{read_back}
use Rattle.far_events.specs.events.Copied.{copied_job}
use Rattle.far_events.specs.events.namings.Moves.{after_move}
use Rattle.far_events.specs.declared.event.Event.TheVariants.{Ask, Name}
use Rattle.far_events.specs.declared.naming.Naming.{Naming}
use Rattle.far_events.specs.declared.naming.Naming.TheVariants.{Places, Moves}
use Rattle.far_events.specs.events.Copies.{data_at}
use Rattle.far_events.specs.events.Name.{after_naming}
use Rattle.far_events.specs.events.Naming.{naming_of, naming_row, no_marks, unmarked}
use Rattle.far_events.specs.events.Step.{after, after_close, after_pin, place_to_view}
use Rattle.far_events.specs.state.Law.{Law}
use Rattle.far_core.specs.state.Room.{room}
use Rattle.far_events.specs.state.State.{State}
use Rattle.far_events.proofs.Bounds.{some_of}
use Rattle.far_events.proofs.Put.{put_other, put_same}
use Rattle.far_book.specs.book.Dealing.{has_evac}
use Rattle.far_book.specs.book.Effects.{fetched_of, moved, moved_of, near_word, placed, retired, stayed, stayed_of, with_blank_span, with_written_span}
use Rattle.far_book.proofs.region.Places.{named_is}
use Rattle.far_evac.proofs.StepsAside.{layout}
use Rattle.far_replay.specs.Answers.{Commanded, Served, IsMoment}
use Rattle.far_replay.proofs.Outcomes.{by_outcome}
use Rattle.far_alone.specs.Dereference.{come, come_of, comes_to, dereferenced, sought, sought_of}
use Rattle.far_alone.specs.Effects.{is_slow, with_data, with_epoch, with_object, with_scope, with_view, without_object}
use Rattle.far_replay.specs.Moment.{Moment, with_core, as_if_stored, with_stored}
use Rattle.far_alone.specs.Objects.{lowest_cell}
use Rattle.far_reply.specs.Reply.{Reply, Pointer, Refused}
use Rattle.far_replay.specs.Turn.{pointer_reply, refusal, refused_effect, reply_to, turn_effect, turn_reply, unless, with_new}
use Rattle.far_alone.proofs.AloneStates.{lowest_free}
use Rattle.far_replay.proofs.Lasting.{moment_lasts, misled_from}
use Rattle.far_replay.proofs.Ways.{new_tests}
use Rattle.far_text.specs.Command.{Command, New, Open, On, Writes, Close, Where, Drop, Try, Epoch, Mutator, Book, Evacuator}
use Rattle.far_replay_laws.specs.LeftBeside.{AllButObject, AllButScope, LeavesBeside, NewLeaves}
use Rattle.far_replay_laws.proofs.AloneNew.{is_length, is_structure}
use Rattle.far_replay_laws.proofs.HotViews.{held_other}
use Rattle.far_replay_laws.proofs.Misleading.{as_misled}

-- ---- one object
same : (s : State) (p : ℕ) → AllButObject s s p
same s p = record { cells = λ q ne. refl; used = λ q ne. refl; views = λ q ne. refl; scopes = λ m. refl; remembered = λ m. refl }

both : (s t u : State) (p : ℕ) → AllButObject s t p → AllButObject t u p → AllButObject s u p
both s t u p a b = record {
  cells = λ q ne. b.cells q ne ∙ a.cells q ne;
  used = λ q ne. b.used q ne ∙ a.used q ne;
  views = λ q ne. b.views q ne ∙ a.views q ne;
  scopes = λ m. b.scopes m ∙ a.scopes m;
  remembered = λ m. b.remembered m ∙ a.remembered m;
}

-- a move takes a span, or names what was copied
move_form : (s : State) (p new len : ℕ) (to : Place) (j : Option ℕ) → AllButObject s (after_move s p new len to j) p
move_form s p new len to None = record { cells = λ q ne. put_other s.cell p new q ne; used = λ q ne. refl; views = λ q ne. refl; scopes = λ m. refl; remembered = λ m. refl }
move_form s p new len to (Some j) = record { cells = λ q ne. put_other s.cell p new q ne; used = λ q ne. refl; views = λ q ne. refl; scopes = λ m. refl; remembered = λ m. refl }

-- a cell is named anew
named_form : (s : State) (p new : ℕ) (form : Naming) → AllButObject s (naming_row s p new form).after p
named_form s p new (Places len ds place) = record { cells = λ q ne. put_other s.cell p new q ne; used = λ q ne. refl; views = λ q ne. refl; scopes = λ m. refl; remembered = λ m. refl }
named_form s p new (Moves len ds from to) = move_form s p new len to (copied_job s p from to)
named_form s p new _ = record { cells = λ q ne. put_other s.cell p new q ne; used = λ q ne. refl; views = λ q ne. refl; scopes = λ m. refl; remembered = λ m. refl }

named_by : (s : State) (p new : ℕ) (o : Option Naming) → AllButObject s (after_naming s p new o) p
named_by s p new None = same s p
named_by s p new (Some form) = named_form s p new form

named : (s : State) (p old new : ℕ) → AllButObject s (after s (Name p old new)) p
named s p old new = cond_both (s.cell p == old) (after_naming s p new (naming_of (read_of old) (read_of new))) s (λ (t : State). AllButObject s t p)
    (λ _. named_by s p new (naming_of (read_of old) (read_of new))) (λ _. same s p)

-- a span is written before
written : (s : State) (p old len ds : ℕ) (place : Place) (row : ℕ → ℕ) (new : ℕ) → AllButObject s (after (with_written_span s p len ds place row) (Name p old new)) p
written s p old len ds place row new = let k = named (with_written_span s p len ds place row) p old new in
    record { cells = k.cells; used = k.used; views = k.views; scopes = k.scopes; remembered = k.remembered }

moved_beside : (s : State) (p : ℕ) (place : Place) (o : Option PtrWord) → AllButObject s (moved_of s p place o) p
moved_beside s p place (Some (Near len ds from marks)) = written s p (s.cell p) len ds place (data_at s.word from) (near_word marks.dirty len ds place)
moved_beside s p place _ = same s p

stayed_beside : (s : State) (p : ℕ) (o : Option PtrWord) → AllButObject s (stayed_of s p o) p
stayed_beside s p (Some (Near len ds place marks)) = named s p (s.cell p) (near_word marks.dirty len ds place)
stayed_beside s p _ = same s p

fetched_beside : (s : State) (p : ℕ) (place : Place) (row : ℕ → ℕ) (o : Option PtrWord) → AllButObject s (fetched_of s p place row o) p
fetched_beside s p place row (Some (Far len ds marks)) = written s p (s.cell p) len ds place row (near_word false len ds place)
fetched_beside s p place row _ = same s p

come_beside : (s : State) (p : ℕ) (x : Option Place) (o : Option PtrWord) → AllButObject s (come_of s p x o) p
come_beside s p (Some place) (Some (Near len ds from marks)) = cond_both (has_evac (read_of (s.cell p))) (moved s p place) (stayed s p) (λ (t : State). AllButObject s t p)
    (λ _. moved_beside s p place (read_of (s.cell p))) (λ _. stayed_beside s p (read_of (s.cell p)))
come_beside s p (Some place) (Some (Far len ds marks)) = fetched_beside s p place (s.stored p) (read_of (s.cell p))
come_beside s p _ _ = same s p

-- the owner asks
asked_mark : (s : State) (m p : ℕ) (k : Mark) → AllButObject s (after s (Ask m p k)) p
asked_mark s m p Dropped = record { cells = λ q ne. put_other s.cell p _ q ne; used = λ q ne. put_other s.used p false q ne; views = λ q ne. refl; scopes = λ m. refl; remembered = λ m. refl }
asked_mark s m p _ = record { cells = λ q ne. put_other s.cell p _ q ne; used = λ q ne. refl; views = λ q ne. refl; scopes = λ m. refl; remembered = λ m. refl }

asked_beside : (s : State) (m p : ℕ) (o : Option PtrWord) → AllButObject s (sought_of s m p o) p
asked_beside s m p (Some (Near len ds place marks)) = asked_mark s m p Moved
asked_beside s m p _ = same s p

-- a pin
pinned_beside : (s : State) (p : ℕ) → AllButObject s (after_pin s p) p
pinned_beside s p = record {
  cells = λ q ne. put_other s.cell p (bit_or (s.cell p) (2 ^ position Hot)) q ne;
  used = λ q ne. refl;
  views = λ q ne. held_other s.held p (place_to_view (read_of (s.cell p))) q ne;
  scopes = λ m. refl;
  remembered = λ m. refl;
}

view_beside : (s : State) (p : ℕ) → AllButObject s (with_view s p) p
view_beside s p = cond_both (is_some (s.held p)) s (after_pin s p) (λ (t : State). AllButObject s t p) (λ _. same s p) (λ _. pinned_beside s p)

sought_beside : (s : State) (m p : ℕ) → AllButObject s (sought s m p) p
sought_beside s m p = let t : State = with_view s p in both s t (sought s m p) p (view_beside s p) (asked_beside t m p (read_of (t.cell p)))

brought_beside : (s : State) (m p : ℕ) → AllButObject s (with_view (come (sought s m p) p) p) p
brought_beside s m p =
    let t : State = sought s m p in
    let u : State = come t p in
    both s u (with_view u p) p (both s t u p (sought_beside s m p) (come_beside t p (comes_to t p) (read_of (t.cell p)))) (view_beside u p)

dereferenced_beside : (s : State) (m p : ℕ) → AllButObject s (dereferenced s m p) p
dereferenced_beside s m p = cond_both (is_slow s p) (with_view (come (sought s m p) p) p) (with_view s p) (λ (t : State). AllButObject s t p) (λ _. brought_beside s m p) (λ _. view_beside s p)

data_beside : (s t : State) (p from : ℕ) (bytes : List ℕ) → AllButObject s t p → AllButObject s (with_data t p from bytes) p
data_beside s t p from bytes k = record { cells = λ q ne. put_other t.cell p (bit_or (t.cell p) (2 ^ position Dirty)) q ne ∙ k.cells q ne; used = k.used; views = k.views; scopes = k.scopes; remembered = k.remembered }

without_beside : (s : State) (m p : ℕ) → AllButObject s (without_object s m p) p
without_beside s m p = let t : State = after s (Ask m p Dropped) in both s t (retired t p) p (asked_mark s m p Dropped) (named t p (t.cell p) 0)

new_beside : (s : State) (m p len ds : ℕ) (place : Place) → AllButObject s (with_object s m p len ds place) p
new_beside s m p len ds place =
    let k = written s p 0 len ds place (λ _. 0) (near_word true len ds place) in
    record { cells = k.cells; used = λ q ne. put_other (placed s p len ds place).used p true q ne ∙ k.used q ne; views = k.views; scopes = k.scopes; remembered = k.remembered }

-- ---- one scope
shut : (s : State) (m : ℕ) → AllButScope s s m
shut s m = record { cells = λ q. refl; used = λ q. refl; views = λ q ne. refl; scopes = λ k ne. refl; remembered = λ k ne. refl }

scope_beside : (s : State) (m : ℕ) → AllButScope s (with_scope s m) m
scope_beside s m = record {
  cells = λ q. refl;
  used = λ q. refl;
  views = λ q ne. refl;
  scopes = λ k ne. put_other s.scope m _ k ne;
  remembered = λ k ne. put_other s.remembered m _ k ne;
}

epoch_beside : (s : State) (m : ℕ) → AllButScope s (with_epoch s m) m
epoch_beside s m = record { cells = λ q. refl; used = λ q. refl; views = λ q ne. refl; scopes = λ k ne. refl; remembered = λ k ne. put_other s.remembered m (Some s.epoch) k ne }

close_beside : (s : State) (m : ℕ) → AllButScope s (after_close s m) m
close_beside s m = record {
  cells = λ q. refl;
  used = λ q. refl;
  views = λ q ne. cond-false (q / CELLS == m) None (s.held q) (ne_eqb (q / CELLS) m ne);
  scopes = λ k ne. put_other s.scope m _ k ne;
  remembered = λ k ne. put_other s.remembered m None k ne;
}

-- ---- a new object's cell
new_named : (s : State) (m p len ds : ℕ) (place : Place) → s.cell p ≡ 0 → IsPtr (Near len ds place no_marks) → read_of ((with_object s m p len ds place).cell p) ≡ Some (Near len ds place (unmarked true))
new_named s m p len ds place free lies = ap (λ (t : State). read_of (t.cell p)) (named_is (with_blank_span s p len ds place) p len ds place free lies)
    ∙ ap read_of (put_same s.cell p (near_word true len ds place) p refl) ∙ read_back (Near len ds place (unmarked true)) lies

new_leaves : (now : Moment) (m len ds : ℕ) → Law now.core → refusal now (Mutator m (New len ds)) ≡ None →
    NewLeaves now len ds (turn_reply now (Mutator m (New len ds))) (turn_effect now (Mutator m (New len ds)))
new_leaves now m len ds law none =
    let s : State = now.core in
    let parts = new_tests s m len ds none in
    let low = some_of (lowest_cell s m) parts.2 in
    let at = some_of (room s (size_of len) true) parts.3 in
    let numbers = is_structure s m ds (ap not parts.0) in
    let sized = is_length len (ap not parts.1) in
    let lies : IsPtr (Near len ds at.0 no_marks) = layout s law len ds at.0 true sized.0 sized.1 numbers.1 at.1 in
    subst (λ (x : Option ℕ). NewLeaves now len ds (pointer_reply x) (with_core now (with_new s m len ds x (room s (size_of len) true)))) (sym low.1)
    (subst (λ (y : Option Place). NewLeaves now len ds (Pointer low.0) (with_core now (with_new s m len ds (Some low.0) y))) (sym at.1)
    (new_beside s m low.0 len ds at.0, (at.0, new_named s m low.0 len ds at.0 (lowest_free s m low.0 low.1) lies)))

-- ---- each command
leaves : (now : Moment) (c : Command) (o : Option Refusal) → Law now.core → refusal now c ≡ o → LeavesBeside now c (unless o Refused (turn_reply now c)) (unless o (refused_effect now c) (turn_effect now c))
leaves now (Mutator m (New len ds)) None law e = new_leaves now m len ds law e
leaves now (Mutator m (New len ds)) (Some why) law e = refl
leaves now (Mutator m Open) None law e = scope_beside now.core m
leaves now (Mutator m Open) (Some why) law e = shut now.core m
leaves now (Mutator m (On p (Writes from bytes))) None law e = data_beside now.core (dereferenced now.core m p) p from bytes (dereferenced_beside now.core m p)
leaves now (Mutator m (On p how)) None law e = dereferenced_beside now.core m p
leaves now (Mutator m (On p how)) (Some NoRoom) law e = sought_beside now.core m p
leaves now (Mutator m (On p how)) (Some why) law e = same now.core p
leaves now (Mutator m Close) None law e = close_beside now.core m
leaves now (Mutator m Close) (Some why) law e = shut now.core m
leaves now (Mutator m (Where p)) None law e = refl
leaves now (Mutator m (Where p)) (Some why) law e = refl
leaves now (Mutator m (Drop p)) None law e = without_beside now.core m p
leaves now (Mutator m (Drop p)) (Some why) law e = same now.core p
leaves now (Mutator m (Try p)) None law e = view_beside now.core p
leaves now (Mutator m (Try p)) (Some (Marked word)) law e = view_beside now.core p
leaves now (Mutator m (Try p)) (Some why) law e = same now.core p
leaves now (Mutator m Epoch) None law e = epoch_beside now.core m
leaves now (Mutator m Epoch) (Some why) law e = shut now.core m
leaves now (Book inquiry) None law e = refl
leaves now (Book inquiry) (Some why) law e = refl
leaves now (Evacuator step) o law e = tt

served_beside : (now : Moment) (c : Command) (r : Reply) (next : Moment) → IsMoment now → Served now c r next → LeavesBeside now c r next
served_beside now c r next is h =
    subst (λ x. LeavesBeside now c x next) (sym h.reply)
    (subst (λ (x : Moment). LeavesBeside now c (reply_to now c) x) (sym h.moment) (leaves now c (refusal now c) (moment_lasts now is).law refl))

beside_as_if : (s t : State) (p : ℕ) (row : ℕ → ℕ) → AllButObject (with_stored s p row) (with_stored t p row) p → AllButObject s t p
beside_as_if s t p row x = record { cells = x.cells; used = x.used; views = x.views; scopes = x.scopes; remembered = x.remembered }

pub commands_beside : (now : Moment) (c : Command) (r : Reply) (next : Moment) → IsMoment now → Commanded now c r next → LeavesBeside now c r next
commands_beside now c r next is h = by_outcome now r next (λ d. LeavesBeside now d r next)
    (λ d h. served_beside now d r next is h)
    (λ why m p how h. served_beside now _ _ next is h.tried)
    (λ why objects count h. tt)
    (λ why turns objects policy most count h. tt)
    (λ row m p d asks h. as_misled row now r next m p LeavesBeside (λ from bytes. beside_as_if now.core next.core p row) (λ from len bytes. beside_as_if now.core next.core p row) (beside_as_if now.core next.core p row)
    d asks h (served_beside (as_if_stored now p row) d r (as_if_stored next p row) (misled_from row now d p r next is h) h.served))
    c h
