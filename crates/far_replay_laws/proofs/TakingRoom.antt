-- Which shapes a heap line may say, and what each command takes of the logs.
use Rattle.std.proofs.Common.{◌≡◌, ◌≤◌, ◌<◌, ◌^◌, ℕ, ◌+◌, ◌-◌, true, false, not, nat_lt, is_some, sym, refl, ap, ◌∙◌, subst, arith, Option, Some, None, Bool}
use Rattle.std.specs.Prelude.{◌↔◌}
use Rattle.std.proofs.lemmas.Bool.{and_parts, false≢true, ltb-true, true≢false}
use Rattle.std.proofs.lemmas.Bool.Decides.{nat_tests}
use Rattle.far_word.specs.declared.mark.Mark.TheVariants.{Dirty}
use Rattle.far_word.specs.declared.pointer.Place.{Place}
use Rattle.far_word.specs.declared.pointer.PtrWord.{PtrWord}
use Rattle.far_word.specs.declared.pointer.PtrWord.TheVariants.{Free, Near, Far}
use Rattle.far_word.specs.Bytes.{packed_word}
use Rattle.far_word.specs.Pointer.{read_of}
use Rattle.far_word.specs.declared.refused.Refused.{Refused as Refusal}
use Rattle.far_word.specs.declared.refused.Refused.TheVariants.{NoRoom, Closed, Held, NotHeld, Range, Marked}
use Rattle.far_word.specs.Sizes.{size_of, words_for}
use Rattle.far_core.specs.state.Room.{room}
use Rattle.far_events.specs.state.Shape.{is_shape}
use Rattle.far_events.specs.state.Law.{Law, head_len}
use Rattle.far_events.specs.state.State.{State, addr, put}
use Rattle.far_events.specs.events.Ranges.{with_row}
use Rattle.far_events.specs.events.Soil.{after_soil}
use Rattle.far_events.specs.events.Step.{after_close, data_len, is_opened, near_data, near_len}
use Rattle.far_events.specs.state.Spans.{names_place, spans_of}
use Rattle.far_events.proofs.Bounds.{span_len}
use Rattle.far_events.proofs.Cells.{unused}
use Rattle.far_events.proofs.NewSpans.{at_tail}
use Rattle.far_events.proofs.Put.{put_other, put_same}
use Rattle.far_book.specs.book.Effects.{placed}
use Rattle.far_book.proofs.region.Reaching.{placing_legal}
use Rattle.far_book.proofs.region.Written.{row_other}
use Rattle.far_evac.proofs.Dealt.{free_gone}
use Rattle.far_evac.specs.MomentLaw.{MomentLaw}
use Rattle.far_replay.specs.Answers.{Commanded, Served, Unbrought, IsMoment, shape_of}
use Rattle.far_replay.specs.Commanded.{KeepsFar}
use Rattle.far_replay.proofs.Outcomes.{by_outcome}
use Rattle.far_replay_laws.proofs.Stops.{left_some, stood_so}
use Rattle.far_text.specs.Command.{Command, New, Open, On, Use, Writes, Close, Where, Drop, Try, Epoch, Mutator, Book, Evacuator, Evacuate, Round}
use Rattle.far_alone.specs.Dereference.{comes_to, dereferenced, has_no_room, sought}
use Rattle.far_alone.specs.Effects.{is_slow, with_data, with_epoch, with_object, with_scope, without_object}
use Rattle.far_replay_laws.specs.Headline.{CommandTakes, TakesRoom}
use Rattle.far_replay.specs.Taking.{BytesMove, DereferenceLacks, DropTakes, TakesNone, BringTakes, DereferenceTakes, TakesSpan}
use Rattle.far_replay.specs.Moment.{Moment, moment_of, as_if_stored, with_stored}
use Rattle.far_alone.specs.Objects.{data_of, lowest_cell, uses, with_range}
use Rattle.far_reply.specs.Reply.{Reply, Evacuated, Refused}
use Rattle.far_replay.specs.Turn.{refusal, unless, turn_effect, refused_effect, turn_reply, reply_to, pointer_reply, with_new}
use Rattle.far_alone.proofs.Drops.{drop_is, unheld_is}
use Rattle.far_replay.proofs.Dereferences.{sought_lacks}
use Rattle.far_replay.proofs.Lasting.{moment_lasts, misled_from}
use Rattle.far_replay.proofs.LogBytes.{bytes_move, celled_takes, headed_takes, move_then, names_at, names_one, none_taken, worded_takes}
use Rattle.far_replay_laws.proofs.MovesTaken.{step_takes, stop_takes}
use Rattle.far_alone.proofs.Soiling.{soiled_reads}
use Rattle.far_replay.proofs.TakingView.{deref_more, view_takes}
use Rattle.far_replay.proofs.Turns.{new_object_is, new_parts, reached}
use Rattle.far_replay.proofs.Ways.{lacks_place, marked_last, new_tests, three, tried}
use Rattle.far_alone.proofs.Views.{Viewed}
use Rattle.far_replay_laws.proofs.Refusals.{of_far}
use Rattle.far_replay_laws.proofs.Misleading.{as_misled}
use Rattle.std.specs.Bool.{MatchBool}

pub shapes_are : (logs mutators epoch : ℕ) → (is_shape (shape_of logs mutators epoch) ≡ true) ↔ ((2 ≤ logs) × (logs ≤ 64) × (1 ≤ mutators) × (mutators ≤ 8) × (epoch < 2 ^ 62))
shapes_are logs mutators epoch = ((λ h. (grind (arith, nat_tests), grind (arith, nat_tests), grind (arith, nat_tests), grind (arith, nat_tests), grind (arith, nat_tests))), (λ h. grind (arith, nat_tests)))

-- a new object takes its span, where it isn't refused: then there is a cell and a place
abbrev NewTakes : State → ℕ → ℕ → ℕ → ℕ → Place → Type 0
NewTakes s m len ds p place = ((with_object s m p len ds place).tail ≡ put s.tail place.log (place.at + size_of len)) × ((l : ℕ) → BytesMove s (with_object s m p len ds place) len None place.log l)

new_takes : (s : State) (m len ds : ℕ) (o : Option Refusal) (x : Option ℕ) (y : Option Place) → room s (size_of len) true ≡ y → (o ≡ None → (is_some x ≡ true) × (is_some y ≡ true)) →
    (o ≡ None → (p : ℕ) (place : Place) → x ≡ Some p → y ≡ Some place → NewTakes s m len ds p place) →
    CommandTakes s (Mutator m (New len ds)) (unless o Refused (pointer_reply x)) (unless o (λ _. s) (with_new s m len ds x y))
new_takes s m len ds (Some why) x y goes some taken = none_taken s
new_takes s m len ds None None y goes some taken = absurd (true≢false (sym (some refl).0))
new_takes s m len ds None (Some p) None goes some taken = absurd (true≢false (sym (some refl).1))
new_takes s m len ds None (Some p) (Some place) goes some taken = let h = taken refl p place refl refl in (place, goes, h.0, h.1)

new_taken : (s : State) (m len ds p : ℕ) (place : Place) → Law s → refusal (moment_of s) (Mutator m (New len ds)) ≡ None → lowest_cell s m ≡ Some p → room s (size_of len) true ≡ Some place → NewTakes s m len ds p place
new_taken s m len ds p place law none cell found =
    let parts = new_parts s m len ds p place law none cell found in
    let there : State = placed s p len ds place in
    let t : State = with_object s m p len ds place in
    let owner = parts.owner in
    let high = parts.high in
    let done = placing_legal s p len ds place law (omega (arith, owner, high)) parts.free parts.some parts.most parts.structure found in (
      ap (λ (t : State). t.tail) (new_object_is s m len ds p place law none cell found),
      λ l. move_then s there t len None place.log l (celled_takes there t refl refl refl refl)
          (bytes_move s there law done.1 p len ds place (at_tail s law place parts.room.next) done.3.cell done.3.cells done.3.header done.3.words done.3.tail done.3.tails None (Some Free) (ap read_of parts.free ∙ unused) (λ k. refl) l),
    )

-- a write: it changes no header, and of its object's cell DIRTY alone
module _ (s : State) (m p : ℕ) (law : Law s) (view : Viewed s s m p) (row : ℕ → ℕ) where
  inside : (a : ℕ) → s.starts a ≡ true → near_data (read_of (s.cell p)) ≤ a → a < near_data (read_of (s.cell p)) + words_for (data_len s p) → ⊥
  inside a begun low high =
      let near = view.holds.near in
      let begins = law.cells.cell_near p view.len near.0 view.place near.1 near.2 in
      let span = law.spans.span (addr view.place) begins.placed in
      let long : head_len (s.word (addr view.place)) ≡ view.len = rw (span_len s law p view.len near.0 view.place near.1 near.2) refl in
      let first : near_data (read_of (s.cell p)) ≡ addr view.place + 1 = ap near_data near.2 in
      let count : data_len s p ≡ view.len = ap near_len near.2 in
      let at : addr view.place + (a - addr view.place) ≡ a = omega (arith, low, first) in
      false≢true (sym (span.alone (a - addr view.place) (omega (arith, low, first)) (omega (arith, low, high, first, count, long))) ∙ ap s.starts at ∙ begun)

  abbrev written : State
  written = record (after_soil s p) { word = with_row s.word (near_data (read_of (s.cell p))) (words_for (data_len s p)) row }

  write_takes : TakesNone s written
  write_takes = headed_takes s written law
      (λ a begun. row_other s.word (near_data (read_of (s.cell p))) (words_for (data_len s p)) row a (inside a begun)) refl refl
      (names_at s written p Dirty (λ q ne. put_other s.cell p _ q ne) (soiled_reads s law m p view.len view.place view.holds))

-- a drop: of a near object no span is taken; of any other nothing
drop_takes : (s : State) (m p : ℕ) → Law s → m < s.mutators → uses s m p ≡ true → s.held p ≡ None → (o : Option PtrWord) → read_of (s.cell p) ≡ o → DropTakes s o (without_object s m p)
drop_takes s m p law within ours unheld o e =
    let t : State = record s { cell = put s.cell p 0; used = put s.used p false } in
    subst (DropTakes s o) (sym (drop_is s m p law within ours unheld)) (by_cell o (λ away. worded_takes s t refl refl refl (names_one s t p (λ q ne. put_other s.cell p 0 q ne)
    (λ l at. ap (λ w. names_place (read_of w) l at) (put_same s.cell p 0 p refl) ∙ free_gone l at ∙ sym (ap (λ x. names_place x l at) e ∙ away l at))))) where
      by_cell : (o : Option PtrWord) → (((l at : ℕ) → names_place o l at ≡ false) → TakesNone s (record s { cell = put s.cell p 0; used = put s.used p false })) →
          DropTakes s o (record s { cell = put s.cell p 0; used = put s.used p false })
      by_cell None far = far (λ l at. refl)
      by_cell (Some Free) far = far (λ l at. refl)
      by_cell (Some (Near len ds place marks)) far = (refl, refl)
      by_cell (Some (Far len ds marks)) far = far (λ l at. refl)

-- an object that found no place
none_found : (o : Option Place) → not (is_some o) ≡ true → o ≡ None
none_found None e = refl
none_found (Some place) e = absurd cc

none_takes : (s : State) (m p : ℕ) → Law s → is_opened s m ≡ true → uses s m p ≡ true → has_no_room s m p ≡ true → DereferenceLacks s p (sought s m p)
none_takes s m p law opened ours full =
    let both = and_parts (is_slow s p) (not (is_some (comes_to (sought s m p) p))) full in
    sought_lacks s m p law opened ours both.0 (none_found (comes_to (sought s m p) p) both.1)

takes : (now : Moment) (c : Command) (o : Option Refusal) → Law now.core → MomentLaw now → now.copying ≡ false → refusal now c ≡ o →
    TakesRoom now c (unless o Refused (turn_reply now c)) (unless o (refused_effect now c) (turn_effect now c))
takes now (Mutator m (New len ds)) None law moment alone e = new_takes now.core m len ds None (lowest_cell now.core m) (room now.core (size_of len) true) refl (λ none.
    let parts = new_tests now.core m len ds (subst (λ r. refusal now (Mutator m (New len ds)) ≡ r) none e) in
    (parts.2, parts.3))
    (λ none p place cell found. new_taken now.core m len ds p place law (subst (λ r. refusal now (Mutator m (New len ds)) ≡ r) none e) cell found)
takes now (Mutator m Open) None law moment alone e = celled_takes now.core (with_scope now.core m) refl refl refl refl
takes now (Mutator m (On p (Writes from bytes))) None law moment alone e =
    let at = reached now m p (Writes from bytes) law e in
    let t : State = dereferenced now.core m p in
    deref_more now.core t (with_data t p from bytes) p (write_takes t m p at.law at.view (packed_word (with_range (data_of t p) from bytes))) at.takes
takes now (Mutator m (On p how)) None law moment alone e = (reached now m p how law e).takes
takes now (Mutator m (On p how)) (Some NoRoom) law moment alone e =
    let h = lacks_place now m p how e in
    none_takes now.core m p law h.0 h.1 h.2
takes now (Mutator m Close) None law moment alone e = celled_takes now.core (after_close now.core m) refl refl refl refl
takes now (Mutator m (Where p)) None law moment alone e = none_taken now.core
takes now (Mutator m (Drop p)) None law moment alone e =
    let h = three (nat_lt m now.core.mutators) (uses now.core m p) (is_some (now.core.held p)) Range NotHeld Held e in
    drop_takes now.core m p law (ltb-true m now.core.mutators h.0) h.1 (unheld_is (now.core.held p) h.2) (read_of (now.core.cell p)) refl
takes now (Mutator m (Try p)) None law moment alone e =
    let h = tried (nat_lt m now.core.mutators) (is_opened now.core m) (uses now.core m p) (is_slow now.core p) Range Closed NotHeld (Marked (now.core.cell p)) e in
    view_takes now.core m p law h.1 h.2
takes now (Mutator m (Try p)) (Some (Marked word)) law moment alone e =
    let h = marked_last (nat_lt m now.core.mutators) (is_opened now.core m) (uses now.core m p) (is_slow now.core p) (now.core.cell p) word e in
    view_takes now.core m p law h.1 h.2
takes now (Mutator m Epoch) None law moment alone e = celled_takes now.core (with_epoch now.core m) refl refl refl refl
takes now (Book inquiry) None law moment alone e = none_taken now.core
takes now (Evacuator step) o law moment alone e = step_takes now step o law moment alone e
takes now _ (Some why) law moment alone e = none_taken now.core

served_take : (now : Moment) (c : Command) (r : Reply) (next : Moment) → IsMoment now → Served now c r next → TakesRoom now c r next
served_take now c r next is h =
    let lasts = moment_lasts now is in
    subst (λ x. TakesRoom now c x next) (sym h.reply)
    (subst (λ (x : Moment). TakesRoom now c (reply_to now c) x) (sym h.moment) (takes now c (refusal now c) lasts.law lasts.round lasts.alone refl))

-- one that the device refuses takes nothing, as a try doesn't
far_takes : (now : Moment) (c : Command) (m p : ℕ) (why : Refusal) (r : Reply) (next : Moment) → IsMoment now → Unbrought why now c m p r next → TakesNone now.core next.core
far_takes now c m p why r next is h = served_take now _ _ next is h.tried

use_takes_none : (now next : Moment) (m p : ℕ) (how : Use) (why : Refusal) → KeepsFar why → TakesNone now.core next.core → TakesRoom now (Mutator m (On p how)) (Refused why) next
use_takes_none now next m p how why h none = of_far (λ x. TakesRoom now (Mutator m (On p how)) (Refused x) next) why h none none

-- one that was given other words takes what it would if they were stored
as_bool : {A B C D : Type 0} (b : Bool) → (A → C) → (B → D) → MatchBool b A B → MatchBool b C D
as_bool true f g x = f x
as_bool false f g x = g x

module _ (s t : State) (p : ℕ) (row : ℕ → ℕ) where
  as_span : (len : ℕ) (from : Option ℕ) (reserve : Bool) → TakesSpan (with_stored s p row) len from reserve (with_stored t p row) → TakesSpan s len from reserve t
  unfolding spans_of
  as_span len from reserve x = (x.0, x.1, x.2, (λ l. let b = x.3 l in record { live = b.live; dead = b.dead; unused = b.unused }))

  as_brings : (o : Option PtrWord) → BringTakes (with_stored s p row) o (with_stored t p row) → BringTakes s o t
  unfolding spans_of
  as_brings None x = x
  as_brings (Some Free) x = x
  as_brings (Some (Near len ds place marks)) x = as_bool marks.evac (as_span len (Some place.log) false) (λ y. y) x
  as_brings (Some (Far len ds marks)) x = as_span len None true x

  as_takes : DereferenceTakes (with_stored s p row) p (with_stored t p row) → DereferenceTakes s p t
  unfolding spans_of
  as_takes x = as_bool (is_slow s p) (as_brings (read_of (s.cell p))) (λ y. y) x

pub commands_take : (now : Moment) (c : Command) (r : Reply) (next : Moment) → IsMoment now → Commanded now c r next → TakesRoom now c r next
commands_take now c r next is h =
    let lasts = moment_lasts now is in
    by_outcome now r next (λ d. TakesRoom now d r next)
    (λ d h. served_take now d r next is h)
    (λ why m p how h. subst (λ x. TakesRoom now (Mutator m (On p how)) x next) (sym h.reply) (use_takes_none now next m p how why h.cause (far_takes now (Mutator m (On p how)) m p why r next is h)))
    (λ why objects count h. subst (λ x. TakesRoom now (Evacuator (Evacuate count)) x next) (sym h.reply) (served_take now (Evacuator (Evacuate objects)) (Evacuated h.progress) next is h.left))
    (λ why turns objects policy most count h. subst (λ x. TakesRoom now (Evacuator (Round policy most count)) x next) (sym h.reply)
    (stop_takes now lasts.law lasts.round lasts.alone policy most turns count objects h.stood next h.progress (stood_so now policy most turns h.stood h.turned) h.before h.within (left_some h.stood objects h.progress next h.left h.unfinished)))
    (λ row m p d asks h. as_misled row now r next m p TakesRoom (λ from bytes. as_takes now.core next.core p row) (λ from len bytes. as_takes now.core next.core p row) (as_takes now.core next.core p row)
    d asks h (served_take (as_if_stored now p row) d r (as_if_stored next p row) (misled_from row now d p r next is h) h.served))
    c h
