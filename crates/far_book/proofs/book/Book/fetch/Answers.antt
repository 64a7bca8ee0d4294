use Rattle.far_book.proofs.book.Book.fetch.Given.{Over}
use Rattle.far_book.proofs.book.Book.fetch.Goals.{After-room, In-Far, In-Ok-come_near}
use Rattle.far_book.proofs.book.Book.fetch.Goals as goal
use Rattle.std.proofs.Common.{◌≡◌, ◌∙◌, ◌^◌, ◌*◌, ◌<◌, ◌≤◌, ℕ, true, false, ap, arith, refl, sym, subst, inl, inr, length, Some}
use Rattle.std.specs.Global.{Vec}
use Rattle.std.specs.Vec.{vec_capacity}
use Rattle.far_word.specs.declared.sizes.TheConstants.{CELLS, LONGEST}
use Rattle.std.specs.Prelude.{Option, IsSome, List, Result, Ok, Err, is_ok, is_some}
use Rattle.std.proofs.lemmas.Bool.{false_from_ne_true, true≢false}
use Rattle.far_word.specs.declared.mark.Marks.{Marks}
use Rattle.far_word.specs.declared.pointer.Place.{Place}
use Rattle.far_word.specs.declared.pointer.PtrWord.{PtrWord}
use Rattle.far_word.specs.declared.pointer.PtrWord.TheVariants.{Free, Near, Far}
use Rattle.far_word.specs.declared.refused.Refused.{Refused}
use Rattle.far_word.specs.declared.refused.Refused.TheVariants as refused
use Rattle.far_word.specs.Bytes.{packed_word}
use Rattle.far_word.specs.Pointer.{read_of}
use Rattle.far_events.specs.events.Naming.{is_dropped}
use Rattle.far_events.specs.state.State.{State}
use Rattle.far_device.specs.declared.fault.DeviceFault.{DeviceFault}
use Rattle.far_device.specs.declared.fault.DeviceFault.TheVariants.{Memory, Device}
use Rattle.far_device.specs.Faults.{is_fault}
use Rattle.far_device.specs.Following.{Follows, other_than}
use Rattle.far_device.proofs.Following.{follows_held, follows_itself, follows_on}
use Rattle.far_book.specs.book.Asking.{HasGiven}
use Rattle.far_book.specs.book.BookOf.{BookOf}
use Rattle.far_book.specs.book.Effects.{order_after, retired}
use Rattle.far_book.specs.book.FarSide.{InOrder}
use Rattle.far_book.specs.book.Fetching.{far_len}
use Rattle.far_book.specs.book.Ledger.{MayTakeAgain, TakesAgain}
use Rattle.far_book.specs.book.Own.{own_part}
use Rattle.far_hand.specs.Came.{Came}
use Rattle.far_hand.specs.Finds.{body_of}
use Rattle.far_events.proofs.Put.{put_same}
use Rattle.far_hand.proofs.Finding.{finds_more, some_found}
use Rattle.far_hand.proofs.Closure.{then_came}
use Rattle.far_book.proofs.region.Calls.{ends, may_take_again, placeable, taken_again}
use Rattle.far_book.proofs.region.Dropping.{retired_by}
use Rattle.far_book.proofs.region.Fetched.{come_in_order}
use Rattle.far_book.proofs.region.Founds.{far_used}
use Rattle.far_book.proofs.region.Fetching.{FarFound, RoomTold, as_long, as_stored, has_given, has_room, here, holds_all, is_fetched, is_held, is_seen, layout, left_here, left_written, now, order_written, pointer, room_was, some_room, unasked, unread_written, was_alive, was_long, words_same}
use Rattle.far_book.proofs.region.Handed.{since_book}

-- the buffer that was lent comes back with no less room
enough : (held lent back : Vec ℕ) → lent ≡ held → LONGEST ≤ vec_capacity held → vec_capacity lent ≤ vec_capacity back → LONGEST ≤ vec_capacity back
enough held lent back same most kept = omega (arith, most, kept, ap (λ (b : Vec ℕ). vec_capacity b) same)

-- ---- one answer isn't another
done_isnt : (found : Option Place) (why : Refused) → Ok found ≡ Err why → ⊥
done_isnt found why e = true≢false (ap is_ok e)

other_isnt : (why : Refused) → (why ≡ refused.Memory → ⊥) → (r : Result (Option Place) Refused) → r ≡ Err why → r ≡ Err refused.Memory → ⊥
other_isnt why apart r is e = let same : why ≡ refused.Memory = cc in apart same

no_room_isnt : refused.NoRoom ≡ refused.Memory → ⊥
no_room_isnt e = cc

device_isnt : refused.Device ≡ refused.Memory → ⊥
device_isnt e = cc

damaged_isnt : refused.Damaged ≡ refused.Memory → ⊥
damaged_isnt e = cc

memory_isnt : refused.Memory ≡ refused.NoRoom → ⊥
memory_isnt e = cc

failed_isnt : refused.Device ≡ refused.NoRoom → ⊥
failed_isnt e = cc

wrong_isnt : refused.Damaged ≡ refused.NoRoom → ⊥
wrong_isnt e = cc

-- the word that was found
found : (g : Over) (c : In-Far g) → FarFound (g.N.Near.view c.args.self.now.near) (g.N.Near.view c.see-word.new.self.near) c.args.pointer c.see-word.result c.in-Far.len c.in-Far.ds c.in-Far.marks
found g c = record {
  finds = c.see-word.ensures.found;
  fits = c.see-word.type_inv;
  far = c.known.ensures ∙ ap (λ v. Some v) c.in-Far.is;
  same = c.see-word.ensures.kept;
  pointer = c.requires.pointer;
}

-- the same once the book was opened, and what the ledger told
told : (g : Over) (c : After-room g) →
    RoomTold (g.N.Near.view c.args.self.now.near) (g.N.Near.view c.self.inside.near) c.args.pointer c.see-word.result c.in-Far.len c.in-Far.ds c.in-Far.marks
    c.self.inside.ledger (g.D.Device.contents c.self.inside.device) (g.D.Device.honest c.self.inside.device) c.size_of-size.result c.room.result
told g c = record {
  found = subst (λ (b : BookOf g.row.N.Denot g.row.D.Denot). FarFound (g.N.Near.view c.args.self.now.near) (g.N.Near.view b.near) c.args.pointer c.see-word.result c.in-Far.len c.in-Far.ds c.in-Far.marks)
      (sym c.self.view_is) (found g (goal.at.After-room g c).In-Far);
  order = c.self.invariant.0;
  size_is = c.size_of-size.ensures;
  told = c.room.ensures (own_part (g.N.Near.view c.self.inside.near)) c.self.invariant.0.notes;
}

-- ---- the device, of which only that one read was asked
device : (g : Over) (c : After-room g) → c.self.inside.device ≡ c.args.self.now.device
device g c = ap (λ (b : BookOf g.row.N.Denot g.row.D.Denot). b.device) c.self.view_is ∙ c.see-word.ensures.device

-- ---- nothing else has changed since that one look
came : (g : Over) (c : After-room g) → Came g.N.Near.makes c.args.self.now.near c.self.inside.near
came g c = subst (λ (b : BookOf g.row.N.Denot g.row.D.Denot). Came g.N.Near.makes c.args.self.now.near b.near) (sym c.self.view_is) c.see-word.ensures.came

ordered : (g : Over) (c : After-room g) → c.self.inside.ledger.order ≡ c.args.self.now.order
ordered g c = ap (λ (b : BookOf g.row.N.Denot g.row.D.Denot). b.order) c.self.view_is ∙ c.see-word.ensures.order

as_before : (g : Over) (c : After-room g) → g.N.Near.still → g.N.Near.view c.self.inside.near ≡ g.N.Near.view c.args.self.now.near
as_before g c still = ap (λ (b : BookOf g.row.N.Denot g.row.D.Denot). g.N.Near.view b.near) c.self.view_is ∙ c.see-word.ensures.set still

-- the log that was open is sealed, if the object came to another
opened : (g : Over) (c : After-room g) (place : Place) (order : List ℕ) → order ≡ order_after (record (g.N.Near.view c.self.inside.near) { current = c.self.inside.ledger.current }) c.self.inside.ledger.order place →
    order ≡ order_after (g.N.Near.view c.args.self.now.near) c.args.self.now.order place
opened g c place order is =
    is ∙ ap (λ n. order_after (record (g.N.Near.view c.self.inside.near) { current = n }) c.self.inside.ledger.order place) c.self.invariant.0.notes.current
    ∙ ap (λ (b : BookOf g.row.N.Denot g.row.D.Denot). order_after (g.N.Near.view b.near) b.order place) c.self.view_is
    ∙ ap (λ (x : State). order_after x c.see-word.new.self.order place) c.see-word.ensures.kept
    ∙ ap (λ (o : List ℕ). order_after (g.N.Near.view c.args.self.now.near) o place) c.see-word.ensures.order

module _ (g : Over) (c : After-room g) (answer : Result (List ℕ) DeviceFault) (d : g.row.D.Denot) (called : g.D.Device.reads c.self.inside.device c.args.pointer answer d) where
  read : g.D.Device.reads c.args.self.now.device c.args.pointer answer d
  read = subst (λ (from : g.row.D.Denot). g.D.Device.reads from c.args.pointer answer d) (device g c) called

  follows : Follows g.D.Device.contents g.D.Device.honest g.D.Device.faults g.D.Device.fails_at_most (other_than c.args.pointer) (is_fault answer) c.args.self.now.device d
  follows =
      let law = g.met.D.Device.read_follows _ _ _ _ called in
      subst (λ (from : g.row.D.Denot). Follows g.D.Device.contents g.D.Device.honest g.D.Device.faults g.D.Device.fails_at_most (other_than c.args.pointer) (is_fault answer) from d) (device g c)
      (follows_held g.D.Device.contents g.D.Device.honest g.D.Device.faults g.D.Device.fails_at_most (IsSome (g.D.Device.contents c.self.inside.device c.args.pointer)) (other_than c.args.pointer) (is_fault answer)
      c.self.inside.device d (is_held (told g c)) law)

  -- where it holds what it held, the book's parts are in order with it
  still_in_order : g.D.Device.contents d ≡ g.D.Device.contents c.self.inside.device → InOrder (g.N.Near.view c.self.inside.near) c.self.inside.ledger (g.D.Device.contents d) (g.D.Device.honest d)
  still_in_order kept =
      subst (λ e. InOrder (g.N.Near.view c.self.inside.near) c.self.inside.ledger (g.D.Device.contents d) e) (sym (g.met.D.Device.read_follows _ _ _ _ called).honest)
      (subst (λ e. InOrder (g.N.Near.view c.self.inside.near) c.self.inside.ledger e (g.D.Device.honest c.self.inside.device)) (sym kept) c.self.invariant.0)

-- ---- what is asked of what is called
far_word_is : (r : PtrWord) (len ds : ℕ) (k : Marks) → body_of (Some r) ≡ Some (Far len ds k) → ((len ds : ℕ) (m : Marks) → r ≡ Far len ds m → ⊥) → ⊥
far_word_is Free len ds k e never = absurd cc
far_word_is (Near n d at m) len ds k e never = absurd cc
far_word_is (Far n d m) len ds k e never = never n d m refl

pub known-requires : goal.known-requires
known-requires g c = some_found ((g.N.Near.view c.args.self.now.near).cell c.args.pointer) c.see-word.result c.see-word.ensures.found (ap is_some c.requires.far.far)

pub unreachable-requires : goal.unreachable-requires
unreachable-requires g c =
    let far = c.requires.far in
    far_word_is c.known.result far.len far.ds (record { hot = false; evac = far.marks.evac; moved = false; dropped = false; dirty = false })
    (ap body_of (sym c.known.ensures) ∙ c.see-word.ensures.found.body ∙ ap body_of far.far) c.in_default.not-Far

pub retire-requires-clause-pointer : goal.retire-requires-clause-pointer
retire-requires-clause-pointer g c = pointer (found g (goal.at.retire-requires-clause-pointer g c).In-Far)

pub retire-requires-clause-dropped : goal.retire-requires-clause-dropped
retire-requires-clause-dropped g c = ap is_dropped (now (found g (goal.at.retire-requires-clause-dropped g c).In-Far)) ∙ c.if-marks.true

pub room-requires-clause-known : goal.room-requires-clause-known
room-requires-clause-known g c = (own_part (g.N.Near.view c.self.inside.near), c.self.invariant.0.notes)

pub come_near-requires-clause-pointer : goal.come_near-requires-clause-pointer
come_near-requires-clause-pointer g c = pointer (told g (goal.at.come_near-requires-clause-pointer g c).After-room).found

pub come_near-requires-clause-found : goal.come_near-requires-clause-found
come_near-requires-clause-found g c = sym (here (told g (goal.at.come_near-requires-clause-found g c).After-room).found)

pub come_near-requires-clause-absent : goal.come_near-requires-clause-absent
come_near-requires-clause-absent g c = (c.in-Far.marks, (told g (goal.at.come_near-requires-clause-absent g c).After-room).found.far, c.if-marks.false)

pub retire-requires-in_default-come_near-clause-pointer : goal.retire-requires-in_default-come_near-clause-pointer
retire-requires-in_default-come_near-clause-pointer g c =
    subst (λ (x : State). c.args.pointer < CELLS * x.mutators) (sym c.in_default-come_near.ensures.kept) (pointer (told g (goal.at.retire-requires-in_default-come_near-clause-pointer g c).After-room).found)

pub retire-requires-in_default-come_near-clause-dropped : goal.retire-requires-in_default-come_near-clause-dropped
retire-requires-in_default-come_near-clause-dropped g c =
    let y = c.in_default-come_near in
    ap (λ (x : State). is_dropped (read_of (x.cell c.args.pointer))) y.ensures.kept
    ∙ ap (λ w. is_dropped (read_of w)) (put_same (g.N.Near.view c.self.inside.near).cell c.args.pointer y.field-0 c.args.pointer refl) ∙ y.ensures.dropped

pub room-requires-clause-size : goal.room-requires-clause-size
room-requires-clause-size g c = omega (arith, c.size_of-size.ensures, (layout (found g (goal.at.room-requires-clause-size g c).In-Far)).1)

pub come_near-requires-clause-head : goal.come_near-requires-clause-head
come_near-requires-clause-head g c =
    let x = told g (goal.at.come_near-requires-clause-head g c).After-room in
    let fits = layout x.found in
    record { some = fits.0; most = fits.1; structure = fits.2; cell = omega (arith, pointer x.found, c.self.invariant.0.notes.law.shape.few_mutators) }

pub come_near-requires-clause-layout : goal.come_near-requires-clause-layout
come_near-requires-clause-layout g c = (placeable (has_room (told g (goal.at.come_near-requires-clause-layout g c).After-room) c.in-Some.place c.in-Some.is)).layout

pub come_near-requires-clause-next : goal.come_near-requires-clause-next
come_near-requires-clause-next g c = (placeable (has_room (told g (goal.at.come_near-requires-clause-next g c).After-room) c.in-Some.place c.in-Some.is)).next

pub come_near-requires-clause-tail : goal.come_near-requires-clause-tail
come_near-requires-clause-tail g c = ends (has_room (told g (goal.at.come_near-requires-clause-tail g c).After-room) c.in-Some.place c.in-Some.is)

pub come_near-requires-clause-stored : goal.come_near-requires-clause-stored
come_near-requires-clause-stored g c promised i lt =
    ap (λ b. packed_word b i) c.as_slice.ensures.value ∙ as_stored (told g (goal.at.come_near-requires-clause-stored g c).After-room) c.read_into.new.buffer.items (c.in-Ok.ensures.given (c.self.invariant.0.honest promised)) promised i lt

pub take_again-requires : goal.take_again-requires
take_again-requires g c =
    subst (λ n. MayTakeAgain c.self.inside.ledger n c.in-Some.place) (sym c.size_of-size.ensures) (may_take_again (has_room (told g (goal.at.take_again-requires g c).After-room) c.in-Some.place c.in-Some.is))

pub invariant_of-self : goal.invariant_of-self
invariant_of-self g c = (
  still_in_order g (goal.at.invariant_of-self g c).After-room _ c.read_into.new.self c.read_into.ensures.called c.read_into.ensures.kept,
  enough c.self.inside.buffer c.replace-bytes.result c.read_into.new.buffer c.replace-bytes.ensures.value c.self.invariant.1 c.read_into.ensures.room,
)

pub invariant_of-self-in-Err-Device : goal.invariant_of-self-in-Err-Device
invariant_of-self-in-Err-Device g c = (
  still_in_order g (goal.at.invariant_of-self-in-Err-Device g c).After-room _ c.read_into.new.self c.read_into.ensures.called c.read_into.ensures.kept,
  enough c.self.inside.buffer c.replace-bytes.result c.read_into.new.buffer c.replace-bytes.ensures.value c.self.invariant.1 c.read_into.ensures.room,
)

pub invariant_of-self-then-len : goal.invariant_of-self-then-len
invariant_of-self-then-len g c = (
  still_in_order g (goal.at.invariant_of-self-then-len g c).After-room _ c.read_into.new.self c.read_into.ensures.called c.read_into.ensures.kept,
  enough c.self.inside.buffer c.replace-bytes.result c.read_into.new.buffer c.replace-bytes.ensures.value c.self.invariant.1 c.read_into.ensures.room,
)

pub invariant_of-self-in_default-come_near : goal.invariant_of-self-in_default-come_near
invariant_of-self-in_default-come_near g c =
    let u = g.N.Near.view c.come_near.new.near in
    let y = c.in_default-come_near in
    let law = g.met.D.Device.read_follows _ _ _ _ c.read_into.ensures.called in (
      subst (λ e. InOrder u c.self.inside.ledger (g.D.Device.contents c.read_into.new.self) e) (sym law.honest)
          (subst (λ e. InOrder u c.self.inside.ledger e (g.D.Device.honest c.self.inside.device)) (sym c.read_into.ensures.kept)
          (order_written (told g (goal.at.invariant_of-self-in_default-come_near g c).After-room) c.in-Some.place c.in-Some.is (packed_word c.as_slice.result.now) u y.field-0 y.ensures.kept y.ensures.fits y.ensures.found)),
      enough c.self.inside.buffer c.replace-bytes.result c.read_into.new.buffer c.replace-bytes.ensures.value c.self.invariant.1 c.read_into.ensures.room,
    )

pub invariant_of-self-2 : goal.invariant_of-self-2
invariant_of-self-2 g c =
    let h = told g (goal.at.invariant_of-self-2 g c).After-room in
    let able = placeable (has_room h c.in-Some.place c.in-Some.is) in
    let again = taken_again (has_room h c.in-Some.place c.in-Some.is) (far_used ((g.N.Near.view c.self.inside.near).cell c.args.pointer) c.in-Far.len c.in-Far.ds c.in-Far.marks (now h.found)) in (
      subst (λ e. InOrder (g.N.Near.view c.come_near.new.near) c.take_again.new.self (g.D.Device.contents c.read_into.new.self) e) (sym (g.met.D.Device.read_follows _ _ _ _ c.read_into.ensures.called).honest)
          (come_in_order (g.N.Near.view c.self.inside.near) (g.N.Near.view c.come_near.new.near) c.args.pointer c.in-Far.len c.in-Far.ds c.in-Some.place (packed_word c.as_slice.result.now) c.in-Far.marks (now h.found) c.if-marks.false able.layout c.in-Ok-come_near.ensures.done
          c.self.inside.ledger c.take_again.new.self _ _ _ c.self.invariant.0 able (again c.take_again.new.self (subst (λ n. TakesAgain c.self.inside.ledger c.take_again.new.self n c.in-Some.place) c.size_of-size.ensures c.take_again.ensures)) (λ q. ap (λ (h : ℕ → Option (List ℕ)). h q) c.read_into.ensures.kept)),
      enough c.self.inside.buffer c.replace-bytes.result c.read_into.new.buffer c.replace-bytes.ensures.value c.self.invariant.1 c.read_into.ensures.room,
    )

-- what the book was given has come near
given : (g : Over) (c : In-Ok-come_near g) → HasGiven g.N.Near.still (g.N.Near.view c.args.self.now.near) (g.N.Near.view c.come_near.new.near) c.args.pointer c.in-Some.place c.as_slice.result.now
given g c =
    let y = c.in-Ok-come_near.ensures in
    let long : length c.read_into.new.buffer.items ≡ c.in-Far.len = omega arith in
    has_given (told g (goal.at.In-Ok-come_near g c).After-room) c.in-Some.place c.in-Some.is c.as_slice.result.now c.if-marks.false (g.N.Near.view c.come_near.new.near) y.done g.N.Near.still y.set (ap length c.as_slice.ensures.value ∙ long)

pub returns-then-marks : goal.returns-then-marks
returns-then-marks g c = record {
  came = then_came c.see-word.ensures.came c.retire.ensures.came;
  place = tt;
  near = tt;
  gone = let x = found g (goal.at.returns-then-marks g c).In-Far in
      let dropped : is_dropped (read_of c.see-word.result) ≡ true = ap is_dropped x.far ∙ c.if-marks.true in
      retired_by g.N.Near.still (g.N.Near.view c.args.self.now.near) (g.N.Near.view c.see-word.new.self.near) (g.N.Near.view c.retire.new.self.near) c.args.pointer c.see-word.result x.finds dropped
      (left_here x) c.retire.ensures.kept c.retire.ensures.forgot
      (λ still. ap (λ v. is_dropped (read_of v)) (sym (c.see-word.ensures.exact still)) ∙ dropped)
      (λ still. c.retire.ensures.exact still ∙ ap (λ (u : State). retired u c.args.pointer) (c.see-word.ensures.set still));
  unread = λ a. λ _. λ k. subst (λ n. n < 2 ^ 64) (c.retire.ensures.forgot.known a k ∙ ap (λ (h : ℕ → ℕ). h a) (words_same (found g (goal.at.returns-then-marks g c).In-Far))) k;
  asked = λ _. refl;
  order = c.retire.ensures.order ∙ c.see-word.ensures.order;
  called = inl (subst (λ (d : g.row.D.Denot). g.D.Device.lets_go d c.args.pointer c.retire.new.self.device) c.see-word.ensures.device c.retire.ensures.called);
  forgot = c.retire.ensures.gone;
  still_held = tt;
  follows = subst (λ (d : g.row.D.Denot). Follows g.D.Device.contents g.D.Device.honest g.D.Device.faults g.D.Device.fails_at_most (other_than c.args.pointer) false d c.retire.new.self.device)
      c.see-word.ensures.device c.retire.ensures.follows;
  refused = tt;
  in_place = λ _. done_isnt _ _;
  untouched = tt;
  held = tt;
  seen = tt;
  kept = tt;
  exact = λ _. tt;
  shut = tt;
  ran = λ still. let dropped : is_dropped (read_of c.see-word.result) ≡ true = ap is_dropped (found g (goal.at.returns-then-marks g c).In-Far).far ∙ c.if-marks.true in
      record {
        pointer = c.requires.pointer;
        dropped = ap (λ v. is_dropped (read_of v)) (sym (c.see-word.ensures.exact still)) ∙ dropped;
        after = c.retire.ensures.exact still ∙ ap (λ (u : State). retired u c.args.pointer) (c.see-word.ensures.set still);
      };
}

pub returns-in_default-room : goal.returns-in_default-room
returns-in_default-room g c = record {
  came = c.see-word.ensures.came;
  place = tt;
  near = tt;
  gone = tt;
  unread = tt;
  asked = λ h. absurd (unasked (found g (goal.at.returns-in_default-room g c).In-Far) c.if-marks.false h);
  order = tt;
  called = c.see-word.ensures.device;
  forgot = λ _. tt;
  still_held = tt;
  follows = subst (Follows g.D.Device.contents g.D.Device.honest g.D.Device.faults g.D.Device.fails_at_most (other_than c.args.pointer) false c.args.self.now.device) (sym c.see-word.ensures.device)
      (follows_itself g.D.Device.contents g.D.Device.honest g.D.Device.faults g.D.Device.fails_at_most (other_than c.args.pointer) c.args.self.now.device);
  refused = room_was (told g (goal.at.returns-in_default-room g c).After-room) ∙ c.in_default-room.is;
  in_place = λ _. other_isnt refused.NoRoom no_room_isnt (Err refused.NoRoom) refl;
  untouched = λ _. c.see-word.ensures.device;
  held = ap g.D.Device.contents c.see-word.ensures.device;
  seen = is_seen (found g (goal.at.returns-in_default-room g c).In-Far) c.if-marks.false;
  kept = words_same (found g (goal.at.returns-in_default-room g c).In-Far);
  exact = c.see-word.ensures.set;
  shut = c.see-word.ensures.order;
  ran = c.see-word.ensures.set;
}

pub returns-in-Err-Memory : goal.returns-in-Err-Memory
returns-in-Err-Memory g c = record {
  came = came g (goal.at.returns-in-Err-Memory g c).After-room;
  place = tt;
  near = tt;
  gone = tt;
  unread = tt;
  asked = λ h. absurd (unasked (found g (goal.at.returns-in-Err-Memory g c).In-Far) c.if-marks.false h);
  order = tt;
  called = read g (goal.at.returns-in-Err-Memory g c).After-room (Err Memory) c.read_into.new.self
      (subst (λ (w : DeviceFault). g.D.Device.reads c.self.inside.device c.args.pointer (Err w) c.read_into.new.self) c.in-Err-Memory.field-0-is c.in-Err-Memory.ensures.called);
  forgot = λ _. tt;
  still_held = tt;
  follows = follows g (goal.at.returns-in-Err-Memory g c).After-room (Err Memory) c.read_into.new.self
      (subst (λ (w : DeviceFault). g.D.Device.reads c.self.inside.device c.args.pointer (Err w) c.read_into.new.self) c.in-Err-Memory.field-0-is c.in-Err-Memory.ensures.called);
  refused = some_room (told g (goal.at.returns-in-Err-Memory g c).After-room) c.in-Some.place c.in-Some.is;
  in_place = λ kind. λ same. holds_all (told g (goal.at.returns-in-Err-Memory g c).After-room) _ _
      (subst (λ (b : Vec ℕ). LONGEST ≤ vec_capacity b) (sym c.replace-bytes.ensures.value) c.self.invariant.1) (c.in-Err-Memory.ensures.in_place kind) (ap (λ (w : DeviceFault). Err w) c.in-Err-Memory.field-0-is);
  untouched = λ odd. absurd (memory_isnt odd);
  held = c.read_into.ensures.kept ∙ ap g.D.Device.contents (device g (goal.at.returns-in-Err-Memory g c).After-room);
  seen = is_seen (told g (goal.at.returns-in-Err-Memory g c).After-room).found c.if-marks.false;
  kept = words_same (told g (goal.at.returns-in-Err-Memory g c).After-room).found;
  exact = as_before g (goal.at.returns-in-Err-Memory g c).After-room;
  shut = ordered g (goal.at.returns-in-Err-Memory g c).After-room;
  ran = as_before g (goal.at.returns-in-Err-Memory g c).After-room;
}

pub returns-in-Err-Device : goal.returns-in-Err-Device
returns-in-Err-Device g c = record {
  came = came g (goal.at.returns-in-Err-Device g c).After-room;
  place = tt;
  near = tt;
  gone = tt;
  unread = tt;
  asked = λ h. absurd (unasked (found g (goal.at.returns-in-Err-Device g c).In-Far) c.if-marks.false h);
  order = tt;
  called = read g (goal.at.returns-in-Err-Device g c).After-room (Err Device) c.read_into.new.self
      (subst (λ (w : DeviceFault). g.D.Device.reads c.self.inside.device c.args.pointer (Err w) c.read_into.new.self) c.in-Err-Device.field-0-is c.in-Err-Device.ensures.called);
  forgot = λ _. tt;
  still_held = tt;
  follows = follows g (goal.at.returns-in-Err-Device g c).After-room (Err Device) c.read_into.new.self
      (subst (λ (w : DeviceFault). g.D.Device.reads c.self.inside.device c.args.pointer (Err w) c.read_into.new.self) c.in-Err-Device.field-0-is c.in-Err-Device.ensures.called);
  refused = some_room (told g (goal.at.returns-in-Err-Device g c).After-room) c.in-Some.place c.in-Some.is;
  in_place = λ _. other_isnt refused.Device device_isnt (Err refused.Device) refl;
  untouched = λ odd. absurd (failed_isnt odd);
  held = c.read_into.ensures.kept ∙ ap g.D.Device.contents (device g (goal.at.returns-in-Err-Device g c).After-room);
  seen = is_seen (told g (goal.at.returns-in-Err-Device g c).After-room).found c.if-marks.false;
  kept = words_same (told g (goal.at.returns-in-Err-Device g c).After-room).found;
  exact = as_before g (goal.at.returns-in-Err-Device g c).After-room;
  shut = ordered g (goal.at.returns-in-Err-Device g c).After-room;
  ran = as_before g (goal.at.returns-in-Err-Device g c).After-room;
}

pub returns-then-len : goal.returns-then-len
returns-then-len g c = record {
  came = came g (goal.at.returns-then-len g c).After-room;
  place = tt;
  near = tt;
  gone = tt;
  unread = tt;
  asked = λ h. absurd (unasked (found g (goal.at.returns-then-len g c).In-Far) c.if-marks.false h);
  order = tt;
  called = let old = was_long (told g (goal.at.returns-then-len g c).After-room).found in
      let short = λ (e : length c.read_into.new.buffer.items ≡ far_len (read_of ((g.N.Near.view c.args.self.now.near).cell c.args.pointer))).
      let long : length c.read_into.new.buffer.items ≡ c.in-Far.len = e ∙ old in absurd (omega arith) in
      (c.read_into.new.buffer.items, read g (goal.at.returns-then-len g c).After-room (Ok c.read_into.new.buffer.items) c.read_into.new.self c.in-Ok.ensures.called, short);
  forgot = λ _. tt;
  still_held = tt;
  follows = follows g (goal.at.returns-then-len g c).After-room (Ok c.read_into.new.buffer.items) c.read_into.new.self c.in-Ok.ensures.called;
  refused = let h = told g (goal.at.returns-then-len g c).After-room in
      let honest = ap g.D.Device.honest (device g (goal.at.returns-then-len g c).After-room) in
      let short = false_from_ne_true (g.D.Device.honest c.args.self.now.device) (λ e.
      let long : length c.read_into.new.buffer.items ≡ c.in-Far.len = as_long h c.read_into.new.buffer.items (c.in-Ok.ensures.given (honest ∙ e)) in absurd (omega arith)) in
      (some_room h c.in-Some.place c.in-Some.is, short);
  in_place = λ _. other_isnt refused.Damaged damaged_isnt (Err refused.Damaged) refl;
  untouched = λ odd. absurd (wrong_isnt odd);
  held = c.read_into.ensures.kept ∙ ap g.D.Device.contents (device g (goal.at.returns-then-len g c).After-room);
  seen = is_seen (told g (goal.at.returns-then-len g c).After-room).found c.if-marks.false;
  kept = words_same (told g (goal.at.returns-then-len g c).After-room).found;
  exact = as_before g (goal.at.returns-then-len g c).After-room;
  shut = ordered g (goal.at.returns-then-len g c).After-room;
  ran = as_before g (goal.at.returns-then-len g c).After-room;
}

pub returns-in_default-come_near : goal.returns-in_default-come_near
returns-in_default-come_near g c = record {
  came = then_came (then_came c.see-word.ensures.came (since_book c.self.view_is c.come_near.ensures.came)) c.retire-in_default-come_near.ensures.came;
  place = tt;
  near = tt;
  gone = let h = told g (goal.at.returns-in_default-come_near g c).After-room in
      let y = c.in_default-come_near in
      let u = g.N.Near.view c.come_near.new.near in
      let z = c.retire-in_default-come_near in
      retired_by g.N.Near.still (g.N.Near.view c.args.self.now.near) u (g.N.Near.view z.new.self.near) c.args.pointer y.field-0 (finds_more _ _ _ h.found.finds y.ensures.found) y.ensures.dropped
      (left_written h c.in-Some.place c.in-Some.is (packed_word c.as_slice.result.now) u y.field-0 y.ensures.kept) z.ensures.kept z.ensures.forgot
      (λ still. absurd (y.ensures.won still)) (λ still. absurd (y.ensures.won still));
  unread = let y = c.in_default-come_near in
      let z = c.retire-in_default-come_near in
      unread_written (told g (goal.at.returns-in_default-come_near g c).After-room) c.in-Some.place c.in-Some.is (packed_word c.as_slice.result.now) (g.N.Near.view c.come_near.new.near) y.field-0 y.ensures.kept
      (g.N.Near.view z.new.self.near) z.ensures.forgot;
  asked = λ _. refl;
  order = c.retire-in_default-come_near.ensures.order ∙ ordered g (goal.at.returns-in_default-come_near g c).After-room;
  called = let k = (goal.at.returns-in_default-come_near g c).After-room in
      let asked = read g k (Ok c.read_into.new.buffer.items) c.read_into.new.self c.in-Ok.ensures.called in
      inr (c.read_into.new.buffer.items, c.read_into.new.self, asked, c.retire-in_default-come_near.ensures.called, was_alive (told g k).found c.if-marks.false);
  forgot = c.retire-in_default-come_near.ensures.gone;
  still_held = tt;
  follows = follows_on g.D.Device.contents g.D.Device.honest g.D.Device.faults g.D.Device.fails_at_most (other_than c.args.pointer) false _ _ _
      (follows g (goal.at.returns-in_default-come_near g c).After-room (Ok c.read_into.new.buffer.items) c.read_into.new.self c.in-Ok.ensures.called) c.retire-in_default-come_near.ensures.follows;
  refused = tt;
  in_place = λ _. done_isnt _ _;
  untouched = tt;
  held = tt;
  seen = tt;
  kept = tt;
  exact = λ _. tt;
  shut = tt;
  ran = λ still. absurd (c.in_default-come_near.ensures.won still);
}

pub returns : goal.returns
returns g c =
    let k = (goal.at.returns g c).After-room in
    let place = room_was (told g k) ∙ c.in-Some.is in
    let near =
    is_fetched (told g k).found (g.N.Near.view c.args.self.now.near).honest (given g (goal.at.returns g c).In-Ok-come_near) c.come_near.ensures.padded
    (λ e i lt. let promised = ap (λ (u : State). u.honest) (told g k).found.same ∙ e in
    ap (λ b. packed_word b i) c.as_slice.ensures.value ∙ as_stored (told g k) c.read_into.new.buffer.items (c.in-Ok.ensures.given (c.self.invariant.0.honest promised)) promised i lt) in
    record {
      came = then_came c.see-word.ensures.came (since_book c.self.view_is c.come_near.ensures.came);
      place = place;
      near = near;
      gone = tt;
      unread = tt;
      asked = λ h. absurd (unasked (found g (goal.at.returns g c).In-Far) c.if-marks.false h);
      order = opened g k c.in-Some.place c.take_again.new.self.order c.take_again.ensures.order;
      called = let read = read g k (Ok c.read_into.new.buffer.items) c.read_into.new.self c.in-Ok.ensures.called in
          let given = subst (HasGiven g.N.Near.still _ _ c.args.pointer c.in-Some.place) c.as_slice.ensures.value (given g (goal.at.returns g c).In-Ok-come_near) in
          (c.read_into.new.buffer.items, read, given);
      forgot = λ _. tt;
      still_held = c.read_into.ensures.kept ∙ ap g.D.Device.contents (device g k);
      follows = follows g k (Ok c.read_into.new.buffer.items) c.read_into.new.self c.in-Ok.ensures.called;
      refused = tt;
      in_place = λ _. done_isnt _ _;
      untouched = tt;
      held = tt;
      seen = tt;
      kept = tt;
      exact = λ _. tt;
      shut = tt;
      ran = λ still. record {
        far = c.requires.far;
        alive = was_alive (told g k).found c.if-marks.false;
        found = place;
        row = near.row;
        padded = near.padded;
        stored = near.stored;
        after = near.exact still;
      };
    }
