-- A far object is fetched from a device that may lie: with which words it comes, and what that spends of the device's flaw.
use Rattle.std.proofs.Common.{◌≡◌, ◌≢◌, ℕ, zero, suc, ◌-◌, ◌<◌, ◌==◌, Bool, true, false, cond, arith, refl, sym, ap, subst, ◌∙◌, Option, Some, is_some, List, [], ◌∷◌, get_or, length, length-take-le, map, Ok, Err}
use Rattle.std.specs.Prelude.{IfSome}
use Rattle.std.proofs.lemmas.List.{length-map}
use Rattle.std.proofs.lemmas.Bool.{cond_both, eqb-true, false≢true, not-true}
use Rattle.far_word.specs.declared.pointer.Place.{Place}
use Rattle.far_word.specs.declared.pointer.PtrWord.TheVariants.{Far, Near}
use Rattle.far_word.specs.declared.refused.Refused.{Refused as Refusal}
use Rattle.far_word.specs.declared.refused.Refused.TheVariants.{Damaged, Device, Memory, NoRoom}
use Rattle.far_word.specs.Bytes.{bytes_of, packed_word, words_of}
use Rattle.far_word.specs.Pointer.{IsPtr, read_of}
use Rattle.far_word.specs.Sizes.{size_of, words_for}
use Rattle.far_word.proofs.ByteLaws.{bytes_of-same, bytes_of-words_of, packs_back, words_of-get}
use Rattle.far_word.proofs.PointerLaws.{read_says}
use Rattle.far_events.specs.events.Copies.{Alike, data_at}
use Rattle.far_events.specs.events.Naming.{no_marks}
use Rattle.far_events.specs.state.Law.{IsStored, Law, StoresBack, in_use}
use Rattle.far_core.specs.state.Room.{room}
use Rattle.far_events.specs.state.State.{State}
use Rattle.far_events.proofs.Put.{put_same}
use Rattle.far_device.specs.Liar.{inverted, is_honest, lied}
use Rattle.far_device.specs.Mem.{bytes_at}
use Rattle.far_device.specs.declared.fault.DeviceFault.TheVariants as fault
use Rattle.far_device.specs.declared.liar.Lie.{Lie}
use Rattle.far_device.specs.declared.liar.Lie.TheVariants.{Never, Short, Flip}
use Rattle.far_hand.specs.declared.plain.Plain.{Plain}
use Rattle.far_book.specs.book.Asking.{AsksToFetch, HasGiven}
use Rattle.far_book.specs.book.Effects.{fetched, order_after}
use Rattle.far_book.specs.book.FarSide.{HoldsFar, kept_len}
use Rattle.far_book.specs.book.Fetching.{IsFetched, far_len, order_fetched, room_for}
use Rattle.far_book.proofs.region.Coming.{fetched_alike, stands}
use Rattle.far_book.proofs.region.Fetched.{fetched_come}
use Rattle.far_evac.specs.EvacOf.{EvacOf}
use Rattle.far_replay.specs.Commanded.{Outside, Serves, Refuses, Gives}
use Rattle.far_alone.specs.Dereference.{asked_for, come, comes_to, says_near, order_come}
use Rattle.far_replay.specs.Far.{HoldsSame, IsTold, far_in}
use Rattle.far_replay.specs.Interpreter.{Comes, MayGive, refuser}
use Rattle.far_replay.specs.Moment.{FarSide, state_in, with_stored}
use Rattle.far_replay.specs.Spent.{SpentBy}
use Rattle.far_replay.proofs.AsIfStored.{as_it_was, far_keeps, law_as_if}
use Rattle.far_alone.proofs.Bringing.{SaysFar, far_came, far_here, far_is, far_order}
use Rattle.far_replay.proofs.Brought.{far_layout}
use Rattle.far_replay.proofs.FarReads.{FarLetsGo, FarReads, NoMore, read_bytes, read_failed, read_fault, read_gives, read_leaves, read_no_more, same_no_more}
use Rattle.far_replay.proofs.Spending.{spent_failed, spent_flip, spent_given, spent_none, spent_same, spent_short}
use Rattle.far_alone.proofs.Spliced.{AreBytes}
use Rattle.far_replay.proofs.Told.{same_holds}

-- ---- bytes, and the words of them
unpacked : (bytes : List ℕ) → AreBytes bytes → bytes_of (packed_word bytes) (length bytes) ≡ bytes
unpacked bytes small = bytes_of-same (packed_word bytes) (λ i. get_or (words_of bytes) i 0) (length bytes) (λ i lt. sym (words_of-get bytes i lt)) ∙ bytes_of-words_of bytes small

inverted_small : (bytes : List ℕ) → AreBytes (map inverted bytes)
inverted_small [] k = omega arith
inverted_small (byte ∷ bytes) zero = omega arith
inverted_small (byte ∷ bytes) (suc k) = inverted_small bytes k

-- what is brought with its own words
module _ (old new : EvacOf Plain FarSide) (m p : ℕ) (place : Place) (done : state_in new ≡ come (asked_for (state_in old) m p) p) (found : comes_to (asked_for (state_in old) m p) p ≡ Some place)
    (order : new.book.order ≡ order_come (asked_for (state_in old) m p) old.book.order p) (stored : (state_in new).stored ≡ (state_in old).stored) (spent : SpentBy Serves old new)
    (given : MayGive Serves (state_in old) (far_in old) p) where
  abbrev was : State
  was = state_in old

  same : with_stored was p (was.stored p) ≡ was
  same = as_it_was was p (was.stored p) refl

  pub comes_itself : Comes old new m p Serves
  comes_itself = record {
    given = given;
    state = as_it_was (state_in new) p (was.stored p) (sym (ap (λ (f : ℕ → ℕ → ℕ). f p) stored)) ∙ done ∙ sym (ap (λ (x : State). come (asked_for x m p) p) same);
    room = ap (λ (x : State). is_some (comes_to (asked_for x m p) p)) same ∙ ap is_some found;
    order = order ∙ sym (ap (λ (x : State). order_come (asked_for x m p) old.book.order p) same);
    stored = stored;
    spent = spent;
  }

-- ---- a far object
module _ (old new : EvacOf Plain FarSide) (m p : ℕ) (law : Law (state_in old)) (used : (state_in old).used p ≡ true) (far : says_near (read_of ((state_in old).cell p)) ≡ false)
    (holds : HoldsFar (state_in old) (λ q. bytes_at old.book.device.inner.inner q)) where
  abbrev s : State
  s = state_in old

  abbrev d : FarSide
  d = old.book.device

  says : SaysFar (read_of (s.cell p))
  says = far_is (read_of (s.cell p)) far (law.views.used_cell p used)

  alive : says.marks.dropped ≡ false
  alive = not-true says.marks.dropped (subst (λ o. in_use o ≡ true) says.is (law.views.used_cell p used))

  kept : IsStored (s.stored p) says.len
  kept = law.cells.cell_far p says.len says.ds says.marks says.is

  some : 0 < says.len
  some = (read_says (s.cell p) (Far says.len says.ds says.marks) (law.cells.cell_read p).0 says.is).0.0

  is_kept : kept_len (read_of (s.cell p)) ≡ Some says.len
  is_kept = ap kept_len says.is

  -- what the device holds
  abbrev held : List ℕ
  held = (holds.long p says.len is_kept).0

  there : bytes_at d.inner.inner p ≡ Some held
  there = (holds.long p says.len is_kept).1

  held_long : length held ≡ says.len
  held_long = (holds.long p says.len is_kept).2

  -- where it is honest, that is what is stored
  held_true : s.honest ≡ true → held ≡ bytes_of (s.stored p) says.len
  held_true honest = some_is held (bytes_of (s.stored p) says.len) (sym there ∙ holds.same honest p says.len is_kept) where
    some_is : (x y : List ℕ) → Some x ≡ Some y → x ≡ y
    some_is x y e = cc

  -- one that isn't told its last byte is told of another length
  short_differs : length (lied Short held) ≡ says.len → ⊥
  short_differs e = omega (arith, some, held_long, e, length-take-le (length held - 1) held (omega (arith, held_long)))

  flip_alike : length (lied Flip held) ≡ says.len
  flip_alike = length-map held inverted ∙ held_long

  -- ---- it comes
  module _ (place : Place) (found : room_for s p ≡ Some place) (is : IsFetched (Unit {0}) s.honest s (state_in new) p place) (bytes : List ℕ)
      (reads : FarReads d p (Ok bytes) new.book.device) (given : HasGiven (Unit {0}) s (state_in new) p place bytes)
      (honest : s.honest ≡ true → is_honest d.lie true ≡ true) (order : new.book.order ≡ order_after s old.book.order place) where
    abbrev t : State
    t = state_in new

    bytes_are : bytes ≡ cond (d.left == 1) (lied d.lie held) held
    bytes_are = read_gives d new.book.device p held bytes there reads

    long : length bytes ≡ says.len
    long = given.long ∙ ap far_len says.is

    more : NoMore d new.book.device
    more = read_no_more d new.book.device p (Ok bytes) reads (λ odd. let no : read_bytes bytes ≡ read_fault fault.Device = odd in absurd cc)

    layout : IsPtr (Near says.len says.ds place no_marks)
    layout = far_layout s law p says.len says.ds says.marks place says.is alive (sym (ap (λ o. room s (size_of (far_len o)) true) says.is) ∙ found)

    -- what is stored stays
    stays : (row : ℕ → ℕ) → t ≡ fetched s p place row → t.stored ≡ s.stored
    stays row at = ap (λ (x : State). x.stored) (at ∙ fetched_come s s p says.len says.ds place row says.marks says.is alive layout)

    -- with its own words
    itself : s.honest ≡ true → bytes ≡ bytes_of (s.stored p) says.len → Comes old new m p Serves
    itself honestly e =
        let row : ℕ → ℕ = packed_word bytes in
        let alike : Alike row (s.stored p) (words_for says.len) = λ i lt. ap (λ b. packed_word b i) e ∙ packs_back (s.stored p) says.len i (kept i lt).0 (kept i lt).1 in
        comes_itself old new m p place
        (given.exact tt ∙ fetched_alike s p says.len says.ds place row says.marks says.is (s.stored p) alike ∙ sym (far_came s m p law used far place found))
        (far_here s m p law used far ∙ found)
        (order ∙ sym (far_order s m p law used far old.book.order place found))
        (stays row (given.exact tt))
        (spent_none old new more)
        (λ _. honestly)

    -- with others
    abbrev row : ℕ → ℕ
    row = is.row

    fits : StoresBack row (read_of (s.cell p))
    fits len ds marks at = subst (λ o. IsStored row (far_len o)) at is.padded

    abbrev other : State
    other = with_stored s p row

    other_law : s.honest ≡ false → Law other
    other_law lies = law_as_if s p row law lies used (far_keeps row (read_of (s.cell p)) far fits)

    -- they are the words of the bytes that were given
    same_state : fetched s p place row ≡ fetched s p place (packed_word bytes)
    same_state = sym (is.exact tt) ∙ given.exact tt

    rows_agree : (i : ℕ) → i < words_for says.len → row i ≡ packed_word bytes i
    rows_agree i lt =
        sym (stands s p says.len says.ds place row i lt)
        ∙ ap (λ (x : State). data_at x.word place i)
        (sym (fetched_come s s p says.len says.ds place row says.marks says.is alive layout) ∙ same_state ∙ fetched_come s s p says.len says.ds place (packed_word bytes) says.marks says.is alive layout)
        ∙ stands s p says.len says.ds place (packed_word bytes) i lt

    row_bytes : AreBytes bytes → bytes_of row says.len ≡ bytes
    row_bytes small = bytes_of-same row (packed_word bytes) says.len rows_agree ∙ ap (bytes_of (packed_word bytes)) (sym long) ∙ unpacked bytes small

    others : s.honest ≡ false → (inverts : Bool) → IsTold inverts (far_in old p) (bytes_of row says.len) → SpentBy (Gives row inverts) old new → Comes old new m p (Gives row inverts)
    others lies inverts told spent = record {
      given = (lies, far, fits, λ len ds marks at. subst (λ n. IsTold inverts (far_in old p) (bytes_of row n)) (ap far_len (sym says.is ∙ at)) told);
      state = ap (λ (x : State). with_stored x p row) (is.exact tt ∙ fetched_come s s p says.len says.ds place row says.marks says.is alive layout)
          ∙ sym (fetched_come other other p says.len says.ds place row says.marks says.is alive layout)
          ∙ ap (fetched other p place) (sym (put_same s.stored p row p refl))
          ∙ sym (far_came other m p (other_law lies) used far place found);
      room = ap is_some (far_here other m p (other_law lies) used far ∙ found);
      order = order ∙ sym (far_order other m p (other_law lies) used far old.book.order place found);
      stored = stays row (is.exact tt);
      spent = spent;
    }

    -- an honest one gives what it holds
    truly : (lie : Lie) → d.lie ≡ lie → is_honest lie true ≡ true → bytes ≡ held
    truly Never e h = bytes_are ∙ ap (λ l. cond (d.left == 1) (lied l held) held) e ∙ cond_both (d.left == 1) held held (λ x. x ≡ held) (λ _. refl) (λ _. refl)
    truly _ e h = absurd (false≢true h)

    -- one of which nothing is promised gives what it holds, or that inverted
    held_told : bytes ≡ held → IsTold false (far_in old p) (bytes_of row says.len)
    held_told e = (held, there, λ small. row_bytes (subst AreBytes (sym e) small) ∙ e)

    lie_told : bytes ≡ map inverted held → IsTold true (far_in old p) (bytes_of row says.len)
    lie_told e = (held, there, row_bytes (subst AreBytes (sym e) (inverted_small held)) ∙ e)

    truth : s.honest ≡ false → bytes ≡ held → (o : Outside) × Comes old new m p o
    truth nothing e = (Gives row false, others nothing false (held_told e) (spent_given row old new more))

    otherwise : s.honest ≡ false → (lies : Bool) (lie : Lie) → (d.left == 1) ≡ lies → d.lie ≡ lie → (o : Outside) × Comes old new m p o
    otherwise nothing false lie e f = truth nothing (bytes_are ∙ ap (λ b. cond b (lied d.lie held) held) e)
    otherwise nothing true Never e f = truth nothing (bytes_are ∙ ap (λ b. cond b (lied d.lie held) held) e ∙ ap (λ l. lied l held) f)
    otherwise nothing true Short e f = absurd (short_differs (sym (ap length (bytes_are ∙ ap (λ b. cond b (lied d.lie held) held) e ∙ ap (λ l. lied l held) f)) ∙ long))
    otherwise nothing true Flip e f =
        let one : d.left ≡ 1 = eqb-true d.left 1 e in (
          Gives row true,
          others nothing true (lie_told (bytes_are ∙ ap (λ b. cond b (lied d.lie held) held) e ∙ ap (λ l. lied l held) f)) (spent_flip old new more one (reads.4 ∙ ap (λ n. n - 1) one) row f),
        )

    by : (b : Bool) → s.honest ≡ b → (o : Outside) × Comes old new m p o
    by true e = (Serves, itself e (truly d.lie refl (honest e) ∙ held_true e))
    by false e = otherwise e (d.left == 1) d.lie refl refl

    pub comes_given : (o : Outside) × Comes old new m p o
    comes_given = by s.honest refl

  -- by what its book answered
  pub fetch_brings : (o : Option Place) (place : Place) → o ≡ Some place → IfSome o (λ at. room_for s p ≡ Some at) → IfSome o (λ at. IsFetched (Unit {0}) s.honest s (state_in new) p at) →
      AsksToFetch FarSide FarReads FarLetsGo (Unit {0}) s (state_in new) p (Ok o) d new.book.device → (s.honest ≡ true → is_honest d.lie true ≡ true) → new.book.order ≡ order_fetched s old.book.order o →
      (x : Outside) × Comes old new m p x
  fetch_brings o place e found is asked honest order =
      let (bytes, reads, given) = subst (λ x. AsksToFetch FarSide FarReads FarLetsGo (Unit {0}) s (state_in new) p (Ok x) d new.book.device) e asked in
      comes_given place (subst (λ x. IfSome x (λ at. room_for s p ≡ Some at)) e found) (subst (λ x. IfSome x (λ at. IsFetched (Unit {0}) s.honest s (state_in new) p at)) e is) bytes reads given honest
      (order ∙ ap (order_fetched s old.book.order) e)

  -- ---- it doesn't
  -- what one read gave isn't as long as the object: it lacks its last byte
  module _ (bytes : List ℕ) (reads : FarReads d p (Ok bytes) new.book.device) (differs : length bytes ≢ far_len (read_of (s.cell p))) where
    told : bytes ≡ cond (d.left == 1) (lied d.lie held) held
    told = read_gives d new.book.device p held bytes there reads

    wrong : length bytes ≡ says.len → ⊥
    wrong e = differs (e ∙ sym (ap far_len says.is))

    damage : (lies : Bool) (lie : Lie) → (d.left == 1) ≡ lies → d.lie ≡ lie → SpentBy (Refuses Damaged 0 0) old new
    damage false lie e f = absurd (wrong (ap length (told ∙ ap (λ b. cond b (lied d.lie held) held) e) ∙ held_long))
    damage true Never e f = absurd (wrong (ap length (told ∙ ap (λ b. cond b (lied d.lie held) held) e ∙ ap (λ l. lied l held) f) ∙ held_long))
    damage true Short e f =
        let one : d.left ≡ 1 = eqb-true d.left 1 e in
        spent_short old new (read_no_more d new.book.device p (Ok bytes) reads (λ odd. let no : read_bytes bytes ≡ read_fault fault.Device = odd in absurd cc)) one (reads.4 ∙ ap (λ n. n - 1) one) f
    damage true Flip e f = absurd (wrong (ap length (told ∙ ap (λ b. cond b (lied d.lie held) held) e ∙ ap (λ l. lied l held) f) ∙ flip_alike))

    damaged_spends : SpentBy (Refuses Damaged 0 0) old new
    damaged_spends = damage (d.left == 1) d.lie refl refl

  -- ---- whether it comes or not, the device holds what it held
  pub fetch_leaves : (o : Option Place) (place : Place) → o ≡ Some place → AsksToFetch FarSide FarReads FarLetsGo (Unit {0}) s (state_in new) p (Ok o) d new.book.device → HoldsSame old new
  fetch_leaves o place e asked =
      let (bytes, reads, given) = subst (λ x. AsksToFetch FarSide FarReads FarLetsGo (Unit {0}) s (state_in new) p (Ok x) d new.book.device) e asked in
      read_leaves d new.book.device p (Ok bytes) reads

  pub refused_leaves : (why : Refusal) → AsksToFetch FarSide FarReads FarLetsGo (Unit {0}) s (state_in new) p (Err why) d new.book.device → HoldsSame old new
  refused_leaves NoRoom h = same_holds old new h
  refused_leaves Memory h = read_leaves d new.book.device p (Err fault.Memory) h
  refused_leaves Device h = read_leaves d new.book.device p (Err fault.Device) h
  refused_leaves Damaged h = read_leaves d new.book.device p (Ok h.0) h.1
  refused_leaves why h = absurd h

  pub refused_spends : (why : Refusal) → why ≢ Memory → AsksToFetch FarSide FarReads FarLetsGo (Unit {0}) s (state_in new) p (Err why) d new.book.device → SpentBy (refuser why) old new
  refused_spends NoRoom never h = spent_same old new h
  refused_spends Memory never h = absurd (never refl)
  refused_spends Device never h =
      let failed = read_failed d new.book.device p held there h in
      spent_failed old new d (same_no_more d) (read_fault fault.Device) _ failed.0 refl failed.1 h.3
  refused_spends Damaged never h = damaged_spends h.0 h.1 h.2
  refused_spends why never h = absurd h
