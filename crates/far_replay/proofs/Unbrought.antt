-- Where the device fails or gives another number of bytes, a command that is to reach a far object is left with what a try of that object leaves; and where there is no room it is refused.
use Rattle.std.proofs.Common.{◌≡◌, ◌⊎◌, inl, inr, ℕ, ◌/◌, Bool, true, false, not, IsSome, [], ◌∷◌, Option, Some, None, if◌then◌else◌, refl, sym, ap, subst, ◌∙◌}
use Rattle.std.proofs.lemmas.Bool.{false≢true}
use Rattle.far_word.specs.declared.mark.Mark.TheVariants.{Hot}
use Rattle.far_word.specs.declared.pointer.PtrWord.{PtrWord}
use Rattle.far_word.specs.declared.pointer.PtrWord.TheVariants.{Free}
use Rattle.far_word.specs.declared.refused.Refused.{Refused as Refusal}
use Rattle.far_word.specs.declared.refused.Refused.TheVariants.{Damaged, Device, NoRoom, Range, Closed, NotHeld, Marked}
use Rattle.far_word.specs.declared.sizes.TheConstants.{CELLS}
use Rattle.far_word.specs.Pointer.{read_of}
use Rattle.far_events.specs.events.Step.{is_opened}
use Rattle.far_events.specs.state.Law.{Law}
use Rattle.far_events.specs.state.State.{State}
use Rattle.far_events.proofs.Cells.{map_mark}
use Rattle.far_hand.specs.declared.plain.Plain.{Plain}
use Rattle.far_evac.specs.EvacOf.{EvacOf}
use Rattle.far_text.specs.Command.{Command, Mutator, Try}
use Rattle.far_replay.specs.Commanded.{AsksFor, CommandedBy, KeepsFar, Serves, Served, Stopped, Unbrought}
use Rattle.far_replay.specs.Far.{FarBytes, HoldsSame, ToldBy, far_in}
use Rattle.far_alone.specs.Dereference.{RefusesBringing, RefusesView, comes_to, has_no_room, says_near, sought, sought_of}
use Rattle.far_alone.specs.Effects.{is_slow, with_view}
use Rattle.far_replay.specs.Interpreter.{refuser}
use Rattle.far_replay.specs.Moment.{FarSide, KeepsRound, Moment, moment_in, state_in, with_core}
use Rattle.far_reply.specs.Reply.{Reply, Refused}
use Rattle.far_replay.specs.Spent.{Makes, SpentBy}
use Rattle.far_replay.specs.Turn.{effect, first_cause, refusal, refused_effect, turn_effect, turn_reply, unless}
use Rattle.far_alone.proofs.Bringing.{SaysFar, far_is}
use Rattle.far_replay.proofs.RangeTurns.{opened_inside}
use Rattle.far_alone.proofs.Storing.{uses_own}
use Rattle.far_alone.proofs.Views.{pin_read, slow_view}
use Rattle.far_replay.proofs.Told.{asks_hold, refused_told}
use Rattle.far_replay.proofs.WithCore.{moment_joined, same_order}
use Rattle.far_replay.proofs.Asides.{sought_current}

near_hot : (o : Option PtrWord) → says_near (map_mark Hot o) ≡ says_near o
near_hot (Some Free) = refl
near_hot _ = refl

by_try : (why : Refusal) (a b c d : Bool) → a ≡ true → b ≡ true → c ≡ true → d ≡ true → first_cause ((not a, Range) ∷ (not b, Closed) ∷ (not c, NotHeld) ∷ (d, why) ∷ []) ≡ Some why
by_try why true true true true x y z w = refl
by_try why true true true false x y z w = absurd (false≢true w)
by_try why true true false d x y z w = absurd (false≢true z)
by_try why true false c d x y z w = absurd (false≢true y)
by_try why false b c d x y z w = absurd (false≢true x)

-- ---- a pin that gives no view
module _ (s : State) (m p : ℕ) (law : Law s) (opened : is_opened s m ≡ true) (own : p / CELLS ≡ m) (used : s.used p ≡ true) (slow : is_slow s p ≡ true) where
  pub pinned : read_of ((with_view s p).cell p) ≡ map_mark Hot (read_of (s.cell p))
  pinned = ap (λ (t : State). read_of (t.cell p)) (slow_view s p slow) ∙ pin_read s m p law opened (uses_own s m p own used)

  -- what lies far after it lay far before
  pub far_before : (t : State) → t ≡ with_view s p → says_near (read_of (t.cell p)) ≡ false → says_near (read_of (s.cell p)) ≡ false
  far_before t is far = sym (near_hot (read_of (s.cell p))) ∙ sym (ap says_near pinned) ∙ sym (ap (λ (u : State). says_near (read_of (u.cell p))) is) ∙ far

  -- and so the other way round
  pub far_after : says_near (read_of (s.cell p)) ≡ false → says_near (read_of ((with_view s p).cell p)) ≡ false
  far_after far = ap says_near pinned ∙ near_hot (read_of (s.cell p)) ∙ far

  -- and isn't asked for
  far_sought : (o : SaysFar (read_of (s.cell p))) → sought s m p ≡ with_view s p
  far_sought o = ap (sought_of (with_view s p) m p) (pinned ∙ ap (map_mark Hot) o.is)

-- ---- a refusal from outside
-- the outside refuses by its device
refuser_stops : (why : Refusal) (now : Moment) (c : Command) (r : Reply) (next : Moment) → KeepsFar why → Stopped why 0 0 now c r next → CommandedBy (refuser why) now c r next
refuser_stops Device now c r next keeps h = h
refuser_stops Damaged now c r next keeps h = h
refuser_stops why now c r next keeps h = absurd keeps

-- and tells nothing then
refuser_told : (why : Refusal) (now : Moment) (c : Command) (held : FarBytes) → KeepsFar why → ToldBy (refuser why) now c held
refuser_told Device now c held keeps = tt
refuser_told Damaged now c held keeps = tt
refuser_told why now c held keeps = absurd keeps

-- there was room, and nothing has changed but by the pin and the asking
kept_far : (s t : State) (p : ℕ) (why : Refusal) → KeepsFar why → RefusesBringing s p why t → IsSome (comes_to s p) × (t ≡ s)
kept_far s t p Device keeps h = h
kept_far s t p Damaged keeps h = h
kept_far s t p why keeps h = absurd keeps

module _ (now next : Moment) (m p : ℕ) (law : Law now.core) (opened : is_opened now.core m ≡ true) (own : p / CELLS ≡ m) (used : now.core.used p ≡ true) (why : Refusal) (keeps : KeepsFar why)
    (refuses : RefusesView now.core m p why next.core) (far : says_near (read_of (now.core.cell p)) ≡ false)
    (order : next.order ≡ now.order) (phase : next.phase ≡ now.phase) (held : next.collection ≡ now.collection) (copying : next.copying ≡ now.copying) where
  lies : SaysFar (read_of (now.core.cell p))
  lies = far_is (read_of (now.core.cell p)) far (law.views.used_cell p used)

  left : IsSome (comes_to (sought now.core m p) p) × (next.core ≡ sought now.core m p)
  left = kept_far (sought now.core m p) next.core p why keeps refuses.1

  has_room : has_no_room now.core m p ≡ false
  has_room = rw (refuses.0, left.0) refl

  cause : refusal now (Mutator m (Try p)) ≡ Some (Marked (now.core.cell p))
  cause = by_try (Marked (now.core.cell p)) _ _ _ _ (opened_inside now.core m opened) opened (uses_own now.core m p own used) refuses.0

  tried_moment : next ≡ effect now (Mutator m (Try p))
  tried_moment =
      let c : Command = Mutator m (Try p) in
      moment_joined now next (with_view now.core p) (left.1 ∙ far_sought now.core m p law opened own used refuses.0 lies)
      (order ∙ sym (same_order now (with_view now.core p) (ap (λ (t : State). t.current) (slow_view now.core p refuses.0)))) phase held copying
      ∙ ap (λ o. unless o (refused_effect now c) (turn_effect now c)) (sym cause)

  unbrought : (c : Command) → refusal now c ≡ None → Unbrought why now c m p (Refused why) next
  unbrought c allowed = record {
    cause = keeps;
    allowed = allowed;
    far = (lies.len, lies.ds, lies.marks, lies.is);
    tried = record {
      reply = ap (λ o. unless o Refused (turn_reply now (Mutator m (Try p)))) (sym cause);
      moment = tried_moment;
    };
    reply = refl;
  }

-- ---- or for want of room
lacks_room : (s t : State) (m p : ℕ) → RefusesView s m p NoRoom t → has_no_room s m p ≡ true
lacks_room s t m p h = rw (h.0, h.1.0) refl

-- a command that seeks it and is refused so
unplaced : (now next : Moment) (m p : ℕ) (c : Command) → refusal now c ≡ Some NoRoom → refused_effect now c NoRoom ≡ with_core now (sought now.core m p) → RefusesView now.core m p NoRoom next.core →
    next.order ≡ now.order → next.phase ≡ now.phase → next.collection ≡ now.collection → next.copying ≡ now.copying → Served now c (Refused NoRoom) next
unplaced now next m p c cause leaves refuses order phase held copying = record {
  reply = ap (λ o. unless o Refused (turn_reply now c)) (sym cause);
  moment = moment_joined now next (sought now.core m p) refuses.1.1 (order ∙ sym (same_order now (sought now.core m p) (sought_current now.core m p))) phase held copying
      ∙ sym leaves ∙ ap (λ o. unless o (refused_effect now c) (turn_effect now c)) (sym cause);
}

-- ---- by what the refusal comes to
-- the book refuses an object for want of room, or it is refused from outside
room_or_far : (s t : State) (m p : ℕ) (why : Refusal) → RefusesView s m p why t → (why ≡ NoRoom) ⊎ KeepsFar why
room_or_far s t m p NoRoom h = inl refl
room_or_far s t m p Device h = inr tt
room_or_far s t m p Damaged h = inr tt
room_or_far s t m p why h = absurd h.1

-- a command sought its object in vain, and would have been refused for want of room alone
pub record IsVain (old new : EvacOf Plain FarSide) (m p : ℕ) (c : Command) (why : Refusal) : Type 0 where
  pub asks : AsksFor m p c
  pub opened : is_opened (state_in old) m ≡ true
  pub own : p / CELLS ≡ m
  pub used : (state_in old).used p ≡ true
  pub cause : (b : Bool) → has_no_room (state_in old) m p ≡ b → refusal (moment_in old) c ≡ (if b then Some NoRoom else None)
  pub stops : Unbrought why (moment_in old) c m p (Refused why) (moment_in new) → Stopped why 0 0 (moment_in old) c (Refused why) (moment_in new)
  pub leaves : refused_effect (moment_in old) c NoRoom ≡ with_core (moment_in old) (sought (state_in old) m p)
  pub refuses : RefusesView (state_in old) m p why (state_in new)
  pub far : KeepsFar why → says_near (read_of ((state_in old).cell p)) ≡ false
  pub shut : new.book.order ≡ old.book.order
  pub round : KeepsRound old new
  pub spent : SpentBy (refuser why) old new
  pub same : HoldsSame old new

module _ {old new : EvacOf Plain FarSide} {m p : ℕ} {c : Command} {why : Refusal} (x : IsVain old new m p c why) where
  within : why ≡ NoRoom → Makes old c (Refused why) new
  within room =
      let refuses = subst (λ w. RefusesView (state_in old) m p w (state_in new)) room x.refuses in
      let cause = x.cause true (lacks_room (state_in old) (state_in new) m p refuses) in
      let served = unplaced (moment_in old) (moment_in new) m p c cause x.leaves refuses x.shut x.round.0 x.round.1 x.round.2 in
      subst (λ w. Makes old c (Refused w) new) (sym room) (
        Serves,
        record {
          commanded = served;
          spent = subst (λ w. SpentBy (refuser w) old new) room x.spent;
          holds = asks_hold m p c (state_in old) (state_in new) (far_in old) (far_in new) x.asks x.same;
          told = refused_told (moment_in old) c (far_in old) NoRoom cause;
        },
      )

  outside : KeepsFar why → Makes old c (Refused why) new
  outside keeps =
      let now : Moment = moment_in old in
      let next : Moment = moment_in new in
      let law = old.book.near.core.law in
      let room = has_room now next m p law x.opened x.own x.used why keeps x.refuses (x.far keeps) x.shut x.round.0 x.round.1 x.round.2 in
      let stops = unbrought now next m p law x.opened x.own x.used why keeps x.refuses (x.far keeps) x.shut x.round.0 x.round.1 x.round.2 c (x.cause false room) in (
        refuser why,
        record {
          commanded = refuser_stops why now c (Refused why) next keeps (x.stops stops);
          spent = x.spent;
          holds = asks_hold m p c (state_in old) (state_in new) (far_in old) (far_in new) x.asks x.same;
          told = refuser_told why now c (far_in old) keeps;
        },
      )

  pub vain_made : Makes old c (Refused why) new
  vain_made = elim (room_or_far (state_in old) (state_in new) m p why x.refuses) [
    | inl room ↦ within room
    | inr keeps ↦ outside keeps
  ]
