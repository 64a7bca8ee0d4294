-- Reads and writes of a range: what the calls of the core ask for, and what the commands come to.
use Rattle.std.proofs.Common.{[], ◌≡◌, ℕ, ◌+◌, ◌/◌, ◌<◌, ◌≤◌, Bool, true, false, not, nat_eq, nat_lt, List, ◌∷◌, ◌++◌, length, refl, sym, ap, subst, ◌∙◌, arith, is_some, Some, None, if◌then◌else◌}
use Rattle.std.specs.Prelude.{slice_range}
use Rattle.std.proofs.lemmas.Bool.{and_parts, false≢true}
use Rattle.std.proofs.lemmas.Bool.Decides.{nat_tests}
use Rattle.far_word.specs.declared.refused.Refused.TheVariants.{NoRoom, Closed, NotHeld, Range}
use Rattle.far_word.specs.declared.sizes.TheConstants.{CELLS}
use Rattle.far_events.specs.declared.event.Event.{Event}
use Rattle.far_events.specs.events.Ranges.{stores, after_events}
use Rattle.far_events.specs.events.Soil.{after_soil}
use Rattle.far_events.specs.events.Step.{data_word, is_opened}
use Rattle.far_events.specs.events.Written.{written_words}
use Rattle.far_events.specs.state.Law.{Law}
use Rattle.far_events.specs.state.State.{State}
use Rattle.far_text.specs.Command.{Command, Mutator, On, Reads, Writes, Views}
use Rattle.far_alone.specs.Dereference.{dereferenced, has_no_room}
use Rattle.far_alone.specs.Effects.{with_data}
use Rattle.far_alone.specs.Events.{first_word, store_events, words_touched}
use Rattle.far_replay.specs.Interpreter.{IsAccess, IsViewed}
use Rattle.far_replay.specs.Moment.{Moment, with_core}
use Rattle.far_alone.specs.Objects.{data_of, is_range, object_len, with_range, uses}
use Rattle.far_reply.specs.Reply.{Reply, Data, Refused}
use Rattle.far_replay.specs.Turn.{access_causes, effect, first_cause, refusal, refused_effect, reply_to, turn_effect, turn_reply, unless}
use Rattle.far_replay.specs.declared.turn.Access.{Access}
use Rattle.far_replay.proofs.Dereferences.{Derefs, derefs}
use Rattle.far_alone.proofs.Soiling.{soil_bytes, soil_len}
use Rattle.far_alone.proofs.Spliced.{AreBytes}
use Rattle.far_alone.proofs.Storing.{stores_made, uses_own}
use Rattle.far_replay.proofs.Turns.{stores_lead}
use Rattle.far_replay.proofs.Ways.{Access as Reached}

-- an access is reached
pub opened_inside : (s : State) (m : ℕ) → is_opened s m ≡ true → nat_lt m s.mutators ≡ true
opened_inside s m h = (and_parts (nat_lt m s.mutators) (not (nat_eq (s.scope m) 0)) h).0

is_range_in : (n from count : ℕ) → 0 < count → from + count ≤ n → is_range n from count ≡ true
is_range_in n from count some inside = grind (arith, nat_tests)

-- so that it is refused for want of room alone
by_room : (a b c d e : Bool) → a ≡ true → b ≡ true → c ≡ true → d ≡ true →
    first_cause ((not a, Range) ∷ (not b, Closed) ∷ (not c, NotHeld) ∷ (not d, Range) ∷ (e, NoRoom) ∷ []) ≡ (if e then Some NoRoom else None)
by_room true true true true e w x y z = refl
by_room true true true false e w x y z = absurd (false≢true z)
by_room true true false d e w x y z = absurd (false≢true y)
by_room true false c d e w x y z = absurd (false≢true x)
by_room false b c d e w x y z = absurd (false≢true w)

module _ (now : Moment) (a : Access) (is : IsAccess now.core a.owner a.pointer a.from a.count a) where
  pub wants_room : (b : Bool) → has_no_room now.core a.owner a.pointer ≡ b → first_cause (access_causes now a.owner a.pointer a.from a.count ++ (has_no_room now.core a.owner a.pointer, NoRoom) ∷ []) ≡ (if b then Some NoRoom else None)
  wants_room b e = by_room (nat_lt a.owner now.core.mutators) (is_opened now.core a.owner) (uses now.core a.owner a.pointer) (is_range (object_len now.core a.pointer) a.from a.count) (has_no_room now.core a.owner a.pointer)
      (opened_inside now.core a.owner is.opened) is.opened (uses_own now.core a.owner a.pointer is.own is.used) (is_range_in (object_len now.core a.pointer) a.from a.count is.some is.inside)
      ∙ ap (λ x. if x then Some NoRoom else None) e

-- ---- a range that is viewed
module _ (s t : State) (a : Access) (law : Law s) (is : IsAccess s a.owner a.pointer a.from a.count a) (room : has_no_room s a.owner a.pointer ≡ false) (to : t ≡ dereferenced s a.owner a.pointer) where
  led : Derefs s a.owner a.pointer
  led = derefs s a.owner a.pointer law is.opened (uses_own s a.owner a.pointer is.own is.used) room

  pub viewed_range : IsViewed t a
  viewed_range = subst (λ (u : State). IsViewed u a) (sym to) record {
    own = led.view.holds.own;
    held = ap is_some led.view.holds.rests;
    some = is.some;
    inside = omega (arith, led.long, is.inside);
    most = omega (arith, is.inside, is.most);
  }

-- and still once it is soiled
pub soiled_range : (s t : State) (a : Access) (law : Law s) (is : IsAccess s a.owner a.pointer a.from a.count a) (room : has_no_room s a.owner a.pointer ≡ false) → t ≡ dereferenced s a.owner a.pointer → IsViewed (after_soil t a.pointer) a
soiled_range s t a law is room to =
    let led = derefs s a.owner a.pointer law is.opened (uses_own s a.owner a.pointer is.own is.used) room in
    subst (λ (u : State). IsViewed (after_soil u a.pointer) a) (sym to) record {
      own = led.view.holds.own;
      held = ap is_some led.view.holds.rests;
      some = is.some;
      inside = omega (arith, led.long, is.inside, soil_len (dereferenced s a.owner a.pointer) led.law a.owner a.pointer led.view.len led.view.place led.view.holds);
      most = omega (arith, is.inside, is.most);
    }

-- ---- the stores of a write
pub stores_asked : (t : State) → Law t → (a : Access) (new : List ℕ) → IsViewed t a → length new ≡ a.count →
    stores a.owner a.pointer (first_word a.from) (written_words (λ i. t.word (data_word t a.pointer i)) a.from new) ≡ store_events a.owner a.pointer (first_word a.from) (words_touched a.from a.count) (with_range (data_of t a.pointer) a.from new)
stores_asked t law a new view long =
    stores_made t law a.owner a.pointer a.from new (omega (arith, long, view.inside))
    ∙ ap (λ n. store_events a.owner a.pointer (first_word a.from) (words_touched a.from n) (with_range (data_of t a.pointer) a.from new)) long

-- ---- a write
-- a write's stores end where it does
module _ (s t u : State) (a : Access) (new : List ℕ) (law : Law s) (is : IsAccess s a.owner a.pointer a.from a.count a) (room : has_no_room s a.owner a.pointer ≡ false)
    (to : t ≡ dereferenced s a.owner a.pointer) (small : AreBytes new) (long : length new ≡ a.count) where
  here : Reached s a.owner a.pointer a.from (length new)
  here = record { opened = is.opened; ours = uses_own s a.owner a.pointer is.own is.used; some = omega (arith, long, is.some); within = omega (arith, long, is.inside); room = room }

  -- they store its bytes with the new ones in place, whichever state they are read from
  abbrev written : List ℕ → ℕ → List Event
  written old n = store_events a.owner a.pointer (first_word a.from) (words_touched a.from n) (with_range old a.from new)

  pub write_stored : u ≡ after_events (after_soil t a.pointer) (store_events a.owner a.pointer (first_word a.from) (words_touched a.from a.count) (with_range (data_of (after_soil t a.pointer) a.pointer) a.from new)) →
      u ≡ with_data (dereferenced s a.owner a.pointer) a.pointer a.from new
  write_stored stored =
      let there : State = dereferenced s a.owner a.pointer in
      let led = derefs s a.owner a.pointer law is.opened (uses_own s a.owner a.pointer is.own is.used) room in
      stored
      ∙ ap (λ (v : State). after_events (after_soil v a.pointer) (written (data_of (after_soil v a.pointer) a.pointer) a.count)) to
      ∙ ap (λ bytes. after_events (after_soil there a.pointer) (written bytes a.count)) (soil_bytes there led.law a.owner a.pointer led.view.len led.view.place led.view.holds)
      ∙ ap (λ n. after_events (after_soil there a.pointer) (written (data_of there a.pointer) n)) (sym long)
      ∙ (stores_lead s a.owner a.pointer a.from new law here small).ends

module _ (now : Moment) (a : Access) (is : IsAccess now.core a.owner a.pointer a.from a.count a) (new : List ℕ) (long : length new ≡ a.count) where
  pub writes_room : (b : Bool) → has_no_room now.core a.owner a.pointer ≡ b → first_cause (access_causes now a.owner a.pointer a.from (length new) ++ (has_no_room now.core a.owner a.pointer, NoRoom) ∷ []) ≡ (if b then Some NoRoom else None)
  writes_room b e = ap (λ n. first_cause (access_causes now a.owner a.pointer a.from n ++ (has_no_room now.core a.owner a.pointer, NoRoom) ∷ [])) long ∙ wants_room now a is b e

-- ---- what isn't
module _ (now : Moment) (a : Access) (is : IsAccess now.core a.owner a.pointer a.from a.count a) (room : has_no_room now.core a.owner a.pointer ≡ false) where
  pub read_made : (next : Moment) → next ≡ with_core now (dereferenced now.core a.owner a.pointer) → next ≡ effect now (Mutator a.owner (On a.pointer (Reads a.from a.count)))
  read_made next to =
      let c : Command = Mutator a.owner (On a.pointer (Reads a.from a.count)) in
      to ∙ ap (λ o. unless o (refused_effect now c) (turn_effect now c)) (sym (wants_room now a is false room))

  pub read_told : (t : State) → t ≡ dereferenced now.core a.owner a.pointer → (r : Reply) → r ≡ Data (slice_range (data_of t a.pointer) a.from (a.from + a.count)) → r ≡ reply_to now (Mutator a.owner (On a.pointer (Reads a.from a.count)))
  read_told t to r told = told ∙ ap (λ (u : State). Data (slice_range (data_of u a.pointer) a.from (a.from + a.count))) to
      ∙ ap (λ o. unless o Refused (turn_reply now (Mutator a.owner (On a.pointer (Reads a.from a.count))))) (sym (wants_room now a is false room))

  module _ (new : List ℕ) (long : length new ≡ a.count) where
    pub write_made : (next : Moment) → next ≡ with_core now (with_data (dereferenced now.core a.owner a.pointer) a.pointer a.from new) → next ≡ effect now (Mutator a.owner (On a.pointer (Writes a.from new)))
    write_made next to =
        let c : Command = Mutator a.owner (On a.pointer (Writes a.from new)) in
        to ∙ ap (λ o. unless o (refused_effect now c) (turn_effect now c)) (sym (writes_room now a is new long false room))

-- ---- a view
by_view : (a b c d : Bool) → a ≡ true → b ≡ true → c ≡ true → first_cause ((not a, Range) ∷ (not b, Closed) ∷ (not c, NotHeld) ∷ (d, NoRoom) ∷ []) ≡ (if d then Some NoRoom else None)
by_view true true true d x y z = refl
by_view true true false d x y z = absurd (false≢true z)
by_view true false c d x y z = absurd (false≢true y)
by_view false b c d x y z = absurd (false≢true x)

module _ (now next : Moment) (m p : ℕ) (opened : is_opened now.core m ≡ true) (own : p / CELLS ≡ m) (used : now.core.used p ≡ true) where
  pub view_cause : (b : Bool) → has_no_room now.core m p ≡ b → refusal now (Mutator m (On p Views)) ≡ (if b then Some NoRoom else None)
  view_cause b e = by_view (nat_lt m now.core.mutators) (is_opened now.core m) (uses now.core m p) (has_no_room now.core m p) (opened_inside now.core m opened) opened (uses_own now.core m p own used)
      ∙ ap (λ x. if x then Some NoRoom else None) e

  pub view_made : has_no_room now.core m p ≡ false → next ≡ with_core now (dereferenced now.core m p) → next ≡ effect now (Mutator m (On p Views))
  view_made room to =
      let c : Command = Mutator m (On p Views) in
      to ∙ ap (λ o. unless o (refused_effect now c) (turn_effect now c)) (sym (view_cause false room))
