-- What a view of an object changes, and what it leaves.
use Rattle.std.proofs.Common.{◌≡◌, ◌≢◌, ℕ, ◌/◌, ◌^◌, true, false, refl, sym, ap, subst, ◌∙◌, arith, [], ◌∷◌, Option, Some, None, bit_or, if◌then◌else◌, is_some, not, ◌||◌, ◌&&◌, Bool, inl, inr}
use Rattle.std.proofs.lemmas.Bool.{cases_eq, cond_both, false≢true}
use Rattle.std.proofs.lemmas.Bool.Decides.{nat_tests}
use Rattle.far_word.specs.declared.mark.Mark.TheVariants.{Hot}
use Rattle.far_word.specs.declared.mark.Marks.{Marks}
use Rattle.far_word.specs.declared.pointer.Place.{Place}
use Rattle.far_word.specs.declared.pointer.PtrWord.{PtrWord}
use Rattle.far_word.specs.declared.pointer.PtrWord.TheVariants as pointer
use Rattle.far_word.specs.declared.pointer.PtrWord.TheVariants.{Near}
use Rattle.far_word.specs.declared.sizes.TheConstants.{CELLS}
use Rattle.far_word.specs.Mark.{position, marks_with}
use Rattle.far_word.specs.Pointer.{read_of}
use Rattle.far_events.specs.declared.event.Event.TheVariants.{Pin}
use Rattle.far_events.specs.state.Law.{Law}
use Rattle.far_events.specs.events.Legal.{HoldsObject}
use Rattle.far_events.specs.state.State.{State}
use Rattle.far_events.specs.events.Step.{answer, is_legal, is_opened, near_data, near_len, data_len, place_to_view, after_pin, with_hold}
use Rattle.far_events.proofs.Cells.{map_mark, IsHeld, held_near, held_place-place_to_view}
use Rattle.far_core.proofs.KeepOwner.{hot_read}
use Rattle.far_core.proofs.events.Pin.{keeps_pin}
use Rattle.far_events.proofs.Guards.{open_fact}
use Rattle.far_core.proofs.Owing.{is_test, never_refused}
use Rattle.far_events.proofs.Put.{put_same, put_other}
use Rattle.far_alone.specs.Effects.{with_view, is_slow}
use Rattle.far_alone.specs.Dereference.{come, comes_to, dereferenced, has_no_room, says_near, sought}
use Rattle.far_events.specs.events.Ranges.{after_events}
use Rattle.far_alone.specs.EventRows.{AllSucceed, AtHand}
use Rattle.far_alone.specs.Between.{Between}
use Rattle.far_alone.specs.Events.{view_events}
use Rattle.far_alone.specs.Objects.{uses, object_len, named_len}
use Rattle.far_alone.proofs.MadeLemmas.{made_first, first_succeeds, not_refused}

-- ---- what HOT leaves as it is
-- the first data word
pub near_data-hot : (o : Option PtrWord) → near_data (map_mark Hot o) ≡ near_data o
near_data-hot (Some pointer.Free) = refl
near_data-hot _ = refl

-- the length
pub near_len-hot : (o : Option PtrWord) → near_len (map_mark Hot o) ≡ near_len o
near_len-hot (Some pointer.Free) = refl
near_len-hot _ = refl

-- what a cell says of an object that may be dereferenced at once
pub record Ready (o : Option PtrWord) : Type 0 where
  pub len : ℕ
  pub ds : ℕ
  pub place : Place
  pub marks : Marks
  pub near : o ≡ Some (Near len ds place marks)
  pub unchosen : marks.evac ≡ false
  pub unmoved : marks.moved ≡ false
  pub kept : marks.dropped ≡ false

-- the cell of such an object says so
pub ready_of : (s : State) (p : ℕ) → AtHand s p → Ready (read_of (s.cell p))
ready_of s p h = record { len = h.len; ds = h.ds; place = h.place; marks = h.marks; near = h.near; unchosen = h.unchosen; unmoved = h.unmoved; kept = h.kept }

-- a view of it may rest there
pub Ready-view : (o : Option PtrWord) (h : Ready o) → place_to_view o ≡ Some h.place
Ready-view o h = ap place_to_view h.near ∙ rw (h.unchosen, h.unmoved, h.kept) refl

-- an object is held in a state after another, with the same words and the same place and length
pub record Viewed (s t : State) (m p : ℕ) : Type 0 where
  pub len : ℕ
  pub place : Place
  pub holds : HoldsObject t m p len place
  pub words : t.word ≡ s.word
  pub same_data : near_data (read_of (t.cell p)) ≡ near_data (read_of (s.cell p))
  pub same_len : data_len t p ≡ data_len s p
  pub long : data_len s p ≡ len

-- ---- a pin that gives no view
neither : (a b : Bool) → not (a || b) ≡ true → (a ≡ false) × (b ≡ false)
neither false false e = (refl, refl)
neither _ _ e = absurd cc

-- nothing is held that wasn't
no_hold : (held : ℕ → Option Place) (p : ℕ) (o : Option Place) → is_some o ≡ false → with_hold held p o ≡ held
no_hold held p None e = refl
no_hold held p (Some place) e = absurd (false≢true (sym e))

pub slow_parts : (s : State) (p : ℕ) → is_slow s p ≡ true → (is_some (s.held p) ≡ false) × (is_some (place_to_view (read_of (s.cell p))) ≡ false)
slow_parts s p = neither (is_some (s.held p)) (is_some (place_to_view (read_of (s.cell p))))

-- it is made then, and the views stay
pub slow_view : (s : State) (p : ℕ) → is_slow s p ≡ true → with_view s p ≡ record s { cell = (after_pin s p).cell }
slow_view s p slow =
    let parts = slow_parts s p slow in
    ap (λ b. if b then s else after_pin s p) parts.0 ∙ ap (λ (held : ℕ → Option Place). record s { cell = (after_pin s p).cell; held = held }) (no_hold s.held p (place_to_view (read_of (s.cell p))) parts.1)

-- an object at hand is viewed at once
fast : (b : Bool) → not (b || true) ≡ false
fast true = refl
fast false = refl

pub hand_is_fast : (s : State) (p : ℕ) → AtHand s p → is_slow s p ≡ false
hand_is_fast s p h = ap (λ o. not (is_some (s.held p) || is_some o)) (Ready-view (read_of (s.cell p)) (ready_of s p h)) ∙ fast (is_some (s.held p))

-- so that it is dereferenced by a pin, and needs no room
pub hand_has_room : (s : State) (m p : ℕ) → AtHand s p → has_no_room s m p ≡ false
hand_has_room s m p h = ap (λ b. b && not (is_some (comes_to (sought s m p) p))) (hand_is_fast s p h)

pub fast_dereference : (s : State) (m p : ℕ) → is_slow s p ≡ false → dereferenced s m p ≡ with_view s p
fast_dereference s m p fast = ap (λ b. if b then with_view (come (sought s m p) p) p else with_view s p) fast

module _ (s : State) (m p : ℕ) (law : Law s) (opened : is_opened s m ≡ true) (ours : uses s m p ≡ true) where
  -- the pointer is the owner's
  own : p / CELLS ≡ m
  own = grind (arith, nat_tests)

  -- and it is used
  used : s.used p ≡ true
  used = grind (arith, nat_tests)

  -- so a pin is legal, unless the object is held
  pin_legal : s.held p ≡ None → is_legal s (Pin m p) ≡ true
  pin_legal e = is_test s (Pin m p) (open_fact s m opened, own, used, e)

  -- a state after the view is the one before it, or that after a pin
  at_held : (P : State → Type 0) (o : Option Place) → s.held p ≡ o → ((place : Place) → s.held p ≡ Some place → P s) → P (after_pin s p) →
      P (after_events s (if is_some o then [] else Pin m p ∷ []))
  at_held P None e already fresh = subst P (sym (made_first s (Pin m p) [] (pin_legal e))) fresh
  at_held P (Some place) e already fresh = already place e

  -- what is true of a state that holds the object, and after a pin, is true after the view
  pub at_view : (P : State → Type 0) → ((place : Place) → s.held p ≡ Some place → P s) → P (after_pin s p) → P (after_events s (view_events s m p))
  at_view P already fresh = at_held P (s.held p) refl already fresh

  -- the view is the pin, unless the object is held
  view_at : (o : Option Place) → s.held p ≡ o → after_events s (if is_some o then [] else Pin m p ∷ []) ≡ (if is_some o then s else after_pin s p)
  view_at None e = made_first s (Pin m p) [] (pin_legal e)
  view_at (Some place) e = refl

  pub view_is : after_events s (view_events s m p) ≡ with_view s p
  view_is = view_at (s.held p) refl

  -- the view succeeds either way
  succeeds_at : (o : Option Place) → s.held p ≡ o → AllSucceed s (if is_some o then [] else Pin m p ∷ [])
  succeeds_at None e = first_succeeds s (Pin m p) [] (pin_legal e) (not_refused (Pin m p) (answer s (Pin m p)) (never_refused s (Pin m p))) tt
  succeeds_at (Some place) e = tt

  -- the pin, if there is one, isn't refused
  pub view_succeeds : AllSucceed s (view_events s m p)
  view_succeeds = succeeds_at (s.held p) refl

  -- the view keeps the law
  pub view_law : Law (after_events s (view_events s m p))
  view_law = at_view Law (λ _ _. law) (keeps_pin s p law used (subst (λ k. s.scope k ≢ 0) (sym own) (open_fact s m opened).1))

  -- the cell after a pin
  pub pin_read : read_of ((after_pin s p).cell p) ≡ map_mark Hot (read_of (s.cell p))
  pin_read = ap read_of (put_same s.cell p (bit_or (s.cell p) (2 ^ position Hot)) p refl) ∙ hot_read s law p used

-- where a new view may rest, the object is near
view_near : (o : Option PtrWord) (place : Place) → place_to_view o ≡ Some place → IsHeld o place
view_near o place e = held_near o place (held_place-place_to_view o place e)

-- a state that views the object already, or a pin that gives a view
pub data Seen (s : State) (p : ℕ) : Type 0 where
  Already : (place : Place) → s.held p ≡ Some place → Seen s p
  Anew : (place : Place) → s.held p ≡ None → place_to_view (read_of (s.cell p)) ≡ Some place → Seen s p

seen_of : (s : State) (p : ℕ) (o x : Option Place) → s.held p ≡ o → place_to_view (read_of (s.cell p)) ≡ x → not (is_some o || is_some x) ≡ false → Seen s p
seen_of s p (Some place) x e f fast = Already place e
seen_of s p None (Some place) e f fast = Anew place e f
seen_of s p None None e f fast = absurd cc

pub fast_seen : (s : State) (p : ℕ) → is_slow s p ≡ false → Seen s p
fast_seen s p fast = seen_of s p (s.held p) (place_to_view (read_of (s.cell p))) refl refl fast

-- so the object lies near
pub fast_near : (s : State) (p : ℕ) → Law s → is_slow s p ≡ false → says_near (read_of (s.cell p)) ≡ true
fast_near s p law fast = by (fast_seen s p fast) where
  by : Seen s p → says_near (read_of (s.cell p)) ≡ true
  by (Already place e) = ap says_near (held_near (read_of (s.cell p)) place (law.views.held_names p place e)).near
  by (Anew place e can_view) = ap says_near (view_near (read_of (s.cell p)) place can_view).near

-- the state after the view
pub already_is : (s : State) (p : ℕ) (place : Place) → s.held p ≡ Some place → with_view s p ≡ s
already_is s p place e = ap (λ o. if is_some o then s else after_pin s p) e

pub anew_is : (s : State) (p : ℕ) → s.held p ≡ None → with_view s p ≡ after_pin s p
anew_is s p e = ap (λ o. if is_some o then s else after_pin s p) e

module _ (s : State) (m p : ℕ) (law : Law s) (opened : is_opened s m ≡ true) (ours : uses s m p ≡ true) where
  -- the object is held after a pin that gives a view
  pin_viewed : (place : Place) → place_to_view (read_of (s.cell p)) ≡ Some place → Viewed s (after_pin s p) m p
  pin_viewed place can_view =
      let h = view_near (read_of (s.cell p)) place can_view in
      record {
        len = h.len;
        place = place;
        holds = record {
          own = own s m p law opened ours;
          rests = ap (λ o. with_hold s.held p o p) can_view ∙ put_same s.held p (Some place) p refl;
          near = (h.ds, marks_with Hot h.marks, (pin_read s m p law opened ours) ∙ ap (map_mark Hot) h.near);
        };
        words = refl;
        same_data = ap near_data (pin_read s m p law opened ours) ∙ near_data-hot (read_of (s.cell p));
        same_len = ap near_len (pin_read s m p law opened ours) ∙ near_len-hot (read_of (s.cell p));
        long = ap near_len h.near;
      }

  -- an object that was held is so still
  old_viewed : (place : Place) → s.held p ≡ Some place → Viewed s s m p
  old_viewed place e =
      let h = held_near (read_of (s.cell p)) place (law.views.held_names p place e) in
      record {
        len = h.len;
        place = place;
        holds = record { own = own s m p law opened ours; rests = e; near = (h.ds, h.marks, h.near) };
        words = refl;
        same_data = refl;
        same_len = refl;
        long = ap near_len h.near;
      }

  -- after a view that is given the object is held, and the words, its place and its length are as before
  pub view_holds : Seen s p → Viewed s (with_view s p) m p
  view_holds (Already place e) = subst (λ t. Viewed s t m p) (sym (already_is s p place e)) (old_viewed place e)
  view_holds (Anew place e can_view) = subst (λ t. Viewed s t m p) (sym (anew_is s p e)) (pin_viewed place can_view)

  -- its length is the one that its cell says
  pub view_long : Seen s p → object_len s p ≡ data_len s p
  view_long (Already place e) = let h = held_near (read_of (s.cell p)) place (law.views.held_names p place e) in ap named_len h.near ∙ sym (ap near_len h.near)
  view_long (Anew place e can_view) = let h = view_near (read_of (s.cell p)) place can_view in ap named_len h.near ∙ sym (ap near_len h.near)

-- ---- what holds between commands
-- it lasts where what is used stays, and no cell but that of a used pointer is another
pub between_by : (s t : State) (p : ℕ) → t.used ≡ s.used → ((q : ℕ) → q ≢ p → t.cell q ≡ s.cell q) → s.used p ≡ true → Between s → Between t
between_by s t p uses_same cells used between = record {
  named = λ q ne. elim (cases_eq q p) [
    | inl e ↦ (ap (λ (f : ℕ → Bool). f q) uses_same ∙ ap s.used e ∙ used)
    | inr other ↦ (ap (λ (f : ℕ → Bool). f q) uses_same ∙ between.named q (λ z. ne (cells q other ∙ z)))
  ];
}

-- so it is with a view
pub view_between : (s : State) (p : ℕ) → s.used p ≡ true → Between s → Between (with_view s p)
view_between s p used between = cond_both (is_some (s.held p)) s (after_pin s p) Between (λ _. between)
    (λ _. between_by s (after_pin s p) p refl (λ q ne. put_other s.cell p (bit_or (s.cell p) (2 ^ position Hot)) q ne) used between)
