-- The events of a command that asks for a far object read no stored word, where the far side isn't honest, and store none: so they are made as well where other words are stored.
use Rattle.std.proofs.Common.{◌≡◌, ◌≢◌, ℕ, ◌+◌, ◌*◌, ◌/◌, Bool, true, false, cond, not, nat_lt, nat_eq, refl, sym, ap, subst, ◌∙◌, is_some, Option, Some, None, List, [], ◌∷◌, ◌++◌, length, if◌then◌else◌}
use Rattle.std.specs.Prelude.{◌&&◌, ◌||◌}
use Rattle.std.proofs.lemmas.Bool.{cond_both, false≢true}
use Rattle.far_word.specs.declared.mark.Mark.TheVariants.{Hot}
use Rattle.far_word.specs.declared.mark.Marks.{Marks}
use Rattle.far_word.specs.declared.pointer.Place.{Place}
use Rattle.far_word.specs.declared.pointer.PtrWord.{PtrWord}
use Rattle.far_word.specs.declared.pointer.PtrWord.TheVariants.{Free, Near, Far}
use Rattle.far_word.specs.declared.sizes.TheConstants.{CELLS}
use Rattle.far_word.specs.Bytes.{packed_word}
use Rattle.far_word.specs.Pointer.{read_of}
use Rattle.far_word.specs.Sizes.{words_for}
use Rattle.far_events.specs.declared.event.Event.{Event}
use Rattle.far_events.specs.declared.event.Event.TheVariants.{Pin as Pins, Load as Loads, Store as Stores, Soil as Soils, Put as Puts, Name as Names}
use Rattle.far_events.specs.declared.event.Reply.{Reply as Answer}
use Rattle.far_events.specs.declared.event.Reply.TheVariants.{Refused as Failed}
use Rattle.far_events.specs.declared.naming.Naming.{Naming}
use Rattle.far_events.specs.declared.naming.Naming.TheVariants.{Places, Retires, Evicts, Stays, Moves, Fetches}
use Rattle.far_events.specs.events.Copied.{copied_job}
use Rattle.far_events.specs.events.Name.{after_naming, may_name}
use Rattle.far_events.specs.events.Naming.{is_kept, naming_of}
use Rattle.far_events.specs.events.Copies.{ends_padded}
use Rattle.far_events.specs.events.NewSpans.{is_new_span}
use Rattle.far_events.specs.events.namings.Moves.{after_move, may_move}
use Rattle.far_events.specs.events.namings.Fetches.{is_stored_at}
use Rattle.far_events.specs.events.Step.{after, answer, is_legal, is_opened, step_of}
use Rattle.far_events.specs.state.Law.{Law}
use Rattle.far_events.specs.state.State.{State}
use Rattle.far_events.proofs.Copied.{copied_same}
use Rattle.far_events.proofs.Cells.{map_mark}
use Rattle.far_core.proofs.Leaving.{events_leave}
use Rattle.far_text.specs.Command.{Command, Mutator, On, Use, Reads, Writes, Views}
use Rattle.std.specs.List.{AllByRecursion as Each}
use Rattle.far_alone.proofs.Each.{Each-append, Each-row}
use Rattle.far_replay.specs.Commanded.{AsksFor, LiesFar}
use Rattle.far_alone.specs.Dereference.{come, comes_to, dereferenced, sought, sought_of}
use Rattle.far_alone.specs.Effects.{is_slow, with_view}
use Rattle.far_book.specs.book.Effects.{near_word}
use Rattle.far_alone.specs.EventRows.{AllSucceed, Succeeds}
use Rattle.far_events.specs.events.Ranges.{after_events}
use Rattle.far_alone.specs.Events.{asked_events, asked_events_of, come_events, come_events_of, dereference_events, ends_inside, first_loads, first_word, last_loads, load_events, name_events, part_events, soil_events, sought_events, span_events, starts_inside, store_events, view_events, words_touched}
use Rattle.far_replay.specs.Events.{events_for, refused_events, turn_events}
use Rattle.far_replay.specs.Moment.{Moment, with_stored}
use Rattle.far_alone.specs.Objects.{data_of, uses, with_range}
use Rattle.far_replay.specs.Turn.{refusal, unless}
use Rattle.far_replay.proofs.AsIfStored.{as_it_was}
use Rattle.far_alone.proofs.Views.{pin_read, slow_view}
use Rattle.far_replay_laws.proofs.Misleading.{by_asked}

-- ---- events that store nothing
-- a naming that sends no object far
abbrev SendsNone : Option Naming → Type 0
SendsNone form = (len : ℕ) (place : Place) → form ≢ Some (Evicts len place)

abbrev pub StoresNone : Event → Type 0
StoresNone (Pins m p) = Unit {0}
StoresNone (Loads m p i) = Unit {0}
StoresNone (Stores m p i w) = Unit {0}
StoresNone (Soils m p) = Unit {0}
StoresNone (Puts l at w) = Unit {0}
StoresNone (Names p old new) = SendsNone (naming_of (read_of old) (read_of new))
StoresNone e = ⊥

-- ---- one event, as if other words were stored
either_way : (h x y : Bool) → h ≡ false → (not h || x) ≡ (not h || y)
either_way true x y e = absurd (false≢true (sym e))
either_way false x y e = refl

if_both : {X Y : Type 0} (f : X → Y) (b : Bool) (x y : X) → (if b then f x else f y) ≡ f (if b then x else y)
if_both f true x y = refl
if_both f false x y = refl

abbrev made_if : Bool → State → State → Answer → State × Answer
made_if b t s a = if b then (t, a) else (s, Failed)

stepped : (P : State → State) (b : Bool) (t s : State) (a : Answer) → made_if b (P t) (P s) a ≡ (P (made_if b t s a).0, (made_if b t s a).1)
stepped P true t s a = refl
stepped P false t s a = refl

module _ (s : State) (p : ℕ) (row : ℕ → ℕ) (lies : s.honest ≡ false) where
  abbrev other : State
  other = with_stored s p row

  naming_may : (q new : ℕ) (form : Option Naming) → may_name other q new form ≡ may_name s q new form
  naming_may q new None = refl
  naming_may q new (Some (Places len ds place)) = refl
  naming_may q new (Some Retires) = refl
  naming_may q new (Some (Evicts len place)) = refl
  naming_may q new (Some Stays) = refl
  naming_may q new (Some (Moves len ds from to)) = ap (λ j. may_move s q len ds from to || is_some j) (copied_same s other q from to refl refl refl refl)
  naming_may q new (Some (Fetches len ds place)) =
      ap (λ b. is_new_span s q len ds place && ends_padded s.word len place && b) (either_way s.honest (is_stored_at other q len place) (is_stored_at s q len place) lies)

  move_after : (q new len : ℕ) (to : Place) (j : Option ℕ) → after_move other q new len to j ≡ with_stored (after_move s q new len to j) p row
  move_after q new len to None = refl
  move_after q new len to (Some j) = refl

  naming_after : (q new : ℕ) (form : Option Naming) → SendsNone form → after_naming other q new form ≡ with_stored (after_naming s q new form) p row
  naming_after q new None none = refl
  naming_after q new (Some (Places len ds place)) none = refl
  naming_after q new (Some Retires) none = refl
  naming_after q new (Some (Evicts len place)) none = absurd (none len place refl)
  naming_after q new (Some Stays) none = refl
  naming_after q new (Some (Moves len ds from to)) none = ap (after_move other q new len to) (copied_same s other q from to refl refl refl refl) ∙ move_after q new len to (copied_job s q from to)
  naming_after q new (Some (Fetches len ds place)) none = refl

  same_legal : (e : Event) → StoresNone e → is_legal other e ≡ is_legal s e
  same_legal (Pins m q) none = refl
  same_legal (Loads m q i) none = refl
  same_legal (Stores m q i w) none = refl
  same_legal (Soils m q) none = refl
  same_legal (Puts l at w) none = refl
  same_legal (Names q old new) none = ap (λ b. nat_lt q (CELLS * s.mutators) && b) (naming_may q new (naming_of (read_of old) (read_of new)))
  same_legal e none = absurd none

  same_after : (e : Event) → StoresNone e → after other e ≡ with_stored (after s e) p row
  same_after (Pins m q) none = refl
  same_after (Loads m q i) none = refl
  same_after (Stores m q i w) none = refl
  same_after (Soils m q) none = refl
  same_after (Puts l at w) none = refl
  same_after (Names q old new) none =
      let form : Option Naming = naming_of (read_of old) (read_of new) in
      ap (λ (t : State). if nat_eq (s.cell q) old then t else other) (naming_after q new form none)
      ∙ if_both (λ (t : State). with_stored t p row) (nat_eq (s.cell q) old) (after_naming s q new form) s
  same_after e none = absurd none

  same_answer : (e : Event) → StoresNone e → answer other e ≡ answer s e
  same_answer (Pins m q) none = refl
  same_answer (Loads m q i) none = refl
  same_answer (Stores m q i w) none = refl
  same_answer (Soils m q) none = refl
  same_answer (Puts l at w) none = refl
  same_answer (Names q old new) none = refl
  same_answer e none = absurd none

  same_step : (e : Event) → StoresNone e → step_of other e ≡ (with_stored (step_of s e).0 p row, (step_of s e).1)
  same_step e none =
      ap (λ (b : Bool). if b then (after other e, answer other e) else (other, Failed)) (same_legal e none)
      ∙ (λ i. if is_legal s e then (same_after e none i, same_answer e none i) else (other, Failed))
      ∙ stepped (λ (t : State). with_stored t p row) (is_legal s e) (after s e) s (answer s e)

-- ---- rows of them
still_lies : (s : State) (e : Event) → s.honest ≡ false → (step_of s e).0.honest ≡ false
still_lies s e lies = (events_leave s e).within.rest.2 ∙ lies

pub row_as_if : (s : State) (p : ℕ) (row : ℕ → ℕ) (es : List Event) → s.honest ≡ false → Each StoresNone es → after_events (with_stored s p row) es ≡ with_stored (after_events s es) p row
row_as_if s p row [] lies none = refl
row_as_if s p row (e ∷ es) lies none =
    ap (λ (x : State × Answer). after_events x.0 es) (same_step s p row lies e none.0) ∙ row_as_if (step_of s e).0 p row es (still_lies s e lies) none.1

pub row_succeeds : (s : State) (p : ℕ) (row : ℕ → ℕ) (es : List Event) → s.honest ≡ false → Each StoresNone es → AllSucceed (with_stored s p row) es → AllSucceed s es
row_succeeds s p row [] lies none made = tt
row_succeeds s p row (e ∷ es) lies none made =
    let same = same_step s p row lies e none.0 in (
      subst (λ (x : State × Answer). Succeeds e x.1) same made.0,
      row_succeeds (step_of s e).0 p row es (still_lies s e lies) none.1 (subst (λ (x : State × Answer). AllSucceed x.0 es) same made.1),
    )

-- what is stored stays
pub row_keeps : (s : State) (p : ℕ) (es : List Event) → s.honest ≡ false → Each StoresNone es → with_stored (after_events s es) p (s.stored p) ≡ after_events s es
row_keeps s p es lies none = sym (row_as_if s p (s.stored p) es lies none) ∙ ap (λ (t : State). after_events t es) (as_it_was s p (s.stored p) refl)

-- ---- the events of a dereference of a far object
unless_kept : (b : Bool) (x : Option Naming) → SendsNone x → SendsNone (cond b x None)
unless_kept b x none = cond_both b x None SendsNone (λ _. none) (λ _ len place e. absurd cc)

far_stays : (len ds : ℕ) (m : Marks) (o : Option PtrWord) → SendsNone (naming_of (Some (Far len ds m)) o)
far_stays len ds m None = λ n place e. absurd cc
far_stays len ds m (Some Free) = unless_kept m.dropped (Some Retires) (λ n place e. absurd cc)
far_stays len ds m (Some (Near n d at k)) = unless_kept (is_kept false m k len n ds d) (Some (Fetches len ds at)) (λ n place e. absurd cc)
far_stays len ds m (Some (Far n d k)) = λ n place e. absurd cc

view_none : (s : State) (m p : ℕ) → Each StoresNone (view_events s m p)
view_none s m p = cond_both (is_some (s.held p)) [] (Pins m p ∷ []) (Each StoresNone) (λ _. tt) (λ _. (tt, tt))

come_none_of : (t : State) (p : ℕ) (x : Option Place) (len ds : ℕ) (marks : Marks) → read_of (t.cell p) ≡ Some (Far len ds marks) → Each StoresNone (come_events_of t p x (Some (Far len ds marks)))
come_none_of t p None len ds marks far = tt
come_none_of t p (Some place) len ds marks far = Each-append StoresNone (span_events p len ds place (t.stored p)) (name_events t p false len ds place)
    (tt, Each-row StoresNone (λ i. Puts place.log (place.at + 1 + i) (t.stored p i)) 0 (words_for len) (λ i _. tt))
    (subst (λ o. SendsNone (naming_of o (read_of (near_word false len ds place)))) (sym far) (far_stays len ds marks (read_of (near_word false len ds place))), tt)

module _ (s : State) (m p : ℕ) (law : Law s) (opened : is_opened s m ≡ true) (ours : uses s m p ≡ true) (far : LiesFar s p) where
  module _ (slow : is_slow s p ≡ true) where
    pinned : read_of ((with_view s p).cell p) ≡ map_mark Hot (Some (Far far.0 far.1 far.2))
    pinned = ap (λ (t : State). read_of (t.cell p)) (slow_view s p slow) ∙ pin_read s m p law opened ours ∙ ap (map_mark Hot) far.3

    unasked : asked_events (with_view s p) m p ≡ []
    unasked = ap (asked_events_of m p) pinned

    still_far : read_of ((sought s m p).cell p) ≡ map_mark Hot (Some (Far far.0 far.1 far.2))
    still_far = ap (λ (t : State). read_of (t.cell p)) (ap (sought_of (with_view s p) m p) pinned) ∙ pinned

    sought_none : Each StoresNone (sought_events s m p)
    sought_none = Each-append StoresNone (view_events s m p) (asked_events (with_view s p) m p) (view_none s m p) (subst (Each StoresNone) (sym unasked) tt)

    come_none : Each StoresNone (come_events (sought s m p) p)
    come_none = subst (λ o. Each StoresNone (come_events_of (sought s m p) p (comes_to (sought s m p) p) o)) (sym still_far)
        (come_none_of (sought s m p) p (comes_to (sought s m p) p) _ _ _ still_far)

  pub deref_none : Each StoresNone (dereference_events s m p)
  deref_none =
      let came : List Event = come_events (sought s m p) p in
      let again : List Event = view_events (come (sought s m p) p) m p in
      cond_both (is_slow s p) (sought_events s m p ++ came ++ again) (view_events s m p) (Each StoresNone)
      (λ slow. Each-append StoresNone (sought_events s m p ++ came) again (Each-append StoresNone (sought_events s m p) came (sought_none slow) (come_none slow)) (view_none (come (sought s m p) p) m p))
      (λ _. view_none s m p)

-- ---- and of a read, a write and a view
loads_none : (m p first count : ℕ) → Each StoresNone (load_events m p first count)
loads_none m p first count = Each-row StoresNone (λ i. Loads m p i) first count (λ i _. tt)

parts_none : (m p from count : ℕ) → Each StoresNone (part_events m p from count)
parts_none m p from count =
    Each-append StoresNone (first_loads m p from count) (last_loads m p from count)
    (cond_both (starts_inside from count) (Loads m p (from / 8) ∷ []) [] (Each StoresNone) (λ _. (tt, tt)) (λ _. tt))
    (cond_both (ends_inside from count) (Loads m p ((from + count) / 8) ∷ []) [] (Each StoresNone) (λ _. (tt, tt)) (λ _. tt))

soils_none : (s : State) (m p : ℕ) → Each StoresNone (soil_events s m p)
soils_none s m p = cond_both (s.soiled p) [] (Soils m p ∷ []) (Each StoresNone) (λ _. tt) (λ _. (tt, tt))

stores_none : (m p first count : ℕ) (bytes : List ℕ) → Each StoresNone (store_events m p first count bytes)
stores_none m p first count bytes = Each-row StoresNone (λ i. Stores m p i (packed_word bytes i)) first count (λ i _. tt)

use_none : (now : Moment) (m p : ℕ) → Law now.core → is_opened now.core m ≡ true → uses now.core m p ≡ true → LiesFar now.core p → (how : Use) → Each StoresNone (turn_events now (Mutator m (On p how)))
use_none now m p law opened ours far (Writes from bytes) =
    let new : List ℕ = with_range (data_of (dereferenced now.core m p) p) from bytes in
    let part : List Event = part_events m p from (length bytes) in
    let stored : List Event = store_events m p (first_word from) (words_touched from (length bytes)) new in
    let soil : List Event = soil_events (dereferenced now.core m p) m p in
    Each-append StoresNone (dereference_events now.core m p ++ soil ++ part) stored
    (Each-append StoresNone (dereference_events now.core m p ++ soil) part (Each-append StoresNone (dereference_events now.core m p) soil (deref_none now.core m p law opened ours far) (soils_none (dereferenced now.core m p) m p)) (parts_none m p from (length bytes))) (stores_none m p (first_word from) (words_touched from (length bytes)) new)
use_none now m p law opened ours far (Reads from len) =
    Each-append StoresNone (dereference_events now.core m p) (load_events m p (first_word from) (words_touched from len)) (deref_none now.core m p law opened ours far) (loads_none m p (first_word from) (words_touched from len))
use_none now m p law opened ours far Views = deref_none now.core m p law opened ours far

turn_none : (now : Moment) (m p : ℕ) (c : Command) → AsksFor m p c → Law now.core → is_opened now.core m ≡ true → uses now.core m p ≡ true → LiesFar now.core p → Each StoresNone (turn_events now c)
turn_none now m p c asks law opened ours far = by_asked m p (λ d. Each StoresNone (turn_events now d)) (use_none now m p law opened ours far) c asks

pub asked_none : (now : Moment) (m p : ℕ) (c : Command) → AsksFor m p c → Law now.core → is_opened now.core m ≡ true → uses now.core m p ≡ true → LiesFar now.core p → refusal now c ≡ None → Each StoresNone (events_for now c)
asked_none now m p c asks law opened ours far allowed =
    subst (λ o. Each StoresNone (unless o (refused_events now c) (turn_events now c))) (sym allowed) (turn_none now m p c asks law opened ours far)
