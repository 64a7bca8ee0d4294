-- A dereference whose pin gives no view: the object is asked for, comes to where a view may rest, and owners stay as they are.
use Rattle.std.proofs.Common.{◌≡◌, ◌≢◌, ℕ, ◌*◌, ◌/◌, ◌<◌, ◌&&◌, ◌==◌, Bool, true, false, not, nat_lt, refl, sym, ap, subst, ◌∙◌, Option, Some, None, is_some, List}
use Rattle.std.specs.Prelude.{IfSome, MatchOption}
use Rattle.std.proofs.lemmas.Bool.{cond_both, false≢true, true≢false}
use Rattle.far_word.specs.declared.mark.Mark.TheVariants.{Moved}
use Rattle.far_word.specs.declared.mark.Marks.{Marks}
use Rattle.far_word.specs.declared.pointer.Place.{Place}
use Rattle.far_word.specs.declared.pointer.PtrWord.{PtrWord}
use Rattle.far_word.specs.declared.pointer.PtrWord.TheVariants.{Near, Far}
use Rattle.far_word.specs.declared.sizes.TheConstants.{CELLS}
use Rattle.far_word.specs.Mark.{marks_with}
use Rattle.far_word.specs.Pointer.{read_of}
use Rattle.far_events.specs.events.Copied.{copied_job}
use Rattle.far_events.specs.events.namings.Moves.{after_move}
use Rattle.far_events.specs.declared.event.Event.TheVariants.{Ask, Name}
use Rattle.far_events.specs.declared.naming.Naming.{Naming}
use Rattle.far_events.specs.declared.naming.Naming.TheVariants.{Stays, Moves}
use Rattle.far_events.specs.events.Legal.{Legal}
use Rattle.far_events.specs.events.Name.{after_naming}
use Rattle.far_events.specs.events.Naming.{naming_of, naming_row}
use Rattle.far_events.specs.events.Step.{after, after_pin, is_opened}
use Rattle.far_events.specs.state.Law.{Law, in_use}
use Rattle.far_events.specs.state.State.{State}
use Rattle.far_events.proofs.Cells.{map_mark}
use Rattle.far_events.proofs.Guards.{open_fact}
use Rattle.far_core.proofs.KeepOwner.{nonzero}
use Rattle.far_core.proofs.Marking.{read_mark}
use Rattle.far_events.proofs.Put.{put_same, put_other}
use Rattle.far_book.specs.book.Dealing.{goal, has_evac, moved_now, order_moved}
use Rattle.far_hand.specs.Quiet.{IsQuietNear}
use Rattle.far_events.specs.events.Copies.{data_at}
use Rattle.far_book.specs.book.Effects.{fetched, fetched_of, moved, moved_of, near_word, order_after, stayed, stayed_of, with_written_span}
use Rattle.far_book.specs.book.Fetching.{IsFar, RefusesFetch, room_for}
use Rattle.far_word.specs.declared.refused.Refused.{Refused as Refusal}
use Rattle.far_word.specs.declared.refused.Refused.TheVariants.{NoRoom, Memory, Device, Damaged}
use Rattle.far_alone.specs.Dereference.{RefusesBringing, asked_for, come, come_of, comes_to, comes_to_of, says_near, sought_of, order_come, order_come_of}
use Rattle.far_alone.specs.Effects.{is_slow, with_view}
use Rattle.far_alone.proofs.Drops.{unheld_is}
use Rattle.far_alone.proofs.Views.{slow_parts, slow_view}

-- ---- what a used cell says
pub record SaysNear (o : Option PtrWord) : Type 0 where
  pub len : ℕ
  pub ds : ℕ
  pub place : Place
  pub marks : Marks
  pub is : o ≡ Some (Near len ds place marks)

pub near_is : (o : Option PtrWord) → says_near o ≡ true → SaysNear o
near_is (Some (Near len ds place marks)) e = record { len = len; ds = ds; place = place; marks = marks; is = refl }
near_is _ e = absurd (false≢true e)

pub record SaysFar (o : Option PtrWord) : Type 0 where
  pub len : ℕ
  pub ds : ℕ
  pub marks : Marks
  pub is : o ≡ Some (Far len ds marks)

pub far_is : (o : Option PtrWord) → says_near o ≡ false → in_use o ≡ true → SaysFar o
far_is (Some (Near len ds place marks)) e u = absurd (true≢false e)
far_is (Some (Far len ds marks)) e u = record { len = len; ds = ds; marks = marks; is = refl }
far_is _ e u = absurd (false≢true u)

-- ---- a near object
module _ (s : State) (m p : ℕ) (law : Law s) (opened : is_opened s m ≡ true) (own : p / CELLS ≡ m) (used : s.used p ≡ true) (unheld : s.held p ≡ None) (near : says_near (read_of (s.cell p)) ≡ true) where
  said : SaysNear (read_of (s.cell p))
  said = near_is (read_of (s.cell p)) near

  abbrev asks : State
  asks = after s (Ask m p Moved)

  pub asks_is : asked_for s m p ≡ asks
  asks_is = ap (sought_of s m p) said.is

  pub may_ask : Legal s (Ask m p Moved)
  may_ask = (refl, law.scopes.scope_range m (open_fact s m opened).1, own, used, unheld)

  asked_read : read_of (asks.cell p) ≡ Some (Near said.len said.ds said.place (marks_with Moved said.marks))
  asked_read = ap read_of (put_same s.cell p _ p refl) ∙ (read_mark Moved (s.cell p) refl (law.cells.cell_read p).0 (law.views.used_cell p used)).0 ∙ ap (map_mark Moved) said.is

  pub asked_quiet : IsQuietNear asks p
  asked_quiet = record { len = said.len; ds = said.ds; place = said.place; marks = marks_with Moved said.marks; near = asked_read; quiet = refl }

  -- it comes to its goal
  pub near_comes : comes_to asks p ≡ goal asks p
  near_comes = ap (comes_to_of asks p) asked_read

  pub near_come : (place : Place) → goal asks p ≡ Some place → come asks p ≡ moved_now asks p place
  near_come place found = ap (λ o. come_of asks p (comes_to_of asks p o) o) asked_read
      ∙ ap (λ x. come_of asks p x (Some (Near said.len said.ds said.place (marks_with Moved said.marks)))) found

  -- the answers of its book
  pub near_done : (X : Type 0) (v t : State) (o : Option Place) (place : Place) → o ≡ Some place → v ≡ asks → IfSome o (λ found. goal v p ≡ Some found) → MatchOption o X (λ found. t ≡ moved_now v p found) →
      t ≡ come (asked_for s m p) p
  near_done X v t o place e is found done =
      let there : goal v p ≡ Some place = subst (λ x. IfSome x (λ y. goal v p ≡ Some y)) e found in
      let led : t ≡ moved_now v p place = subst (λ x. MatchOption x X (λ y. t ≡ moved_now v p y)) e done in
      led ∙ ap (λ (x : State). moved_now x p place) is ∙ sym (near_come place (ap (λ (x : State). goal x p) (sym is) ∙ there)) ∙ sym (ap (λ (x : State). come x p) asks_is)

  -- so many logs are sealed then
  pub near_order : (v : State) (order after : List ℕ) (o : Option Place) (place : Place) → o ≡ Some place → v ≡ asks → IfSome o (λ found. goal v p ≡ Some found) →
      MatchOption o (after ≡ order) (λ found. after ≡ order_moved v p order found) → after ≡ order_come (asked_for s m p) order p
  near_order v order after o place e is found done =
      let there : goal v p ≡ Some place = subst (λ x. IfSome x (λ y. goal v p ≡ Some y)) e found in
      let led : after ≡ order_moved v p order place = subst (λ x. MatchOption x (after ≡ order) (λ y. after ≡ order_moved v p order y)) e done in
      led ∙ ap (λ (x : State). order_moved x p order place) is
      ∙ sym (ap (λ o. order_come_of asks order p (comes_to_of asks p o) o) asked_read
      ∙ ap (λ x. order_come_of asks order p x (Some (Near said.len said.ds said.place (marks_with Moved said.marks)))) (ap (λ (x : State). goal x p) (sym is) ∙ there))
      ∙ sym (ap (λ (x : State). order_come x order p) asks_is)

  pub near_room : (v : State) (o : Option Place) (place : Place) → o ≡ Some place → v ≡ asks → IfSome o (λ found. goal v p ≡ Some found) → comes_to (asked_for s m p) p ≡ Some place
  near_room v o place e is found =
      let there : goal v p ≡ Some place = subst (λ x. IfSome x (λ y. goal v p ≡ Some y)) e found in
      ap (λ (x : State). comes_to x p) asks_is ∙ near_comes ∙ ap (λ (x : State). goal x p) (sym is) ∙ there

  pub near_refused : (v t : State) (why : Refusal) → v ≡ asks → why ≡ NoRoom → goal v p ≡ None → t ≡ v → RefusesBringing (asked_for s m p) p why t
  near_refused v t why is e none same = subst (λ w. RefusesBringing (asked_for s m p) p w t) (sym e)
      (ap (λ (x : State). comes_to x p) asks_is ∙ near_comes ∙ ap (λ (x : State). goal x p) (sym is) ∙ none, same ∙ is ∙ sym asks_is)

-- ---- a far one
module _ (s : State) (m p : ℕ) (law : Law s) (used : s.used p ≡ true) (far : says_near (read_of (s.cell p)) ≡ false) where
  told : SaysFar (read_of (s.cell p))
  told = far_is (read_of (s.cell p)) far (law.views.used_cell p used)

  pub is_far : IsFar s p
  is_far = record { len = told.len; ds = told.ds; marks = told.marks; far = told.is }

  pub far_unasked : asked_for s m p ≡ s
  far_unasked = ap (sought_of s m p) told.is

  pub far_inside : p < CELLS * s.mutators
  far_inside = law.cells.cell_range p (nonzero s law p used)

  pub far_comes : comes_to s p ≡ room_for s p
  far_comes = ap (comes_to_of s p) told.is

  pub far_come : (place : Place) → room_for s p ≡ Some place → come s p ≡ fetched s p place (s.stored p)
  far_come place found = ap (λ o. come_of s p (comes_to_of s p o) o) told.is ∙ ap (λ x. come_of s p x (Some (Far told.len told.ds told.marks))) found

  pub far_came : (place : Place) → room_for s p ≡ Some place → come (asked_for s m p) p ≡ fetched s p place (s.stored p)
  far_came place found = ap (λ (x : State). come x p) far_unasked ∙ far_come place found

  -- so many logs are sealed then
  pub far_order : (order : List ℕ) (place : Place) → room_for s p ≡ Some place → order_come (asked_for s m p) order p ≡ order_after s order place
  far_order order place found =
      ap (λ (x : State). order_come x order p) far_unasked ∙ ap (λ o. order_come_of s order p (comes_to_of s p o) o) told.is ∙ ap (λ x. order_come_of s order p x (Some (Far told.len told.ds told.marks))) found

  pub far_here : comes_to (asked_for s m p) p ≡ room_for s p
  far_here = ap (λ (x : State). comes_to x p) far_unasked ∙ far_comes

  pub far_refused : (t : State) (why : Refusal) (honest : Bool) → why ≢ Memory → RefusesFetch why (room_for s p) honest → t ≡ s → RefusesBringing (asked_for s m p) p why t
  far_refused t NoRoom honest never h same = (far_here ∙ h, same ∙ sym far_unasked)
  far_refused t Memory honest never h same = absurd (never refl)
  far_refused t Device honest never h same = (ap is_some far_here ∙ h, same ∙ sym far_unasked)
  far_refused t Damaged honest never h same = (ap is_some far_here ∙ h.0, same ∙ sym far_unasked)
  far_refused t why honest never h same = absurd h

-- ---- owners stay as they are, and so do all cells but p's
pub record KeepsOwners (p : ℕ) (s t : State) : Type 0 where
  pub scope : t.scope ≡ s.scope
  pub remembered : t.remembered ≡ s.remembered
  pub used : t.used ≡ s.used
  pub mutators : t.mutators ≡ s.mutators
  pub held : t.held ≡ s.held
  pub cells : (q : ℕ) → q ≢ p → t.cell q ≡ s.cell q

kept : (p : ℕ) (s : State) → KeepsOwners p s s
kept p s = record { scope = refl; remembered = refl; used = refl; mutators = refl; held = refl; cells = λ q ne. refl }

move_keeps : (s : State) (p new len : ℕ) (to : Place) (j : Option ℕ) → KeepsOwners p s (after_move s p new len to j)
move_keeps s p new len to None = record { scope = refl; remembered = refl; used = refl; mutators = refl; held = refl; cells = λ q ne. put_other s.cell p new q ne }
move_keeps s p new len to (Some j) = record { scope = refl; remembered = refl; used = refl; mutators = refl; held = refl; cells = λ q ne. put_other s.cell p new q ne }

form_keeps : (s : State) (p new : ℕ) (form : Naming) → KeepsOwners p s (naming_row s p new form).after
form_keeps s p new Stays = record { scope = refl; remembered = refl; used = refl; mutators = refl; held = refl; cells = λ q ne. put_other s.cell p new q ne }
form_keeps s p new (Moves len ds from to) = move_keeps s p new len to (copied_job s p from to)
form_keeps s p new _ = record { scope = refl; remembered = refl; used = refl; mutators = refl; held = refl; cells = λ q ne. put_other s.cell p new q ne }

naming_keeps : (s : State) (p new : ℕ) (o : Option Naming) → KeepsOwners p s (after_naming s p new o)
naming_keeps s p new None = kept p s
naming_keeps s p new (Some form) = form_keeps s p new form

name_keeps : (s : State) (p old new : ℕ) → KeepsOwners p s (after s (Name p old new))
name_keeps s p old new = cond_both (s.cell p == old) (after_naming s p new (naming_of (read_of old) (read_of new))) s (KeepsOwners p s) (λ _. naming_keeps s p new (naming_of (read_of old) (read_of new))) (λ _. kept p s)

written_keeps : (s : State) (p : ℕ) (dirty : Bool) (len ds : ℕ) (place : Place) (row : ℕ → ℕ) → KeepsOwners p s (after (with_written_span s p len ds place row) (Name p (s.cell p) (near_word dirty len ds place)))
written_keeps s p dirty len ds place row =
    let k = name_keeps (with_written_span s p len ds place row) p (s.cell p) (near_word dirty len ds place) in
    record { scope = k.scope; remembered = k.remembered; used = k.used; mutators = k.mutators; held = k.held; cells = k.cells }

pub moved_keeps : (s : State) (p : ℕ) (place : Place) (o : Option PtrWord) → KeepsOwners p s (moved_of s p place o)
moved_keeps s p place (Some (Near len ds from marks)) = written_keeps s p marks.dirty len ds place (data_at s.word from)
moved_keeps s p place _ = kept p s

pub stayed_keeps : (s : State) (p : ℕ) (o : Option PtrWord) → KeepsOwners p s (stayed_of s p o)
stayed_keeps s p (Some (Near len ds place marks)) = name_keeps s p (s.cell p) (near_word marks.dirty len ds place)
stayed_keeps s p _ = kept p s

pub fetched_keeps : (s : State) (p : ℕ) (place : Place) (row : ℕ → ℕ) (o : Option PtrWord) → KeepsOwners p s (fetched_of s p place row o)
fetched_keeps s p place row (Some (Far len ds marks)) = written_keeps s p false len ds place row
fetched_keeps s p place row _ = kept p s

come_keeps_of : (s : State) (p : ℕ) (x : Option Place) (o : Option PtrWord) → KeepsOwners p s (come_of s p x o)
come_keeps_of s p (Some place) (Some (Near len ds from marks)) =
    cond_both (has_evac (read_of (s.cell p))) (moved s p place) (stayed s p) (KeepsOwners p s) (λ _. moved_keeps s p place (read_of (s.cell p))) (λ _. stayed_keeps s p (read_of (s.cell p)))
come_keeps_of s p (Some place) (Some (Far len ds marks)) = fetched_keeps s p place (s.stored p) (read_of (s.cell p))
come_keeps_of s p _ _ = kept p s

come_keeps : (s : State) (p : ℕ) → KeepsOwners p s (come s p)
come_keeps s p = come_keeps_of s p (comes_to s p) (read_of (s.cell p))

pub asked_keeps : (s : State) (m p : ℕ) (o : Option PtrWord) → KeepsOwners p s (sought_of s m p o)
asked_keeps s m p (Some (Near len ds place marks)) = record { scope = refl; remembered = refl; used = refl; mutators = refl; held = refl; cells = λ q ne. put_other s.cell p _ q ne }
asked_keeps s m p _ = kept p s

pub keeps_both : (p : ℕ) (s t u : State) → KeepsOwners p s t → KeepsOwners p t u → KeepsOwners p s u
keeps_both p s t u a b = record {
  scope = b.scope ∙ a.scope;
  remembered = b.remembered ∙ a.remembered;
  used = b.used ∙ a.used;
  mutators = b.mutators ∙ a.mutators;
  held = b.held ∙ a.held;
  cells = λ q ne. b.cells q ne ∙ a.cells q ne;
}

-- a dereference leaves what owners use, and their scopes
pub brought_keeps : (s : State) (m p : ℕ) → KeepsOwners p s (come (asked_for s m p) p)
brought_keeps s m p = keeps_both p s (asked_for s m p) (come (asked_for s m p) p) (asked_keeps s m p (read_of (s.cell p))) (come_keeps (asked_for s m p) p)

-- ---- the parts of a dereference, put together
module _ (s t : State) (m p : ℕ) (pinned : t ≡ with_view s p) (slow : is_slow s p ≡ true) where
  pin_is : t ≡ record s { cell = (after_pin s p).cell }
  pin_is = pinned ∙ slow_view s p slow

  pub slow_opened : is_opened s m ≡ true → is_opened t m ≡ true
  slow_opened opened = ap (λ (x : State). is_opened x m) pin_is ∙ opened

  pub slow_used : s.used p ≡ true → t.used p ≡ true
  slow_used used = ap (λ (x : State). x.used p) pin_is ∙ used

  pub slow_unheld : t.held p ≡ None
  slow_unheld = ap (λ (x : State). x.held p) pin_is ∙ unheld_is (s.held p) (slow_parts s p slow).0

pub came_opened : (t u : State) (m p : ℕ) → u ≡ come (asked_for t m p) p → is_opened t m ≡ true → is_opened u m ≡ true
came_opened t u m p came opened =
    let k = brought_keeps t m p in
    let same : is_opened (come (asked_for t m p) p) m ≡ is_opened t m = (λ i. nat_lt m (k.mutators i) && not (k.scope i m == 0)) in
    ap (λ (x : State). is_opened x m) came ∙ same ∙ opened

pub came_unheld : (t u : State) (m p : ℕ) → u ≡ come (asked_for t m p) p → t.held p ≡ None → u.held p ≡ None
came_unheld t u m p came unheld = ap (λ (x : State). x.held p) came ∙ ap (λ (f : ℕ → Option Place). f p) (brought_keeps t m p).held ∙ unheld

pub came_used : (t u : State) (m p : ℕ) → u ≡ come (asked_for t m p) p → t.used p ≡ true → u.used p ≡ true
came_used t u m p came used = ap (λ (x : State). x.used p) came ∙ ap (λ (f : ℕ → Bool). f p) (brought_keeps t m p).used ∙ used
