-- What is quiet, as a test and as a fact, and that no view rests on it.
use Rattle.std.proofs.Common.{◌≡◌, ◌≢◌, ℕ, ◌/◌, ◌∙◌, Bool, true, false, refl, sym, ap, inl, inr, Option, Some, None}
use Rattle.std.specs.Prelude.{◌⊎◌, ◌||◌, ◌&&◌}
use Rattle.std.proofs.lemmas.Bool.{false≢true}
use Rattle.far_word.specs.declared.pointer.Place.{Place}
use Rattle.far_word.specs.declared.pointer.PtrWord.{PtrWord}
use Rattle.far_word.specs.declared.pointer.PtrWord.TheVariants.{Free, Near, Far}
use Rattle.far_word.specs.declared.sizes.TheConstants.{CELLS}
use Rattle.far_word.specs.Pointer.{read_of}
use Rattle.far_events.specs.events.Quiet.{is_quiet_cell, has_move, IsClearNear, IsQuiet}
use Rattle.far_events.specs.state.Law.{Law}
use Rattle.far_events.specs.state.State.{State}
use Rattle.far_events.proofs.Cells.{held_near}

either : (m e r c : Bool) → (m || (e && r && c)) ≡ true → (m ≡ true) ⊎ ((e ≡ true) × (r ≡ true) × (c ≡ true))
either true e r c h = inl refl
either false true true true h = inr (refl, refl, refl)
either false true true false h = absurd (false≢true h)
either false true false c h = absurd (false≢true h)
either false false r c h = absurd (false≢true h)

moved_is : (m x : Bool) → m ≡ true → (m || x) ≡ true
moved_is true x h = refl
moved_is false x h = absurd (false≢true h)

clear_is : (m e r c : Bool) → e ≡ true → r ≡ true → c ≡ true → (m || (e && r && c)) ≡ true
clear_is true e r c a b d = refl
clear_is false e r c a b d = rw (a, b, d) refl

at_fact : (s : State) (p : ℕ) (o : Option PtrWord) → read_of (s.cell p) ≡ o → is_quiet_cell s p o ≡ true → (has_move o ≡ true) ⊎ IsClearNear s p
at_fact s p None e h = absurd (false≢true h)
at_fact s p (Some Free) e h = absurd (false≢true h)
at_fact s p (Some (Near len ds place m)) e h = elim (either m.moved m.evac (s.round place.log) (s.clear (p / CELLS)) h) [
  | inl moved ↦ inl moved
  | inr x ↦ inr (len, ds, place, m, e, x.0, x.1, x.2)
]
at_fact s p (Some (Far len ds m)) e h = inl h

pub quiet_fact : (s : State) (p : ℕ) → is_quiet_cell s p (read_of (s.cell p)) ≡ true → IsQuiet s p
quiet_fact s p h = at_fact s p (read_of (s.cell p)) refl h

at_move : (s : State) (p : ℕ) (o : Option PtrWord) → has_move o ≡ true → is_quiet_cell s p o ≡ true
at_move s p None h = absurd (false≢true h)
at_move s p (Some Free) h = absurd (false≢true h)
at_move s p (Some (Near len ds place m)) h = moved_is m.moved _ h
at_move s p (Some (Far len ds m)) h = h

pub quiet_test : (s : State) (p : ℕ) → IsQuiet s p → is_quiet_cell s p (read_of (s.cell p)) ≡ true
quiet_test s p (inl moved) = at_move s p (read_of (s.cell p)) moved
quiet_test s p (inr (len, ds, place, m, e, a, b, c)) = ap (is_quiet_cell s p) e ∙ clear_is m.moved m.evac (s.round place.log) (s.clear (p / CELLS)) a b c

-- ---- no view rests on what is quiet
at_rest : (s : State) (law : Law s) (p : ℕ) → IsQuiet s p → (place : Place) → s.held p ≢ Some place
at_rest s law p (inl moved) place rests =
    let x = held_near _ place (law.views.held_names p place rests) in
    false≢true (sym x.unmoved ∙ sym (ap has_move x.near) ∙ moved)
at_rest s law p (inr (len, ds, at, m, e, a, b, c)) place rests =
    let x = held_near _ place (law.views.held_names p place rests) in
    let both : Some (Near len ds at m) ≡ Some (Near x.len x.ds place x.marks) = sym e ∙ x.near in
    let there : at ≡ place = cc in
    false≢true (sym (law.clears.clear_unviewed p place rests c) ∙ ap (λ (y : Place). s.round y.log) (sym there) ∙ b)

none_of : (o : Option Place) → ((place : Place) → o ≢ Some place) → o ≡ None
none_of None h = refl
none_of (Some place) h = absurd (h place refl)

pub quiet_unheld : (s : State) → Law s → (p : ℕ) → IsQuiet s p → s.held p ≡ None
quiet_unheld s law p h = none_of (s.held p) (at_rest s law p h)
