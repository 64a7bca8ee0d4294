-- A mutator of a new heap.
use Rattle.std.proofs.Common.{◌≡◌, ℕ, ◌*◌, ◌/◌, Bool, false, cond, Option, Some, None, is_some, refl, ap, ◌∙◌, inl, inr, arith}
use Rattle.std.proofs.lemmas.Bool.{cases_eq}
use Rattle.far_word.specs.declared.sizes.TheConstants.{CELLS}
use Rattle.far_events.specs.declared.shape.Shape.{Shape}
use Rattle.far_events.specs.events.Open.{scope_word_of}
use Rattle.far_events.specs.state.Opening.{opening}
use Rattle.far_table.specs.View.{OwnerView}
use Rattle.far_table.specs.Seats.{Seated}
use Rattle.far_table.specs.Stands.{SaysOwner}
use Rattle.far_events.specs.events.Quiet.{has_move}
use Rattle.far_events.proofs.Cells.{unused}
use Rattle.far_events.specs.state.State.{State}
use Rattle.far_table.specs.First.{first_owner}
use Rattle.far_table.specs.Views.{asked_at, moves, object_at, soiled_at}
use Rattle.far_table.proofs.FirstViews.{first_asked, first_soiled, over_beside}
use Rattle.far_heap.specs.Mine.{IsNew, mine_of, newcomer, own_row, seen}
use Rattle.far_heap.proofs.Mines.{none_there}

pub new_mine : (s : Seated) (number : ℕ) → IsNew number s.view → mine_of s ≡ newcomer s.table number s.view.honest
new_mine s number new = λ i. record {
  table = s.table;
  number = new.number_is i;
  honest = s.view.honest;
  opened = is_some (new.closed i);
  objects = own_row (λ p. seen s.view.honest (new.unused p i)) (new.number_is i);
  viewed = own_row (λ p. is_some (new.free p i)) (new.number_is i);
  soiled = own_row (λ p. new.unsoiled p i) (new.number_is i);
  asked = own_row (λ p. new.unasked p i) (new.number_is i);
}

closed_at_first : (x : Option ℕ) → scope_word_of x ≡ 0 → x ≡ None
closed_at_first None e = refl
closed_at_first (Some e) h = absurd (omega (arith, h))

-- no owner of a core whose cells are free has asked for anything
pub none_asked : (s : State) (honest : Bool) (m p : ℕ) → s.cell p ≡ 0 → asked_at (first_owner s honest m) p ≡ 0
none_asked s honest m p free = elim (cases_eq (p / CELLS) m) [
  | inl own ↦ first_asked s honest m p own ∙ ap moves free ∙ ap (λ o. cond (has_move o) 1 0) unused
  | inr ne ↦ over_beside (λ q. moves (s.cell q)) (λ _. 0) CELLS (CELLS * m) p (λ ge lt. ne (omega arith))
]

-- nor of one that has soiled nothing has soiled anything
pub none_soiled : (s : State) (honest : Bool) (m p : ℕ) → s.soiled p ≡ false → soiled_at (first_owner s honest m) p ≡ false
none_soiled s honest m p clean = elim (cases_eq (p / CELLS) m) [
  | inl own ↦ first_soiled s honest m p own ∙ clean
  | inr ne ↦ over_beside s.soiled (λ _. false) CELLS (CELLS * m) p (λ ge lt. ne (omega arith))
]

-- what `share` leaves an owner of a new core knowing
pub new_owner : (shape : Shape) (far honest : Bool) (m : ℕ) (o : OwnerView) → SaysOwner (opening shape far) honest m o → ((p : ℕ) → soiled_at o p ≡ false) → ((p : ℕ) → asked_at o p ≡ 0) → IsNew m o
new_owner shape far honest m o says unsoiled unasked = record {
  number_is = says.number;
  closed = closed_at_first o.open_at says.scope;
  unused = λ p. elim (cases_eq (p / CELLS) m) [
    | inl own ↦ none_there (object_at o p) (says.used p own)
    | inr ne ↦ (says.others p ne).0
  ];
  free = λ p. elim (cases_eq (p / CELLS) m) [
    | inl own ↦ says.held p own
    | inr ne ↦ (says.others p ne).1
  ];
  unsoiled = unsoiled;
  unasked = unasked;
}
