-- What a caller of the book needs: what follows from where an object was found.
use Rattle.std.proofs.Common.{◌≡◌, ℕ, ◌*◌, ◌/◌, ◌<◌, true, sym, refl, ap, ◌∙◌, arith, inl, inr, Option, Some, None}
use Rattle.far_word.specs.declared.mark.Marks.{Marks}
use Rattle.far_word.specs.declared.pointer.Place.{Place}
use Rattle.far_word.specs.declared.pointer.PtrWord.{PtrWord}
use Rattle.far_word.specs.declared.pointer.PtrWord.TheVariants as pointer
use Rattle.std.specs.Prelude.{◌||◌, ◌&&◌}
use Rattle.std.proofs.lemmas.Bool.{cases_lt}
use native.Mathlib.Decide.{ℕ_discrete}
use Rattle.far_word.specs.declared.sizes.TheConstants.{CELLS}
use Rattle.far_word.specs.Pointer.{read_of}
use Rattle.far_events.specs.events.Naming.{is_dropped}
use Rattle.far_events.specs.state.Law.{Law}
use Rattle.far_events.specs.state.State.{State}
use Rattle.far_events.proofs.Cells.{unused}
use Rattle.far_book.specs.declared.home.Home.TheVariants.{Near, Far}
use Rattle.far_book.specs.book.Dealing.{has_evac}
use Rattle.far_hand.specs.Quiet.{IsQuietNear}
use Rattle.far_book.specs.book.Fetching.{IsFar}
use Rattle.far_book.specs.book.Home.{home_of}
use Rattle.far_book.specs.book.Own.{own_part}
use Rattle.tests_seats.specs.Marked.{evac_in}

pub dropped_home : (o : Option PtrWord) (place : Place) (marks : Marks) → Some (Near place marks) ≡ home_of o → marks.dropped ≡ true → is_dropped o ≡ true
dropped_home None place marks e h = absurd cc
dropped_home (Some pointer.Free) place marks e h = absurd cc
dropped_home (Some (pointer.Near len ds at m)) place marks e h = let same : marks ≡ m = cc in ap (λ (x : Marks). x.dropped) (sym same) ∙ h
dropped_home (Some (pointer.Far len ds m)) place marks e h = absurd cc

pub evac_home : (o : Option PtrWord) (place : Place) (marks : Marks) → Some (Near place marks) ≡ home_of o → marks.evac ≡ true → has_evac o ≡ true
evac_home None place marks e h = absurd cc
evac_home (Some pointer.Free) place marks e h = absurd cc
evac_home (Some (pointer.Near len ds at m)) place marks e h = let same : marks ≡ m = cc in ap (λ (x : Marks). x.evac) (sym same) ∙ h
evac_home (Some (pointer.Far len ds m)) place marks e h = absurd cc

-- a near object that shows MOVE is quiet
quiet_cell : (s : State) (p : ℕ) (o : Option PtrWord) → read_of (s.cell p) ≡ o → (place : Place) (marks : Marks) → Some (Near place marks) ≡ home_of o → marks.moved ≡ true → IsQuietNear s p
quiet_cell s p None e place marks is h = absurd cc
quiet_cell s p (Some pointer.Free) e place marks is h = absurd cc
quiet_cell s p (Some (pointer.Near len ds at m)) e place marks is h =
    let same : marks ≡ m = cc in
    let moved : m.moved ≡ true = ap (λ (x : Marks). x.moved) (sym same) ∙ h in
    record { len = len; ds = ds; place = at; marks = m; near = e; quiet = ap (λ b. b || (m.evac && s.round at.log && s.clear (p / CELLS))) moved }
quiet_cell s p (Some (pointer.Far len ds m)) e place marks is h = absurd cc

pub quiet_home : (s : State) (p : ℕ) (place : Place) (marks : Marks) → Some (Near place marks) ≡ home_of (read_of (s.cell p)) → marks.moved ≡ true → IsQuietNear s p
quiet_home s p place marks is h = quiet_cell s p (read_of (s.cell p)) refl place marks is h

far_cell : (s : State) (p : ℕ) (o : Option PtrWord) → read_of (s.cell p) ≡ o → (marks : Marks) → Some (Far marks) ≡ home_of o → IsFar s p
far_cell s p None e marks is = absurd cc
far_cell s p (Some pointer.Free) e marks is = absurd cc
far_cell s p (Some (pointer.Near len ds at m)) e marks is = absurd cc
far_cell s p (Some (pointer.Far len ds m)) e marks is = record { len = len; ds = ds; marks = m; far = e }

pub far_home : (s : State) (p : ℕ) (marks : Marks) → Some (Far marks) ≡ home_of (read_of (s.cell p)) → IsFar s p
far_home s p marks is = far_cell s p (read_of (s.cell p)) refl marks is

-- the cells of a heap are marked where those of its pointers are
pub marked_all : (s : State) → Law (own_part s) → (n : ℕ) → n ≡ CELLS * s.mutators → ((p : ℕ) → p < n → evac_in (read_of (s.cell p)) ≡ true) → (p : ℕ) → evac_in (read_of (s.cell p)) ≡ true
marked_all s law n is low p = elim (cases_lt p n) [
  | inl lt ↦ low p lt
  | inr le ↦ elim (ℕ_discrete (s.cell p) 0) [
    | yes e ↦ ap (λ w. evac_in (read_of w)) e ∙ ap evac_in unused
    | no ne ↦ (let lt = law.cells.cell_range p ne in absurd (omega (arith, is)))
  ]
]
