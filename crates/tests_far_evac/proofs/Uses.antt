-- What a caller of the evacuator needs: that a new core is at the start, and what follows from where an object was found.
use Rattle.std.proofs.Common.{◌≡◌, ℕ, Bool, true, false, sym, refl, ap, subst, ◌∙◌, Option, Some, None, ◌/◌}
use Rattle.std.specs.Prelude.{◌||◌, ◌&&◌}
use Rattle.far_word.specs.declared.mark.Marks.{Marks}
use Rattle.far_word.specs.declared.pointer.Place.{Place}
use Rattle.far_word.specs.declared.pointer.PtrWord.{PtrWord}
use Rattle.far_word.specs.declared.pointer.PtrWord.TheVariants as pointer
use Rattle.far_word.specs.declared.sizes.TheConstants.{CELLS}
use Rattle.far_word.specs.Pointer.{read_of}
use Rattle.far_events.specs.declared.shape.Shape.{Shape}
use Rattle.far_events.specs.events.Naming.{is_dropped}
use Rattle.far_events.specs.state.Opening.{opening}
use Rattle.far_events.specs.state.State.{State}
use Rattle.far_book.specs.declared.home.Home.TheVariants.{Near, Far}
use Rattle.far_core.specs.state.CoreState.{core_state}
use Rattle.far_hand.specs.BesetView.{beset_view}
use Rattle.far_hand.specs.declared.beset.Beset.{Beset}
use Rattle.far_hand.specs.declared.plain.Plain.{Plain}
use Rattle.far_hand.specs.Masked.{masked}
use Rattle.far_hand.specs.Quiet.{IsQuietNear}
use Rattle.far_book.specs.book.Fetching.{IsFar}
use Rattle.far_book.specs.book.Home.{home_of}
use Rattle.far_book.specs.book.BookOf.{BookOf}
use Rattle.far_book.specs.book.Own.{HasNoJob, IsAtStart}

pub at_start : (s : State) (shape : Shape) (honest : Bool) → s ≡ opening shape honest → IsAtStart s
at_start s shape honest e = subst IsAtStart (sym e) refl

pub beset_start : (s v : State) (shape : Shape) (honest : Bool) → s ≡ opening shape honest → v ≡ masked s s.cell (λ _. false) s.copying.word → IsAtStart v
beset_start s v shape honest e is = subst IsAtStart (sym (is ∙ ap (λ (t : State). masked t t.cell (λ _. false) t.copying.word) e)) refl

-- a book over a new core has no job
pub at_start_alone : {D : Type 0} (b : BookOf Plain D) (near : Plain) (shape : Shape) (honest : Bool) → b.near ≡ near → core_state near.core ≡ opening shape honest → HasNoJob (core_state b.near.core)
at_start_alone b near shape honest same e = subst HasNoJob (sym (ap (λ (x : Plain). core_state x.core) same ∙ e)) (λ j. refl)

pub beset_alone : {D : Type 0} (b : BookOf Beset D) (near : Beset) (s : State) (shape : Shape) (honest : Bool) → b.near ≡ near → s ≡ opening shape honest → beset_view near ≡ masked s s.cell (λ _. false) s.copying.word → HasNoJob (beset_view b.near)
beset_alone b near s shape honest same e is = subst HasNoJob (sym (ap beset_view same ∙ is ∙ ap (λ (t : State). masked t t.cell (λ _. false) t.copying.word) e)) (λ j. refl)

pub dropped_home : (o : Option PtrWord) (place : Place) (marks : Marks) → Some (Near place marks) ≡ home_of o → marks.dropped ≡ true → is_dropped o ≡ true
dropped_home None place marks e h = absurd cc
dropped_home (Some pointer.Free) place marks e h = absurd cc
dropped_home (Some (pointer.Near len ds at m)) place marks e h = let same : marks ≡ m = cc in ap (λ (x : Marks). x.dropped) (sym same) ∙ h
dropped_home (Some (pointer.Far len ds m)) place marks e h = absurd cc

-- a near object that shows MOVE is quiet
quiet_cell : (s : State) (p : ℕ) (o : Option PtrWord) → read_of (s.cell p) ≡ o → (place : Place) (marks : Marks) → Some (Near place marks) ≡ home_of o → marks.moved ≡ true → IsQuietNear s p
quiet_cell s p None e place marks is h = absurd cc
quiet_cell s p (Some pointer.Free) e place marks is h = absurd cc
quiet_cell s p (Some (pointer.Near len ds at m)) e place marks is h =
    let same : marks ≡ m = cc in
    let moved : m.moved ≡ true = ap (λ (x : Marks). x.moved) (sym same) ∙ h in
    record { len = len; ds = ds; place = at; marks = m; near = e; quiet = ap (λ b. b || (m.evac && s.round at.log && s.clear (p / CELLS))) moved }
quiet_cell s p (Some (pointer.Far len ds m)) e place marks is h = absurd cc

pub quiet_home : (s : State) (p : ℕ) (place : Place) (marks : Marks) → Some (Near place marks) ≡ home_of (read_of (s.cell p)) → marks.moved ≡ true → IsQuietNear s p
quiet_home s p place marks is h = quiet_cell s p (read_of (s.cell p)) refl place marks is h

far_cell : (s : State) (p : ℕ) (o : Option PtrWord) → read_of (s.cell p) ≡ o → (marks : Marks) → Some (Far marks) ≡ home_of o → IsFar s p
far_cell s p None e marks is = absurd cc
far_cell s p (Some pointer.Free) e marks is = absurd cc
far_cell s p (Some (pointer.Near len ds at m)) e marks is = absurd cc
far_cell s p (Some (pointer.Far len ds m)) e marks is = record { len = len; ds = ds; marks = m; far = e }

pub far_home : (s : State) (p : ℕ) (marks : Marks) → Some (Far marks) ≡ home_of (read_of (s.cell p)) → IsFar s p
far_home s p marks is = far_cell s p (read_of (s.cell p)) refl marks is
