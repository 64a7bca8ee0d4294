-- A dropped object leaves its log: what is asked of the ledger, and what it is then.
use Rattle.std.proofs.Common.{◌≡◌, ℕ, ◌*◌, ◌<◌, ◌≤◌, true, arith, Option, Some, None}
use Rattle.std.proofs.lemmas.Bool.{false≢true}
use Rattle.std.specs.Vec.{vec_len}
use Rattle.far_word.specs.declared.mark.Marks.{Marks}
use Rattle.far_word.specs.declared.pointer.Place.{Place}
use Rattle.far_word.specs.declared.pointer.PtrWord.{PtrWord}
use Rattle.far_word.specs.declared.pointer.PtrWord.TheVariants.{Free, Near, Far}
use Rattle.far_word.specs.Pointer.{read_of}
use Rattle.far_word.specs.Sizes.{size_of}
use Rattle.far_word.specs.declared.sizes.TheConstants.{LOG_WORDS}
use Rattle.far_events.specs.events.Naming.{is_dropped}
use Rattle.far_events.specs.state.State.{State}
use Rattle.far_events.proofs.Bounds.{log_inside}
use Rattle.far_core.proofs.Observations.{in_range}
use Rattle.far_book.specs.declared.ledger.Ledger.{Ledger}
use Rattle.far_hand.specs.Finds.{body_of}
use Rattle.far_book.specs.book.Effects.{with_free_cell}
use Rattle.far_book.specs.book.Ledger.{Notes, MayRetire, Loses, Frees, filled_of}
use Rattle.far_book.proofs.region.NotesKept.{notes_near, notes_far}
use Rattle.far_book.proofs.region.Retires as retires

-- what the cell says, by what was known of it
near_cell : (o : Option PtrWord) (len ds : ℕ) (place : Place) (m : Marks) → body_of (Some (Near len ds place m)) ≡ body_of o → (k : Marks) × (o ≡ Some (Near len ds place k))
near_cell (Some (Near n d at k)) len ds place m e = let lens : n ≡ len = cc in let dss : d ≡ ds = cc in let ats : at ≡ place = cc in (k, cc)
near_cell o len ds place m e = absurd cc

pub far_cell : (o : Option PtrWord) (len ds : ℕ) (m : Marks) → body_of (Some (Far len ds m)) ≡ body_of o → (k : Marks) × (o ≡ Some (Far len ds k))
far_cell (Some (Far n d k)) len ds m e = let lens : n ≡ len = cc in let dss : d ≡ ds = cc in (k, cc)
far_cell o len ds m e = absurd cc

free_cell : (o : Option PtrWord) → body_of (Some Free) ≡ body_of o → is_dropped o ≡ true → ⊥
free_cell None e d = false≢true d
free_cell (Some Free) e d = false≢true d
free_cell (Some (Near n d at k)) e h = absurd cc
free_cell (Some (Far n d k)) e h = absurd cc

module _ (s : State) (ledger : Ledger) (notes : Notes s ledger) (p : ℕ) where
  module _ (len ds : ℕ) (place : Place) (m : Marks) (may : MayRetire s p (Near len ds place m)) where
    pub loses_log : place.log < vec_len ledger.filled
    loses_log =
        let cell = near_cell (read_of (s.cell p)) len ds place m may.is in
        let there = in_range s notes.law p len ds place cell.0 cell.1 in
        omega (arith, log_inside s notes.law place.log (omega (arith, there.0)), notes.logs)

    pub loses_size : size_of len ≤ LOG_WORDS
    loses_size =
        let cell = near_cell (read_of (s.cell p)) len ds place m may.is in
        omega (arith, (in_range s notes.law p len ds place cell.0 cell.1).0, notes.law.logs.tail_end place.log)

    pub loses_live : 8 * size_of len ≤ (filled_of ledger place.log).live
    loses_live =
        let cell = near_cell (read_of (s.cell p)) len ds place m may.is in
        let inside : place.log < s.logs = omega (arith, loses_log, notes.logs) in
        omega (arith, retires.live_here s notes.law p len ds place cell.0 cell.1, notes.lives place.log inside)

    pub left_near : (mid new : Ledger) → Loses ledger mid place.log (size_of len) → Frees mid new p → Notes (with_free_cell s p) new
    left_near mid new loses frees = let cell = near_cell (read_of (s.cell p)) len ds place m may.is in
        notes_near s ledger new notes p may.pointer may.dropped mid len ds place cell.0 cell.1 loses frees

  pub left_far : (len ds : ℕ) (m : Marks) → MayRetire s p (Far len ds m) → (new : Ledger) → Frees ledger new p → Notes (with_free_cell s p) new
  left_far len ds m may new frees = let cell = far_cell (read_of (s.cell p)) len ds m may.is in notes_far s ledger new notes p may.pointer may.dropped len ds cell.0 cell.1 frees

  pub left_free : MayRetire s p Free → ⊥
  left_free may = free_cell (read_of (s.cell p)) may.is may.dropped
