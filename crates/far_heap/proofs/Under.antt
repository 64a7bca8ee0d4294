-- What the word that a look found asks of the book.
use Rattle.std.proofs.Common.{◌≡◌, ℕ, true, refl, ap, Option, Some, None, ◌/◌}
use Rattle.std.specs.Prelude.{◌||◌, ◌&&◌}
use Rattle.far_word.specs.declared.pointer.PtrWord.{PtrWord}
use Rattle.far_word.specs.declared.pointer.PtrWord.TheVariants as pointer
use Rattle.far_word.specs.declared.sizes.TheConstants.{CELLS}
use Rattle.far_word.specs.Pointer.{read_of}
use Rattle.far_events.specs.state.State.{State}
use Rattle.far_hand.specs.Quiet.{IsQuietNear}
use Rattle.far_book.specs.book.Fetching.{IsFar}
use Rattle.far_heap.specs.Helping.{asks_move, says_far}

far_cell : (s : State) (p : ℕ) (o : Option PtrWord) → read_of (s.cell p) ≡ o → says_far o ≡ true → IsFar s p
far_cell s p None e is = absurd cc
far_cell s p (Some pointer.Free) e is = absurd cc
far_cell s p (Some (pointer.Near len ds at m)) e is = absurd cc
far_cell s p (Some (pointer.Far len ds m)) e is = record { len = len; ds = ds; marks = m; far = e }

pub is_far : (s : State) (p : ℕ) → says_far (read_of (s.cell p)) ≡ true → IsFar s p
is_far s p is = far_cell s p (read_of (s.cell p)) refl is

-- a near object that shows MOVE is quiet
quiet_cell : (s : State) (p : ℕ) (o : Option PtrWord) → read_of (s.cell p) ≡ o → asks_move o ≡ true → IsQuietNear s p
quiet_cell s p None e is = absurd cc
quiet_cell s p (Some pointer.Free) e is = absurd cc
quiet_cell s p (Some (pointer.Near len ds at m)) e is =
    record { len = len; ds = ds; place = at; marks = m; near = e; quiet = ap (λ b. b || (m.evac && s.round at.log && s.clear (p / CELLS))) is }
quiet_cell s p (Some (pointer.Far len ds m)) e is = absurd cc

pub is_quiet_near : (s : State) (p : ℕ) → asks_move (read_of (s.cell p)) ≡ true → IsQuietNear s p
is_quiet_near s p is = quiet_cell s p (read_of (s.cell p)) refl is
