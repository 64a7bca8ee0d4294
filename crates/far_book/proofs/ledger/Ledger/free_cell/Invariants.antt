use Rattle.std.proofs.Common.{◌≡◌, ℕ, ◌+◌, ◌*◌, ◌/◌, ◌<◌, false}
use Rattle.far_word.specs.declared.sizes.TheConstants.{CELLS}
use Rattle.far_book.specs.declared.ledger.TheConstants.{SETS}
use Rattle.far_book.specs.book.Ledger.{is_noted_free}
use Rattle.far_book.proofs.ledger.Ledger.free_cell.Given as goal

-- none of the mutator's cells is free that stand in the sets before this one
abbrev pub invariant-loop-i : goal.invariant-loop-i
invariant-loop-i l = (p : ℕ) → p / CELLS ≡ l.owner → p / 64 < SETS * l.owner + l.i → is_noted_free l.self p ≡ false
