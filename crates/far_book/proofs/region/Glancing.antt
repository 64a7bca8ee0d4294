-- What a look at a far object knows of what the device holds.
use Rattle.std.proofs.Common.{◌≡◌, ◌∙◌, ℕ, Bool, true, Option, Some, List, length, ap, subst, sym}
use Rattle.std.specs.Prelude.{IfSome}
use Rattle.far_word.specs.Bytes.{bytes_of}
use Rattle.far_word.specs.Pointer.{read_of}
use Rattle.far_events.specs.state.State.{State}
use Rattle.far_book.specs.declared.ledger.Ledger.{Ledger}
use Rattle.far_book.specs.book.FarSide.{InOrder, kept_len}
use Rattle.far_book.specs.book.Fetching.{IsFar, far_len}
use Rattle.far_book.specs.book.Glancing.{bytes_there, len_there}

-- the book is in order still where the device holds what it held
pub still_in_order : (s : State) (ledger : Ledger) (was now : ℕ → Option (List ℕ)) (e f : Bool) → now ≡ was → f ≡ e → InOrder s ledger was e → InOrder s ledger now f
still_in_order s ledger was now e f kept same order = subst (λ x. InOrder s ledger now x) (sym same) (subst (λ x. InOrder s ledger x e) (sym kept) order)

module _ (s : State) (ledger : Ledger) (contents : ℕ → Option (List ℕ)) (is_honest : Bool) (order : InOrder s ledger contents is_honest) (p : ℕ) (far : IsFar s p) where
  long : len_there s p ≡ far.len
  long = ap far_len far.far

  held : (bytes : List ℕ) × (contents p ≡ Some bytes) × (length bytes ≡ far.len)
  held = order.far.long p far.len (ap kept_len far.far)

  module _ (bytes : List ℕ) (given : IfSome (contents p) (λ stored. bytes ≡ stored)) where
    pub as_long : length bytes ≡ len_there s p
    as_long = ap length (subst (λ (o : Option (List ℕ)). IfSome o (λ b. bytes ≡ b)) held.1 given) ∙ held.2 ∙ sym long

    pub as_stored : s.honest ≡ true → bytes ≡ bytes_there s p
    as_stored promised = subst (λ (o : Option (List ℕ)). IfSome o (λ b. bytes ≡ b)) (order.far.same promised p far.len (ap kept_len far.far)) given ∙ ap (bytes_of (s.stored p)) (sym long)
