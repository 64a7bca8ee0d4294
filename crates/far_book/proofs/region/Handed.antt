-- The hand of a book is one, as the book has it itself and as its callers see it: what it came by under one name it came by under the other.
use Rattle.std.proofs.Common.{◌≡◌, subst}
use Rattle.far_hand.specs.Came.{Came}
use Rattle.far_book.specs.book.BookOf.{BookOf}

module _ {N D E R : Type 0} {makes : N → E → R → N → Type 0} where
  pub since_book : {b b' : BookOf N D} {t : N} → b ≡ b' → Came makes b.near t → Came makes b'.near t
  since_book {b} {b'} {t} same came = subst (λ (x : BookOf N D). Came makes x.near t) same came
