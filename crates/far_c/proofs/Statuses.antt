-- No refusal has the number of what was done, or of what no refusal says.
use Rattle.std.proofs.Common.{◌≡◌, ◌≢◌, ◌<◌, ◌≤◌, ℕ, ℤ, pos, negsuc, refl, sym, ap, ◌∙◌, arith}
use Rattle.far_word.specs.declared.refused.Refused.{Refused}
use Rattle.far_word.specs.declared.refused.Refused.TheVariants.{Memory, NoRoom, NoPointer, Length, Closed, AlreadyOpen, NotHeld, Range, Held, Device, Damaged, Phase, EpochsSpent, Marked, Shape, Syntax, BadChoice, StillOpen}
use Rattle.far_word.specs.Refused.{refusal_number}

positive : (why : Refused) → 0 < refusal_number why
positive Memory = omega arith
positive NoRoom = omega arith
positive NoPointer = omega arith
positive Length = omega arith
positive Closed = omega arith
positive AlreadyOpen = omega arith
positive NotHeld = omega arith
positive Range = omega arith
positive Held = omega arith
positive Device = omega arith
positive Damaged = omega arith
positive Phase = omega arith
positive EpochsSpent = omega arith
positive (Marked word) = omega arith
positive Shape = omega arith
positive (Syntax line) = omega arith
positive (BadChoice log) = omega arith
positive (StillOpen mutator epoch) = omega arith

abbrev nat_of : ℤ → ℕ
nat_of (pos n) = n
nat_of (negsuc n) = 0

pub is_refused : (why : Refused) (status : ℤ) → status ≡ pos (refusal_number why) → status ≢ pos 0
is_refused why status told done = let none : refusal_number why ≡ 0 = ap nat_of (sym told ∙ done) in omega (arith, positive why, none)

below : (why : Refused) → refusal_number why < 20
below Memory = omega arith
below NoRoom = omega arith
below NoPointer = omega arith
below Length = omega arith
below Closed = omega arith
below AlreadyOpen = omega arith
below NotHeld = omega arith
below Range = omega arith
below Held = omega arith
below Device = omega arith
below Damaged = omega arith
below Phase = omega arith
below EpochsSpent = omega arith
below (Marked word) = omega arith
below Shape = omega arith
below (Syntax line) = omega arith
below (BadChoice log) = omega arith
below (StillOpen mutator epoch) = omega arith

-- the statuses from 20 on are no refusal's
pub is_below : (why : Refused) (n : ℕ) (status : ℤ) → status ≡ pos (refusal_number why) → 20 ≤ n → status ≢ pos n
is_below why n status told high same = let e : refusal_number why ≡ n = ap nat_of (sym told ∙ same) in omega (arith, below why, e, high)

only : (why : Refused) → refusal_number why ≡ 2 → why ≡ NoRoom
only Memory two = absurd (omega (arith, two))
only NoRoom two = refl
only NoPointer two = absurd (omega (arith, two))
only Length two = absurd (omega (arith, two))
only Closed two = absurd (omega (arith, two))
only AlreadyOpen two = absurd (omega (arith, two))
only NotHeld two = absurd (omega (arith, two))
only Range two = absurd (omega (arith, two))
only Held two = absurd (omega (arith, two))
only Device two = absurd (omega (arith, two))
only Damaged two = absurd (omega (arith, two))
only Phase two = absurd (omega (arith, two))
only EpochsSpent two = absurd (omega (arith, two))
only (Marked word) two = absurd (omega (arith, two))
only Shape two = absurd (omega (arith, two))
only (Syntax line) two = absurd (omega (arith, two))
only (BadChoice log) two = absurd (omega (arith, two))
only (StillOpen mutator epoch) two = absurd (omega (arith, two))

-- that nothing near can leave is told by its number alone
pub is_no_room : (why : Refused) (status : ℤ) → status ≡ pos (refusal_number why) → status ≡ pos 2 → why ≡ NoRoom
is_no_room why status told two = only why (ap nat_of (sym told ∙ two))
