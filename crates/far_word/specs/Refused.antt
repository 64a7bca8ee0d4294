-- The eighteen refusals by their numbers.
use Rattle.std.specs.Prelude.{ℕ}
use Rattle.far_word.specs.declared.refused.Refused.{Refused}
use Rattle.far_word.specs.declared.refused.Refused.TheVariants.{Memory, NoRoom, NoPointer, Length, Closed, AlreadyOpen, NotHeld, Range, Held, Device, Damaged, Phase, EpochsSpent, Marked, Shape, Syntax, BadChoice, StillOpen}

abbrev pub refusal_number : Refused → ℕ
refusal_number Memory = 1
refusal_number NoRoom = 2
refusal_number NoPointer = 3
refusal_number Length = 4
refusal_number Closed = 5
refusal_number AlreadyOpen = 6
refusal_number NotHeld = 7
refusal_number Range = 8
refusal_number Held = 9
refusal_number Device = 10
refusal_number Damaged = 11
refusal_number Phase = 12
refusal_number EpochsSpent = 13
refusal_number (Marked word) = 14
refusal_number Shape = 15
refusal_number (Syntax line) = 16
refusal_number (BadChoice log) = 17
refusal_number (StillOpen mutator epoch) = 18
