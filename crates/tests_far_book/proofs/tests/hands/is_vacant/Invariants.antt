use Rattle.std.proofs.Common.{◌≡◌, ◌≢◌, ℕ, ◌<◌, Some}
use Rattle.far_word.specs.declared.mark.Marks.{Marks}
use Rattle.far_word.specs.declared.pointer.Place.{Place}
use Rattle.far_word.specs.declared.pointer.PtrWord.TheVariants.{Near}
use Rattle.far_word.specs.Pointer.{read_of}
use Rattle.far_hand.specs.Masked.{word_at}
use Rattle.tests_far_book.proofs.tests.hands.is_vacant.Given as goal

abbrev pub invariant-loop-pointer : goal.invariant-loop-pointer
invariant-loop-pointer l = (p len ds : ℕ) (place : Place) (marks : Marks) → p < l.pointer → read_of (word_at l.found.items p) ≡ Some (Near len ds place marks) → place.log ≢ l.log
