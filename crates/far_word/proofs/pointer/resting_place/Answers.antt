use Rattle.far_word.proofs.FieldLaws.{place_missing, place_read}
use Rattle.far_word.proofs.pointer.resting_place.Goals as goal

pub returns-then-not-rests_view : goal.returns-then-not-rests_view
returns-then-not-rests_view c = λ v e. place_missing c.args.word v c.ranges.word.fits e c.if-not-rests_view.ensures

pub returns : goal.returns
returns c = λ v e. rw (c.field.ensures, c.field-2.ensures) (place_read c.args.word v c.ranges.word.fits e c.if-not-rests_view.ensures)
