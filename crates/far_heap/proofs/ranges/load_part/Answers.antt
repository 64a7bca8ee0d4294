use Rattle.std.proofs.Common.{◌%◌, refl, arith}
use Rattle.far_table.specs.Views.{object_at, word_in_view}
use Rattle.far_heap.proofs.Parts.{part_read}
use Rattle.far_heap.proofs.ranges.load_part.Goals as goal

pub returns-clause-bytes : goal.returns-clause-bytes
returns-clause-bytes g c = λ honest.
    part_read (word_in_view (object_at c.args.seat.now.view c.args.p)) c.load-word.result c.args.from (c.args.from % 8) _ c.write_u64.new.buf _ c.copy_from_slice.new.self refl
    (omega (arith, c.requires.one)) c.write_u64.ensures c.copy_from_slice.ensures.after (omega arith) (c.load-word.ensures.word honest)
