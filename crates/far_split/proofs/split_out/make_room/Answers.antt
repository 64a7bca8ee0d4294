use Rattle.far_split.proofs.Printing.{prints_failed}
use Rattle.far_split.proofs.split_out.make_room.Goals as goal

pub returns-in_err-write_whole-clause-printed : goal.returns-in_err-write_whole-clause-printed
returns-in_err-write_whole-clause-printed g c =
    prints_failed (g.W.Write.contents c.args.writer.now) (g.W.Write.contents c.write_whole.new.writer) c.args.buffer.now c.args.buffer.now c.as_slice.result.now c.from_residual.result
    c.from_residual.ensures.0 c.in_err-write_whole.ensures c.as_slice.ensures
