use Rattle.std.proofs.Common.{refl}
use Rattle.far_word.specs.Pointer.{read_of}
use Rattle.far_alone.proofs.Lengths.{len_most, len_named}
use Rattle.far_replay.proofs.turn.object_len.Goals as goal

pub returns-clause-value : goal.returns-clause-value
returns-clause-value c = len_named (read_of c.args.cell) c.pointer_len.result c.requires c.pointer_len.ensures

pub returns-clause-most : goal.returns-clause-most
returns-clause-most c = len_most c.args.cell (read_of c.args.cell) c.pointer_len.result c.ranges.cell.fits refl c.requires c.pointer_len.ensures
