use Rattle.std.proofs.Common.{arith}
use Rattle.std.specs.Prelude.{is_ok}
use Rattle.far_file.proofs.Rows.{filled_up}
use Rattle.far_file.proofs.room.fill_up.Goals as goal

pub returns-clause-same : goal.returns-clause-same
returns-clause-same c = filled_up (is_ok c.resize.result) c.args.pages _ c.args.extents.now.items _ (omega (arith, c.args.extents.now.ok.0)) c.resize.ensures.items
