use Rattle.std.proofs.Common.{◌∙◌, sym}
use Rattle.far_split.proofs.Keeping.{log_at}
use Rattle.far_split.proofs.told.line_at.Goals as goal

pub returns : goal.returns
returns c other = log_at c.args.first c.args.rows.now c.args.at _ other c.requires.inside ∙ sym c.line.ensures
