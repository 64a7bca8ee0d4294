use Rattle.std.proofs.Common.{◌∙◌, ap, length, sym}
use Rattle.far_split.proofs.Keeping.{length-lines_told}
use Rattle.far_split.proofs.told.LogLines.len.Goals as goal

pub returns : goal.returns
returns c = sym (length-lines_told c.self.inside.first c.self.inside.rows.now) ∙ ap length c.self.view_is
