use Rattle.std.proofs.Common.{◌∙◌, ap, arith, get_or, length, sym}
use Rattle.far_split.proofs.Keeping.{length-lines_told}
use Rattle.far_split.proofs.told.LogLines.at.Goals as goal

pub line_at-requires : goal.line_at-requires
line_at-requires c = record { few = c.self.invariant; inside = omega (arith, c.requires, ap length c.self.view_is, length-lines_told c.self.inside.first c.self.inside.rows.now) }

pub returns : goal.returns
returns c other = ap (λ lines. get_or lines c.args.at other) (sym c.self.view_is) ∙ c.line_at.ensures other
