use Rattle.std.proofs.Common.{sym, ◌∙◌}
use Rattle.std.proofs.lemmas.Bool.{eqb-true}
use Rattle.far_text.proofs.Numbers.{some_bytes}
use Rattle.far_text.proofs.LineLemmas.{empty_line, newline_line}
use Rattle.far_text.proofs.line.line_first.Goals as goal

pub returns-then-is_empty-clause-line : goal.returns-then-is_empty-clause-line
returns-then-is_empty-clause-line c = empty_line c.args.text.now (eqb-true _ 0 (sym c.is_empty.ensures ∙ c.if-is_empty.true))

pub returns-then-text-eq10-clause-line : goal.returns-then-text-eq10-clause-line
returns-then-text-eq10-clause-line c =
    newline_line c.args.text.now (some_bytes _ (sym c.is_empty.ensures ∙ c.if-is_empty.false)) c.if-text-eq10.true
