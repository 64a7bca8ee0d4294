use Rattle.std.proofs.Common.{sym, ap, ◌∙◌}
use Rattle.std.proofs.lemmas.Bool.{eqb-true}
use Rattle.far_text.specs.Parsed.{with_line}
use Rattle.far_text.proofs.Numbers.{some_bytes}
use Rattle.far_text.proofs.LineLemmas.{empty_line, newline_line}
use Rattle.far_text.proofs.adding.add_line.Goals as goal

pub returns-then-is_empty-clause-added : goal.returns-then-is_empty-clause-added
returns-then-is_empty-clause-added c =
    ap (with_line c.args.commands.now) (sym (empty_line c.args.text.now (eqb-true _ 0 (sym c.is_empty.ensures ∙ c.if-is_empty.true))))

pub returns-then-text-eq10-clause-added : goal.returns-then-text-eq10-clause-added
returns-then-text-eq10-clause-added c =
    ap (with_line c.args.commands.now) (sym (newline_line c.args.text.now (some_bytes _ (sym c.is_empty.ensures ∙ c.if-is_empty.false)) c.if-text-eq10.true))
