use Rattle.std.proofs.Common.{sym, ap, ◌∙◌, ◌≡◌, ◌-◌, ◌+◌, length, take, drop, length-drop}
use Rattle.std.proofs.Math.Seq.{take-length}
use Rattle.std.proofs.lemmas.Bool.{eqb-true}
use Rattle.std.proofs.lemmas.List.{get_or-drop}
use Rattle.far_text.proofs.Numbers.{some_bytes}
use Rattle.far_text.proofs.LineLemmas.{empty_line, newline_line}
use Rattle.far_text.proofs.line.skipped_first.Goals as goal

pub returns-then-is_empty-clause-line : goal.returns-then-is_empty-clause-line
returns-then-is_empty-clause-line c = sym (empty_line c.args.text.now (eqb-true _ 0 (sym c.is_empty.ensures ∙ c.if-is_empty.true)))

pub returns-then-text-eq10-clause-line : goal.returns-then-text-eq10-clause-line
returns-then-text-eq10-clause-line c =
    sym (newline_line c.args.text.now (some_bytes _ (sym c.is_empty.ensures ∙ c.if-is_empty.false)) c.if-text-eq10.true)

pub returns-then-text-eq10-clause-ascii : goal.returns-then-text-eq10-clause-ascii
returns-then-text-eq10-clause-ascii c =
    let text = c.args.text.now in
    let rest : take (length text - 1) (drop 1 text) ≡ drop 1 text = ap (λ m. take m (drop 1 text)) (sym (length-drop 1 text)) ∙ take-length (drop 1 text) in
    λ k. rw (rest, get_or-drop 1 text k 0) (c.requires.ascii (1 + k))
