use Rattle.std.proofs.Common.{arith, sym, ap, ◌∙◌, ◌≡◌, ◌<◌, ◌+◌, ◌-◌, length, take, drop, length-drop}
use Rattle.std.proofs.Math.Seq.{take-length}
use Rattle.far_text.specs.Grammar.{lines_of}
use Rattle.far_text.specs.Cursor.{front_of, rest_of}
use Rattle.far_text.proofs.LineLemmas.{line_ends, line_all}
use Rattle.far_text.proofs.cursor.split_line.Goals as goal

pub returns-then-len-text-clause-line : goal.returns-then-len-text-clause-line
returns-then-len-text-clause-line c =
    sym (ap front_of (line_all c.args.text.now (λ k less. c.line_end-len.ensures.inside k (omega arith))))

pub returns-then-len-text-clause-lines : goal.returns-then-len-text-clause-lines
returns-then-len-text-clause-lines c =
    sym (ap rest_of (line_all c.args.text.now (λ k less. c.line_end-len.ensures.inside k (omega arith))))

pub returns-clause-line : goal.returns-clause-line
returns-clause-line c =
    let text = c.args.text.now in
    let len = c.line_end-len.result in
    let less : len < length text = omega (arith, c.line_end-len.ensures.bound) in
    sym (ap front_of (line_ends text len less (c.line_end-len.ensures.ends less) c.line_end-len.ensures.inside))

pub returns-clause-lines : goal.returns-clause-lines
returns-clause-lines c =
    let text = c.args.text.now in
    let len = c.line_end-len.result in
    let less : len < length text = omega (arith, c.line_end-len.ensures.bound) in
    let rest : take (length text - (len + 1)) (drop (len + 1) text) ≡ drop (len + 1) text =
    ap (λ m. take m (drop (len + 1) text)) (sym (length-drop (len + 1) text)) ∙ take-length (drop (len + 1) text) in
    ap lines_of rest ∙ sym (ap rest_of (line_ends text len less (c.line_end-len.ensures.ends less) c.line_end-len.ensures.inside))
