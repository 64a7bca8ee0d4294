use Rattle.std.proofs.Common.{arith, sym, ap, ◌∙◌, ◌≡◌, ◌<◌, ◌+◌, ◌-◌, length, take, drop, length-drop}
use Rattle.std.proofs.Math.Seq.{take-length}
use Rattle.far_text.specs.Grammar.{line_of, lines_of}
use Rattle.far_text.specs.Cursor.{front_of, rest_of}
use Rattle.far_text.proofs.LineLemmas.{long_comment, good_comment, line_ends, line_all, comment_some}
use Rattle.far_text.proofs.line.comment_ends.Goals as goal

pub returns-then-len-gt-LONGEST_LINE-clause-bad : goal.returns-then-len-gt-LONGEST_LINE-clause-bad
returns-then-len-gt-LONGEST_LINE-clause-bad c =
    long_comment c.args.text.now c.args.len c.requires.bound c.requires.inside c.if-len-gt-LONGEST_LINE.true

pub returns-then-len-text-clause-line : goal.returns-then-len-text-clause-line
returns-then-len-text-clause-line c =
    let text = c.args.text.now in
    let all = line_all text (λ k less. c.requires.inside k (omega arith)) in
    sym
    (good_comment text c.args.len (omega arith) c.requires.bound c.if-len-gt-LONGEST_LINE.false c.requires.comment c.requires.ascii
    ∙ ap line_of (ap (λ m. take m text) c.if-len-text.true ∙ take-length text ∙ sym (ap front_of all)))

pub returns-then-len-text-clause-lines : goal.returns-then-len-text-clause-lines
returns-then-len-text-clause-lines c =
    sym (ap rest_of (line_all c.args.text.now (λ k less. c.requires.inside k (omega arith))))

pub returns-clause-line : goal.returns-clause-line
returns-clause-line c =
    let text = c.args.text.now in
    let less : c.args.len < length text = omega (arith, c.requires.bound) in
    let newline = c.requires.ends less in
    let some = comment_some text c.args.len c.requires.comment newline in
    sym
    (good_comment text c.args.len some c.requires.bound c.if-len-gt-LONGEST_LINE.false c.requires.comment c.requires.ascii
    ∙ ap line_of (sym (ap front_of (line_ends text c.args.len less newline c.requires.inside))))

pub returns-clause-lines : goal.returns-clause-lines
returns-clause-lines c =
    let text = c.args.text.now in
    let len = c.args.len in
    let less : len < length text = omega (arith, c.requires.bound) in
    let rest : take (length text - (len + 1)) (drop (len + 1) text) ≡ drop (len + 1) text =
    ap (λ m. take m (drop (len + 1) text)) (sym (length-drop (len + 1) text)) ∙ take-length (drop (len + 1) text) in
    ap lines_of rest ∙ sym (ap rest_of (line_ends text len less (c.requires.ends less) c.requires.inside))
