use Rattle.std.proofs.Common.{arith, sym, subst, ◌+◌, ◌<◌, ◌∙◌, length}
use Rattle.far_text.specs.Cursor.{lines_left}
use Rattle.far_text.specs.Grammar.{Skipped, lines_of}
use Rattle.far_text.proofs.Reading.{after_device, after_line, fewer_lines}
use Rattle.far_text.proofs.text.skip_lines.Goals as goal

pub loop-left-smaller : goal.loop-left-smaller
loop-left-smaller c =
    let after = lines_left c.in-Some-skipped_first.after in
    let fewer = fewer_lines c.in-Some-left.text.now after c.in-Some-skipped_first.ensures.lines in
    let less : length after < length (lines_of c.in-Some-left.text.now) = omega arith in
    subst (λ o. length after < length (lines_left o)) (sym c.in-Some-left.is) less

pub loop-left-preserved : goal.loop-left-preserved
loop-left-preserved c =
    let text = c.in-Some-left.text.now in
    let after = lines_left c.in-Some-skipped_first.after in
    let device = rw c.in-Some-left.is at c.loop-left.invariant.device in
    let commands = rw c.in-Some-left.is at c.loop-left.invariant.commands in
    let counted = rw c.in-Some-left.is at c.loop-left.invariant.counted in
    let line = sym c.in-Some-skipped_first.ensures.line in
    let lines = c.in-Some-skipped_first.ensures.lines in
    let fewer = fewer_lines text after lines in
    record {
      device = device ∙ after_device (c.loop-left.at + 1) text Skipped after line lines;
      commands = commands ∙ after_line (c.loop-left.at + 1) text Skipped after line lines;
      counted = omega arith;
      ascii = c.in-Some-skipped_first.ensures.ascii;
    }
