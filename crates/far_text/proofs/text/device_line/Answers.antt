use Rattle.std.proofs.Common.{arith, sym, subst, ap, ◌+◌, ◌<◌, ◌∙◌, length}
use Rattle.far_text.specs.Command.{DeviceLine, as_device}
use Rattle.far_text.specs.Cursor.{lines_left}
use Rattle.far_text.specs.Grammar.{Skipped, Saying, lines_of, stands}
use Rattle.far_text.proofs.Reading.{after_device, fewer_lines}
use Rattle.far_text.proofs.text.device_line.Goals as goal

pub returns-in-Device-clause-value : goal.returns-in-Device-clause-value
returns-in-Device-clause-value c =
    let reads = rw c.in-Some.is at c.loop-left.invariant.reads in
    let entry = rw c.in-Said.is at c.in-Some-line_first.ensures.line in
    let line = rw c.in-Device.is at entry in
    ap (stands (c.args.number + 1) (lines_left c.args.lines))
    (sym reads ∙ after_device (c.loop-left.at + 1) c.in-Some.text.now (Saying (DeviceLine (as_device c.in-Device.device))) (lines_left c.in-Some-line_first.after) line c.in-Some-line_first.ensures.lines)

pub returns-in-Device-clause-counted : goal.returns-in-Device-clause-counted
returns-in-Device-clause-counted c =
    let counted = rw c.in-Some.is at c.loop-left.invariant.counted in
    let fewer = fewer_lines c.in-Some.text.now (lines_left c.in-Some-line_first.after) c.in-Some-line_first.ensures.lines in
    omega arith

pub loop-left-smaller : goal.loop-left-smaller
loop-left-smaller c =
    let fewer = fewer_lines c.in-Some.text.now (lines_left c.in-Some-line_first.after) c.in-Some-line_first.ensures.lines in
    let less : length (lines_left c.in-Some-line_first.after) < length (lines_of c.in-Some.text.now) = omega arith in
    subst (λ o. length (lines_left c.in-Some-line_first.after) < length (lines_left o)) (sym c.in-Some.is) less

pub loop-left-preserved : goal.loop-left-preserved
loop-left-preserved c =
    let text = c.in-Some.text.now in
    let after = lines_left c.in-Some-line_first.after in
    let reads = rw c.in-Some.is at c.loop-left.invariant.reads in
    let counted = rw c.in-Some.is at c.loop-left.invariant.counted in
    let line = rw c.in_default-line.is at c.in-Some-line_first.ensures.line in
    let fewer = fewer_lines text after c.in-Some-line_first.ensures.lines in
    let one = after_device (c.loop-left.at + 1) text Skipped after line c.in-Some-line_first.ensures.lines in
    record {
      reads = sym one ∙ reads;
      counted = omega arith;
    }
