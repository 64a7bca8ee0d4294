use Rattle.std.proofs.Common.{arith, refl, sym, subst, ◌+◌, ◌<◌, ◌∙◌, length}
use Rattle.std.specs.Option.{option_map}
use Rattle.far_text.specs.Spelled.{command_spelled}
use Rattle.far_text.specs.Command.{HeapLine, DeviceLine, CommandLine, as_device}
use Rattle.far_text.specs.Cursor.{lines_left, lines_after_first}
use Rattle.far_text.specs.Grammar.{Skipped, Saying, Bad, saying, lines_of}
use Rattle.far_text.proofs.Reading.{few_lines, fewer_lines, after_sought, none_first}
use Rattle.far_text.proofs.text.heap_line.Goals as goal

pub loop-lines-init : goal.loop-lines-init
loop-lines-init c = record { reads = refl; counted = omega (arith, few_lines c.args.text.now) }

pub returns-in_default-line_first-clause-fault : goal.returns-in_default-line_first-clause-fault
returns-in_default-line_first-clause-fault c =
    let text = c.in-Some.text.now in
    let reads = rw c.in-Some.is at c.loop-lines.invariant.reads in
    sym reads ∙ after_sought (c.loop-lines.number + 1) text Bad (lines_after_first text) (sym c.in_default-line_first.ensures.bad) refl

pub loop-lines-smaller : goal.loop-lines-smaller
loop-lines-smaller c =
    let fewer = fewer_lines c.in-Some.text.now (lines_left c.in-Some-line_first.after) c.in-Some-line_first.ensures.lines in
    let less : length (lines_left c.in-Some-line_first.after) < length (lines_of c.in-Some.text.now) = omega arith in
    subst (λ o. length (lines_left c.in-Some-line_first.after) < length (lines_left o)) (sym c.in-Some.is) less

pub loop-lines-preserved : goal.loop-lines-preserved
loop-lines-preserved c =
    let text = c.in-Some.text.now in
    let after = lines_left c.in-Some-line_first.after in
    let reads = rw c.in-Some.is at c.loop-lines.invariant.reads in
    let counted = rw c.in-Some.is at c.loop-lines.invariant.counted in
    let line = rw c.in_default-line.is at c.in-Some-line_first.ensures.line in
    let fewer = fewer_lines text after c.in-Some-line_first.ensures.lines in
    let one = after_sought (c.loop-lines.number + 1) text Skipped after line c.in-Some-line_first.ensures.lines in
    record {
      reads = sym one ∙ reads;
      counted = omega arith;
    }

pub returns-in-Command-clause-fault : goal.returns-in-Command-clause-fault
returns-in-Command-clause-fault c =
    let reads = rw c.in-Some.is at c.loop-lines.invariant.reads in
    let entry = rw c.in-Said.is at c.in-Some-line_first.ensures.line in
    let line = rw c.in-Command.is at entry in
    let spelled = command_spelled c.in-Command.field-0 in
    sym reads ∙ after_sought (c.loop-lines.number + 1) c.in-Some.text.now (saying (option_map CommandLine spelled)) (lines_left c.in-Some-line_first.after) line c.in-Some-line_first.ensures.lines
    ∙ none_first spelled _ _ _

pub returns-in-Device-clause-fault : goal.returns-in-Device-clause-fault
returns-in-Device-clause-fault c =
    let reads = rw c.in-Some.is at c.loop-lines.invariant.reads in
    let entry = rw c.in-Said.is at c.in-Some-line_first.ensures.line in
    let line = rw c.in-Device.is at entry in
    sym reads ∙ after_sought (c.loop-lines.number + 1) c.in-Some.text.now (Saying (DeviceLine (as_device c.in-Device.field-0))) (lines_left c.in-Some-line_first.after) line c.in-Some-line_first.ensures.lines

pub returns-in-Heap-clause-heap : goal.returns-in-Heap-clause-heap
returns-in-Heap-clause-heap c =
    let reads = rw c.in-Some.is at c.loop-lines.invariant.reads in
    let entry = rw c.in-Said.is at c.in-Some-line_first.ensures.line in
    let line = rw c.in-Heap.is at entry in
    sym reads ∙ after_sought (c.loop-lines.number + 1) c.in-Some.text.now (Saying (HeapLine c.in-Heap.logs c.in-Heap.mutators c.in-Heap.epoch)) (lines_left c.in-Some-line_first.after) line c.in-Some-line_first.ensures.lines

pub returns-in-Heap-clause-counted : goal.returns-in-Heap-clause-counted
returns-in-Heap-clause-counted c =
    let counted = rw c.in-Some.is at c.loop-lines.invariant.counted in
    let fewer = fewer_lines c.in-Some.text.now (lines_left c.in-Some-line_first.after) c.in-Some-line_first.ensures.lines in
    let short = c.requires.short in
    omega arith
