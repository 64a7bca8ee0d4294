use Rattle.std.proofs.Common.{arith, sym, subst, ap, refl, ◌≡◌, ◌+◌, ◌<◌, ◌++◌, ◌∷◌, [], ◌∙◌, length, Some, None, cond}
use Rattle.std.specs.Option.{option_map, option_and_then}
use Rattle.far_text.specs.Command.{CommandLine}
use Rattle.far_text.specs.Cursor.{lines_left, lines_after_first}
use Rattle.far_text.specs.Grammar.{Skipped, Bad, saying, lines_of}
use Rattle.far_text.specs.Spelled.{command_spelled, entry_spelled}
use Rattle.far_text.specs.Split.{threaded, split_commands}
use Rattle.far_text.proofs.Reading.{fewer_lines}
use Rattle.far_text.proofs.SplitReading.{onto_all_lines, after_split, one_split, none_split, one_line_more, other_split}
use Rattle.far_text.proofs.split.split_after.Goals as goal

pub returns-in_default-line_first-clause-fault : goal.returns-in_default-line_first-clause-fault
returns-in_default-line_first-clause-fault c =
    let text = c.in-Some.text.now in
    let reads = rw c.in-Some.is at c.loop-lines.invariant.reads in
    sym reads ∙ ap (onto_all_lines c.loop-lines.split) (after_split c.args.mutators (c.loop-lines.number + 1) text Bad (lines_after_first text) (sym c.in_default-line_first.ensures.bad) refl)

pub returns-in_default-entry-clause-fault : goal.returns-in_default-entry-clause-fault
returns-in_default-entry-clause-fault c =
    let number = c.loop-lines.number + 1 in
    let entry = c.in-Said.entry in
    let reads = rw c.in-Some.is at c.loop-lines.invariant.reads in
    let line = rw c.in-Said.is at c.in-Some-line_first.ensures.line in
    sym reads ∙ ap (onto_all_lines c.loop-lines.split)
    (after_split c.args.mutators number c.in-Some.text.now (saying (entry_spelled entry)) (lines_left c.in-Some-line_first.after) line c.in-Some-line_first.ensures.lines
    ∙ other_split c.args.mutators number entry c.in_default-entry.not-Command _)

pub push-requires : goal.push-requires
push-requires c =
    let counted = rw c.in-Some.is at c.loop-lines.invariant.counted in
    let fewer = fewer_lines c.in-Some.text.now (lines_left c.in-Some-line_first.after) c.in-Some-line_first.ensures.lines in
    omega (arith, c.loop-lines.invariant.few)

pub returns-then-not-branch-clause-fault : goal.returns-then-not-branch-clause-fault
returns-then-not-branch-clause-fault c =
    let old = c.loop-lines.split in
    let number = c.loop-lines.number + 1 in
    let spelled = command_spelled c.in-Command.command in
    let reads = rw c.in-Some.is at c.loop-lines.invariant.reads in
    let entry = rw c.in-Said.is at c.in-Some-line_first.ensures.line in
    let line = rw c.in-Command.is at entry in
    let none : option_map (λ x. old ++ (number, x) ∷ []) (option_and_then (threaded c.args.mutators) spelled) ≡ None =
    c.in_ok-push.ensures ∙ ap (λ kept. cond kept (Some c.push.new.self) None) c.if-not-branch.true in
    sym reads ∙ ap (onto_all_lines old)
    (after_split c.args.mutators number c.in-Some.text.now (saying (option_map CommandLine spelled)) (lines_left c.in-Some-line_first.after) line c.in-Some-line_first.ensures.lines
    ∙ none_split c.args.mutators number old spelled none _)

pub loop-lines-smaller : goal.loop-lines-smaller
loop-lines-smaller c =
    let fewer = fewer_lines c.in-Some.text.now (lines_left c.in-Some-line_first.after) c.in-Some-line_first.ensures.lines in
    let less : length (lines_left c.in-Some-line_first.after) < length (lines_of c.in-Some.text.now) = omega arith in
    subst (λ o. length (lines_left c.in-Some-line_first.after) < length (lines_left o)) (sym c.in-Some.is) less

pub loop-lines-smaller-else-not-branch : goal.loop-lines-smaller-else-not-branch
loop-lines-smaller-else-not-branch c =
    let fewer = fewer_lines c.in-Some.text.now (lines_left c.in-Some-line_first.after) c.in-Some-line_first.ensures.lines in
    let less : length (lines_left c.in-Some-line_first.after) < length (lines_of c.in-Some.text.now) = omega arith in
    subst (λ o. length (lines_left c.in-Some-line_first.after) < length (lines_left o)) (sym c.in-Some.is) less

pub loop-lines-preserved : goal.loop-lines-preserved
loop-lines-preserved c =
    let text = c.in-Some.text.now in
    let after = lines_left c.in-Some-line_first.after in
    let reads = rw c.in-Some.is at c.loop-lines.invariant.reads in
    let counted = rw c.in-Some.is at c.loop-lines.invariant.counted in
    let few = c.loop-lines.invariant.few in
    let line = rw c.in_default-line.is at c.in-Some-line_first.ensures.line in
    let fewer = fewer_lines text after c.in-Some-line_first.ensures.lines in
    let one = after_split c.args.mutators (c.loop-lines.number + 1) text Skipped after line c.in-Some-line_first.ensures.lines in
    record {
      reads = ap (onto_all_lines c.loop-lines.split) (sym one) ∙ reads;
      counted = omega arith;
      few = omega arith;
    }

pub loop-lines-preserved-else-not-branch : goal.loop-lines-preserved-else-not-branch
loop-lines-preserved-else-not-branch c =
    let text = c.in-Some.text.now in
    let after = lines_left c.in-Some-line_first.after in
    let mutators = c.args.mutators in
    let number = c.loop-lines.number + 1 in
    let old = c.loop-lines.split in
    let new = c.push.new.self in
    let spelled = command_spelled c.in-Command.command in
    let reads = rw c.in-Some.is at c.loop-lines.invariant.reads in
    let counted = rw c.in-Some.is at c.loop-lines.invariant.counted in
    let few = c.loop-lines.invariant.few in
    let entry = rw c.in-Said.is at c.in-Some-line_first.ensures.line in
    let line = rw c.in-Command.is at entry in
    let fewer = fewer_lines text after c.in-Some-line_first.ensures.lines in
    let kept : option_map (λ x. old ++ (number, x) ∷ []) (option_and_then (threaded mutators) spelled) ≡ Some new =
    c.in_ok-push.ensures ∙ ap (λ kept. cond kept (Some new) None) c.if-not-branch.false in
    let long = one_line_more mutators number old new (option_and_then (threaded mutators) spelled) kept in
    let one = after_split mutators number text (saying (option_map CommandLine spelled)) after line c.in-Some-line_first.ensures.lines in
    record {
      reads = one_split mutators number old new spelled kept (split_commands mutators (number + 1) after) ∙ ap (onto_all_lines old) (sym one) ∙ reads;
      counted = omega arith;
      few = omega arith;
    }
