use Rattle.std.proofs.Common.{arith, refl, sym, subst, ap, ◌+◌, ◌<◌, ◌∙◌, length}
use Rattle.far_text.specs.Cursor.{first_line, lines_left, lines_after_first}
use Rattle.far_text.specs.Grammar.{line_of, lines_of, read_commands}
use Rattle.far_text.proofs.Reading.{onto_all, after_line, fewer_lines, line_added, line_refused, no_longer}
use Rattle.far_text.proofs.text.commands_after.Goals as goal

pub add_line-requires : goal.add_line-requires
add_line-requires c =
    let counted = rw c.in-Some.is at c.loop-lines.invariant.counted in
    let fewer = fewer_lines c.in-Some.text.now (lines_after_first c.in-Some.text.now) refl in
    omega (arith, c.loop-lines.invariant.few)

pub returns-in_default-2-clause-fault : goal.returns-in_default-2-clause-fault
returns-in_default-2-clause-fault c =
    let text = c.in-Some.text.now in
    let old = c.loop-lines.commands in
    let reads = rw c.in-Some.is at c.loop-lines.invariant.reads in
    let bad = rw c.in_default-2.is at c.in_ok-after.ensures.bad in
    sym reads ∙ ap (onto_all old) (after_line (c.loop-lines.number + 1) text (line_of (first_line text)) (lines_after_first text) refl refl ∙ line_refused old (line_of (first_line text)) bad _ _)

pub loop-lines-smaller : goal.loop-lines-smaller
loop-lines-smaller c =
    let after = lines_left c.in-Some-2.after in
    let lines = rw c.in-Some-2.is at c.in_ok-after.ensures.lines in
    let fewer = fewer_lines c.in-Some.text.now after lines in
    let less : length after < length (lines_of c.in-Some.text.now) = omega arith in
    subst (λ o. length after < length (lines_left o)) (sym c.in-Some.is) less

pub loop-lines-preserved : goal.loop-lines-preserved
loop-lines-preserved c =
    let text = c.in-Some.text.now in
    let line = line_of (first_line text) in
    let after = lines_left c.in-Some-2.after in
    let number = c.loop-lines.number in
    let old = c.loop-lines.commands in
    let new = c.add_line.new.commands in
    let reads = rw c.in-Some.is at c.loop-lines.invariant.reads in
    let counted = rw c.in-Some.is at c.loop-lines.invariant.counted in
    let few = c.loop-lines.invariant.few in
    let added = rw c.in-Some-2.is at c.in_ok-after.ensures.added in
    let lines = rw c.in-Some-2.is at c.in_ok-after.ensures.lines in
    let fewer = fewer_lines text after lines in
    let long = no_longer old new line added in
    record {
      reads = line_added old new line added (number + 1) (read_commands (number + 1 + 1) after) ∙ ap (onto_all old) (sym (after_line (number + 1) text line after refl lines)) ∙ reads;
      counted = omega arith;
      few = omega arith;
    }
