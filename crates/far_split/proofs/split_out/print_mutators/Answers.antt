use Rattle.std.proofs.Common.{◌+◌, ◌++◌, Err, Ok, drop, length, subst, sym, ◌∙◌, ap, take, append_assoc}
use Rattle.std.proofs.lemmas.List.{take_all}
use Rattle.std.specs.List.{AllByRecursion, flat_map}
use Rattle.far_reply.specs.Reply.{IsShort, reply_text}
use Rattle.far_split.specs.Printed.{heading, part_text, parts_text}
use Rattle.far_split.specs.Prints.{Prints}
use Rattle.far_split.proofs.Printing.{part_short, parts_more, parts_rest, prints_part, prints_then}
use Rattle.far_split.proofs.split_out.print_mutators.Goals as goal

pub print_all-requires : goal.print_all-requires
print_all-requires g c =
    let all = c.args.mutators.now in
    let one = c.index-mutators-number.result in
    subst (AllByRecursion IsShort) (sym c.index-mutators-number.is) (part_short all c.loop-number.number one c.requires c.loop-number-test.true)

pub returns-in_err-print_heading : goal.returns-in_err-print_heading
returns-in_err-print_heading g c =
    let start = g.W.Write.contents c.args.writer.now in
    let now = g.W.Write.contents c.print_heading.new.writer in
    let all = c.args.mutators.now in
    let i = c.loop-number.number in
    let one = c.index-mutators-number.result in
    let front = parts_text 0 (take i all) in
    let rest = parts_text (0 + length (take (i + 1) all)) (drop (i + 1) all) in
    let fault = c.in_err-print_heading.field-0.0 in
    let so_far = prints_then start (g.W.Write.contents c.loop-number.writer) now c.args.buffer.now c.loop-number.buffer c.print_heading.new.buffer (Err fault) front (heading i) c.loop-number.invariant c.in_err-print_heading.ensures in
    subst (Prints start c.args.buffer.now now c.print_heading.new.buffer c.from_residual.result)
    (append_assoc front (heading i) (flat_map reply_text one ++ rest) ∙ ap (λ l. front ++ l) (sym (append_assoc (heading i) (flat_map reply_text one) rest)) ∙ sym (append_assoc front (part_text i one) rest)
    ∙ ap (λ l. l ++ rest) (parts_more all i c.index-mutators-number.result c.loop-number-test.true c.index-mutators-number.is) ∙ parts_rest all (i + 1))
    (prints_part start now c.args.buffer.now c.print_heading.new.buffer fault c.from_residual.result (front ++ heading i) (flat_map reply_text one ++ rest) c.from_residual.ensures.0 so_far)

pub returns-in_err-print_all : goal.returns-in_err-print_all
returns-in_err-print_all g c =
    let start = g.W.Write.contents c.args.writer.now in
    let mid = g.W.Write.contents c.print_heading.new.writer in
    let now = g.W.Write.contents c.print_all.new.writer in
    let all = c.args.mutators.now in
    let i = c.loop-number.number in
    let one = c.index-mutators-number.result in
    let front = parts_text 0 (take i all) in
    let rest = parts_text (0 + length (take (i + 1) all)) (drop (i + 1) all) in
    let fault = c.in_err-print_all.field-0.0 in
    let printed = c.in_err-print_all.ensures in
    let headed = prints_then start (g.W.Write.contents c.loop-number.writer) mid c.args.buffer.now c.loop-number.buffer c.print_heading.new.buffer (Ok tt) front (heading i) c.loop-number.invariant c.in_ok-print_heading.ensures in
    let so_far = prints_then start mid now c.args.buffer.now c.print_heading.new.buffer c.print_all.new.buffer (Err fault) (front ++ heading i) (flat_map reply_text one) headed printed in
    subst (Prints start c.args.buffer.now now c.print_all.new.buffer c.from_residual-in_err-print_all.result)
    (ap (λ l. l ++ rest) (append_assoc front (heading i) (flat_map reply_text one) ∙ parts_more all i c.index-mutators-number.result c.loop-number-test.true c.index-mutators-number.is) ∙ parts_rest all (i + 1))
    (prints_part start now c.args.buffer.now c.print_all.new.buffer fault c.from_residual-in_err-print_all.result ((front ++ heading i) ++ flat_map reply_text one) rest c.from_residual-in_err-print_all.ensures.0 so_far)

pub loop-number-preserved : goal.loop-number-preserved
loop-number-preserved g c =
    let start = g.W.Write.contents c.args.writer.now in
    let mid = g.W.Write.contents c.print_heading.new.writer in
    let now = g.W.Write.contents c.print_all.new.writer in
    let all = c.args.mutators.now in
    let i = c.loop-number.number in
    let one = c.index-mutators-number.result in
    let front = parts_text 0 (take i all) in
    let printed = c.in_ok-print_all.ensures in
    let headed = prints_then start (g.W.Write.contents c.loop-number.writer) mid c.args.buffer.now c.loop-number.buffer c.print_heading.new.buffer (Ok tt) front (heading i) c.loop-number.invariant c.in_ok-print_heading.ensures in
    subst (Prints start c.args.buffer.now now c.print_all.new.buffer (Ok tt))
    (append_assoc front (heading i) (flat_map reply_text one) ∙ parts_more all i c.index-mutators-number.result c.loop-number-test.true c.index-mutators-number.is)
    (prints_then start mid now c.args.buffer.now c.print_heading.new.buffer c.print_all.new.buffer (Ok tt) (front ++ heading i) (flat_map reply_text one) headed printed)

pub returns : goal.returns
returns g c =
    subst (λ xs. Prints (g.W.Write.contents c.args.writer.now) c.args.buffer.now (g.W.Write.contents c.loop-number.writer) c.loop-number.buffer (Ok tt) (parts_text 0 xs))
    (take_all c.loop-number.number c.args.mutators.now c.loop-number-test.false) c.loop-number.invariant
