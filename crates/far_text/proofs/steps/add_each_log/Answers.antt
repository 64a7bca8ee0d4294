use Rattle.std.proofs.Common.{◌==◌, length, drop, sym, ap, ◌∙◌, arith}
use Rattle.far_text.specs.Cursor.{words_in, first_line}
use Rattle.far_text.proofs.Cuts.{split_nonempty}
use Rattle.far_text.proofs.Scripts.{behind, no_number, all_read, not_read}
use Rattle.far_text.proofs.steps.add_each_log.Goals as goal

pub returns-in_default-number_first-clause-value : goal.returns-in_default-number_first-clause-value
returns-in_default-number_first-clause-value c =
    let text = c.in-Words.text.now in
    let done = drop (length c.args.bytes.now) c.loop-rest.bytes in
    let reads = rw c.in-Words.is at c.loop-rest.invariant.reads in
    let none = no_number (words_in text) (split_nonempty (λ b. b == 32) (first_line text)) c.in_default-number_first.ensures.number in
    not_read (words_in c.args.words.now) (sym reads ∙ ap (behind done) none)

pub returns-clause-value : goal.returns-clause-value
returns-clause-value c =
    let done = drop (length c.args.bytes.now) c.loop-rest.bytes in
    let reads = rw c.in_default.is at c.loop-rest.invariant.reads in
    let counted = rw c.in_default.is at c.loop-rest.invariant.counted in
    all_read (words_in c.args.words.now) done (split_nonempty (λ b. b == 32) (first_line c.args.words.now)) (omega (arith, c.loop-rest.invariant.short)) reads
