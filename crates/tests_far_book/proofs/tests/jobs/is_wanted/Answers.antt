use Rattle.std.proofs.Common.{◌∙◌, Some, ap, sym}
use Rattle.far_word.specs.Pointer.{read_of}
use Rattle.tests_far_book.proofs.Offers.{elsewhere}
use Rattle.tests_far_book.proofs.tests.jobs.is_wanted.Goals as goal

pub returns-then-place-ne0 : goal.returns-then-place-ne0
returns-then-place-ne0 c =
    let n = c.in-Some-Near in elsewhere (read_of c.args.cell) n.field-0-0 n.field-0-1 n.place n.marks (sym c.read.ensures.exact ∙ n.is ∙ ap (λ v. Some v) n.field-0-is)
