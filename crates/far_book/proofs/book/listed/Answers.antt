use Rattle.far_book.proofs.book.listed.Goals as goal
use Rattle.std.proofs.Common.{subst}
use Rattle.std.specs.Prelude.{slice_index}
use Rattle.far_log.specs.Walk.{IsFault}
use Rattle.far_log.proofs.WalkLaws.{image_has, none_bad}

pub unreachable-requires : goal.unreachable-requires
unreachable-requires c =
    none_bad (λ i. slice_index c.args.words.now i) c.args.tail c.in-Err-Bad.field-0-0.at c.in-Err-Bad.field-0-0.word c.requires.walks.0 c.requires.walks.1
    (subst (IsFault (λ i. slice_index c.args.words.now i) c.args.tail) c.in-Err-Bad.field-0-is c.in-Err-Bad.ensures.fault)

pub returns-in-Ok-clause-spans : goal.returns-in-Ok-clause-spans
returns-in-Ok-clause-spans c spans walk = image_has (λ i. slice_index c.args.words.now i) c.args.tail spans c.in-Ok.spans.items walk c.in-Ok.ensures.spans
