use Rattle.std.proofs.Common.{sym, ◌∙◌}
use Rattle.std.specs.Prelude.{slice_index}
use Rattle.far_log.proofs.ConvertLaws.{copied_image, renewed_image}
use Rattle.far_log.proofs.converting.convert.Goals as goal

pub returns-in_default-clause-image : goal.returns-in_default-clause-image
returns-in_default-clause-image c =
    let walk = c.in_ok-check.ensures.image in
    copied_image (λ i. slice_index c.args.words.now i) (λ i. slice_index c.copy_front.new.out i) c.args.tail walk.0 (sym c.version_in.ensures ∙ c.in_default.is) c.copy_front.ensures.front walk.1

pub returns-clause-image : goal.returns-clause-image
returns-clause-image c =
    let all = c.renew_headers.ensures.image in
    renewed_image (λ i. slice_index c.args.words.now i) (λ i. slice_index c.renew_headers.new.out i) c.args.tail all.0 (sym c.version_in.ensures ∙ c.in-First.is) all.1 all.2
