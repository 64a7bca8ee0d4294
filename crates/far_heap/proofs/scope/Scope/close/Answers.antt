use Rattle.std.proofs.Common.{ap, ◌∙◌}
use Rattle.far_heap.specs.Mine.{Mine, closing, soils}
use Rattle.far_heap.proofs.Soiling.{closing_soils}
use Rattle.far_heap.proofs.scope.Scope.close.Goals as goal

pub returns-clause-clean : goal.returns-clause-clean
returns-clause-clean g c = λ p. ap (λ (m : Mine). soils m p) (c.of.ensures ∙ c.close.ensures ∙ ap closing c.self.view_is) ∙ closing_soils c.args.self p
