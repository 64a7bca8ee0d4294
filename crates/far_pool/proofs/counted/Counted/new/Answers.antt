use Rattle.far_word.specs.declared.sizes.TheConstants.{POINTERS}
use Rattle.far_pool.proofs.Workers.{all_zero}
use Rattle.far_pool.proofs.counted.Counted.new.Goals as goal

pub returns-clause-zero : goal.returns-clause-zero
returns-clause-zero g c = λ p. all_zero c.in-Ok.generations.items POINTERS (c.in-Ok.ensures.items_if_clones_equal (λ y e. e)) p
