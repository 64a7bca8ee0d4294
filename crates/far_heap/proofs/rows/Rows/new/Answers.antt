use Rattle.std.proofs.Common.{◌≡◌, refl}
use Rattle.std.specs.Prelude.{replicate}
use Rattle.far_word.specs.declared.sizes.TheConstants.{POINTERS}
use Rattle.far_heap.specs.Rows.{blank}
use Rattle.far_heap.proofs.OwnSteps.{all_in, all_long}
use Rattle.far_heap.proofs.rows.Rows.new.Goals as goal

pub returns : goal.returns
returns c =
    let rows : c.in_ok-each.each.items ≡ replicate POINTERS blank = c.in_ok-each.ensures.items_if_clones_equal (λ y e. e) in
    let counts : c.in_ok-soiled.soiled.items ≡ replicate POINTERS 0 = c.in_ok-soiled.ensures.items_if_clones_equal (λ y e. e) in
    record {
      many = all_long _ POINTERS blank rows;
      many_soiled = all_long _ POINTERS 0 counts;
      each = λ p. all_in _ POINTERS p blank rows;
      soiled = λ p. all_in _ POINTERS p 0 counts;
      scope = refl;
    }
