use Rattle.std.proofs.Common.{◌-◌, true, sym, ◌∙◌, subst, refl, arith, vec_len}
use Rattle.far_core.specs.state.CoreState.{core_state}
use Rattle.far_table.specs.View.{OwnerView}
use Rattle.tests_owner.specs.Fits.{Fits}
use Rattle.tests_owner.proofs.Resting.{all_idle, at_rest, only_owner}
use Rattle.tests_owner.proofs.sharing.seated.Goals as goal

pub copiers_of-requires : goal.copiers_of-requires
copiers_of-requires c = all_idle (core_state c.args.core) _ _ c.in_ok-book.ensures.copiers (c.if-not-is_at_rest.ensures.idle refl)

pub knowing-owner-requires : goal.knowing-owner-requires
knowing-owner-requires c =
    let s = core_state c.args.core in
    let is = c.if-not-is_at_rest.ensures in
    let one = c.in-Some.ensures.len in
    let last = sym c.in-Some.is ∙ c.pop.ensures.value c.in-Some.seat (omega arith) in
    let first = only_owner s true _ _ c.in_ok-book.ensures.owners (is.one refl) (vec_len c.in_ok-book.seats - 1) (omega arith) c.in-Some.seat c.in-Some.seat last in
    subst (λ (v : OwnerView). Fits v 0 _ _ c.in-Ok.lens.items c.in-Ok-vec.held.items) (sym first)
    (at_rest s true c.keeps_law.ensures.law (is.closed refl) (is.forgot refl) c.in-Ok.lens.items c.in-Ok.ensures c.in-Ok-vec.held.items (c.in-Ok-vec.ensures.items_if_clones_equal (λ y e. e)))
