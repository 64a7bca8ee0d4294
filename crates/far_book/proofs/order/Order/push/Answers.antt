use Rattle.far_book.proofs.order.Order.push.Goals as goal
use Rattle.std.proofs.Common.{ap, arith, length, ◌∙◌, ◌++◌, ◌∷◌, []}
use Rattle.far_book.proofs.region.Gone.{all_still}

pub push_reserved-requires : goal.push_reserved-requires
push_reserved-requires c = omega (arith, ap length c.take_out.ensures.list, ap length c.self.view_is, c.requires.room, c.take_out.ensures.room, c.self.invariant.1)

pub invariant_of-self : goal.invariant_of-self
invariant_of-self c = (
  omega (arith, c.push_reserved.ensures.len, ap length c.take_out.ensures.list, ap length c.self.view_is, c.requires.room),
  omega (arith, c.push_reserved.ensures.capacity, c.take_out.ensures.room, c.self.invariant.1),
)

pub returns : goal.returns
returns c = all_still c.none-self-inside.result c.none-self-inside.ensures c.push_reserved.new.self.items ∙ c.push_reserved.ensures.items ∙ ap (λ xs. xs ++ c.args.log ∷ []) (c.take_out.ensures.list ∙ c.self.view_is)
