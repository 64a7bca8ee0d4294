use Rattle.far_book.proofs.order.Order.new.Goals as goal
use Rattle.std.proofs.Common.{ap}
use Rattle.far_book.specs.book.Order.{still_in}

pub returns : goal.returns
returns c = ap (still_in c.none.result) c.in_ok-with_capacity.ensures.items
