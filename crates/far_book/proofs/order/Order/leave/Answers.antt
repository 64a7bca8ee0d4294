use Rattle.far_book.proofs.order.Order.leave.Goals as goal
use Rattle.std.proofs.Common.{ap, ◌∙◌}
use Rattle.far_book.specs.book.Releasing.{order_without}
use Rattle.far_book.proofs.region.Gone.{gone_more}

pub returns : goal.returns
returns c = gone_more c.self.inside.gone c.insert.new.self c.args.log c.insert.ensures c.self.inside.listed.items ∙ ap (order_without c.args.log) c.self.view_is
