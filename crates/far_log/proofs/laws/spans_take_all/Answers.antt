use Rattle.far_log.proofs.SpanLaws.{spans_take, taken_is}
use Rattle.far_log.proofs.laws.spans_take_all.Goals as goal

pub returns-clause-all : goal.returns-clause-all
returns-clause-all c word tail spans walk test = spans_take test spans tail walk.tile

pub returns-clause-sum : goal.returns-clause-sum
returns-clause-sum c = taken_is
