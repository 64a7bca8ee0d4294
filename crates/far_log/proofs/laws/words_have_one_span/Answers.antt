use Rattle.far_log.proofs.SpanLaws.{has_one_span, has_no_span}
use Rattle.far_log.proofs.laws.words_have_one_span.Goals as goal

pub returns-clause-below : goal.returns-clause-below
returns-clause-below c word tail spans walk i lt = has_one_span spans tail i walk.tile lt

pub returns-clause-past : goal.returns-clause-past
returns-clause-past c word tail spans walk i past = has_no_span spans tail i walk.tile past
