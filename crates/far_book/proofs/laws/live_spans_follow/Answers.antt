use Rattle.far_book.proofs.laws.live_spans_follow.Goals as goal
use Rattle.far_book.proofs.region.NextLives.{lives_from_start, lives_behind, spans_are_bounded}

pub returns-clause-start : goal.returns-clause-start
returns-clause-start c = lives_from_start

pub returns-clause-bounded : goal.returns-clause-bounded
returns-clause-bounded c = spans_are_bounded

pub returns-clause-behind : goal.returns-clause-behind
returns-clause-behind c = lives_behind
