use Rattle.far_core.specs.state.CoreState.{core_state}
use Rattle.far_core.proofs.Steps.{agrees}
use Rattle.far_hand.specs.BesetView.{core_may_be}
use Rattle.far_hand.specs.Masked.{word_at, is_counted}
use Rattle.far_hand.proofs.Staying.{stays_beside}
use Rattle.far_hand.proofs.Unviewed.{all_clear_unviewed, clear_views_none}
use Rattle.far_book.proofs.region.Owned.{owners_others}
use Rattle.far_book.proofs.book.over_beset.Book+Beset+D.core_keeps_law.Goals as goal

pub returns-clause-agrees : goal.returns-clause-agrees
returns-clause-agrees g c =
    let core = c.args.self.now.near.core in
    agrees (core_state core) core.law

pub returns-clause-may_be : goal.returns-clause-may_be
returns-clause-may_be g c = core_may_be c.args.self.now.near

pub returns-clause-clear : goal.returns-clause-clear
returns-clause-clear g c =
    let hand = c.args.self.now.near in
    clear_views_none (core_state hand.core) hand.core.law

pub returns-clause-unviewed : goal.returns-clause-unviewed
returns-clause-unviewed g c =
    let hand = c.args.self.now.near in
    all_clear_unviewed (core_state hand.core) hand.core.law

pub returns-clause-acts : goal.returns-clause-acts
returns-clause-acts g c x e own =
    let hand = c.args.self.now.near in
    stays_beside (core_state hand.core) hand.core.law (word_at hand.found.items) (is_counted hand.counted.items) (word_at hand.jobs) hand.finds hand.finds_jobs hand.counts x e (owners_others e own)
