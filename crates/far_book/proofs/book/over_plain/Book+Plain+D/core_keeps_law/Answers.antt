use Rattle.far_core.specs.state.CoreState.{core_state}
use Rattle.far_core.proofs.Steps.{agrees}
use Rattle.far_book.proofs.book.over_plain.Book+Plain+D.core_keeps_law.Goals as goal

pub returns-clause-law : goal.returns-clause-law
returns-clause-law g c = c.args.self.now.near.core.law

pub returns-clause-agrees : goal.returns-clause-agrees
returns-clause-agrees g c =
    let core = c.args.self.now.near.core in
    agrees (core_state core) core.law
