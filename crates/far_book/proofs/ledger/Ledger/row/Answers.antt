use Rattle.far_book.proofs.ledger.Ledger.row.Goals as goal
use Rattle.far_book.proofs.region.Notings.{row_is, tail_small, live_small}

pub overflow_sub-result : goal.overflow_sub-result
overflow_sub-result c = rw (c.filled_of-tail.ensures) (live_small c.requires.known.0 c.args.self.now c.args.log c.requires.known.1)

pub overflow_sub-result-2 : goal.overflow_sub-result-2
overflow_sub-result-2 c = rw (c.filled_of-tail.ensures) (tail_small c.requires.known.0 c.args.self.now c.args.log c.requires.known.1)

pub returns : goal.returns
returns c s h = rw (c.filled_of-tail.ensures) (row_is s c.args.self.now c.args.log h)
