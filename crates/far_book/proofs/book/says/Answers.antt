use Rattle.far_book.proofs.book.says.Goals as goal
use Rattle.std.proofs.Common.{arith}
use Rattle.far_word.proofs.PointerLaws.{read_says}

pub returns-clause-layout : goal.returns-clause-layout
returns-clause-layout c = (read_says c.args.word c.known.result (omega arith) c.known.ensures).0

pub returns-clause-word : goal.returns-clause-word
returns-clause-word c = (read_says c.args.word c.known.result (omega arith) c.known.ensures).1
