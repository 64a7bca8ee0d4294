use Rattle.far_split.proofs.BookSaid.{book_told_so, rounds_refused_so, sums_told}
use Rattle.far_split.proofs.laws.book_is_told_so.Goals as goal

pub returns : goal.returns
returns c = record { rounds = rounds_refused_so; sums = sums_told; lines = book_told_so }
