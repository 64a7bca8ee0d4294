use Rattle.far_book.proofs.book.Book.move_now.Goals as goal

pub move_by-requires-clause-pointer : goal.move_by-requires-clause-pointer
move_by-requires-clause-pointer g c = c.requires.pointer

pub move_by-requires-clause-quiet : goal.move_by-requires-clause-quiet
move_by-requires-clause-quiet g c = c.requires.quiet

pub move_by-requires-clause-known : goal.move_by-requires-clause-known
move_by-requires-clause-known g c = tt

pub returns : goal.returns
returns g c = c.move_by.ensures
