use Rattle.far_book.proofs.book.Book.evict.Goals as goal

pub returns : goal.returns
returns g c = c.evict_by.ensures
