-- The sealed logs by age, some of which are gone.
use Rattle.std.specs.Prelude.{ℕ, not, List}
use Rattle.std.specs.List.{filter}
use Rattle.far_book.specs.declared.number_set.NumberSet.{NumberSet}
use Rattle.far_book.specs.book.NumberSet.{has}

-- those of a list that aren't gone
abbrev pub still_in : NumberSet → List ℕ → List ℕ
still_in gone listed = filter (λ l. not (has gone l)) listed
