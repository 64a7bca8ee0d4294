use Rattle.far_book.proofs.book.Book.next_live.Goals as goal

pub next_found-requires-clause-log : goal.next_found-requires-clause-log
next_found-requires-clause-log g c = c.requires.log

pub next_found-requires-clause-begins : goal.next_found-requires-clause-begins
next_found-requires-clause-begins g c = c.requires.begins

pub returns-in-Some-clause-first : goal.returns-in-Some-clause-first
returns-in-Some-clause-first g c = c.in-Some.ensures.first

pub returns-in-Some-clause-next : goal.returns-in-Some-clause-next
returns-in-Some-clause-next g c = c.in-Some.ensures.next

pub returns-in-Some-clause-inside : goal.returns-in-Some-clause-inside
returns-in-Some-clause-inside g c = c.in-Some.ensures.inside

pub returns-in-Some-clause-lies : goal.returns-in-Some-clause-lies
returns-in-Some-clause-lies g c = c.in-Some.ensures.lies

pub returns-in-Some-clause-others : goal.returns-in-Some-clause-others
returns-in-Some-clause-others g c = c.in-Some.ensures.others

pub returns-in-Some-clause-none : goal.returns-in-Some-clause-none
returns-in-Some-clause-none g c = tt

pub returns-in-Some-clause-found : goal.returns-in-Some-clause-found
returns-in-Some-clause-found g c = c.next_found.ensures.found

pub returns-in-Some-clause-kept : goal.returns-in-Some-clause-kept
returns-in-Some-clause-kept g c = c.next_found.ensures.kept

pub returns-in-Some-clause-exact : goal.returns-in-Some-clause-exact
returns-in-Some-clause-exact g c = c.next_found.ensures.exact

pub returns-in-Some-clause-came : goal.returns-in-Some-clause-came
returns-in-Some-clause-came g c = c.next_found.ensures.came

pub returns-in-Some-clause-order : goal.returns-in-Some-clause-order
returns-in-Some-clause-order g c = c.next_found.ensures.order

pub returns-in-Some-clause-device : goal.returns-in-Some-clause-device
returns-in-Some-clause-device g c = c.next_found.ensures.device

pub returns-in-None-clause-none : goal.returns-in-None-clause-none
returns-in-None-clause-none g c = c.in-None.ensures.none

pub returns-in-None-clause-others : goal.returns-in-None-clause-others
returns-in-None-clause-others g c = c.in-None.ensures.others

pub returns-in-None-clause-first : goal.returns-in-None-clause-first
returns-in-None-clause-first g c = tt

pub returns-in-None-clause-next : goal.returns-in-None-clause-next
returns-in-None-clause-next g c = tt

pub returns-in-None-clause-inside : goal.returns-in-None-clause-inside
returns-in-None-clause-inside g c = tt

pub returns-in-None-clause-lies : goal.returns-in-None-clause-lies
returns-in-None-clause-lies g c = tt

pub returns-in-None-clause-found : goal.returns-in-None-clause-found
returns-in-None-clause-found g c = c.next_found.ensures.found

pub returns-in-None-clause-kept : goal.returns-in-None-clause-kept
returns-in-None-clause-kept g c = c.next_found.ensures.kept

pub returns-in-None-clause-exact : goal.returns-in-None-clause-exact
returns-in-None-clause-exact g c = c.next_found.ensures.exact

pub returns-in-None-clause-came : goal.returns-in-None-clause-came
returns-in-None-clause-came g c = c.next_found.ensures.came

pub returns-in-None-clause-order : goal.returns-in-None-clause-order
returns-in-None-clause-order g c = c.next_found.ensures.order

pub returns-in-None-clause-device : goal.returns-in-None-clause-device
returns-in-None-clause-device g c = c.next_found.ensures.device
