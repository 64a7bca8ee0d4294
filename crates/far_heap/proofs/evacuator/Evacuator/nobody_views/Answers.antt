use Rattle.far_heap.proofs.evacuator.Evacuator.nobody_views.Goals as goal

pub returns-clause-leaving : goal.returns-clause-leaving
returns-clause-leaving g c = c.stands.ensures.leaving

pub returns-clause-waiting : goal.returns-clause-waiting
returns-clause-waiting g c = c.stands.ensures.waiting
