use Rattle.far_split.proofs.Joining.{IsBegun, all_are_short, all_may_stop, all_ran_so}
use Rattle.far_split.proofs.run.run_named.Goals as goal

pub returns-clause-ran : goal.returns-clause-ran
returns-clause-ran g c device flawed honest =
    let begun : IsBegun g.K.HeapName.heap c.args.blank = record { named = c.requires.name; size = c.requires.size; unused = c.requires.unused; order = c.requires.order; alone = c.requires.alone } in
    all_ran_so g.K.HeapName.heap c.args.blank device c.args.text.now c.in_ok-ends.ends.items c.join.result begun flawed honest c.in_ok-ends.ensures.ended c.join.ensures.joined

pub returns-clause-short : goal.returns-clause-short
returns-clause-short g c = all_are_short g.K.HeapName.heap c.args.text.now c.in_ok-ends.ends.items c.join.result c.in_ok-ends.ensures.ended c.join.ensures.joined

pub returns-clause-fault : goal.returns-clause-fault
returns-clause-fault g c =
    all_may_stop (g.G.Gate.refuses c.args.gate.now) g.K.HeapName.heap c.args.text.now c.in_ok-ends.ends.items c.join.result c.in_ok-ends.ensures.ended c.in_ok-ends.ensures.stopped c.join.ensures.fault
