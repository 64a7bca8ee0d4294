use Rattle.far_heap.proofs.RoundChoices.{chose, chose_none}
use Rattle.far_heap.proofs.evacuator.Evacuator.choose.Goals as goal

pub returns-clause-chosen : goal.returns-clause-chosen
returns-clause-chosen g c =
    let k = c.keeps_law.ensures in
    let s = c.select.ensures in
    chose _ g.K.HeapName.heap c.args.policy.now c.args.most c.select.new.policy c.args.self.now c.select.new.self k.named (k.law, k.moment) c.select.result s.barred s.came s.begun s.gives s.chosen

pub returns-clause-refused : goal.returns-clause-refused
returns-clause-refused g c =
    let k = c.keeps_law.ensures in
    let s = c.select.ensures in
    chose_none _ g.K.HeapName.heap c.args.policy.now c.args.most c.select.new.policy c.args.self.now c.select.new.self k.named (k.law, k.moment) c.select.result s.barred s.unchanged s.why
