use Rattle.far_hand.proofs.plain.PlainNear.collect.Goals as goal

pub returns-clause-set : goal.returns-clause-set
returns-clause-set c = λ _. c.collect.ensures.state
