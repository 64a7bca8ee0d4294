use Rattle.far_hand.proofs.Listing.{acts_out, goes_on}
use Rattle.far_hand.proofs.beset.Beset.others_act_out_the_list.Goals as goal

pub returns-clause-acted : goal.returns-clause-acted
returns-clause-acted c = λ calls later runs. acts_out calls c.args.self.now later runs

pub returns-clause-left : goal.returns-clause-left
returns-clause-left c = λ calls later runs. goes_on calls c.args.self.now later runs
