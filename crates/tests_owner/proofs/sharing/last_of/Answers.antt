use Rattle.std.proofs.Common.{◌-◌, sym, ◌∙◌, arith, vec_len}
use Rattle.tests_owner.proofs.Resting.{idle_last, idle_left}
use Rattle.tests_owner.proofs.sharing.last_of.Goals as goal

pub new-requires : goal.new-requires
new-requires c =
    let one = c.in-Some.ensures.len in
    let last = sym c.in-Some.is ∙ c.pop.ensures.value c.in-Some.seat (omega arith) in
    idle_last _ c.requires (vec_len c.args.seats.now - 1) (omega arith) c.in-Some.seat c.in-Some.seat last

pub returns : goal.returns
returns c = let one = c.in-Some.ensures.len in idle_left _ c.requires (vec_len c.args.seats.now - 1) (omega arith) _ c.pop.ensures.rest
