use Rattle.std.proofs.Common.{◌-◌, sym, ◌∙◌, arith, vec_len}
use Rattle.tests_owner.proofs.Fitting.{left, new_last}
use Rattle.tests_owner.proofs.heap.last_of.Goals as goal

pub new-requires-clause-new : goal.new-requires-clause-new
new-requires-clause-new c =
    let one = c.in-Some.ensures.len in
    let last = sym c.in-Some.is ∙ c.pop.ensures.value c.in-Some.seat (omega arith) in
    new_last _ c.requires (vec_len c.args.seats.now - 1) (omega arith) c.len-number.result (omega arith) c.in-Some.seat c.in-Some.seat last

pub returns-in_err-owner : goal.returns-in_err-owner
returns-in_err-owner c = let one = c.in-Some.ensures.len in left _ c.requires (vec_len c.args.seats.now - 1) (omega arith) _ c.pop.ensures.rest

pub returns : goal.returns
returns c = let one = c.in-Some.ensures.len in left _ c.requires (vec_len c.args.seats.now - 1) (omega arith) _ c.pop.ensures.rest
