use Rattle.std.proofs.Common.{◌-◌, sym, ◌∙◌, arith, vec_len, false}
use Rattle.tests_far_table.specs.declared.known.Known.{Known}
use Rattle.tests_far_table.proofs.Fitting.{below_all, fits_last, left}
use Rattle.tests_far_table.proofs.tests.owner.Owner.last_of.Goals as goal

pub bounds-all-number : goal.bounds-all-number
bounds-all-number c = let one = c.in_ok-seat.ensures.len in below_all _ _ c.requires c.len-number.result (omega arith)

pub invariant_of-result : goal.invariant_of-result
invariant_of-result c =
    let one = c.in_ok-seat.ensures.len in
    let unknown : Known = record { opened = false; read = false; used = false; held = false; soiled = false; len = 0 } in
    let last = sym c.in_ok-seat.was ∙ c.pop.ensures.value c.in_ok-seat.seat (omega arith) in
    record { fits = fits_last _ _ c.requires (vec_len c.args.seats.now - 1) (omega arith) c.len-number.result (omega arith) c.in_ok-seat.seat c.in_ok-seat.seat unknown last }

pub returns : goal.returns
returns c = let one = c.in_ok-seat.ensures.len in left _ _ c.requires (vec_len c.args.seats.now - 1) (omega arith) _ c.pop.ensures.rest
