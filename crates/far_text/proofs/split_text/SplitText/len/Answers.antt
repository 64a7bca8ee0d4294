use Rattle.std.proofs.Common.{arith, length, ap}
use Rattle.far_text.proofs.PlaceLemmas.{length_beside}
use Rattle.far_text.proofs.split_text.SplitText.len.Goals as goal

pub returns : goal.returns
returns c =
    let t = c.self.inside in
    let same = ap length c.self.view_is in
    let beside = length_beside t.numbers.items t.commands c.self.invariant.0 in
    let few = c.self.invariant.1 in
    record {
      value = omega (arith, c.self.invariant.0);
      few = omega (arith, c.self.invariant.0);
    }
