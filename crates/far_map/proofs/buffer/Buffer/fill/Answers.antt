use Rattle.std.proofs.Common.{arith, ◌≡◌, ◌≤◌, List, ℕ, length, ap}
use Rattle.far_map.proofs.Fronts.{kept_front}
use Rattle.far_map.proofs.buffer.Buffer.fill.Goals as goal

pub returns-clause-read : goal.returns-clause-read
returns-clause-read g c = λ o.
    let most = (g.met.O.Objects.known c.args.worker.now c.args.number c.args.len c.requires).most in
    let same : length c.as_mut_slice.result.now ≡ length c.self.inside.bytes.items = ap (λ (xs : List ℕ). length xs) c.as_mut_slice.ensures.value in
    let fits : c.args.len ≤ c.self.inside.bytes.len = omega (arith, most, c.self.invariant, c.as_mut_slice.ensures.len, same) in
    let within : c.args.len ≤ length c.read_front.new.buffer = omega (arith, most, c.self.invariant, same, c.read_front.ensures.long) in
    kept_front c.read_front.result ((g.O.Objects.far c.args.worker.now).bytes c.args.number) c.args.len c.self.inside.bytes.len c.read_front.new.buffer _ fits within (c.read_front.ensures.read o)
