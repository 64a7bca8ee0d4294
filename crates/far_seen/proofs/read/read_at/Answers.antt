use Rattle.std.proofs.Common.{◌≡◌, ◌++◌, length, take, drop, sym, ◌∙◌}
use Rattle.far_seen.proofs.Wholes.{long_as, ranged}
use Rattle.far_seen.proofs.read.read_at.Goals as goal

pub returns-in-Ok-read-clause-read : goal.returns-in-Ok-read-clause-read
returns-in-Ok-read-clause-read g c = λ xs o holds.
    let long : length c.as_mut_slice.result.now ≡ c.args.count = c.as_mut_slice.ensures.len ∙ c.in-Ok.ensures.len in
    let same : c.resize.new.self.len ≡ c.args.count = c.in-Ok.ensures.len in
    ranged c.args.count c.as_mut_slice.result.now c.read.new.out _ (drop c.args.from xs) long c.in-Ok-read.ensures.long (c.in-Ok-read.ensures.read xs o holds)
    (λ i. take (same i) (c.read.new.out ++ drop (length c.read.new.out) (sym c.as_mut_slice.ensures.value i)))

pub returns-in-Ok-read-clause-long : goal.returns-in-Ok-read-clause-long
returns-in-Ok-read-clause-long g c =
    let long : length c.as_mut_slice.result.now ≡ c.args.count = c.as_mut_slice.ensures.len ∙ c.in-Ok.ensures.len in
    let same : c.resize.new.self.len ≡ c.args.count = c.in-Ok.ensures.len in
    long_as c.args.count c.as_mut_slice.result.now c.read.new.out _ long c.in-Ok-read.ensures.long (λ i. take (same i) (c.read.new.out ++ drop (length c.read.new.out) (sym c.as_mut_slice.ensures.value i)))
