use Rattle.std.proofs.Common.{◌≡◌, ◌++◌, length, take, drop, sym, ◌∙◌}
use Rattle.far_seen.proofs.Wholes.{long_as, whole}
use Rattle.far_seen.proofs.read.read_whole.Goals as goal

pub returns-in-Ok-read-clause-read : goal.returns-in-Ok-read-clause-read
returns-in-Ok-read-clause-read g c = λ o.
    let long : length c.as_mut_slice.result.now ≡ c.args.len = c.as_mut_slice.ensures.len ∙ c.in-Ok.ensures.len in
    let same : c.resize.new.self.len ≡ c.args.len = c.in-Ok.ensures.len in
    whole (g.O.Objects.far c.args.worker.now) c.args.number c.args.len c.as_mut_slice.result.now c.read.new.out _ (g.met.O.Objects.known c.args.worker.now) o c.requires
    long c.in-Ok-read.ensures.long c.in-Ok-read.ensures.read (λ i. take (same i) (c.read.new.out ++ drop (length c.read.new.out) (sym c.as_mut_slice.ensures.value i)))

pub returns-in-Ok-read-clause-long : goal.returns-in-Ok-read-clause-long
returns-in-Ok-read-clause-long g c =
    let long : length c.as_mut_slice.result.now ≡ c.args.len = c.as_mut_slice.ensures.len ∙ c.in-Ok.ensures.len in
    let same : c.resize.new.self.len ≡ c.args.len = c.in-Ok.ensures.len in
    long_as c.args.len c.as_mut_slice.result.now c.read.new.out _ long c.in-Ok-read.ensures.long (λ i. take (same i) (c.read.new.out ++ drop (length c.read.new.out) (sym c.as_mut_slice.ensures.value i)))
