use Rattle.std.proofs.Common.{◌≡◌, ◌++◌, length, take, drop, sym, ◌∙◌}
use Rattle.far_dict.proofs.Moves.{whole_read, whole_why}
use Rattle.far_dict.proofs.reading.read_whole.Goals as goal

pub returns-in-Ok-read-clause-read : goal.returns-in-Ok-read-clause-read
returns-in-Ok-read-clause-read g c = λ o.
    let whole = c.requires.whole in
    let long : length c.as_mut_slice.result.now ≡ c.len.result = c.as_mut_slice.ensures.len ∙ c.in-Ok.ensures.len in
    let same : c.resize.new.self.len ≡ c.len.result = c.in-Ok.ensures.len in
    whole_read (g.O.Objects.far c.args.worker.now) c.args.large.now c.len.result c.as_mut_slice.result.now c.read.new.out _ o whole c.len.ensures long c.in-Ok-read.ensures.long
    (c.in-Ok-read.ensures.read whole.bytes o whole.holds) (λ i. take (same i) (c.read.new.out ++ drop (length c.read.new.out) (sym c.as_mut_slice.ensures.value i)))

pub returns-in-Err-clause-why : goal.returns-in-Err-clause-why
returns-in-Err-clause-why g c =
    whole_why g.O.Objects.unreached (g.O.Objects.far c.args.worker.now) c.args.large.now (length c.as_mut_slice.result.now) c.in-Err.why c.requires.whole
    (c.as_mut_slice.ensures.len ∙ c.in-Ok.ensures.len ∙ c.len.ensures) c.in-Err.ensures.why
