use Rattle.std.proofs.Common.{◌≡◌, Some, length, ap, sym, ◌∙◌, arith}
use Rattle.far_index.specs.Tags.{tag_of}
use Rattle.far_seen.proofs.Wholes.{damaged_so, short_decides, so_if}
use Rattle.far_seen.proofs.read.holds_short.Goals as goal

pub returns-in-Ok-clause-holds : goal.returns-in-Ok-clause-holds
returns-in-Ok-clause-holds g c = λ o.
    short_decides ((g.O.Objects.far c.args.worker.now).bytes c.args.number) c.as_slice.result.now c.read_whole.new.out.items c.args.line.now c.is_line.result (c.in-Ok.ensures.read o) c.as_slice.ensures.value c.is_line.ensures.is

pub returns-in-Ok-clause-why : goal.returns-in-Ok-clause-why
returns-in-Ok-clause-why g c =
    damaged_so g.O.Objects.unreached (g.O.Objects.far c.args.worker.now).honest (c.args.tag ≡ tag_of c.args.seed.now c.as_slice.result.now) c.is_line.result
    (λ o. c.requires.tagged c.read_whole.new.out.items o (c.in-Ok.ensures.read o) ∙ ap (tag_of c.args.seed.now) (sym c.as_slice.ensures.value)) c.is_line.ensures.damaged

pub returns-in-Ok-clause-long : goal.returns-in-Ok-clause-long
returns-in-Ok-clause-long g c =
    let len : c.in-Some.len ≡ length c.args.line.now = omega arith in
    so_if c.is_line.result _ (sym c.in-Some.ensures ∙ ap (λ n. Some n) len)
