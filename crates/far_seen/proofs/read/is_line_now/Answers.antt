use Rattle.std.proofs.Common.{◌≡◌, ap, sym, ◌∙◌}
use Rattle.far_index.specs.Tags.{tag_of}
use Rattle.far_seen.proofs.Wholes.{all_read, damaged_so, whole_decides}
use Rattle.far_seen.proofs.read.is_line_now.Goals as goal

pub returns-in-Ok-clause-holds : goal.returns-in-Ok-clause-holds
returns-in-Ok-clause-holds g c = λ xs o holds.
    whole_decides xs c.as_slice.result.now c.args.line.now c.is_line.result
    (all_read c.len.result xs c.as_slice.result.now c.read_at.new.out.items (c.len.ensures ∙ holds.len) c.as_slice.ensures.value (c.in-Ok.ensures.read xs o holds)) c.is_line.ensures.is

pub returns-in-Ok-clause-why : goal.returns-in-Ok-clause-why
returns-in-Ok-clause-why g c =
    damaged_so g.O.Objects.unreached (g.O.Objects.far c.args.worker.now).honest (c.args.tag ≡ tag_of c.args.seed.now c.as_slice.result.now) c.is_line.result
    (λ o.
    let m = c.requires.tagged o in
    m.2 ∙ ap (tag_of c.args.seed.now) (sym (all_read c.len.result m.0 c.as_slice.result.now c.read_at.new.out.items (c.len.ensures ∙ m.1.len) c.as_slice.ensures.value (c.in-Ok.ensures.read m.0 o m.1)))) c.is_line.ensures.damaged
