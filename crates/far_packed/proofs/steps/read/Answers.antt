use Rattle.std.proofs.Common.{length, sym, ◌∙◌}
use Rattle.far_packed.specs.Blocks.{len_of, table}
use Rattle.far_packed.proofs.Reached.{inside_of, read_open, read_sealed, why_barred}
use Rattle.far_packed.proofs.steps.read.Goals as goal

pub returns-in-Err-clause-why : goal.returns-in-Err-clause-why
returns-in-Err-clause-why g c = why_barred g.O.Objects.unreached (g.O.Objects.far c.args.parts.now.worker).honest _ c.args.from (length c.args.out.now) c.in-Err.why c.in-Err.ensures.barred

pub returns-in-Open-clause-read : goal.returns-in-Open-clause-read
returns-in-Open-clause-read g c =
    let p = c.args.parts.now in
    let t = table p.near in
    let inside = inside_of (len_of t c.args.number) c.args.from (length c.args.out.now) c.in-Ok.ensures.done in
    read_open (g.O.Objects.far p.worker) t c.args.number c.args.from c.in-Ok.found.at (length c.args.out.now) c.copy_from_slice.new.self c.deref.result.now
    (sym c.in-Ok.ensures.place ∙ c.in-Open.is) c.in-Ok.ensures.at c.deref.ensures.value inside.within c.copy_from_slice.ensures.after

pub returns-in-Ok-read-clause-read : goal.returns-in-Ok-read-clause-read
returns-in-Ok-read-clause-read g c =
    let p = c.args.parts.now in
    let t = table p.near in
    let inside = inside_of (len_of t c.args.number) c.args.from (length c.args.out.now) c.in-Ok.ensures.done in
    read_sealed (g.O.Objects.far p.worker) t c.args.number c.args.from c.in-Ok.found.at (length c.args.out.now) c.in-Sealed.block c.read.new.out
    (sym c.in-Ok.ensures.place ∙ c.in-Sealed.is) c.in-Ok.ensures.at inside.within c.in-Ok-read.ensures.read
