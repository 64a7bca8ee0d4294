use Rattle.std.proofs.Common.{length, sym, ◌∙◌, subst}
use Rattle.far_objects.specs.Far.{Writes}
use Rattle.far_packed.specs.Blocks.{Sound, far_of, len_of, table}
use Rattle.far_packed.proofs.Reached.{inside_of, overwritten_sound, overwritten_writes, sealed_sound, sealed_writes, why_barred, within}
use Rattle.far_packed.proofs.steps.write.Goals as goal

pub returns-in-Err-clause-why : goal.returns-in-Err-clause-why
returns-in-Err-clause-why g c = why_barred g.O.Objects.unreached (g.O.Objects.far c.args.parts.now.worker).honest _ c.args.from (length c.args.bytes.now) c.in-Err.why c.in-Err.ensures.barred

pub overwrite-requires : goal.overwrite-requires
overwrite-requires g c =
    let p = c.args.parts.now in
    let t = table p.near in
    let inside = inside_of (len_of t c.args.number) c.args.from (length c.args.bytes.now) c.in-Ok.ensures.done in
    within (g.O.Objects.far p.worker) t c.requires.sound (g.met.O.Objects.known p.worker) c.args.number c.args.from c.in-Ok.found.at c.args.bytes.now inside (sym c.in-Ok.ensures.place ∙ c.in-Open.is) c.in-Ok.ensures.at

pub returns-in-Open-clause-sound : goal.returns-in-Open-clause-sound
returns-in-Open-clause-sound g c =
    let p = c.args.parts.now in
    let t = table p.near in
    let far = g.O.Objects.far p.worker in
    let inside = inside_of (len_of t c.args.number) c.args.from (length c.args.bytes.now) c.in-Ok.ensures.done in
    subst (λ u. Sound far u) (sym c.overwrite.ensures)
    (overwritten_sound far t c.requires.sound (g.met.O.Objects.known p.worker) c.args.number c.args.from c.in-Ok.found.at c.args.bytes.now inside (sym c.in-Ok.ensures.place ∙ c.in-Open.is) c.in-Ok.ensures.at)

pub returns-in-Open-clause-written : goal.returns-in-Open-clause-written
returns-in-Open-clause-written g c =
    let p = c.args.parts.now in
    let t = table p.near in
    let far = g.O.Objects.far p.worker in
    let inside = inside_of (len_of t c.args.number) c.args.from (length c.args.bytes.now) c.in-Ok.ensures.done in
    subst (λ u. Writes c.args.number c.args.from c.args.bytes.now (far_of far t) (far_of far u)) (sym c.overwrite.ensures)
    (overwritten_writes far t c.requires.sound (g.met.O.Objects.known p.worker) c.args.number c.args.from c.in-Ok.found.at c.args.bytes.now inside (sym c.in-Ok.ensures.place ∙ c.in-Open.is) c.in-Ok.ensures.at)

pub returns-in-Ok-write-clause-sound : goal.returns-in-Ok-write-clause-sound
returns-in-Ok-write-clause-sound g c =
    let p = c.args.parts.now in
    let t = table p.near in
    let inside = inside_of (len_of t c.args.number) c.args.from (length c.args.bytes.now) c.in-Ok.ensures.done in
    sealed_sound (g.O.Objects.far p.worker) (g.O.Objects.far c.write.new.self) t c.requires.sound (g.met.O.Objects.known p.worker) c.args.number c.args.from c.in-Ok.found.at c.in-Sealed.block c.args.bytes.now inside
    (sym c.in-Ok.ensures.place ∙ c.in-Sealed.is) c.in-Ok.ensures.at c.in-Ok-write.ensures.written

pub returns-in-Ok-write-clause-written : goal.returns-in-Ok-write-clause-written
returns-in-Ok-write-clause-written g c =
    let p = c.args.parts.now in
    let t = table p.near in
    let inside = inside_of (len_of t c.args.number) c.args.from (length c.args.bytes.now) c.in-Ok.ensures.done in
    sealed_writes (g.O.Objects.far p.worker) (g.O.Objects.far c.write.new.self) t c.requires.sound (g.met.O.Objects.known p.worker) c.args.number c.args.from c.in-Ok.found.at c.in-Sealed.block c.args.bytes.now inside
    (sym c.in-Ok.ensures.place ∙ c.in-Sealed.is) c.in-Ok.ensures.at c.in-Ok-write.ensures.written
