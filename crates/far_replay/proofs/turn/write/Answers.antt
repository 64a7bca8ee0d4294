use Rattle.std.proofs.Common.{◌∙◌, refl}
use Rattle.far_text.specs.Command.{Mutator, On, Writes}
use Rattle.far_replay.specs.Moment.{moment_in, state_in}
use Rattle.far_replay.proofs.Given.{range_soiled, range_viewed, write_makes}
use Rattle.far_replay.proofs.RangeTurns.{writes_room}
use Rattle.far_replay.proofs.Unbrought.{IsVain, vain_made}
use Rattle.far_replay.proofs.turn.write.Goals.{In-Err}
use Rattle.far_replay.proofs.turn.write.Goals as goal

pub soil-requires : goal.soil-requires
soil-requires c = record {
  viewed =
      let (o, x) = c.in-Ok.ensures.done in
      range_viewed c.args.evac.now c.dereference.new.evac c.args.access o c.args.evac.now.book.near.core.law c.requires.access x c.dereference.ensures.round c.dereference.ensures.same;
}

pub write_viewed-requires-clause-viewed : goal.write_viewed-requires-clause-viewed
write_viewed-requires-clause-viewed c =
    let (o, x) = c.in-Ok.ensures.done in
    range_soiled c.args.evac.now c.dereference.new.evac c.args.access o c.args.evac.now.book.near.core.law c.requires.access x c.dereference.ensures.round c.dereference.ensures.same (state_in c.soil.new.evac) c.soil.ensures.state

pub returns-in-Ok-clause-made : goal.returns-in-Ok-clause-made
returns-in-Ok-clause-made c =
    let (o, x) = c.in-Ok.ensures.done in
    write_makes c.args.evac.now c.dereference.new.evac c.args.access o c.args.evac.now.book.near.core.law c.requires.access x c.dereference.ensures.round c.dereference.ensures.same
    c.soil.new.evac c.write_viewed.new.evac c.args.bytes.now c.requires.bytes c.requires.small c.soil.ensures.state c.write_viewed.ensures.state (c.write_viewed.ensures.order ∙ c.soil.ensures.order)
    (c.write_viewed.ensures.round.0 ∙ c.soil.ensures.round.0, c.write_viewed.ensures.round.1 ∙ c.soil.ensures.round.1, c.write_viewed.ensures.round.2 ∙ c.soil.ensures.round.2) (c.write_viewed.ensures.device ∙ c.soil.ensures.device)

vain : (c : In-Err) → let a = c.args.access in IsVain c.args.evac.now c.dereference.new.evac a.owner a.pointer (Mutator a.owner (On a.pointer (Writes a.from c.args.bytes.now))) c.in-Err.why
vain c =
    let is = c.requires.access in
    let call = c.in-Err.ensures in
    record { asks = (refl, refl); opened = is.opened; own = is.own; used = is.used; cause = writes_room (moment_in c.args.evac.now) c.args.access is c.args.bytes.now c.requires.bytes; stops = λ h. h; leaves = refl; refuses = call.refused; far = call.far; shut = call.shut; round = c.dereference.ensures.round; spent = call.spent; same = c.dereference.ensures.same }

pub returns-in-Err-clause-made : goal.returns-in-Err-clause-made
returns-in-Err-clause-made c = vain_made (vain (goal.at.returns-in-Err-clause-made c).In-Err)
