use Rattle.std.proofs.Common.{refl}
use Rattle.far_text.specs.Command.{Mutator, On, Reads}
use Rattle.far_replay.specs.Moment.{moment_in}
use Rattle.far_replay.specs.Outcome.{reply_by}
use Rattle.far_replay.proofs.Given.{range_viewed, read_makes}
use Rattle.far_replay.proofs.RangeTurns.{wants_room}
use Rattle.far_replay.proofs.Unbrought.{IsVain, vain_made}
use Rattle.far_replay.proofs.turn.read.Goals.{In-Err}
use Rattle.far_replay.proofs.turn.read.Goals as goal

pub read_viewed-requires : goal.read_viewed-requires
read_viewed-requires c =
    let (o, x) = c.in-Ok.ensures.done in
    record { viewed = range_viewed c.args.evac.now c.dereference.new.evac c.args.access o c.args.evac.now.book.near.core.law c.requires.access x c.dereference.ensures.round c.dereference.ensures.same }

pub returns-in-Ok-clause-made : goal.returns-in-Ok-clause-made
returns-in-Ok-clause-made c =
    let (o, x) = c.in-Ok.ensures.done in
    read_makes c.args.evac.now c.dereference.new.evac c.args.access o c.args.evac.now.book.near.core.law c.requires.access x c.dereference.ensures.round c.dereference.ensures.same (reply_by c.read_viewed.new.scratch c.read_viewed.result) c.read_viewed.ensures.reply

vain : (c : In-Err) → let a = c.args.access in IsVain c.args.evac.now c.dereference.new.evac a.owner a.pointer (Mutator a.owner (On a.pointer (Reads a.from a.count))) c.in-Err.why
vain c =
    let is = c.requires.access in
    let call = c.in-Err.ensures in
    record { asks = (refl, refl); opened = is.opened; own = is.own; used = is.used; cause = wants_room (moment_in c.args.evac.now) c.args.access is; stops = λ h. h; leaves = refl; refuses = call.refused; far = call.far; shut = call.shut; round = c.dereference.ensures.round; spent = call.spent; same = c.dereference.ensures.same }

pub returns-in-Err-clause-made : goal.returns-in-Err-clause-made
returns-in-Err-clause-made c = vain_made (vain (goal.at.returns-in-Err-clause-made c).In-Err)
