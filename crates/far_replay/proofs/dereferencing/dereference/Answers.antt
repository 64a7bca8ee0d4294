use Rattle.far_replay.specs.Commanded.{Serves}
use Rattle.far_replay.proofs.Given.{derefs_at_once, derefs_or, far_or}
use Rattle.far_replay.proofs.Told.{holds_both, same_holds}
use Rattle.far_replay.proofs.dereferencing.dereference.Goals as goal

pub returns-in_default-clause-done : goal.returns-in_default-clause-done
returns-in_default-clause-done c = (Serves, derefs_at_once c.args.evac.now c.try_view.new.evac c.args.owner c.args.pointer c.args.evac.now.book.near.core.law c.try_view.ensures.state c.in_default.ensures.viewed c.try_view.ensures.order c.try_view.ensures.device)

pub returns-clause-done : goal.returns-clause-done
returns-clause-done c =
    derefs_or c.args.evac.now c.try_view.new.evac c.bring_and_view.new.evac c.args.owner c.args.pointer c.bring_and_view.result c.args.evac.now.book.near.core.law c.requires.opened c.requires.own c.requires.used c.in-Err.ensures.word.0
    c.try_view.ensures.state c.try_view.ensures.order c.try_view.ensures.device c.bring_and_view.ensures.viewed.done

pub returns-clause-far : goal.returns-clause-far
returns-clause-far c =
    far_or c.args.evac.now c.try_view.new.evac c.args.owner c.args.pointer c.bring_and_view.result c.args.evac.now.book.near.core.law c.requires.opened c.requires.own c.requires.used c.in-Err.ensures.word.0 c.try_view.ensures.state
    c.bring_and_view.ensures.viewed.far

pub returns-in_default-clause-same : goal.returns-in_default-clause-same
returns-in_default-clause-same c = same_holds c.args.evac.now c.try_view.new.evac c.try_view.ensures.device

pub returns-clause-same : goal.returns-clause-same
returns-clause-same c = holds_both c.args.evac.now c.try_view.new.evac c.bring_and_view.new.evac (same_holds c.args.evac.now c.try_view.new.evac c.try_view.ensures.device) c.bring_and_view.ensures.viewed.same
