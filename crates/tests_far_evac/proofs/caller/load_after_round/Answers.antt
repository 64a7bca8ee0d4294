use Rattle.far_core.specs.state.CoreState.{core_state}
use Rattle.tests_far_evac.specs.Kept.{HasWord}
use Rattle.tests_far_evac.proofs.KeptWords.{loads}
use Rattle.tests_far_evac.proofs.caller.load_after_round.Goals as goal

pub returns : goal.returns
returns c =
    let p = c.args.pointer in
    let i = c.args.index in
    let w = c.args.word in
    let closed = c.make.ensures.kept.words p i w c.store.ensures.has in
    let went = c.in_ok-make_round.ensures.kept.words p i w closed in
    let near = c.in_ok-bring_near.ensures.kept.words p i w went in
    let read = c.make-2.ensures.kept.words p i w near in
    let opened = c.make-3.ensures.kept.words p i w read in
    let viewed = c.make-4.ensures.kept.words p i w opened in
    loads c.load.result (HasWord (core_state c.make-4.new.evac.book.near.core) p i) w viewed c.load.ensures
