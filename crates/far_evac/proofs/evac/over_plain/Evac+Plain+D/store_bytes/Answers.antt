use Rattle.std.proofs.Common.{◌/◌, ℕ}
use Rattle.far_events.specs.events.Step.{data_word}
use Rattle.far_events.specs.events.Written.{written_words}
use Rattle.far_core.specs.state.CoreState.{core_state}
use Rattle.far_events.specs.state.State.{State}
use Rattle.far_evac.proofs.Sound.{sound_stored}
use Rattle.far_evac.proofs.evac.over_plain.Evac+Plain+D.store_bytes.Goals as goal

pub invariant_of-self : goal.invariant_of-self
invariant_of-self g c =
    let s : State = core_state c.self.inside.book.near.core in
    sound_stored s (core_state c.store_bytes.new.self.near.core) c.self.inside.round c.self.invariant c.args.owner c.args.pointer (c.args.from / 8)
    (written_words (λ i. s.word (data_word s c.args.pointer i)) c.args.from c.args.bytes.now) c.store_bytes.ensures.state
