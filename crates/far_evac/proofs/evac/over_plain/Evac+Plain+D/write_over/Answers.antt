use Rattle.std.proofs.Common.{◌∙◌, ◌/◌, ap, subst}
use Rattle.far_events.proofs.Splices.{written_fit}
use Rattle.far_events.specs.events.Accesses.{overwrites_in, words_over}
use Rattle.far_events.specs.events.Ranges.{AllLegal, after_events}
use Rattle.far_events.specs.events.Step.{data_word}
use Rattle.far_core.specs.state.CoreState.{core_state}
use Rattle.far_events.specs.state.State.{State}
use Rattle.far_hand.specs.declared.plain.Plain.{Plain}
use Rattle.far_book.proofs.region.Accessed.{overwrites_owned}
use Rattle.far_evac.specs.EvacOf.{EvacOf}
use Rattle.far_evac.proofs.Accessed.{sound_after}
use Rattle.far_evac.proofs.evac.over_plain.Evac+Plain+D.write_over.Goals as goal

pub invariant_of-self : goal.invariant_of-self
invariant_of-self g c =
    let core = c.self.inside.book.near.core in
    let s : State = core_state core in
    sound_after c.self.inside.round (overwrites_in s c.args.owner c.args.pointer c.args.from c.args.bytes.now)
    (overwrites_owned c.args.owner c.args.pointer (c.args.from / 8) (words_over s c.args.pointer c.args.from c.args.bytes.now)
    (written_fit (λ i. s.word (data_word s c.args.pointer i)) c.args.from c.args.bytes.now (λ k. (c.type_inv.bytes k).fits)))
    s (core_state c.write_over.new.self.near.core) core.law c.write_over.ensures.events c.self.invariant

pub returns-clause-events : goal.returns-clause-events
returns-clause-events g c = c.write_over.ensures.events
    ∙ ap (λ (e : EvacOf Plain g.row.D.Denot). after_events (core_state e.book.near.core) (overwrites_in (core_state e.book.near.core) c.args.owner c.args.pointer c.args.from c.args.bytes.now)) c.self.view_is

pub returns-clause-legal : goal.returns-clause-legal
returns-clause-legal g c =
    subst (λ (e : EvacOf Plain g.row.D.Denot). AllLegal (core_state e.book.near.core) (overwrites_in (core_state e.book.near.core) c.args.owner c.args.pointer c.args.from c.args.bytes.now)) c.self.view_is c.write_over.ensures.legal
