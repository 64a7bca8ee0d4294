use Rattle.std.proofs.Common.{List, ◌++◌, [], ◌∷◌, arith, subst, ◌∙◌}
use Rattle.std.proofs.lemmas.List.{take_all, take_more}
use Rattle.std.specs.Prelude.{map}
use Rattle.far_events.specs.declared.event.Event.{Event}
use Rattle.far_events.specs.declared.event.Event.TheVariants.{ReadEpoch}
use Rattle.far_core.specs.state.CoreState.{core_state}
use Rattle.far_events.specs.state.State.{State}
use Rattle.far_core.specs.world.Runs.{Leads, Runs}
use Rattle.far_core.specs.world.WorldOf.{world_of}
use Rattle.far_core.proofs.Kept.{told_in}
use Rattle.far_core.proofs.Steps.{leads_more, runs_more}
use Rattle.far_core.proofs.machine.Core.run.Goals as goal

pub loop-event-preserved : goal.loop-event-preserved
loop-event-preserved c =
    record {
      room = omega arith;
      count = omega arith;
      kept = c.step-reply.ensures.kept ∙ c.loop-event.invariant.kept;
      leads = (λ kept.
          let h = c.loop-event.invariant.leads kept in (
            h.0 ++ core_state c.step-reply.new.self ∷ [],
            rw (c.push_reserved.ensures.items, take_more c.args.events.now c.loop-event.event-index (ReadEpoch 0) c.loop-event-test.true)
                (leads_more _ _ _ h.0 _ _ _ _ h.1 (record { step = c.step-reply.ensures.step (told_in c.args.self.now c.loop-event.self c.args.events.now c.loop-event.event-index c.loop-event-test.true kept c.loop-event.invariant.kept); law = c.step-reply.ensures.law; agrees = c.step-reply.ensures.agrees })),
            rw (c.push_reserved.ensures.items, take_more c.args.events.now c.loop-event.event-index (ReadEpoch 0) c.loop-event-test.true)
                (runs_more _ _ _ h.0 _ _ _ _ h.1 h.2 c.step-reply.ensures.world),
          ));
    }

pub returns-clause-runs : goal.returns-clause-runs
returns-clause-runs c = λ kept.
    subst (λ (es : List Event). (states : List State) × Leads (core_state c.args.self.now) es c.loop-event.replies.items states (core_state c.loop-event.self)
    × Runs (world_of (core_state c.args.self.now)) es c.loop-event.replies.items (map world_of states))
    (take_all c.loop-event.event-index c.args.events.now c.loop-event-test.false) (c.loop-event.invariant.leads kept)
