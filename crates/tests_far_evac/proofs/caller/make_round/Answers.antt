use Rattle.std.proofs.Common.{◌∙◌, sym, subst}
use Rattle.far_core.specs.declared.machine.Core.{Core}
use Rattle.far_core.specs.state.CoreState.{core_state}
use Rattle.far_events.specs.state.Law.{Law}
use Rattle.far_evac.specs.Owned.{KeepsObjects}
use Rattle.tests_far_evac.proofs.KeptWords.{made_round_keeps, round_keeps}
use Rattle.tests_far_evac.proofs.caller.make_round.Goals as goal

keeps_objects : (c : goal.In-Ok) → KeepsObjects (core_state c.args.evac.now.book.near.core) (core_state c.run_round.new.self.book.near.core)
keeps_objects c =
    let law : Law (core_state c.args.evac.now.book.near.core) = subst (λ (x : Core). Law (core_state x)) c.core_of.ensures c.keeps_law-2.ensures.law in
    let runs = c.in-Ok.ensures.runs in
    made_round_keeps _ _ runs.0 1 9 c.in-Ok.field-0 law c.keeps_law.ensures.moment (c.keeps_law.ensures.exact tt)
    (λ why e. let both = sym c.in-Ok.is ∙ (c.run_round.ensures.barred why e).0 in absurd cc)
    runs.2 (runs.3 tt) c.rounds_keep_objects.ensures.whole

pub returns-in-Ok-clause-kept : goal.returns-in-Ok-clause-kept
returns-in-Ok-clause-kept c = round_keeps (core_state c.args.evac.now.book.near.core) (core_state c.run_round.new.self.book.near.core) (keeps_objects c)

pub returns-in-Ok-clause-mutators : goal.returns-in-Ok-clause-mutators
returns-in-Ok-clause-mutators c = (keeps_objects c).mutators
