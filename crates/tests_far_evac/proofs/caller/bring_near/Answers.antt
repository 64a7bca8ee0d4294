use Rattle.std.proofs.Common.{◌≡◌, true, Ok, ◌∙◌, ap, sym, subst}
use Rattle.far_core.specs.declared.machine.Core.{Core}
use Rattle.far_core.specs.state.CoreState.{core_state}
use Rattle.far_events.specs.state.Law.{Law}
use Rattle.far_events.specs.state.State.{State}
use Rattle.far_core.specs.world.WorldOf.{world_of}
use Rattle.far_book.specs.book.Actions.{Does, Fetches}
use Rattle.tests_far_evac.specs.Kept.{KeepsWords}
use Rattle.tests_far_evac.proofs.KeptWords.{fetch_keeps}
use Rattle.tests_far_evac.proofs.caller.bring_near.Goals as goal

pub returns-in-Ok-Some : goal.returns-in-Ok-Some
returns-in-Ok-Some c =
    let s : State = core_state c.locate.new.self.book.near.core in
    let t : State = core_state c.fetch.new.self.book.near.core in
    let same : s ≡ core_state c.args.evac.now.book.near.core = c.locate.ensures.found.exact tt in
    let law : Law s = subst Law (sym same) (subst (λ (x : Core). Law (core_state x)) c.core_of.ensures c.keeps_law.ensures.law) in
    let honest : (world_of s).honest ≡ true = subst (λ (u : State). (world_of u).honest ≡ true) (sym same) c.requires.honest in
    let does = subst (λ r. Does s (Fetches c.args.pointer r) t) (c.in-Ok-Some.is ∙ ap Ok c.in-Ok-Some.field-0-is) (c.fetch.ensures.fetched.ran tt) in
    record { kept = subst (λ (u : State). KeepsWords u t) same (fetch_keeps s t c.args.pointer c.in-Ok-Some.field-0-0 law honest c.fetching_is_legal.ensures c.steps_keep_views.ensures.changes does) }
