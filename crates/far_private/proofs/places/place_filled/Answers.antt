use Rattle.std.proofs.Common.{◌∙◌, ap, subst, sym}
use Rattle.std.specs.Prelude.{IfErr, IfOk, OnErr, ◌≡◌}
use Rattle.far_events.specs.state.State.{State}
use Rattle.far_private.specs.Causes.{IsStuck}
use Rattle.far_private.specs.Objects.{Settled, objects_of, state_in, with_filled}
use Rattle.far_private.proofs.places.place_filled.Goals as goal

pub place_by_rounds-requires-clause-settled : goal.place_by_rounds-requires-clause-settled
place_by_rounds-requires-clause-settled g c = subst Settled (sym (c.place_now.ensures.refused c.if-place_now.false)) c.requires.settled

pub place_by_rounds-requires-clause-free : goal.place_by_rounds-requires-clause-free
place_by_rounds-requires-clause-free g c = ap (λ (t : State). t.cell c.args.pointer) (c.place_now.ensures.refused c.if-place_now.false) ∙ c.requires.free

pub returns : goal.returns
returns g c =
    let same = c.place_now.ensures.refused c.if-place_now.false in
    let n = state_in c.place_by_rounds.new.evac in
    record {
      settled = c.place_by_rounds.ensures.settled;
      made = subst (λ (t : State). IfOk c.place_by_rounds.result (λ _. objects_of n ≡ with_filled c.args.pointer c.args.len c.args.structure c.args.bytes.now (objects_of t))) same c.place_by_rounds.ensures.made;
      refused = subst (λ (t : State). OnErr c.place_by_rounds.result (objects_of n ≡ objects_of t)) same c.place_by_rounds.ensures.refused;
      why = c.place_by_rounds.ensures.why;
      stuck = subst (λ (t : State). IfErr c.place_by_rounds.result (λ why. IsStuck _ g.D.Device.writes t why)) same c.place_by_rounds.ensures.stuck;
      idle = λ e. c.place_by_rounds.ensures.idle (c.place_now.ensures.idle e);
    }
