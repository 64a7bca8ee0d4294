use Rattle.std.proofs.Common.{◌∙◌, ap, subst, sym}
use Rattle.far_events.specs.state.State.{State}
use Rattle.far_private.specs.Objects.{Settled, objects_of, state_in}
use Rattle.far_private.proofs.Resting.{at_rest}
use Rattle.far_private.proofs.Writing.{fits, over_settled, over_written}
use Rattle.far_private.proofs.access.overwrite.Goals as goal

pub write_over-requires-clause-rest : goal.write_over-requires-clause-rest
write_over-requires-clause-rest g c = at_rest (state_in c.args.evac.now) c.args.evac.now.book.near.core.law c.requires.settled c.args.pointer c.requires.used

pub write_over-requires-clause-inside : goal.write_over-requires-clause-inside
write_over-requires-clause-inside g c =
    fits (state_in c.args.evac.now) c.args.evac.now.book.near.core.law c.requires.settled c.args.pointer c.args.from c.args.bytes.now c.requires.used c.requires.rests c.requires.some c.requires.inside c.requires.most (λ i. (c.type_inv.bytes i).fits)

pub returns : goal.returns
returns g c =
    let s : State = state_in c.args.evac.now in
    record {
      settled = subst Settled (sym c.write_over.ensures.state) (over_settled s c.args.evac.now.book.near.core.law c.requires.settled c.args.pointer c.args.from c.args.bytes.now c.requires.used c.requires.rests c.requires.some c.requires.inside c.requires.most (λ i. (c.type_inv.bytes i).fits));
      written = ap objects_of c.write_over.ensures.state ∙ over_written s c.args.evac.now.book.near.core.law c.requires.settled c.args.pointer c.args.from c.args.bytes.now c.requires.used c.requires.rests c.requires.some c.requires.inside c.requires.most (λ i. (c.type_inv.bytes i).fits);
      used = ap (λ (u : State). u.used c.args.pointer) c.write_over.ensures.state ∙ c.requires.used;
      rests = c.write_over.ensures.rests;
      idle = λ e. c.write_over.ensures.round.0 ∙ e;
    }
