use Rattle.std.proofs.Common.{ap, subst, sym}
use Rattle.far_heap.specs.Mine.{Mine}
use Rattle.far_text.specs.Command.{Close, as_request}
use Rattle.far_text.specs.declared.command.Request.{Request}
use Rattle.far_reply.specs.Reply.{Done}
use Rattle.far_split.specs.Slots.{Answers}
use Rattle.far_split.proofs.Answered.{closes}
use Rattle.far_split.proofs.OwnLines.{same_answers}
use Rattle.far_split.proofs.slot.answer_open.Goals as goal
use Rattle.far_split.proofs.slot.answer_open.Goals.{in-Open, in-New, in-Drop, in-View, in-Try, in-Read+in_ok-told-in-Read, in-Write}

pub returns-in-Close : goal.returns-in-Close
returns-in-Close g c = subst (λ (r : Request). Answers g.K.HeapName.heap c.args.scope (as_request r) Done c.close.result) (sym c.in-Close.is)
    (subst (λ (n : Mine). Answers g.K.HeapName.heap c.args.scope Close Done n) (sym c.close.ensures.closed) (closes c.args.scope c.keeps_law.ensures.law c.keeps_law.ensures.opened))

pub returns : goal.returns
returns g c =
    let heap = g.K.HeapName.heap in
    elim c.match-request.branch [
      | in-Open w ↦ same_answers heap c.args.scope c.args.request _ _ c.match-request.told _ c.match-request.scope (ap as_request w.in-Open.is) w.told-is w.scope-is w.refuse_open-told.ensures
      | in-New w ↦ same_answers heap c.args.scope c.args.request _ _ c.match-request.told _ c.match-request.scope (ap as_request w.in-New.is) w.told-is w.scope-is w.make_open-told.ensures
      | in-Drop w ↦ same_answers heap c.args.scope c.args.request _ _ c.match-request.told _ c.match-request.scope (ap as_request w.in-Drop.is) w.told-is w.scope-is w.drop_open-told.ensures
      | in-View w ↦ same_answers heap c.args.scope c.args.request _ _ c.match-request.told _ c.match-request.scope (ap as_request w.in-View.is) w.told-is w.scope-is w.view-told.ensures
      | in-Try w ↦ same_answers heap c.args.scope c.args.request _ _ c.match-request.told _ c.match-request.scope (ap as_request w.in-Try.is) w.told-is w.scope-is w.try_view-told.ensures
      | in-Read+in_ok-told-in-Read w ↦
          same_answers heap c.args.scope c.args.request _ _ c.match-request.told _ c.match-request.scope (ap as_request w.in-Read.is) w.told-is w.scope-is w.in_ok-told-in-Read.ensures
      | in-Write w ↦ same_answers heap c.args.scope c.args.request _ _ c.match-request.told _ c.match-request.scope (ap as_request w.in-Write.is) w.told-is w.scope-is w.write-told.ensures
    ]
