use Rattle.std.proofs.Common.{◌≡◌, ap, refl, rules, subst, sym, ◌∙◌}
use Rattle.std.proofs.lemmas.Bool.{true≢false}
use Rattle.std.specs.Prelude.{IfSome}
use Rattle.far_events.specs.state.State.{State}
use Rattle.far_hand.specs.Quiet.{IsQuietNear}
use Rattle.far_replay.specs.Commanded.{KeepsFar, Serves}
use Rattle.far_alone.specs.Dereference.{asked_for, order_come}
use Rattle.far_replay.specs.Interpreter.{refuser}
use Rattle.far_replay.specs.Moment.{state_in}
use Rattle.far_replay.specs.Spent.{SpentBy}
use Rattle.far_alone.proofs.Bringing.{asked_quiet, may_ask, near_done, near_order, near_refused, near_room}
use Rattle.far_replay.proofs.Dereferences.{comes_stores}
use Rattle.far_replay.proofs.Giving.{comes_itself}
use Rattle.far_replay.proofs.Spending.{spent_same}
use Rattle.far_replay.proofs.Told.{same_holds}
use Rattle.far_replay.proofs.dereferencing.move_near.Goals as goal

pub move_now-requires-clause-quiet : goal.move_now-requires-clause-quiet
move_now-requires-clause-quiet c =
    let s : State = state_in c.args.evac.now in
    let law = c.args.evac.now.book.near.core.law in
    subst (λ (x : State). IsQuietNear x c.args.pointer) (sym (c.make_event.ensures.legal refl (may_ask s c.args.owner c.args.pointer law c.requires.opened c.requires.own c.requires.used c.requires.unheld c.requires.near)).0)
    (asked_quiet s c.args.owner c.args.pointer law c.requires.opened c.requires.own c.requires.used c.requires.unheld c.requires.near)

pub returns-in-Ok-Some-clause-brought : goal.returns-in-Ok-Some-clause-brought
returns-in-Ok-Some-clause-brought c =
    let s : State = state_in c.args.evac.now in
    let m = c.args.owner in
    let p = c.args.pointer in
    let law = c.args.evac.now.book.near.core.law in
    let asked = (c.make_event.ensures.legal refl (may_ask s m p law c.requires.opened c.requires.own c.requires.used c.requires.unheld c.requires.near)).0 in
    let done = near_done s m p law c.requires.opened c.requires.own c.requires.used c.requires.unheld c.requires.near _ (state_in c.make_event.new.evac) (state_in c.move_now.new.self) c.in-Ok-Some.field-0 c.in-Ok-Some.field-0-0 c.in-Ok-Some.field-0-is
    asked c.in-Ok-Some.ensures.moved.place (c.in-Ok-Some.ensures.moved.exact tt) in
    let room = near_room s m p law c.requires.opened c.requires.own c.requires.used c.requires.unheld c.requires.near (state_in c.make_event.new.evac) c.in-Ok-Some.field-0 c.in-Ok-Some.field-0-0 c.in-Ok-Some.field-0-is
    asked c.in-Ok-Some.ensures.moved.place in
    let order = near_order s m p law c.requires.opened c.requires.own c.requires.used c.requires.unheld c.requires.near (state_in c.make_event.new.evac) c.make_event.new.evac.book.order c.move_now.new.self.book.order
    c.in-Ok-Some.field-0 c.in-Ok-Some.field-0-0 c.in-Ok-Some.field-0-is asked c.in-Ok-Some.ensures.moved.place c.in-Ok-Some.ensures.moved.order
    ∙ ap (λ order. order_come (asked_for s m p) order p) c.make_event.ensures.order in
    let device : c.move_now.new.self.book.device ≡ c.make_event.new.evac.book.device =
    subst (λ x. IfSome x (λ _. c.move_now.new.self.book.device ≡ c.make_event.new.evac.book.device)) c.in-Ok-Some.field-0-is c.in-Ok-Some.ensures.moved.device in
    record {
      comes = (
        Serves,
        comes_itself c.args.evac.now c.move_now.new.self m p c.in-Ok-Some.field-0-0 done room order
            (ap (λ (t : State). t.stored) done ∙ comes_stores s m p law c.requires.opened c.requires.own c.requires.used c.requires.unheld c.in-Ok-Some.field-0-0 room)
            (spent_same c.args.evac.now c.move_now.new.self (device ∙ c.make_event.ensures.device))
            (λ far. absurd (true≢false (sym c.requires.near ∙ far))),
      );
      refused = tt;
      shut = tt;
      round = search rules;
      spent = tt;
      same = same_holds c.args.evac.now c.move_now.new.self (device ∙ c.make_event.ensures.device);
    }

pub returns-in-Err-clause-brought : goal.returns-in-Err-clause-brought
returns-in-Err-clause-brought c =
    let s : State = state_in c.args.evac.now in
    let law = c.args.evac.now.book.near.core.law in
    record {
      comes = tt;
      refused = near_refused s c.args.owner c.args.pointer law c.requires.opened c.requires.own c.requires.used c.requires.unheld c.requires.near (state_in c.make_event.new.evac) (state_in c.move_now.new.self) c.in-Err.why
          (c.make_event.ensures.legal refl (may_ask s c.args.owner c.args.pointer law c.requires.opened c.requires.own c.requires.used c.requires.unheld c.requires.near)).0
          c.in-Err.ensures.moved.refused c.in-Err.ensures.moved.none (c.in-Err.ensures.moved.unchanged tt);
      shut = search rules;
      round = search rules;
      spent = subst (λ w. SpentBy (refuser w) c.args.evac.now c.move_now.new.self) (sym c.in-Err.ensures.moved.refused)
          (spent_same c.args.evac.now c.move_now.new.self (ap (λ b. b.device) c.in-Err.ensures.moved.kept ∙ c.make_event.ensures.device));
      same = same_holds c.args.evac.now c.move_now.new.self (ap (λ b. b.device) c.in-Err.ensures.moved.kept ∙ c.make_event.ensures.device);
    }

pub returns-in-Err-clause-far : goal.returns-in-Err-clause-far
returns-in-Err-clause-far c keeps = absurd (subst KeepsFar c.in-Err.ensures.moved.refused keeps)
