use Rattle.std.proofs.Common.{ap, subst, sym, ◌∙◌}
use Rattle.far_text.specs.Command.{Request, Mutator, New, Open, Close, Where, Drop, Try, Epoch, as_request}
use Rattle.far_replay.specs.Moment.{moment_in}
use Rattle.far_replay.specs.Outcome.{reply_by}
use Rattle.far_replay.specs.Spent.{Makes}
use Rattle.far_replay.proofs.Joining.{close_keeps, drop_keeps, epoch_keeps, open_keeps, where_keeps}
use Rattle.far_replay.proofs.Made.{made_served, request_made}
use Rattle.far_replay.proofs.Spending.{spent_same}
use Rattle.far_replay.proofs.Told.{same_holds}
use Rattle.far_replay.proofs.turn.make_request.Goals as goal

pub returns-in-New-clause-made : goal.returns-in-New-clause-made
returns-in-New-clause-made c =
    let call = c.make_object.ensures in
    request_made c.args.evac.now c.make_object.new.evac c.args.owner _ (New c.in-New.len c.in-New.structure) (reply_by c.args.scratch.now c.make_object.result) (ap as_request (sym c.in-New.is)) tt c.requires.law c.requires.between
    call.state call.order call.round (call.reply c.args.scratch.now) (spent_same c.args.evac.now c.make_object.new.evac call.device)
    (same_holds c.args.evac.now c.make_object.new.evac call.device) (λ k p asks. asks)

pub returns-in-Open-clause-made : goal.returns-in-Open-clause-made
returns-in-Open-clause-made c =
    let call = c.open_scope.ensures in
    request_made c.args.evac.now c.open_scope.new.evac c.args.owner _ Open (reply_by c.args.scratch.now c.open_scope.result) (ap as_request (sym c.in-Open.is)) tt c.requires.law c.requires.between
    call.state (call.order ∙ sym (open_keeps (moment_in c.args.evac.now) c.args.owner)) call.round (call.reply c.args.scratch.now) (spent_same c.args.evac.now c.open_scope.new.evac call.device)
    (same_holds c.args.evac.now c.open_scope.new.evac call.device) (λ k p asks. asks)

pub returns-in-Close-clause-made : goal.returns-in-Close-clause-made
returns-in-Close-clause-made c =
    let call = c.close_scope.ensures in
    request_made c.args.evac.now c.close_scope.new.evac c.args.owner _ Close (reply_by c.args.scratch.now c.close_scope.result) (ap as_request (sym c.in-Close.is)) tt c.requires.law c.requires.between
    call.state (call.order ∙ sym (close_keeps (moment_in c.args.evac.now) c.args.owner)) call.round (call.reply c.args.scratch.now) (spent_same c.args.evac.now c.close_scope.new.evac call.device)
    (same_holds c.args.evac.now c.close_scope.new.evac call.device) (λ k p asks. asks)

pub returns-in-Where-clause-made : goal.returns-in-Where-clause-made
returns-in-Where-clause-made c =
    let call = c.find_object.ensures in
    request_made c.args.evac.now c.find_object.new.evac c.args.owner _ (Where c.in-Where.pointer) (reply_by c.find_object.new.scratch c.find_object.result) (ap as_request (sym c.in-Where.is)) tt c.requires.law c.requires.between
    call.state (call.order ∙ sym (where_keeps (moment_in c.args.evac.now) c.args.owner c.in-Where.pointer)) call.round call.reply (spent_same c.args.evac.now c.find_object.new.evac call.device)
    (same_holds c.args.evac.now c.find_object.new.evac call.device) (λ k p asks. asks)

pub returns-in-Drop-clause-made : goal.returns-in-Drop-clause-made
returns-in-Drop-clause-made c =
    let call = c.drop_object.ensures in
    request_made c.args.evac.now c.drop_object.new.evac c.args.owner _ (Drop c.in-Drop.pointer) (reply_by c.args.scratch.now c.drop_object.result) (ap as_request (sym c.in-Drop.is)) tt c.requires.law c.requires.between
    call.state (call.order ∙ sym (drop_keeps (moment_in c.args.evac.now) c.args.owner c.in-Drop.pointer)) call.round (call.reply c.args.scratch.now) call.spent call.holds (λ k p asks. asks)

pub returns-in-Epoch-clause-made : goal.returns-in-Epoch-clause-made
returns-in-Epoch-clause-made c =
    let call = c.read_epoch.ensures in
    request_made c.args.evac.now c.read_epoch.new.evac c.args.owner _ Epoch (reply_by c.args.scratch.now c.read_epoch.result) (ap as_request (sym c.in-Epoch.is)) tt c.requires.law c.requires.between
    call.state (call.order ∙ sym (epoch_keeps (moment_in c.args.evac.now) c.args.owner)) call.round (call.reply c.args.scratch.now) (spent_same c.args.evac.now c.read_epoch.new.evac call.device)
    (same_holds c.args.evac.now c.read_epoch.new.evac call.device) (λ k p asks. asks)

pub returns-in-Try-clause-made : goal.returns-in-Try-clause-made
returns-in-Try-clause-made c =
    let call = c.try_object.ensures in
    subst (λ (r : Request). Makes c.args.evac.now (Mutator c.args.owner r) (reply_by c.args.scratch.now c.try_object.result) c.try_object.new.evac) (ap as_request (sym c.in-Try.is))
    (made_served c.args.evac.now c.try_object.new.evac (Mutator c.args.owner (Try c.in-Try.pointer)) (reply_by c.args.scratch.now c.try_object.result) call.moment (call.reply c.args.scratch.now)
    (spent_same c.args.evac.now c.try_object.new.evac call.device) (same_holds c.args.evac.now c.try_object.new.evac call.device) (λ k p asks far allowed. absurd asks))

pub returns-in-View-clause-made : goal.returns-in-View-clause-made
returns-in-View-clause-made c =
    subst (λ (r : Request). Makes c.args.evac.now (Mutator c.args.owner r) (reply_by c.args.scratch.now c.view_object.result) c.view_object.new.evac) (ap as_request (sym c.in-View.is)) (c.view_object.ensures.made c.args.scratch.now)
