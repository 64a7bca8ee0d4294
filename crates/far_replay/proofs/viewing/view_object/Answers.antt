use Rattle.std.proofs.Common.{◌≡◌, ◌/◌, true, ap, refl, subst, sym, ◌∙◌}
use Rattle.far_word.specs.declared.sizes.TheConstants.{CELLS}
use Rattle.far_core.specs.declared.machine.Core.{Core}
use Rattle.far_events.specs.events.Step.{is_opened}
use Rattle.far_core.specs.state.CoreState.{core_state}
use Rattle.far_text.specs.Command.{Mutator, On, Views}
use Rattle.far_replay.specs.Moment.{moment_in, state_in}
use Rattle.far_reply.specs.Reply.{Done, Refused}
use Rattle.far_replay.specs.Spent.{Makes}
use Rattle.far_replay.proofs.Given.{view_makes}
use Rattle.far_replay.proofs.RangeTurns.{view_cause}
use Rattle.far_replay.proofs.Unbrought.{IsVain, vain_made}
use Rattle.far_replay.proofs.viewing.view_object.Goals.{In-Err}
use Rattle.far_replay.proofs.viewing.view_object.Goals as goal

pub returns-in-Ok-clause-made : goal.returns-in-Ok-clause-made
returns-in-Ok-clause-made c = λ scratch.
    let own = c.in-Some.ensures.own in
    let opened : is_opened (state_in c.args.evac.now) c.args.owner ≡ true = ap (λ (x : Core). is_opened (core_state x) c.args.owner) (sym c.core_of.ensures) ∙ sym c.is_open.ensures ∙ c.if-not-is_open.false in
    let mine = ap (λ q. q / CELLS) own.0 ∙ own.1 in
    let used : (state_in c.args.evac.now).used c.in-Some.pointer ≡ true = ap (state_in c.args.evac.now).used own.0 ∙ own.2 in
    let (o, x) = c.in-Ok.ensures.done in
    subst (λ q. Makes c.args.evac.now (Mutator c.args.owner (On q Views)) Done c.dereference.new.evac) own.0
    (view_makes c.args.evac.now c.dereference.new.evac c.args.owner c.in-Some.pointer o c.args.evac.now.book.near.core.law opened mine used x c.dereference.ensures.round c.dereference.ensures.same)

vain : (c : In-Err) → IsVain c.args.evac.now c.dereference.new.evac c.args.owner c.in-Some.pointer (Mutator c.args.owner (On c.in-Some.pointer Views)) c.in-Err.why
vain c =
    let own = c.in-Some.ensures.own in
    let opened : is_opened (state_in c.args.evac.now) c.args.owner ≡ true = ap (λ (x : Core). is_opened (core_state x) c.args.owner) (sym c.core_of.ensures) ∙ sym c.is_open.ensures ∙ c.if-not-is_open.false in
    let mine = ap (λ q. q / CELLS) own.0 ∙ own.1 in
    let used : (state_in c.args.evac.now).used c.in-Some.pointer ≡ true = ap (state_in c.args.evac.now).used own.0 ∙ own.2 in
    let cause = view_cause (moment_in c.args.evac.now) (moment_in c.dereference.new.evac) c.args.owner c.in-Some.pointer opened mine used in
    let call = c.in-Err.ensures in
    record { asks = (refl, refl); opened = opened; own = mine; used = used; cause = cause; stops = λ h. h; leaves = refl; refuses = call.refused; far = call.far; shut = call.shut; round = c.dereference.ensures.round; spent = call.spent; same = c.dereference.ensures.same }

pub returns-in-Err-clause-made : goal.returns-in-Err-clause-made
returns-in-Err-clause-made c = λ scratch.
    subst (λ q. Makes c.args.evac.now (Mutator c.args.owner (On q Views)) (Refused c.in-Err.why) c.dereference.new.evac) c.in-Some.ensures.own.0 (vain_made (vain (goal.at.returns-in-Err-clause-made c).In-Err))
