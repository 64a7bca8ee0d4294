use Rattle.std.proofs.Common.{◌≡◌, ◌∙◌, ap, sym, refl, true, not, rules, arith}
use borrow.Author.Count.{below_more}
use Rattle.far_policy.proofs.Choices.{none_chosen, may_more, room_for, front_more}
use Rattle.far_policy.proofs.Scripts.{may_follow_says}
use Rattle.far_policy.proofs.scripted.ScriptedPolicy.choose.Goals as goal

pub loop-log-init : goal.loop-log-init
loop-log-init c = (rw c.requires.empty (none_chosen c.args.rows.now c.args.most), c.requires.empty, λ k lt. absurd (omega arith))

pub returns-then-not-may_follow-clause-chosen : goal.returns-then-not-may_follow-clause-chosen
returns-then-not-may_follow-clause-chosen c = rw c.clear.ensures (none_chosen c.args.rows.now c.args.most)

pub push-requires : goal.push-requires
push-requires c =
    let says : c.may_follow.result ≡ true = search rules in
    record { room = room_for c.args.rows.now c.args.most c.loop-log.out _ c.requires.rows (may_more c.args.rows.now c.args.most c.loop-log.out _ c.may_follow.result c.loop-log.invariant.0 c.may_follow.ensures says) }

pub loop-log-preserved : goal.loop-log-preserved
loop-log-preserved c =
    let says : c.may_follow.result ≡ true = search rules in
    let choice = may_more c.args.rows.now c.args.most c.loop-log.out _ c.may_follow.result c.loop-log.invariant.0 c.may_follow.ensures says in
    let good = sym (may_follow_says c.args.rows.now c.args.most c.args.self.now.logs.now c.loop-log.out c.loop-log.log-index _ c.may_follow.result c.may_follow.ensures c.loop-log.invariant.1 (omega arith) refl) ∙ ap not says in (
      rw c.push.ensures choice,
      front_more c.args.self.now.logs.now c.loop-log.log-index _ c.loop-log.out c.push.new.self c.push.ensures c.loop-log.invariant.1 (omega arith) refl,
      below_more _ _ c.loop-log.invariant.2 good,
    )
