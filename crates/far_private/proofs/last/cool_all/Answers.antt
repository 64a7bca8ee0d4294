use Rattle.std.proofs.Common.{◌∙◌, ap, arith, subst, sym, take}
use Rattle.far_private.specs.LastRound.{IsCold}
use Rattle.far_private.specs.Objects.{state_in}
use Rattle.far_private.proofs.Cooling.{all_cold, cooled_bare, cooled_below}
use Rattle.far_private.proofs.Keeping.{keeps_both, settled_on}
use Rattle.far_private.proofs.LastRounds.{same_more}
use Rattle.far_private.proofs.last.cool_all.Goals as goal

pub loop-pointer-preserved : goal.loop-pointer-preserved
loop-pointer-preserved g c =
    let s = state_in c.loop-pointer.evac in
    let t = state_in c.cool_one.new.evac in
    let inv = c.loop-pointer.invariant in
    let x = c.cool_one.ensures.cooled in
    record {
      keeps = keeps_both (state_in c.args.evac.now) s t inv.keeps c.cool_one.ensures.keeps;
      phase = c.cool_one.ensures.phase ∙ inv.phase;
      order = c.cool_one.ensures.order ∙ inv.order;
      logs = same_more (state_in c.args.evac.now) s t inv.logs x.logs;
      bare = cooled_bare s t c.loop-pointer.pointer x _ inv.bare;
      cool = cooled_below s t c.loop-pointer.pointer x c.cool_one.ensures.keeps inv.cool;
    }

pub returns : goal.returns
returns g c =
    let s = state_in c.loop-pointer.evac in
    let inv = c.loop-pointer.invariant in
    record {
      keeps = inv.keeps;
      phase = inv.phase;
      order = inv.order;
      logs = inv.logs;
      cold = subst (IsCold s) (ap (take 2) (sym inv.order))
          (all_cold s (take 2 c.args.evac.now.book.order) c.loop-pointer.evac.book.near.core.law (settled_on (state_in c.args.evac.now) s c.requires.settled inv.keeps) inv.bare (λ q lt used. inv.cool q (omega (arith, lt, c.loop-pointer-test.false)) used));
    }
