use Rattle.std.proofs.Common.{◌≡◌, ◌+◌, cond, false, length}
use Rattle.far_hand.specs.Came.{Came}
use Rattle.far_evac.specs.declared.phase.Phase.TheVariants as phase
use Rattle.far_evac.specs.AnyHand.{KnowsWalked}
use Rattle.far_evac.specs.Leaving.{standing}
use Rattle.far_evac.specs.Live.{is_empty}
use Rattle.far_evac.specs.Walk.{settled}
use Rattle.far_evac.proofs.evac.Evac.settle.Given as goal

abbrev pub invariant-loop-log : goal.invariant-loop-log
invariant-loop-log g l = record {
  known : KnowsWalked (settled (standing g.N.Near.view l.fn.self l.fn.progress)) (settled (standing g.N.Near.view l.self l.progress));
  exact : g.N.Near.still → settled (standing g.N.Near.view l.self l.progress) ≡ settled (standing g.N.Near.view l.fn.self l.fn.progress);
  ends : l.self.phase ≡ cond (is_empty l.self.collection) phase.Idle phase.Evacuating;
  freed : l.progress.freed + length l.self.collection ≡ l.fn.progress.freed + length l.fn.self.collection;
  alone : l.self.copying ≡ false;
  done : l.progress.done ≡ l.fn.progress.done;
  device : l.self.book.device ≡ l.fn.self.book.device;
  came : Came g.N.Near.makes l.fn.self.book.near l.self.book.near;
}

abbrev pub decreases-loop-log : goal.decreases-loop-log
decreases-loop-log g l = length l.self.collection
