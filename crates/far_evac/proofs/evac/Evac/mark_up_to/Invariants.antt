use Rattle.std.proofs.Common.{◌≡◌, ◌≤◌, length}
use Rattle.far_hand.specs.Came.{Came}
use Rattle.far_evac.specs.AnyHand.{KnowsMoment}
use Rattle.far_evac.specs.EvacOf.{moment}
use Rattle.far_evac.specs.Live.{lacking}
use Rattle.far_evac.specs.Marking.{marked_core}
use Rattle.far_evac.proofs.evac.Evac.mark_up_to.Given as goal

abbrev pub invariant-loop-i : goal.invariant-loop-i
invariant-loop-i g l = record {
  known : KnowsMoment (record (moment g.N.Near.view l.fn.self) { core = marked_core (moment g.N.Near.view l.fn.self) l.i }) (moment g.N.Near.view l.self);
  exact : g.N.Near.still → moment g.N.Near.view l.self ≡ record (moment g.N.Near.view l.fn.self) { core = marked_core (moment g.N.Near.view l.fn.self) l.i };
  device : l.self.book.device ≡ l.fn.self.book.device;
  enough : l.i ≤ length (lacking (g.N.Near.view l.fn.self.book.near) l.fn.self.collection);
  came : Came g.N.Near.makes l.fn.self.book.near l.self.book.near;
}
