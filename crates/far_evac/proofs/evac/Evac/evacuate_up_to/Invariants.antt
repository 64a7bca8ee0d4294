use Rattle.std.proofs.Common.{◌≡◌, ◌+◌, false, length}
use Rattle.far_device.specs.Following.{Follows, none_of}
use Rattle.far_hand.specs.Came.{Came}
use Rattle.far_evac.specs.declared.phase.Phase.TheVariants as phase
use Rattle.far_evac.specs.AnyHand.{KnowsWalked, WalksTo}
use Rattle.far_evac.specs.Asked.{WalksAsking, first_live}
use Rattle.far_evac.specs.EvacOf.{moment}
use Rattle.far_evac.specs.Leaving.{standing}
use Rattle.far_evac.specs.Walk.{Walked, settled, walked}
use Rattle.far_evac.proofs.evac.Evac.evacuate_up_to.Given as goal

-- the logs in front without live objects may be given back before the next object is dealt with, or when all are
abbrev pub invariant-loop : goal.invariant-loop
invariant-loop g l = record {
  phase : l.self.phase ≡ phase.Evacuating;
  alone : l.self.copying ≡ false;
  walks : (t : Walked) → KnowsWalked (settled (standing g.N.Near.view l.self l.progress)) t → WalksTo (moment g.N.Near.view l.fn.self) l.counter t;
  exact : g.N.Near.still → settled (standing g.N.Near.view l.self l.progress) ≡ walked (moment g.N.Near.view l.fn.self) l.counter;
  freed : l.progress.freed + length l.self.collection ≡ length l.fn.self.collection;
  done : l.progress.done ≡ false;
  asked : (t : Walked) → KnowsWalked (settled (standing g.N.Near.view l.self l.progress)) t → (g.N.Near.still → t ≡ settled (standing g.N.Near.view l.self l.progress)) →
      WalksAsking g.N.Near.still g.row.D.Denot g.D.Device.writes g.D.Device.lets_go (moment g.N.Near.view l.fn.self) l.counter t l.fn.self.book.device l.self.book.device;
  follows : Follows g.D.Device.contents g.D.Device.honest g.D.Device.faults g.D.Device.fails_at_most (none_of (first_live (moment g.N.Near.view l.fn.self) l.counter)) false l.fn.self.book.device l.self.book.device;
  came : Came g.N.Near.makes l.fn.self.book.near l.self.book.near;
}
