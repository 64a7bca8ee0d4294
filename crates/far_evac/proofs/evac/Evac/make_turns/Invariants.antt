use Rattle.std.proofs.Common.{◌≡◌, true, false}
use Rattle.far_device.specs.Following.{Follows}
use Rattle.far_evac.specs.Failing.{no_key}
use Rattle.far_hand.specs.Came.{Came}
use Rattle.far_evac.specs.EvacOf.{moment}
use Rattle.far_evac.specs.Moment.{tally_of}
use Rattle.far_evac.specs.MomentLaw.{is_idle}
use Rattle.far_evac.specs.Turning.{IsCountedIn, IsWithin, turned_at}
use Rattle.far_evac.specs.Turns.{turns_made}
use Rattle.far_evac.proofs.TurnsOn.{Made}
use Rattle.far_evac.proofs.evac.Evac.make_turns.Given as goal

abbrev pub invariant-loop : goal.invariant-loop
invariant-loop g l = record {
  made : Made g.N.Near.still g.row.D.Denot g.D.Device.writes g.D.Device.lets_go g.D.Device.contents (moment g.N.Near.view l.fn.self) (moment g.N.Near.view l.self) l.counter (tally_of l.total) l.fn.self.book.device l.self.book.device;
  exact : g.N.Near.still → turns_made (moment g.N.Near.view l.fn.self) l.counter ≡ turned_at (moment g.N.Near.view l.self) (tally_of l.total) false;
  within : l.self.copying ≡ false → IsWithin (moment g.N.Near.view l.self) (tally_of l.total);
  few : l.self.copying ≡ true → IsCountedIn l.counter (tally_of l.total);
  copying : l.self.copying ≡ l.fn.self.copying;
  runs : is_idle l.self.phase ≡ false;
  follows : Follows g.D.Device.contents g.D.Device.honest g.D.Device.faults g.D.Device.fails_at_most no_key false l.fn.self.book.device l.self.book.device;
  came : Came g.N.Near.makes l.fn.self.book.near l.self.book.near;
}
