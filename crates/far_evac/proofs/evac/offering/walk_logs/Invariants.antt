use Rattle.std.proofs.Common.{◌≡◌, ◌+◌, ◌-◌, ◌*◌, ◌≤◌, List, ℕ, false, length, take, drop}
use Rattle.far_word.specs.declared.sizes.TheConstants.{LOG_WORDS}
use Rattle.far_device.specs.Following.{Follows, none_of}
use Rattle.far_hand.specs.Came.{Came}
use Rattle.far_evac.specs.Beside.{AsksOnly, RefusedOnly}
use Rattle.far_evac.specs.BookStands.{stands}
use Rattle.far_evac.specs.Live.{live_among}
use Rattle.far_evac.specs.Moment.{objects_in, tally_of}
use Rattle.far_evac.proofs.OfferingOver.{GoesOn}
use Rattle.far_evac.proofs.OfferingRounds.{KeepsAhead}
use Rattle.far_evac.proofs.evac.offering.walk_logs.Given as goal

-- the logs in front were walked over, and those from here on lie ahead as at the start
abbrev pub invariant-loop-index : goal.invariant-loop-index
invariant-loop-index g l = record {
  within : l.index ≤ length l.logs;
  over : (held : List ℕ) → GoesOn g.row.D.Denot (AsksOnly g.row.D.Denot g.D.Device.writes g.D.Device.lets_go g.D.Device.contents) (RefusedOnly g.row.D.Denot g.D.Device.writes g.D.Device.lets_go g.D.Device.contents)
      l.logs l.n (stands g.N.Near.view l.fn.book l.fn.progress held) l.kept (drop l.index l.logs) l.left (stands g.N.Near.view l.book l.progress held) l.fn.book.device l.book.device;
  walks : KeepsAhead (g.N.Near.view l.fn.book.near) (take l.index l.logs) l.kept (g.N.Near.view l.book.near);
  counted : objects_in (tally_of l.progress) ≤ objects_in (tally_of l.fn.progress) + l.index * LOG_WORDS;
  freed : l.progress.freed ≤ l.fn.progress.freed + l.index;
  done : l.progress.done ≡ l.fn.progress.done;
  few : length l.kept ≤ l.index;
  follows : Follows g.D.Device.contents g.D.Device.honest g.D.Device.faults g.D.Device.fails_at_most (none_of (live_among (g.N.Near.view l.fn.book.near) l.logs)) false l.fn.book.device l.book.device;
  came : Came g.N.Near.makes l.fn.book.near l.book.near;
}

abbrev pub decreases-loop-index : goal.decreases-loop-index
decreases-loop-index g l = length l.logs - l.index
