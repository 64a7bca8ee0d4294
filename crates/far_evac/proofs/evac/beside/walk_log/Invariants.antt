use Rattle.std.proofs.Common.{◌≡◌, ◌+◌, ◌-◌, ◌≤◌, ◌++◌, List, ℕ, false}
use Rattle.far_word.specs.declared.sizes.TheConstants.{LOG_WORDS}
use Rattle.far_device.specs.Following.{Follows, none_of}
use Rattle.far_events.specs.state.Law.{Law}
use Rattle.far_hand.specs.Came.{Came}
use Rattle.far_book.specs.book.NextLive.{IsBoundary, live_from}
use Rattle.far_book.specs.book.Own.{own_part}
use Rattle.far_evac.specs.Beside.{AsksOnly, Behind, OverObjects, RefusedOnly}
use Rattle.far_evac.specs.BookStands.{KeepsChosen, stands}
use Rattle.far_evac.specs.Live.{live_in, pointers_of}
use Rattle.far_evac.specs.Moment.{objects_in, tally_of}
use Rattle.far_evac.proofs.evac.beside.walk_log.Given as goal

-- the objects in front were met, and those from here on lie as at the start
abbrev pub invariant-loop-found : goal.invariant-loop-found
invariant-loop-found g l = record {
  done : List ℕ;
  parts : live_in (g.N.Near.view l.fn.book.near) l.log ≡ done ++ pointers_of (live_from (g.N.Near.view l.book.near) l.log l.at);
  over : (held : List ℕ) →
      OverObjects g.row.D.Denot (AsksOnly g.row.D.Denot g.D.Device.writes g.D.Device.lets_go g.D.Device.contents) (RefusedOnly g.row.D.Denot g.D.Device.writes g.D.Device.lets_go g.D.Device.contents) done l.n (stands g.N.Near.view l.fn.book l.fn.progress held) (stands g.N.Near.view l.book l.progress held) l.left Behind l.fn.book.device l.book.device;
  keeps : KeepsChosen (g.N.Near.view l.fn.book.near) l.log (g.N.Near.view l.book.near);
  begins : IsBoundary (g.N.Near.view l.book.near) l.log l.at;
  within : l.at ≤ LOG_WORDS;
  law : Law (own_part (g.N.Near.view l.book.near));
  counted : objects_in (tally_of l.progress) ≤ objects_in (tally_of l.fn.progress) + l.at;
  rest : (l.progress.freed ≡ l.fn.progress.freed) × (l.progress.done ≡ l.fn.progress.done);
  follows : Follows g.D.Device.contents g.D.Device.honest g.D.Device.faults g.D.Device.fails_at_most (none_of (live_in (g.N.Near.view l.fn.book.near) l.log)) false l.fn.book.device l.book.device;
  came : Came g.N.Near.makes l.fn.book.near l.book.near;
}

abbrev pub decreases-loop-found : goal.decreases-loop-found
decreases-loop-found g l = LOG_WORDS - l.at
