-- So many turns were made, after which the round isn't over; what they counted is told.
use Rattle.std.proofs.Common.{◌≡◌, false, List, length}
use Rattle.far_evac.specs.AnyTurns.{sum_of}
use Rattle.far_evac.specs.Moment.{Tally, progress_of}
use Rattle.far_heap.specs.Rounds.{TurnsMade, told_of}
use Rattle.far_heap.proofs.heap.Heap.make_turns.Given as goal

abbrev pub invariant-loop : goal.invariant-loop
invariant-loop g l = (tallies : List Tally) × (length tallies ≡ l.counter) × TurnsMade g.D.Device.writes g.D.Device.lets_go g.D.Device.contents g.K.HeapName.heap l.fn.chosen tallies false l.phase × (l.total ≡ progress_of (told_of (sum_of tallies)) false)
