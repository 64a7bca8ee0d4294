-- What a worker's statistics come to, heap by heap.
use Rattle.std.specs.Prelude.{◌≡◌, ℕ, ◌+◌, ◌*◌, ◌/◌, ◌==◌, ◌<◌, nat_lt, max, min, Option, Some, None, if◌then◌else◌}
use Rattle.far_private.specs.declared.counting.Statistics.{Statistics}
use Rattle.far_pool.specs.declared.statistics.WorkerStatistics.{WorkerStatistics}

-- a sum that stays at the largest number there is
abbrev pub sum_of : ℕ → ℕ → ℕ
sum_of all more = min (all + more) 18446744073709551615

-- the next heap's device failed so often: it is the worst one if that is more often than each before
abbrev pub compared : ℕ → WorkerStatistics → WorkerStatistics
compared faults s = record s { worst = if nat_lt s.worst_faults faults then Some s.heaps else s.worst; worst_faults = max s.worst_faults faults }

-- with one heap more
pub record Adds (all : WorkerStatistics) (more : Statistics) (now : WorkerStatistics) : Type 0 where
  pub heaps : all.heaps < 4294967295 → now.heaps ≡ all.heaps + 1
  pub near : now.near ≡ all.near + more.near
  pub far : now.far ≡ all.far + more.far
  pub live : now.live ≡ sum_of all.live more.live
  pub dead : now.dead ≡ sum_of all.dead more.dead
  pub unused : now.unused ≡ sum_of all.unused more.unused
  pub far_bytes : now.far_bytes ≡ sum_of all.far_bytes more.far_bytes
  pub accesses : now.accesses ≡ all.accesses
  pub fetches : now.fetches ≡ sum_of all.fetches more.fetches
  pub looks : now.looks ≡ sum_of all.looks more.looks
  pub evictions : now.evictions ≡ sum_of all.evictions more.evictions
  pub writes_spared : now.writes_spared ≡ sum_of all.writes_spared more.writes_spared
  pub moves : now.moves ≡ sum_of all.moves more.moves
  pub rounds : now.rounds ≡ sum_of all.rounds more.rounds
  pub device_faults : now.device_faults ≡ sum_of all.device_faults more.device_faults
  pub worst : now.worst ≡ (compared more.device_faults all).worst
  pub worst_faults : now.worst_faults ≡ (compared more.device_faults all).worst_faults

-- far objects that were read in a thousand accesses, near or where they lie, none if there was no access
abbrev pub misses_per_thousand : WorkerStatistics → ℕ
misses_per_thousand s = if s.accesses == 0 then 0 else (s.fetches + s.looks) * 1000 / s.accesses

-- of so many heaps one is told as the worst, whose device failed so often; or no device failed
abbrev pub IsWorst : ℕ → Option ℕ → ℕ → Type 0
IsWorst heaps (Some heap) faults = (heap < heaps) × (0 < faults)
IsWorst heaps None faults = faults ≡ 0
