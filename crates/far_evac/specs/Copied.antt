-- A walk where copies may be offered, as it goes if nobody else acts within the call: each job and each object goes as its word says. It is one of those that are allowed.
use Rattle.std.specs.Prelude.{ℕ, ◌+◌, zero, suc, cond, List, [], ◌∷◌}
use Rattle.far_word.specs.declared.sizes.TheConstants.{JOBS}
use Rattle.far_word.specs.Pointer.{read_of}
use Rattle.far_book.specs.book.Collecting.{all_back, all_collected}
use Rattle.far_book.specs.book.Jobs.{has_job}
use Rattle.far_evac.specs.Beside.{At, Before, Behind, CollectsFirst, End, EvacuatesBeside, dealing_of, dealt_by, freed_if, kept_if}
use Rattle.far_evac.specs.ByCopying.{GivesUpBeside}
use Rattle.far_evac.specs.Choosing.{after_aborting}
use Rattle.far_evac.specs.Live.{live_in}
use Rattle.far_evac.specs.Moment.{Moment}
use Rattle.far_evac.specs.Walk.{Walked, begun, ended, is_done}

-- an object is dealt with as its cell says
abbrev pub dealt_beside : Walked → ℕ → Walked
dealt_beside w p = dealt_by w p (dealing_of w.moment.core (read_of (w.moment.core.cell p)))

-- where a walk over objects stands, how many may be dealt with yet, and where it has ended
pub record OverSome : Type 0 where
  pub at : Walked
  pub more : ℕ
  pub end : End

-- these objects are met in turn, and n of them dealt with that have no job that isn't void, or all
abbrev pub over_objects : List ℕ → ℕ → Walked → OverSome
over_objects [] n w = record { at = w; more = n; end = Behind }
over_objects (p ∷ ps) zero w = cond (has_job w.moment.core p) (over_objects ps zero w) (record { at = w; more = 0; end = Before })
over_objects (p ∷ ps) (suc n) w = cond (has_job w.moment.core p) (over_objects ps (suc n) w) (over_objects ps n (dealt_beside w p))

-- where a walk over logs stands, and which it keeps
pub record OverAll : Type 0 where
  pub at : Walked
  pub kept : List ℕ
  pub end : End

-- a log was walked over; this is what comes of those behind it, if the walk has come to its end
abbrev pub with_log : Walked → ℕ → List ℕ → OverAll → End → OverAll
with_log w l ls then Behind = record then { kept = kept_if w l then.kept }
with_log w l ls then Before = record { at = w; kept = l ∷ ls; end = Before }
with_log w l ls then (At p why) = record { at = w; kept = l ∷ ls; end = At p why }

abbrev pub over_logs : List ℕ → ℕ → Walked → OverAll
over_logs [] n w = record { at = w; kept = []; end = Behind }
over_logs (l ∷ ls) n w = let x = over_objects (live_in w.moment.core l) n w in with_log x.at l ls (over_logs ls x.more (freed_if x.at l)) x.end

-- the jobs are collected first
abbrev pub collected_first : Walked → Walked
collected_first w = let x = all_collected w.moment.core JOBS in record { moment = record w.moment { core = x.0 }; tally = record w.tally { moved = w.tally.moved + x.1 } }

-- then the logs are walked over; those that are kept are the collection set
abbrev pub walked_from : Moment → ℕ → Walked → Walked
walked_from m n u = let x = over_logs m.collection n u in record x.at { moment = record x.at.moment { collection = x.kept } }

abbrev pub walked_beside : Moment → ℕ → Walked
walked_beside m n = walked_from m n (collected_first (begun m))

-- jobs that are offered are taken back first
abbrev pub after_recalling : Moment → Moment
after_recalling m = after_aborting (record m { core = all_back m.core JOBS })

-- whatever became of the jobs when they were collected, the walk goes on so; and so do the whole evacuation, and giving up
pub record IsAllowed (m : Moment) (n : ℕ) : Type 0 where
  pub walk : (u : Walked) → CollectsFirst (begun m) u → let w = walked_from m n u in EvacuatesBeside m n (ended w) w.tally (is_done w)
  pub whole : let w = walked_beside m n in EvacuatesBeside m n (ended w) w.tally (is_done w)
  pub gives_up : GivesUpBeside m (after_recalling m)

abbrev pub CopiedIsAllowed : Type 0
CopiedIsAllowed = (m : Moment) (n : ℕ) → IsAllowed m n
