-- The state of a core: the shared words, and what each owner and the book know of them.
use Rattle.std.specs.Prelude.{ℕ, Bool, cond, ◌==◌, ◌+◌, ◌*◌, Option}
use Rattle.far_word.specs.declared.pointer.Place.{Place}
use Rattle.far_word.specs.declared.sizes.TheConstants.{LOG_WORDS}
use Rattle.far_events.specs.declared.event.Kind.{Kind}
use Rattle.far_events.specs.declared.event.Task.{Task}

-- What is copied outside the lock: 16 jobs, at most 8 copiers
pub record Copying : Type 0 where
  -- whether copiers may have jobs, for good
  pub has_copiers : Bool
  -- the shared words of the jobs
  pub word : ℕ → ℕ
  -- the book's view of a job: the epoch of the round in which it was offered, and whether its pointer was named to its target
  pub since : ℕ → ℕ
  pub named : ℕ → Bool
  -- a copier's view: its job, the length that it has read in the source's header, the words that it has read, those that it has written
  pub task : ℕ → Option Task
  pub length : ℕ → Option ℕ
  pub read : ℕ → ℕ → Option ℕ
  pub written : ℕ → ℕ → Bool

-- A state says what stands where, by functions. Owners have numbers below mutators, logs below logs; pointer p is of
-- the owner p / CELLS; word i of log l is the word l * LOG_WORDS + i
pub record State : Type 0 where
  -- the shape, and whether the far side gives back what it was given
  pub mutators : ℕ
  pub logs : ℕ
  pub honest : Bool
  -- the shared words: the epoch, an owner's scope, a pointer's cell, the words of the logs
  pub epoch : ℕ
  pub scope : ℕ → ℕ
  pub cell : ℕ → ℕ
  pub word : ℕ → ℕ
  -- an owner's view: the epoch that it has read, the cells that it uses, the places that it holds, what it has soiled of
  -- these since it opened
  pub remembered : ℕ → Option ℕ
  pub used : ℕ → Bool
  pub held : ℕ → Option Place
  pub soiled : ℕ → Bool
  -- the book's view: the kind and the tail of each log, the open log, where a span's header stands
  pub kind : ℕ → Kind
  pub tail : ℕ → ℕ
  pub current : ℕ
  pub starts : ℕ → Bool
  -- the round: its logs, its epoch, the owners that were seen clear in it
  pub round : ℕ → Bool
  pub round_epoch : ℕ
  pub clear : ℕ → Bool
  -- the words of each object that is far, or near without DIRTY, as they were stored: word i of pointer p
  pub stored : ℕ → ℕ → ℕ
  -- the jobs and the copiers
  pub copying : Copying

-- a function with v at k
abbrev pub put : {X : Type 0} → (ℕ → X) → ℕ → X → ℕ → X
put f k v q = cond (q == k) v (f q)

-- the word where a place's header stands
abbrev pub addr : Place → ℕ
addr place = place.log * LOG_WORDS + place.at
