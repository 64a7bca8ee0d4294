-- What the seats know, as plain data. Rows are pairs of a number and what stands there, newest first; what was written over stays behind.
use Rattle.std.specs.Prelude.{ℕ, Bool, Option, None, List, [], ◌++◌, map, slice_set}
use Rattle.far_word.specs.declared.pointer.Place.{Place}
use Rattle.far_events.specs.declared.event.Kind.{Kind}
use Rattle.far_events.specs.declared.event.Task.{Task}

-- what an owner knows of an object that it uses: its length, its data structure, and its words, 0 where no row has one
pub record ObjectView : Type 0 where
  pub len : ℕ
  pub ds : ℕ
  pub words : List (ℕ × ℕ)

-- what an owner's seat knows
pub record OwnerView : Type 0 where
  pub number : ℕ
  -- whether the far side gives back what it was given
  pub honest : Bool
  -- how many logs the heap has
  pub logs : ℕ
  -- the epoch that was read for the next scope, or for the open one
  pub epoch : Option ℕ
  -- the epoch at which the scope is open
  pub open_at : Option ℕ
  -- the objects that the owner uses, by pointers
  pub objects : List (ℕ × Option ObjectView)
  -- the places that it holds, by pointers
  pub held : List (ℕ × Option Place)
  -- how often it has set MOVE anew, and how often DROP, by pointers
  pub asked : List (ℕ × ℕ)
  pub dropped : List (ℕ × ℕ)
  -- how often it has set HOT anew, by pointers
  pub heated : List (ℕ × ℕ)
  -- how often it has set DIRTY anew, by pointers
  pub dirtied : List (ℕ × ℕ)
  -- the pointers whose places it holds by a pin, since its scope was opened
  pub pinned : List (ℕ × Bool)
  -- the pointers whose objects it has soiled, since its scope was opened
  pub soiled : List (ℕ × Bool)
  -- the words that its pins, soilings, adoptions and requests found, by pointers. No tie is of them: what a call answers is the word as it stood
  pub found : List (ℕ × ℕ)

-- what a copier's seat knows
pub record CopierView : Type 0 where
  pub number : ℕ
  -- how many logs the heap has
  pub logs : ℕ
  -- the job that it has
  pub task : Option Task
  -- the length that it has read in the header of the job's source
  pub length : Option ℕ
  -- the words that it has read of the source, and those that it has written to the target, by their numbers
  pub read : List (ℕ × Option ℕ)
  pub written : List (ℕ × Bool)
  -- the words that its looks at jobs found, and the exchanges that it lost there, by the jobs' numbers. No tie is of them
  pub seen : List (ℕ × ℕ)

-- what the seat of another than the book knows
pub data Role : Type 0 where
  AsOwner : OwnerView → Role
  AsCopier : CopierView → Role

-- what the book's seat knows
pub record BookView : Type 0 where
  pub mutators : ℕ
  pub logs : ℕ
  pub honest : Bool
  pub epoch : ℕ
  -- the word last found or left in each cell
  pub cells : List (ℕ × ℕ)
  pub kinds : List (ℕ × Kind)
  pub tails : List (ℕ × ℕ)
  pub current : ℕ
  -- the headers of placed spans, by addresses
  pub heads : List (ℕ × Option ℕ)
  -- other words of the logs that are known, by addresses: those that were put past tails, and those read of quiet objects
  pub known : List (ℕ × ℕ)
  -- the logs that the round began with, a bit each
  pub chosen : ℕ
  -- the logs whose part in the round has changed since
  pub round : List (ℕ × Bool)
  -- the owners that were seen clear in the round
  pub clear : List (ℕ × Bool)
  -- the words that were stored of each object, by pointers
  pub stored : List (ℕ × List (ℕ × ℕ))
  -- how often it has taken MOVE away, and how often it has retired an object, by pointers
  pub taken : List (ℕ × ℕ)
  pub retired : List (ℕ × ℕ)
  -- how often it has taken HOT away, by pointers
  pub cooled : List (ℕ × ℕ)
  -- how often a naming of it left DIRTY, and how often one found it, by pointers
  pub stained : List (ℕ × ℕ)
  pub cleaned : List (ℕ × ℕ)
  -- the word last found or left in each job, the epoch of the round in which it was offered, and whether its pointer was named to its target
  pub jobs : List (ℕ × ℕ)
  pub since : List (ℕ × ℕ)
  pub named : List (ℕ × Bool)
  -- who has no seat yet, first who gets one first
  pub rest : List Role

-- what a seat knows
pub data View : Type 0 where
  Book : BookView → View
  Owner : OwnerView → View
  Copier : CopierView → View

-- a copier that has no job
abbrev pub idle : ℕ → CopierView
idle c = record { number = c; logs = 0; task = None; length = None; read = []; written = []; seen = [] }

-- what stands where nobody knows anything
abbrev pub no_view : View
no_view = Copier (idle 0)

-- ---- all others than the book
-- what their seats know, by number
pub record OtherViews : Type 0 where
  pub owners : List OwnerView
  pub copiers : List CopierView

abbrev pub seat_of : Role → View
seat_of (AsOwner o) = Owner o
seat_of (AsCopier c) = Copier c

-- in the order in which they get their seats
abbrev pub roles : OtherViews → List Role
roles os = map AsCopier os.copiers ++ map AsOwner os.owners

-- the views once an owner's is another, and once a copier's is
abbrev pub with_owner : OtherViews → ℕ → OwnerView → OtherViews
with_owner os m o = record os { owners = slice_set os.owners m o }

abbrev pub with_copier : OtherViews → ℕ → CopierView → OtherViews
with_copier os c v = record os { copiers = slice_set os.copiers c v }
