-- The replies to one mutator's lines, by its own lines alone.
use Rattle.std.specs.Prelude.{◌≡◌, ◌≢◌, ℕ, ◌+◌, ◌/◌, ◌<◌, ◌≤◌, ◌⊎◌, Bool, true, false, ◌==◌, Option, Some, None, List, [], ◌∷◌, length, replicate, slice_range}
use Rattle.std.specs.Bool.{MatchBool}
use Rattle.far_word.specs.declared.refused.Refused.TheVariants.{NoRoom, NoPointer, Length, Closed, AlreadyOpen, NotHeld, Range, Held, Device, Damaged, Marked}
use Rattle.far_word.specs.declared.sizes.TheConstants.{CELLS, LONGEST}
use Rattle.far_events.specs.state.State.{State, put}
use Rattle.far_core.specs.world.WorldOf.{world_of}
use Rattle.far_book.specs.declared.home.Home.{Home}
use Rattle.far_book.specs.declared.home.Home.TheVariants.{Near, Far}
use Rattle.far_text.specs.Command.{Command, New, Open, On, Use, Reads, Writes, Views, Close, Where, Drop, Try, Epoch, Mutator, Book, Evacuator}
use Rattle.far_replay.specs.Commanded.{AsksFor}
use Rattle.far_reply.specs.Reply.{Reply, Done, Pointer, Data, Lies, EpochRead, Refused}
use Rattle.far_alone.specs.Objects.{with_range}
use Rattle.far_alone.specs.Own.{Own, own_of}

-- the range is empty, or passes the end
abbrev pub IsOut : List ℕ → ℕ → ℕ → Type 0
IsOut bytes from count = (count ≡ 0) ⊎ (length bytes < from + count)

abbrev pub IsIn : List ℕ → ℕ → ℕ → Type 0
IsIn bytes from count = (0 < count) × (from + count ≤ length bytes)

-- what it asks for is a part of the object; or it isn't. A view asks for no part
abbrev pub FitsIn : List ℕ → Use → Type 0
FitsIn bytes (Reads from len) = IsIn bytes from len
FitsIn bytes (Writes from new) = IsIn bytes from (length new)
FitsIn bytes Views = Unit {0}

abbrev pub PassesEnd : List ℕ → Use → Type 0
PassesEnd bytes (Reads from len) = IsOut bytes from len
PassesEnd bytes (Writes from new) = IsOut bytes from (length new)
PassesEnd bytes Views = ⊥

-- an object that lies near
abbrev pub IsNear : Home → Type 0
IsNear (Near place marks) = Unit {0}
IsNear (Far marks) = ⊥

-- one of its pointers has no object; or each has one
abbrev pub HasLeft : ℕ → Own → Type 0
HasLeft m o = (p : ℕ) × (p / CELLS ≡ m) × (o.object p ≡ None)

abbrev pub HasAll : ℕ → Own → Type 0
HasAll m o = (p : ℕ) → p / CELLS ≡ m → o.object p ≢ None

-- what it knows after it read, wrote or viewed an object, or was refused that
abbrev pub KnowsUse : Own → ℕ → Reply → Use → Own → Type 0
KnowsUse o p (Refused Closed) how q = (o.opened ≡ false) × (q ≡ o)
KnowsUse o p (Refused NotHeld) how q = (o.opened ≡ true) × (o.object p ≡ None) × (q ≡ o)
KnowsUse o p (Refused Range) how q = (o.opened ≡ true) × (q ≡ o) × ((all : List ℕ) × (o.object p ≡ Some all) × PassesEnd all how)
KnowsUse o p (Refused NoRoom) how q = (o.opened ≡ true) × (o.viewed p ≡ false) × (q ≡ o) × ((all : List ℕ) × (o.object p ≡ Some all) × FitsIn all how)
KnowsUse o p (Refused Device) how q = (o.opened ≡ true) × (o.viewed p ≡ false) × (q ≡ o) × ((all : List ℕ) × (o.object p ≡ Some all) × FitsIn all how)
KnowsUse o p (Refused Damaged) how q = (o.opened ≡ true) × (o.viewed p ≡ false) × (q ≡ o) × ((all : List ℕ) × (o.object p ≡ Some all) × FitsIn all how)
KnowsUse o p (Data bytes) (Reads from len) q = (o.opened ≡ true) × (q ≡ record o { viewed = put o.viewed p true }) × ((all : List ℕ) × (o.object p ≡ Some all) × IsIn all from len × (bytes ≡ slice_range all from (from + len)))
KnowsUse o p Done (Writes from new) q = (o.opened ≡ true) × ((all : List ℕ) × (o.object p ≡ Some all) × IsIn all from (length new) × (q ≡ record o { object = put o.object p (Some (with_range all from new)); viewed = put o.viewed p true }))
KnowsUse o p Done Views q = (o.opened ≡ true) × (q ≡ record o { viewed = put o.viewed p true }) × ((all : List ℕ) × (o.object p ≡ Some all))
KnowsUse o p _ _ q = ⊥

-- a command of the mutator m with its reply takes what it knows from o to q. A refusal is the first of its row that applies; so 3 comes exactly where nothing earlier applies and all
-- its objects exist. Which of its own numbers a new object gets, whether 2, and then 10 or 11, comes where nothing earlier applies, where an object is, and whether a mark keeps it from being viewed, depends on cells and
-- logs, which it doesn't know, but that what it views is near and needs no pin
abbrev pub Knows : ℕ → Own → Command → Reply → Own → Type 0
Knows m o (Mutator _ (New len ds)) (Pointer p) q = (ds < 256) × (0 < len) × (len ≤ LONGEST) × (p / CELLS ≡ m) × (o.object p ≡ None) × (q ≡ record o { object = put o.object p (Some (replicate len 0)) })
Knows m o (Mutator _ (New len ds)) (Refused Range) q = (256 ≤ ds) × (q ≡ o)
Knows m o (Mutator _ (New len ds)) (Refused Length) q = (ds < 256) × ((len ≡ 0) ⊎ (LONGEST < len)) × (q ≡ o)
Knows m o (Mutator _ (New len ds)) (Refused NoPointer) q = (ds < 256) × (0 < len) × (len ≤ LONGEST) × HasAll m o × (q ≡ o)
Knows m o (Mutator _ (New len ds)) (Refused NoRoom) q = (ds < 256) × (0 < len) × (len ≤ LONGEST) × HasLeft m o × (q ≡ o)
Knows m o (Mutator _ Open) Done q = (o.opened ≡ false) × (q ≡ record o { opened = true })
Knows m o (Mutator _ Open) (Refused AlreadyOpen) q = (o.opened ≡ true) × (q ≡ o)
Knows m o (Mutator _ Close) Done q = (o.opened ≡ true) × (q ≡ record o { opened = false; viewed = λ _. false })
Knows m o (Mutator _ Close) (Refused Closed) q = (o.opened ≡ false) × (q ≡ o)
Knows m o (Mutator _ (On p how)) r q = KnowsUse o p r how q
Knows m o (Mutator _ (Where p)) (Lies home) q = (q ≡ o) × (o.viewed p ≡ true → IsNear home) × ((all : List ℕ) × (o.object p ≡ Some all))
Knows m o (Mutator _ (Where p)) (Refused NotHeld) q = (o.object p ≡ None) × (q ≡ o)
Knows m o (Mutator _ (Drop p)) Done q = (o.viewed p ≡ false) × (q ≡ record o { object = put o.object p None }) × ((all : List ℕ) × (o.object p ≡ Some all))
Knows m o (Mutator _ (Drop p)) (Refused NotHeld) q = (o.object p ≡ None) × (q ≡ o)
Knows m o (Mutator _ (Drop p)) (Refused Held) q = (o.viewed p ≡ true) × (q ≡ o) × ((all : List ℕ) × (o.object p ≡ Some all))
Knows m o (Mutator _ (Try p)) Done q = (o.opened ≡ true) × (q ≡ record o { viewed = put o.viewed p true }) × ((all : List ℕ) × (o.object p ≡ Some all))
Knows m o (Mutator _ (Try p)) (Refused Closed) q = (o.opened ≡ false) × (q ≡ o)
Knows m o (Mutator _ (Try p)) (Refused NotHeld) q = (o.opened ≡ true) × (o.object p ≡ None) × (q ≡ o)
Knows m o (Mutator _ (Try p)) (Refused (Marked word)) q = (o.opened ≡ true) × (o.viewed p ≡ false) × (q ≡ o) × ((all : List ℕ) × (o.object p ≡ Some all))
Knows m o (Mutator _ Epoch) (EpochRead epoch) q = (o.opened ≡ false) × (q ≡ o)
Knows m o (Mutator _ Epoch) (Refused AlreadyOpen) q = (o.opened ≡ true) × (q ≡ o)
Knows m o _ _ q = ⊥

-- where a device may lie, a mutator may be given other bytes of an object that it doesn't view, as many as it has: so it may be whenever it asks for them, since it doesn't know which
-- objects are far
pub record IsMisled (m : ℕ) (o : Own) (c : Command) (r : Reply) (q : Own) : Type 0 where
  pub p : ℕ
  pub asks : AsksFor m p c
  pub free : o.viewed p ≡ false
  pub old : List ℕ
  pub new : List ℕ
  pub had : o.object p ≡ Some old
  pub long : length new ≡ length old
  pub knows : Knows m (record o { object = put o.object p (Some new) }) c r q

-- what it knows then, of a device that tells what was written; and of one that may not
abbrev pub KnowsBy : Bool → ℕ → Own → Command → Reply → Own → Type 0
KnowsBy true m o c r q = Knows m o c r q
KnowsBy false m o c r q = Knows m o c r q ⊎ IsMisled m o c r q

-- whose command it is, none's for an inquiry and for a step of the evacuator
abbrev pub speaker : Command → Option ℕ
speaker (Mutator m request) = Some m
speaker (Book inquiry) = None
speaker (Evacuator step) = None

abbrev pub is_by : ℕ → Option ℕ → Bool
is_by m None = false
is_by m (Some k) = k == m

-- the replies to the mutator's own lines, from what it knows on; lines of others change nothing
abbrev pub Alone : Bool → ℕ → Own → List Command → List Reply → Type 0
Alone honest m o [] [] = Unit {0}
Alone honest m o (c ∷ cs) (r ∷ rs) = MatchBool (is_by m (speaker c)) ((q : Own) × KnowsBy honest m o c r q × Alone honest m q cs rs) (Alone honest m o cs rs)
Alone honest m o _ _ = ⊥

-- what the mutator m learns of a command: what its reply says, where it is its own; else nothing
abbrev pub Learns : State → ℕ → Command → Reply → State → Type 0
Learns s m c r t = MatchBool (is_by m (speaker c)) (KnowsBy s.honest m (own_of (world_of s) m) c r (own_of (world_of t) m)) (own_of (world_of t) m ≡ own_of (world_of s) m)
