-- The steps of the world. Each is a relation between the world before and the world after, which it determines
-- but for the bytes that a far side that isn't honest gives back.
use Rattle.std.specs.Prelude.{◌≡◌, ◌≢◌, ℕ, ◌*◌, ◌/◌, ◌<◌, ◌≤◌, true, false, cond, ◌==◌, ◌||◌, Some, None, List, length, replicate, is_some, slice_index}
use Rattle.far_word.specs.declared.sizes.TheConstants.{CELLS, LONGEST}
use Rattle.far_word.specs.Bytes.{packed_word, with_word}
use Rattle.far_events.specs.state.State.{put}
use Rattle.far_core.specs.world.World.{World, Object, Home, Group, FarSide}

-- the object with other bytes, or another home
abbrev pub with_bytes : Object → List ℕ → Object
with_bytes o bytes = record { owner = o.owner; ds = o.ds; bytes = bytes; home = o.home }

abbrev pub with_home : Object → Home → Object
with_home o home = record { owner = o.owner; ds = o.ds; bytes = o.bytes; home = home }

-- a new object: a number that isn't in the map gets zeros in a group, unmarked; the group is held from then on
pub record Makes (w : World) (p len ds group : ℕ) (v : World) : Type 0 where
  pub fresh : w.object p ≡ None
  pub some : 0 < len
  pub most : len ≤ LONGEST
  pub after : v ≡ record w {
    object = put w.object p (Some record { owner = p / CELLS; ds = ds; bytes = replicate len 0; home = Group group });
    marked = put w.marked p false;
    group = put w.group group true;
  }

-- a closed owner opens its scope
pub record Opens (w : World) (m : ℕ) (v : World) : Type 0 where
  pub closed : w.opened m ≡ false
  pub after : v ≡ record w { opened = put w.opened m true }

-- an open owner closes its scope, and views nothing from then on
pub record Closes (w : World) (m : ℕ) (v : World) : Type 0 where
  pub open_before : w.opened m ≡ true
  pub after : v ≡ record w { opened = put w.opened m false; viewed = λ p. cond (p / CELLS == m) false (w.viewed p) }

-- an open owner views an object of its own that is near and unmarked, or one that it views already
pub record Views (w : World) (m p : ℕ) (v : World) : Type 0 where
  pub open_owner : w.opened m ≡ true
  pub own : p / CELLS ≡ m
  pub near : w.viewed p ≡ false → (o : Object) × (g : ℕ) × (w.object p ≡ Some o) × (o.owner ≡ m) × (o.home ≡ Group g)
  pub unmarked : w.viewed p ≡ false → w.marked p ≡ false
  pub after : v ≡ record w { viewed = put w.viewed p true }

-- word i of an object that its owner views: bytes 8i to 8i + 7, little end first, zeros past the end
pub record Reads (w : World) (m p i word : ℕ) (v : World) : Type 0 where
  pub own : p / CELLS ≡ m
  pub viewed : w.viewed p ≡ true
  pub found : (o : Object) × (w.object p ≡ Some o) × (8 * i < length o.bytes) × (word ≡ packed_word o.bytes i)
  pub after : v ≡ w

-- those bytes of an object that its owner views become the word's; all other bytes, objects and sets stay
pub record Writes (w : World) (m p i word : ℕ) (v : World) : Type 0 where
  pub own : p / CELLS ≡ m
  pub viewed : w.viewed p ≡ true
  pub changed : (o : Object) × (w.object p ≡ Some o) × (8 * i < length o.bytes)
      × (v ≡ record w { object = put w.object p (Some (with_bytes o (with_word o.bytes i word))) })

-- an object is marked, or its mark is taken away; a number that isn't in the map stays as it is
abbrev pub Marks : World → ℕ → World → Type 0
Marks w p v = v ≡ record w { marked = λ q. cond (q == p) (is_some (w.object p) || w.marked p) (w.marked q) }

abbrev pub Unmarks : World → ℕ → World → Type 0
Unmarks w p v = v ≡ record w { marked = λ q. cond (q == p) (cond (is_some (w.object p)) false (w.marked p)) (w.marked q) }

-- a near object that nobody views goes to a group, unmarked; its bytes stay, and the group is held from then on
pub record Moves (w : World) (p group : ℕ) (v : World) : Type 0 where
  pub unviewed : w.viewed p ≡ false
  pub moved : (o : Object) × (from : ℕ) × (w.object p ≡ Some o) × (o.home ≡ Group from)
      × (v ≡ record w { object = put w.object p (Some (with_home o (Group group))); marked = put w.marked p false; group = put w.group group true })

-- a near object that nobody views goes to the far side, unmarked; its bytes stay
pub record GoesFar (w : World) (p : ℕ) (v : World) : Type 0 where
  pub unviewed : w.viewed p ≡ false
  pub gone : (o : Object) × (from : ℕ) × (w.object p ≡ Some o) × (o.home ≡ Group from)
      × (v ≡ record w { object = put w.object p (Some (with_home o FarSide)); marked = put w.marked p false })

-- a far object that nobody views comes to a group, unmarked; its bytes stay in an honest world, their number in any
pub record ComesNear (w : World) (p group : ℕ) (v : World) : Type 0 where
  pub unviewed : w.viewed p ≡ false
  pub come : (o : Object) × (bytes : List ℕ) × (w.object p ≡ Some o) × (o.home ≡ FarSide)
      × (length bytes ≡ length o.bytes) × ((k : ℕ) → slice_index bytes k < 256) × (w.honest ≡ true → bytes ≡ o.bytes)
      × (v ≡ record w { object = put w.object p (Some record { owner = o.owner; ds = o.ds; bytes = bytes; home = Group group }); marked = put w.marked p false; group = put w.group group true })

-- an object that its owner doesn't view leaves the map and the marked numbers
pub record Drops (w : World) (m p : ℕ) (v : World) : Type 0 where
  pub own : p / CELLS ≡ m
  pub unviewed : w.viewed p ≡ false
  pub there : is_some (w.object p) ≡ true
  pub after : v ≡ record w { object = put w.object p None; marked = put w.marked p false }

-- a held group in which no object is, is held no longer
pub record Releases (w : World) (group : ℕ) (v : World) : Type 0 where
  pub held : w.group group ≡ true
  pub empty : (p : ℕ) (o : Object) → w.object p ≡ Some o → o.home ≢ Group group
  pub after : v ≡ record w { group = put w.group group false }

-- a group is held from then on
abbrev pub Holds : World → ℕ → World → Type 0
Holds w group v = v ≡ record w { group = put w.group group true }
