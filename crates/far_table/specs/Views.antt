-- What stands in an owner's view, and how its steps change it.
use Rattle.std.specs.Prelude.{ℕ, ◌+◌, Bool, true, false, cond, Option, Some, None, List, [], ◌∷◌, is_some, slice_index_or}
use Rattle.far_word.specs.declared.mark.Mark.{Mark}
use Rattle.far_word.specs.declared.mark.Mark.TheVariants.{Hot, Evac, Moved, Dropped, Dirty}
use Rattle.far_word.specs.declared.pointer.Place.{Place}
use Rattle.far_word.specs.declared.pointer.PtrWord.{PtrWord}
use Rattle.far_word.specs.declared.pointer.PtrWord.TheVariants.{Free, Near, Far}
use Rattle.far_word.specs.Pointer.{read_of, pointer_len}
use Rattle.far_events.specs.events.Naming.{is_dropped}
use Rattle.far_events.specs.events.Pin.{place_to_view}
use Rattle.far_events.specs.events.Quiet.{has_move}
use Rattle.far_events.specs.state.Law.{is_dirty}
use Rattle.far_table.specs.View.{ObjectView, OwnerView}
use Rattle.far_table.specs.Rows.{over}

-- word i of an object
abbrev pub word_of : ObjectView → ℕ → ℕ
word_of x = over x.words (λ _. 0)

-- the object of a pointer, if the owner uses it
abbrev pub object_at : OwnerView → ℕ → Option ObjectView
object_at o = over o.objects (λ _. None)

abbrev pub uses : OwnerView → ℕ → Bool
uses o p = is_some (object_at o p)

-- the place that is held of a pointer's object
abbrev pub held_at : OwnerView → ℕ → Option Place
held_at o = over o.held (λ _. None)

-- how often MOVE was set anew in a pointer's cell
abbrev pub asked_at : OwnerView → ℕ → ℕ
asked_at o = over o.asked (λ _. 0)

-- how often DROP was
abbrev pub dropped_at : OwnerView → ℕ → ℕ
dropped_at o = over o.dropped (λ _. 0)

-- how often HOT was
abbrev pub heated_at : OwnerView → ℕ → ℕ
heated_at o = over o.heated (λ _. 0)

-- how often DIRTY was
abbrev pub dirtied_at : OwnerView → ℕ → ℕ
dirtied_at o = over o.dirtied (λ _. 0)

-- whether it is held by a pin
abbrev pub pinned_at : OwnerView → ℕ → Bool
pinned_at o = over o.pinned (λ _. false)

-- whether its object is soiled
abbrev pub soiled_at : OwnerView → ℕ → Bool
soiled_at o = over o.soiled (λ _. false)

-- the length of an object, its data structure, and one of its words, where the owner uses it
abbrev pub len_of : Option ObjectView → ℕ
len_of None = 0
len_of (Some x) = x.len

abbrev pub ds_of : Option ObjectView → ℕ
ds_of None = 0
ds_of (Some x) = x.ds

abbrev pub word_in_view : Option ObjectView → ℕ → ℕ
word_in_view None i = 0
word_in_view (Some x) i = word_of x i

-- ---- the view after a step
abbrev pub read_view : ℕ → OwnerView → OwnerView
read_view e o = record o { epoch = Some e }

abbrev pub opened_view : OwnerView → OwnerView
opened_view o = record o { open_at = o.epoch }

-- it holds nothing, has soiled nothing, and remembers no epoch
abbrev pub closed_view : OwnerView → OwnerView
closed_view o = record o { epoch = None; open_at = None; held = []; pinned = []; soiled = [] }

-- a pin holds a place
abbrev pub held_view : ℕ → Place → OwnerView → OwnerView
held_view p place o = record o { held = (p, Some place) ∷ o.held; pinned = (p, true) ∷ o.pinned }

-- the place is held, if there is one
abbrev pub with_place : ℕ → Option Place → OwnerView → OwnerView
with_place p None o = o
with_place p (Some place) o = held_view p place o

-- whether a word has HOT
abbrev pub has_hot : Option PtrWord → Bool
has_hot None = false
has_hot (Some Free) = false
has_hot (Some (Near len ds place m)) = m.hot
has_hot (Some (Far len ds m)) = m.hot

-- a word was found in a cell
abbrev pub noted_view : ℕ → ℕ → OwnerView → OwnerView
noted_view p found o = record o { found = (p, found) ∷ o.found }

-- HOT is set anew where the word found hasn't got it
abbrev pub warmed_view : ℕ → ℕ → OwnerView → OwnerView
warmed_view p found o = record o { heated = (p, heated_at o p + cond (has_hot (read_of found)) 0 1) ∷ o.heated; found = (p, found) ∷ o.found }

-- after a pin: HOT counts as set anew if the word found hasn't got it, whether or not the pin holds the place
abbrev pub pinned_view : ℕ → ℕ → OwnerView → OwnerView
pinned_view p found o = with_place p (place_to_view (read_of found)) (warmed_view p found o)

-- an object is soiled, and DIRTY set anew where the word found hasn't got it
abbrev pub soiled_view : ℕ → ℕ → OwnerView → OwnerView
soiled_view p found o = record o { soiled = (p, true) ∷ o.soiled; dirtied = (p, dirtied_at o p + cond (is_dirty (read_of found)) 0 1) ∷ o.dirtied; found = (p, found) ∷ o.found }

-- the object with another word
abbrev pub with_word : ℕ → ℕ → Option ObjectView → Option ObjectView
with_word i w None = None
with_word i w (Some x) = Some record { len = x.len; ds = x.ds; words = (i, w) ∷ x.words }

abbrev pub stored_view : ℕ → ℕ → ℕ → OwnerView → OwnerView
stored_view p i w o = record o { objects = (p, with_word i w (object_at o p)) ∷ o.objects }

-- the length of what a word says, 0 where it says nothing
abbrev pub said_len : Option PtrWord → ℕ
said_len None = 0
said_len (Some v) = pointer_len v

-- its data structure, 0 where it says nothing
abbrev pub said_ds : Option PtrWord → ℕ
said_ds None = 0
said_ds (Some Free) = 0
said_ds (Some (Near len ds place marks)) = ds
said_ds (Some (Far len ds marks)) = ds

-- a new object, all of whose words are 0
abbrev pub fresh : ℕ → ObjectView
fresh found = record { len = said_len (read_of found); ds = said_ds (read_of found); words = [] }

-- the owner uses the object from now on
abbrev pub adopted_view : ℕ → ℕ → OwnerView → OwnerView
adopted_view p found o = record o { objects = (p, Some (fresh found)) ∷ o.objects; found = (p, found) ∷ o.found }

-- 1 where a word has MOVE, where it has DROP, where it has HOT, and where it has DIRTY
abbrev pub moves : ℕ → ℕ
moves w = cond (has_move (read_of w)) 1 0

abbrev pub drops : ℕ → ℕ
drops w = cond (is_dropped (read_of w)) 1 0

abbrev pub hots : ℕ → ℕ
hots w = cond (has_hot (read_of w)) 1 0

abbrev pub dirts : ℕ → ℕ
dirts w = cond (is_dirty (read_of w)) 1 0

-- MOVE is set anew where the word found hasn't got it. Of what is used DROP is set anew always, and it is used no longer
abbrev pub asked_view : ℕ → Mark → ℕ → OwnerView → OwnerView
asked_view p Hot found o = o
asked_view p Evac found o = o
asked_view p Dirty found o = o
asked_view p Moved found o = record o { asked = (p, asked_at o p + cond (has_move (read_of found)) 0 1) ∷ o.asked; found = (p, found) ∷ o.found }
asked_view p Dropped found o = record o { objects = (p, None) ∷ o.objects; dropped = (p, dropped_at o p + 1) ∷ o.dropped; found = (p, found) ∷ o.found }

-- ---- many owners
-- one who knows nothing
abbrev pub nobody : OwnerView
nobody = record { number = 0; honest = false; logs = 0; epoch = None; open_at = None; objects = []; held = []; asked = []; dropped = []; heated = []; dirtied = []; pinned = []; soiled = []; found = [] }

abbrev pub owner_at : List OwnerView → ℕ → OwnerView
owner_at os m = slice_index_or os m nobody
