-- The rule of the table: the words and all views are a state of the core under its law, and each view is right about the words.
use Rattle.std.specs.Prelude.{◌≡◌, ◌+◌, ◌/◌, ◌<◌, ℕ, true, false, Some, IsSome, List, ◌∷◌, ◌++◌, map, length}
use mathlib.Core.Option.{some}
use lib.ListN.{get_elem?}
use Rattle.atomic_table.specs.Table.{State as Table}
use Rattle.far_word.specs.Bytes.{packed_word}
use Rattle.far_word.specs.declared.sizes.TheConstants.{CELLS, MOST_COPIERS}
use Rattle.far_word.specs.Sizes.{words_for}
use Rattle.far_events.specs.events.Open.{scope_word_of}
use Rattle.far_core.specs.state.Agrees.{Agrees}
use Rattle.far_events.specs.state.Law.{Law}
use Rattle.far_events.specs.state.State.{State}
use Rattle.far_core.specs.world.World.{Object}
use Rattle.far_core.specs.world.WorldOf.{world_of}
use Rattle.far_hand.specs.Known.{IsKnown}
use Rattle.far_hand.specs.MayBe.{Shows}
use Rattle.far_hand.specs.Quiet.{RestsAt}
use Rattle.far_table.specs.View.{BookView, CopierView, ObjectView, OtherViews, OwnerView, Role, View, Book, roles, seat_of}
use Rattle.far_table.specs.Layout.{table_words}
use Rattle.far_table.specs.StateOf.{book_state, cleaned_at, cooled_at, retired_at, stained_at, state_of, taken_at}
use Rattle.far_table.specs.Views.{object_at, asked_at, dirtied_at, dirts, dropped_at, drops, heated_at, held_at, hots, moves, pinned_at, word_of}

-- what the book's view says is so: the object, the place and EVAC of each cell, and marks at least where it has them; each word that it
-- knows, and the headers of all spans; and its own, exactly. Each word that it knows and is no header rests, by the view: it stands at or past its log's end, or is of an
-- object that the view shows quiet. So no owner stores there, and it knows no word of a dead span
pub record BookTies (b : BookView) (s : State) : Type 0 where
  pub shown : Shows (book_state b) s
  pub rests : (a : ℕ) → IsKnown ((book_state b).word a) → (book_state b).starts a ≡ false → RestsAt (book_state b) a

-- an object as its owner knows it: it is in the world, of that data structure, with that many bytes; and with those bytes, where the far side is honest
pub record Has (s : State) (p : ℕ) (x : ObjectView) : Type 0 where
  pub object : Object
  pub there : (world_of s).object p ≡ Some object
  pub len : length object.bytes ≡ x.len
  pub ds : object.ds ≡ x.ds
  pub words : s.honest ≡ true → (i : ℕ) → i < words_for x.len → packed_word object.bytes i ≡ word_of x i

-- what an owner's view says is so: how many logs there are, its scope word, and the objects that it uses; and of each of its cells how often MOVE was set anew is how
-- often it was taken away, and once more where it stands, how often DROP was set how often an object was retired, and once more where it stands,
-- and how often HOT was set anew how often it was taken away, and once more where it stands. HOT stands in each cell whose place it holds by a pin. How often DIRTY was
-- set anew, and left by a naming, is how often a naming found it, and once more where it stands
pub record OwnerTies (b : BookView) (s : State) (m : ℕ) (o : OwnerView) : Type 0 where
  pub number : o.number ≡ m
  pub honest : o.honest ≡ s.honest
  pub logs : o.logs ≡ b.logs
  pub scope : s.scope m ≡ scope_word_of o.open_at
  pub objects : (p : ℕ) (x : ObjectView) → p / CELLS ≡ m → object_at o p ≡ Some x → Has s p x
  pub asks : (p : ℕ) → p / CELLS ≡ m → asked_at o p ≡ taken_at b p + moves (s.cell p)
  pub drops : (p : ℕ) → p / CELLS ≡ m → dropped_at o p ≡ retired_at b p + drops (s.cell p)
  pub warm : (p : ℕ) → p / CELLS ≡ m → pinned_at o p ≡ true → IsSome (held_at o p) × (hots (s.cell p) ≡ 1)
  pub hots : (p : ℕ) → p / CELLS ≡ m → heated_at o p ≡ cooled_at b p + hots (s.cell p)
  pub soils : (p : ℕ) → p / CELLS ≡ m → dirtied_at o p + stained_at b p ≡ cleaned_at b p + dirts (s.cell p)

-- what holds of the words and all views between any two steps. Of a copier nothing but its number and how many logs there are: all else that is so of its view, the law has
pub record Facts (ws : List ℕ) (b : BookView) (os : OtherViews) : Type 0 where
  pub law : Law (state_of ws b os)
  pub agrees : Agrees (state_of ws b os)
  pub book : BookTies b (state_of ws b os)
  pub owners : (m : ℕ) (o : OwnerView) → get_elem? os.owners m ≡ some o → OwnerTies b (state_of ws b os) m o
  pub copiers : (c : ℕ) (v : CopierView) → get_elem? os.copiers c ≡ some v → v.number ≡ c
  pub copier_logs : (c : ℕ) (v : CopierView) → get_elem? os.copiers c ≡ some v → v.logs ≡ b.logs
  pub many : length os.owners ≡ b.mutators
  pub eight : length os.copiers ≡ MOST_COPIERS
  pub wide : length ws ≡ table_words b.logs

-- the rule: seat 0 is the book's, those after it are of the others that have one; the rest of them wait in the book's view
pub record Running {S : Type 0} (s : Table S View) : Type 0 where
  pub book : BookView
  pub others : OtherViews
  pub dealt : List Role
  pub views : s.views ≡ Book book ∷ map seat_of dealt
  pub all : dealt ++ book.rest ≡ roles others
  pub facts : Facts s.words book others
