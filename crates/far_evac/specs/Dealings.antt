-- What a walk does, in the subject's words: which objects left the chosen logs, how each is counted, and which logs were given back.
use Rattle.std.specs.Prelude.{◌≡◌, ◌≢◌, ℕ, ◌≤◌, Bool, true, false, Option, Some, None, List, [], ◌∷◌, length, take, drop, count_by}
use Rattle.std.specs.List.{AllByRecursion}
use Rattle.far_word.specs.declared.pointer.PtrWord.{PtrWord}
use Rattle.far_word.specs.declared.pointer.PtrWord.TheVariants.{Free, Near, Far}
use Rattle.far_word.specs.Pointer.{read_of}
use Rattle.far_events.specs.declared.event.Kind.TheVariants.{Sealed}
use Rattle.far_events.specs.events.Clear.{is_near}
use Rattle.far_events.specs.state.Spans.{names_place}
use Rattle.far_events.specs.state.State.{State}
use Rattle.far_hand.specs.Finds.{body_of}
use Rattle.far_evac.specs.Live.{live_in, is_empty}
use Rattle.far_evac.specs.Moment.{Moment, Tally}

-- what p's cell says
abbrev pub says : Moment → ℕ → Option PtrWord
says m p = read_of (m.core.cell p)

-- an object has no place any more; it is far
abbrev pub is_nowhere : Option PtrWord → Bool
is_nowhere None = true
is_nowhere (Some Free) = true
is_nowhere (Some (Near len ds place marks)) = false
is_nowhere (Some (Far len ds marks)) = false

abbrev pub is_away : Option PtrWord → Bool
is_away None = false
is_away (Some Free) = false
is_away (Some (Near len ds place marks)) = false
is_away (Some (Far len ds marks)) = true

-- it is near in another log than before, or near no more
abbrev pub HasLeft : Option PtrWord → Option PtrWord → Type 0
HasLeft old new = (l at to : ℕ) → names_place old l at ≡ true → names_place new l to ≡ false

-- these objects were dealt with: each has no place, is near in another log, or far, and is counted so; all others lie where they lay, and keep EVAC
pub record DealsWith (m t : Moment) (tally : Tally) (objects : List ℕ) : Type 0 where
  pub left : AllByRecursion (λ p. HasLeft (says m p) (says t p)) objects
  pub dropped : tally.dropped ≡ count_by (λ p. is_nowhere (says t p)) objects
  pub moved : tally.moved ≡ count_by (λ p. is_near (says t p)) objects
  pub far : tally.far ≡ count_by (λ p. is_away (says t p)) objects
  pub others : (p : ℕ) → AllByRecursion (λ q. q ≢ p) objects → body_of (says t p) ≡ body_of (says m p)

-- so many logs in front were given back: they are out of the round, also where one was opened anew; the others are sealed, and the round's still
pub record GivesBack (m t : Moment) (freed : ℕ) : Type 0 where
  pub collection : t.collection ≡ drop freed m.collection
  pub most : freed ≤ length m.collection
  pub gone : AllByRecursion (λ l. t.core.round l ≡ false) (take freed m.collection)
  pub stay : AllByRecursion (λ l. (t.core.round l ≡ true) × (t.core.kind l ≡ Sealed)) t.collection

-- the log in front has a live object, if one is left
abbrev pub BeginsLive : State → List ℕ → Type 0
BeginsLive s [] = Unit {0}
BeginsLive s (l ∷ ls) = is_empty (live_in s l) ≡ false
