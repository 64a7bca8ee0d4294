-- What an object's way leaves of the core: the round, and all that owners do; and each cell but its own.
use Rattle.std.proofs.Common.{◌≡◌, ◌≢◌, ℕ, ◌==◌, Option, Some, None, List, [], ◌∷◌, refl, false, true}
use Rattle.std.proofs.lemmas.Bool.{cond_both}
use Rattle.far_word.specs.declared.pointer.Place.{Place}
use Rattle.far_word.specs.declared.pointer.PtrWord.{PtrWord}
use Rattle.far_word.specs.declared.pointer.PtrWord.TheVariants.{Near, Far}
use Rattle.far_word.specs.Pointer.{read_of}
use Rattle.far_events.specs.declared.event.Event.TheVariants.{Name}
use Rattle.far_events.specs.declared.naming.Naming.{Naming}
use Rattle.far_events.specs.declared.naming.Naming.TheVariants.{Places, Retires, Evicts, Stays, Moves as moving, Fetches}
use Rattle.far_events.specs.events.Copied.{copied_job}
use Rattle.far_events.specs.events.Copies.{data_at}
use Rattle.far_events.specs.events.Name.{after_naming}
use Rattle.far_events.specs.events.Naming.{naming_of, naming_row}
use Rattle.far_events.specs.events.namings.Moves.{after_move}
use Rattle.far_events.specs.events.Step.{after}
use Rattle.far_events.specs.state.State.{State}
use Rattle.far_events.proofs.Put.{put_other}
use Rattle.far_book.specs.book.Dealing.{has_evac, moved_now}
use Rattle.far_book.specs.book.Effects.{evicted_of, far_word, fetched, fetched_of, moved, moved_of, near_word, placed, stayed, stayed_of, with_blank_span, with_written_span}
use Rattle.far_evac.specs.Live.{is_empty, live_in}
use Rattle.far_evac.specs.Walk.{Walked, Way, Drops, Moves, Goes, freed, passed}
use Rattle.far_evac.proofs.Tours.{core_so}

-- all that owners change, and the round, is as it was; of jobs too, but whether their pointers were named to their targets
abbrev pub framed : State → State → State
framed s t = record s { cell = t.cell; word = t.word; kind = t.kind; tail = t.tail; current = t.current; starts = t.starts; stored = t.stored; copying = record s.copying { named = t.copying.named } }

pub record ChangesOne (s : State) (p : ℕ) (t : State) : Type 0 where
  pub frame : t ≡ framed s t
  pub cells : (q : ℕ) → q ≢ p → t.cell q ≡ s.cell q

same_one : (s : State) (p : ℕ) → ChangesOne s p s
same_one s p = record { frame = refl; cells = λ q other. refl }

module _ (s : State) (p new : ℕ) where
  move_one : (len : ℕ) (to : Place) (j : Option ℕ) → ChangesOne s p (after_move s p new len to j)
  move_one len to None = record { frame = refl; cells = put_other s.cell p new }
  move_one len to (Some j) = record { frame = refl; cells = put_other s.cell p new }

  row_one : (form : Naming) → ChangesOne s p (naming_row s p new form).after
  row_one (Places len ds place) = record { frame = refl; cells = put_other s.cell p new }
  row_one Retires = record { frame = refl; cells = put_other s.cell p new }
  row_one (Evicts len place) = record { frame = refl; cells = put_other s.cell p new }
  row_one Stays = record { frame = refl; cells = put_other s.cell p new }
  row_one (moving len ds from to) = move_one len to (copied_job s p from to)
  row_one (Fetches len ds place) = record { frame = refl; cells = put_other s.cell p new }

  naming_one : (form : Option Naming) → ChangesOne s p (after_naming s p new form)
  naming_one None = same_one s p
  naming_one (Some form) = row_one form

  pub name_one : (old : ℕ) → ChangesOne s p (after s (Name p old new))
  name_one old = cond_both (s.cell p == old) (after_naming s p new (naming_of (read_of old) (read_of new))) s (ChangesOne s p)
      (λ _. naming_one (naming_of (read_of old) (read_of new))) (λ _. same_one s p)

module _ (s : State) (p : ℕ) where
  evicted_one : (cell : Option PtrWord) → ChangesOne s p (evicted_of s p cell)
  evicted_one (Some (Near len ds place marks)) = name_one s p (far_word len ds) (s.cell p)
  evicted_one _ = same_one s p

  moved_one : (place : Place) (cell : Option PtrWord) → ChangesOne s p (moved_of s p place cell)
  moved_one place (Some (Near len ds from marks)) =
      let h = name_one (with_written_span s p len ds place (data_at s.word from)) p (near_word marks.dirty len ds place) (s.cell p) in record { frame = h.frame; cells = h.cells }
  moved_one place _ = same_one s p

  stayed_one : (cell : Option PtrWord) → ChangesOne s p (stayed_of s p cell)
  stayed_one (Some (Near len ds place marks)) = name_one s p (near_word marks.dirty len ds place) (s.cell p)
  stayed_one _ = same_one s p

  pub moved_now_one : (place : Place) → ChangesOne s p (moved_now s p place)
  moved_now_one place = cond_both (has_evac (read_of (s.cell p))) (moved s p place) (stayed s p) (ChangesOne s p) (λ _. moved_one place (read_of (s.cell p))) (λ _. stayed_one (read_of (s.cell p)))

  fetched_from : (place : Place) (row : ℕ → ℕ) (cell : Option PtrWord) → ChangesOne s p (fetched_of s p place row cell)
  fetched_from place row (Some (Far len ds marks)) =
      let h = name_one (with_written_span s p len ds place row) p (near_word false len ds place) (s.cell p) in record { frame = h.frame; cells = h.cells }
  fetched_from place row _ = same_one s p

  pub fetched_one : (place : Place) (row : ℕ → ℕ) → ChangesOne s p (fetched s p place row)
  fetched_one place row = fetched_from place row (read_of (s.cell p))

  pub placed_one : (len ds : ℕ) (place : Place) → ChangesOne s p (placed s p len ds place)
  placed_one len ds place = let h = name_one (with_blank_span s p len ds place) p (near_word true len ds place) 0 in record { frame = h.frame; cells = h.cells }

  pub so_one : (way : Way) → ChangesOne s p (core_so s p way)
  so_one Drops = record { frame = refl; cells = put_other s.cell p 0 }
  so_one (Moves place) = moved_one place (read_of (s.cell p))
  so_one Goes = evicted_one (read_of (s.cell p))

-- logs that are given back leave all but this
abbrev pub given_back : Walked → Walked → Walked
given_back v w = record v {
  moment = record v.moment { core = record v.moment.core { kind = w.moment.core.kind; tail = w.moment.core.tail; starts = w.moment.core.starts; round = w.moment.core.round }; order = w.moment.order; collection = w.moment.collection };
  tally = record v.tally { freed = w.tally.freed };
}

pub passed_frame : (ls : List ℕ) (v : Walked) → passed v ls ≡ given_back v (passed v ls)
passed_frame [] v = refl
passed_frame (l ∷ ls) v = cond_both (is_empty (live_in v.moment.core l)) (passed (freed v l) ls) (record v { moment = record v.moment { collection = l ∷ ls } }) (λ (w : Walked). w ≡ given_back v w)
    (λ _. passed_frame ls (freed v l)) (λ _. refl)
