-- A heap has as many logs as it was made of, whatever objects do.
use Rattle.std.proofs.Common.{◌≡◌, ℕ, Option, Some, refl, ap}
use Rattle.far_word.specs.declared.pointer.Place.{Place}
use Rattle.far_word.specs.declared.pointer.PtrWord.{PtrWord}
use Rattle.far_word.specs.declared.pointer.PtrWord.TheVariants.{Near}
use Rattle.far_events.specs.events.Copies.{data_at}
use Rattle.far_events.specs.state.State.{State}
use Rattle.far_book.specs.book.Effects.{fetched, moved_of, near_word, placed, stayed_of, with_written_span}
use Rattle.far_evac.proofs.Framed.{ChangesOne, fetched_one, name_one, placed_one}

pub logs_one : (s t : State) (p : ℕ) → ChangesOne s p t → t.logs ≡ s.logs
logs_one s t p h = ap (λ (x : State). x.logs) h.frame

pub moved_logs : (s : State) (p : ℕ) (place : Place) (cell : Option PtrWord) → (moved_of s p place cell).logs ≡ s.logs
moved_logs s p place (Some (Near len ds from marks)) =
    let written : State = with_written_span s p len ds place (data_at s.word from) in
    logs_one written (moved_of s p place (Some (Near len ds from marks))) p (name_one written p (near_word marks.dirty len ds place) (s.cell p))
moved_logs s p place _ = refl

pub stayed_logs : (s : State) (p : ℕ) (cell : Option PtrWord) → (stayed_of s p cell).logs ≡ s.logs
stayed_logs s p (Some (Near len ds place marks)) = logs_one s (stayed_of s p (Some (Near len ds place marks))) p (name_one s p (near_word marks.dirty len ds place) (s.cell p))
stayed_logs s p _ = refl

pub fetched_logs : (s : State) (p : ℕ) (place : Place) (row : ℕ → ℕ) → (fetched s p place row).logs ≡ s.logs
fetched_logs s p place row = logs_one s (fetched s p place row) p (fetched_one s p place row)

pub placed_logs : (s : State) (p len ds : ℕ) (place : Place) → (placed s p len ds place).logs ≡ s.logs
placed_logs s p len ds place = logs_one s (placed s p len ds place) p (placed_one s p len ds place)
