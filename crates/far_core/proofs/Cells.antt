-- What a cell says, what its marks leave as it is, and what a header says.
use Rattle.std.proofs.Common.{◌≡◌, ◌≢◌, ℕ, ◌+◌, ◌/◌, cond, refl, ap, Option, Some, None}
use Rattle.far_word.specs.declared.mark.Mark.{Mark}
use Rattle.far_word.specs.declared.mark.Mark.TheVariants.{Dropped}
use Rattle.far_word.specs.declared.pointer.PtrWord.{PtrWord}
use Rattle.far_word.specs.declared.pointer.PtrWord.TheVariants.{Free, Near, Far}
use Rattle.far_word.specs.declared.sizes.TheConstants.{CELLS}
use Rattle.far_word.specs.Bytes.{bytes_of}
use Rattle.far_events.specs.state.State.{addr}
use Rattle.far_core.specs.world.World.{Group, FarSide}
use Rattle.far_core.specs.world.WorldOf.{object_of}
use Rattle.far_events.proofs.Cells.{map_mark, same_dropped}

pub object_of-mark : (k : Mark) (f g : ℕ → ℕ) (p : ℕ) (o : Option PtrWord) → k ≢ Dropped → object_of f g p (map_mark k o) ≡ object_of f g p o
object_of-mark k f g p None ne = refl
object_of-mark k f g p (Some Free) ne = refl
object_of-mark k f g p (Some (Near len ds place m)) ne =
    ap (λ b. cond b None (Some record { owner = p / CELLS; ds = ds; bytes = bytes_of (λ i. f (addr place + 1 + i)) len; home = Group place.log })) (same_dropped k m ne)
object_of-mark k f g p (Some (Far len ds m)) ne =
    ap (λ b. cond b None (Some record { owner = p / CELLS; ds = ds; bytes = bytes_of g len; home = FarSide })) (same_dropped k m ne)
