-- Lines by their places in a text.
use Rattle.std.specs.Prelude.{ℕ, ◌<◌, List, [], ◌∷◌, slice_index_or}
use Rattle.far_text.specs.Command.{Command, Book, Logs}

-- the line at a place, where it is one
abbrev pub line_at : List (ℕ × Command) → ℕ → ℕ × Command
line_at lines place = slice_index_or lines place (0, Book Logs)

abbrev pub AllBelow : ℕ → List ℕ → Type 0
AllBelow most [] = Unit {0}
AllBelow most (place ∷ places) = (place < most) × AllBelow most places
