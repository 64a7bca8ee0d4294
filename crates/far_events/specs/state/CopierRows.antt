-- The words of copiers: a row of a log's length for each, of which only the first may have something.
use Rattle.std.specs.Prelude.{◌≡◌, ℕ, ◌+◌, ◌*◌, ◌<◌, ◌≤◌, List, slice_index, slice_index_or}
use Rattle.far_word.specs.declared.sizes.TheConstants.{LOG_WORDS}

-- past so many words of a copier's row each is d
abbrev pub EmptyBehind : {X : Type 0} → X → List ℕ → List X → Type 0
EmptyBehind d touched rows = (k i : ℕ) → slice_index touched k ≤ i → i < LOG_WORDS → slice_index_or rows (k * LOG_WORDS + i) d ≡ d
