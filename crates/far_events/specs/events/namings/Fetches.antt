-- A far object gets a place, where a header for its pointer and its data words are written.
use Rattle.std.specs.Prelude.{◌≡◌, ◌==◌, ◌&&◌, ◌||◌, ℕ, Bool, true, not, Option, Some, None}
use Rattle.far_word.specs.declared.pointer.Place.{Place}
use Rattle.far_word.specs.declared.pointer.PtrWord.{PtrWord}
use Rattle.far_word.specs.declared.pointer.PtrWord.TheVariants.{Free, Near, Far}
use Rattle.far_word.specs.Pointer.{read_of}
use Rattle.far_word.specs.Sizes.{words_for}
use Rattle.far_events.specs.state.State.{State}
use Rattle.far_events.specs.events.Changes.{Change, ComesNear}
use Rattle.far_events.specs.events.Copies.{Alike, alike, data_at, EndsPadded, ends_padded}
use Rattle.far_events.specs.events.NamingRow.{NamingRow}
use Rattle.far_events.specs.events.NewSpans.{IsNewSpan, is_new_span, with_span, Takes}

-- how many words are stored of what a cell names: those of a far object
abbrev pub words_stored : Option PtrWord → ℕ
words_stored None = 0
words_stored (Some Free) = 0
words_stored (Some (Near len ds place m)) = 0
words_stored (Some (Far len ds m)) = words_for len

-- as many words are stored of p, and they stand at a place
pub record IsStoredAt (s : State) (p len : ℕ) (place : Place) : Type 0 where
  pub all : words_stored (read_of (s.cell p)) ≡ words_for len
  pub same : Alike (data_at s.word place) (s.stored p) (words_for len)

abbrev pub is_stored_at : State → ℕ → ℕ → Place → Bool
is_stored_at s p len place = (words_stored (read_of (s.cell p)) == words_for len) && alike (data_at s.word place) (s.stored p) (words_for len)

-- where the far side is honest, the words that stand at the place are those stored; where it isn't, they are any words with zeros after the last byte
pub record MayFetch (s : State) (p len ds : ℕ) (place : Place) : Type 0 where
  pub span : IsNewSpan s p len ds place
  pub padded : EndsPadded s.word len place
  pub stored : s.honest ≡ true → IsStoredAt s p len place

abbrev pub fetches_row : State → ℕ → ℕ → ℕ → ℕ → Place → NamingRow
fetches_row s p new len ds place = record {
  test = is_new_span s p len ds place && ends_padded s.word len place && (not s.honest || is_stored_at s p len place);
  after = with_span s p new len place;
  Legal = MayFetch s p len ds place;
  Reports = Takes s len place;
}

abbrev pub fetches_change : ℕ → Place → Change
fetches_change p place = ComesNear p place.log
