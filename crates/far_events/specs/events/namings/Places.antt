-- A free cell gets a place, where a header for its pointer stands before data words of 0.
use Rattle.std.specs.Prelude.{◌+◌, ◌&&◌, ℕ}
use Rattle.far_word.specs.declared.pointer.Place.{Place}
use Rattle.far_word.specs.Sizes.{words_for}
use Rattle.far_events.specs.state.Law.{Blank}
use Rattle.far_events.specs.state.State.{State, addr}
use Rattle.far_events.specs.events.Changes.{Change, Makes}
use Rattle.far_events.specs.events.NamingRow.{NamingRow}
use Rattle.far_events.specs.events.NewSpans.{IsNewSpan, is_new_span, zeros, with_span, Takes}

abbrev pub places_row : State → ℕ → ℕ → ℕ → ℕ → Place → NamingRow
places_row s p new len ds place = record {
  test = is_new_span s p len ds place && zeros s.word (addr place + 1) (words_for len);
  after = with_span s p new len place;
  Legal = IsNewSpan s p len ds place × Blank s.word len place;
  Reports = Takes s len place;
}

abbrev pub places_change : ℕ → ℕ → ℕ → Place → Change
places_change p len ds place = Makes p len ds place.log
