-- What each kind of step tells: of the step, the seat before, the word found (at a store, the word stored) and the seat after.
use Rattle.std.specs.Prelude.{◌≡◌, ◌<◌, ◌≤◌, ◌+◌, ◌*◌, ◌/◌, ◌^◌, ℕ, Bool, true, false, Some, None, IsSome}
use Rattle.atomic_table.specs.Table.{Me, Step}
use Rattle.far_word.specs.declared.sizes.TheConstants.{CELLS, EPOCH_END, LOG_WORDS, MOST_LOGS}
use Rattle.far_word.specs.declared.mark.Mark.{Mark}
use Rattle.far_word.specs.declared.mark.Mark.TheVariants.{Dirty, Hot}
use Rattle.far_word.specs.declared.pointer.Place.{Place}
use Rattle.far_word.specs.Mark.{position}
use Rattle.far_events.specs.events.Ask.{is_request}
use Rattle.far_word.specs.Pointer.{read_of}
use Rattle.far_word.specs.Sizes.{words_for}
use Rattle.far_events.specs.events.Pin.{place_to_view, pin_answer}
use Rattle.far_events.specs.state.Law.{in_use}
use Rattle.far_events.specs.state.State.{addr}
use Rattle.far_table.specs.View.{OwnerView, View, Owner}
use Rattle.far_table.specs.Layout.{cell_at, data_at}
use Rattle.far_events.specs.declared.event.Event.TheVariants.{ReadEpoch, Open, Pin, Load, Store, Soil, Close, Adopt, Ask}
use Rattle.far_events.specs.declared.event.Reply.TheVariants.{Done, Epoch, Word}
use Rattle.far_table.specs.Tells.{OwnerRefused, Tells, owner_of}
use Rattle.far_table.specs.Views.{adopted_view, asked_view, closed_view, held_at, len_of, noted_view, object_at, opened_view, pinned_view, read_view, soiled_view, stored_view, word_in_view}

-- the word found reads; and the object of p, where a view of it may rest by that word, lies within the logs, and within those of the heap
abbrev pub Lies : OwnerView → ℕ → ℕ → Type 0
Lies o p found = IsSome (read_of found) × ((place : Place) → place_to_view (read_of found) ≡ Some place →
    (addr place + 1 + words_for (len_of (object_at o p)) ≤ MOST_LOGS * LOG_WORDS) × (addr place + 1 + words_for (len_of (object_at o p)) ≤ o.logs * LOG_WORDS))

abbrev pub number_of : View → ℕ
number_of v = (owner_of v).number

-- an adoption is made where the word found is in use, and refused else
abbrev pub AdoptTells : Bool → View → View → ℕ → ℕ → Type 0
AdoptTells true before now p found = Tells before now (Adopt (number_of before) p) (Word found) (adopted_view p found (owner_of before))
AdoptTells false before now p found = (now ≡ Owner (noted_view p found (owner_of before))) × OwnerRefused (Adopt (number_of before) p) (owner_of before)

module _ {S : Type 0} where
  abbrev pub EpochRead : Step S → Me S View → ℕ → Me S View → Type 0
  EpochRead st me found me' = (found < EPOCH_END) × Tells me.0 me'.0 (ReadEpoch (number_of me.0)) (Epoch found) (read_view found (owner_of me.0))

  abbrev pub Opened : Step S → Me S View → ℕ → Me S View → Type 0
  Opened st me found me' = Tells me.0 me'.0 (Open (number_of me.0)) Done (opened_view (owner_of me.0))

  -- HOT is set, and nothing else
  abbrev pub Pinned : Step S → Me S View → ℕ → Me S View → Type 0
  Pinned st me found me' = (st.first ≡ 2 ^ position Hot) × ((p : ℕ) → st.word ≡ cell_at p → Lies (owner_of me.0) p found
      × Tells me.0 me'.0 (Pin (number_of me.0) p) (pin_answer found (place_to_view (read_of found))) (pinned_view p found (owner_of me.0)))

  -- a word of the table that is a data word of an object that is held
  abbrev pub Loaded : Step S → Me S View → ℕ → Me S View → Type 0
  Loaded st me found me' = (p i : ℕ) (place : Place) → p / CELLS ≡ number_of me.0 → held_at (owner_of me.0) p ≡ Some place → i < words_for (len_of (object_at (owner_of me.0) p)) →
      st.word ≡ data_at (addr place + 1 + i) → ((owner_of me.0).honest ≡ true → found ≡ word_in_view (object_at (owner_of me.0) p) i)
      × Tells me.0 me'.0 (Load (number_of me.0) p i) (Word found) (owner_of me.0)

  abbrev pub Asked : Step S → Me S View → ℕ → Me S View → Type 0
  Asked st me found me' = (p : ℕ) (k : Mark) → is_request k ≡ true → st.word ≡ cell_at p → st.first ≡ 2 ^ position k →
      Tells me.0 me'.0 (Ask (number_of me.0) p k) (Word found) (asked_view p k found (owner_of me.0))

  -- DIRTY is set, and nothing else
  abbrev pub Soiled : Step S → Me S View → ℕ → Me S View → Type 0
  Soiled st me found me' = (st.first ≡ 2 ^ position Dirty) × ((p : ℕ) → st.word ≡ cell_at p → Tells me.0 me'.0 (Soil (number_of me.0) p) (Word found) (soiled_view p found (owner_of me.0)))

  -- the same word, stored over
  abbrev pub Stored : Step S → Me S View → ℕ → Me S View → Type 0
  Stored st me word me' = (p i : ℕ) (place : Place) → p / CELLS ≡ number_of me.0 → held_at (owner_of me.0) p ≡ Some place → i < words_for (len_of (object_at (owner_of me.0) p)) →
      st.word ≡ data_at (addr place + 1 + i) → Tells me.0 me'.0 (Store (number_of me.0) p i word) Done (stored_view p i word (owner_of me.0))

  -- the pointer isn't held, since it isn't used
  abbrev pub Adopted : Step S → Me S View → ℕ → Me S View → Type 0
  Adopted st me found me' = (p : ℕ) → st.word ≡ cell_at p → IsSome (read_of found) × (held_at (owner_of me.0) p ≡ None) × AdoptTells (in_use (read_of found)) me.0 me'.0 p found

  abbrev pub Closed : Step S → Me S View → ℕ → Me S View → Type 0
  Closed st me found me' = Tells me.0 me'.0 (Close (number_of me.0)) Done (closed_view (owner_of me.0))
