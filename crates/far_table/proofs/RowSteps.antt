-- One word of a row that is loaded or stored: what the step of the table asks, and what it tells.
use Rattle.std.proofs.Common.{◌≡◌, ℕ, ◌+◌, ◌-◌, ◌*◌, ◌%◌, ◌^◌, ◌<◌, ◌≤◌, true, arith, refl, sym, ap, subst, ◌∙◌}
use Rattle.std.specs.Prelude.{slice_index}
use mathlib.Core.Option.{none}
use Rattle.atomic_table.specs.Seated.{TableId}
use Rattle.atomic_table.specs.Table.{Me, step, Allows}
use Rattle.far_word.specs.declared.sizes.TheConstants.{CELLS}
use Rattle.far_word.specs.Sizes.{words_for}
use Rattle.far_events.specs.declared.event.Event.TheVariants.{Load, Store}
use Rattle.far_events.specs.declared.event.Reply.TheVariants.{Done, Word}
use Rattle.far_table.specs.Layout.{LOGS_AT, table_words}
use Rattle.far_table.specs.Plays.{Loaded, Stored}
use Rattle.far_table.specs.Rule.{Running}
use Rattle.far_table.specs.SeatRows.{HoldsRow, SoiledRow}
use Rattle.far_table.specs.Tells.{OwnerMade, Tells, owner_of}
use Rattle.far_table.specs.View.{View}
use Rattle.far_table.specs.Views.{len_of, object_at, stored_view, word_in_view}
use Rattle.far_table.proofs.LoadSteps.{load_told, loads_at}
use Rattle.far_table.proofs.RowParts.{row_later}
use Rattle.far_table.proofs.StoreSteps.{store_told, stores_at}
use Rattle.far_table.proofs.WholeWords.{whole_padding}

-- ---- loads
module _ (id later here : TableId) (v : View) (p start first n i at number : ℕ) (me : Me ℕ View) (there : at ≡ first + i) (fits : 8 * i + 8 ≤ n) (r : HoldsRow id here v p start first n) (same : later ≡ id) (view : me.0 ≡ v) where
  row : HoldsRow later here me.0 p start first n
  row = row_later id here v p start first n r later me.0 n same view refl

  address : start + i ≡ slice_index row.list (p % CELLS) + at
  address = omega (arith, row.begins)

  inner : at < words_for (len_of (object_at (owner_of me.0) p))
  inner = let inside = row.inside in omega arith

  pub load_asks : (later ≡ here) × (start + i + LOGS_AT < here.words) × Allows Running here.slots number me (start + i + LOGS_AT) (λ k. k) (Loaded (step here.slots (start + i + LOGS_AT) 0 0 none) me)
  load_asks =
      let w = loads_at {S = ℕ} here.slots number me row.owner row.list row.places p at row.held inner (start + i) address in
      let words : table_words (owner_of me.0).logs ≡ here.words = sym row.table.1 ∙ ap (λ (z : TableId). z.words) row.table.0 in
      (row.table.0, subst (λ k. start + i + LOGS_AT < k) words w.0, w.1)

  pub load_tells : (found : ℕ) (after : Me ℕ View) → Loaded (step here.slots (start + i + LOGS_AT) 0 0 none) me found after →
      ((owner_of v).honest ≡ true → found ≡ word_in_view (object_at (owner_of v) p) at) × (after.0 ≡ v) × OwnerMade (Load (owner_of v).number p at) (owner_of v) (Word found) (owner_of v)
  load_tells found after told =
      let t = load_told {S = ℕ} here.slots number me row.owner row.list row.places p at row.held inner (start + i) address found after told in (
        subst (λ (z : View). (owner_of z).honest ≡ true → found ≡ word_in_view (object_at (owner_of z) p) at) view t.0,
        t.1.after_is ∙ sym row.owner ∙ view,
        subst (λ (z : View). OwnerMade (Load (owner_of z).number p at) (owner_of z) (Word found) (owner_of z)) view t.1.made,
      )

-- ---- stores
module _ (id here : TableId) (p start first n i at word number : ℕ) (me : Me ℕ View) (there : at ≡ first + i) (fits : 8 * i + 8 ≤ n) (s : SoiledRow id here me.0 p start first n) (wide : word < 2 ^ 64) where
  to_address : start + i ≡ slice_index s.row.list (p % CELLS) + at
  to_address = omega (arith, s.row.begins)

  within : at < words_for (len_of (object_at (owner_of me.0) p))
  within = let inside = s.row.inside in omega arith

  padded : word < 2 ^ (8 * (len_of (object_at (owner_of me.0) p) - 8 * at))
  padded = let inside = s.row.inside in whole_padding word (len_of (object_at (owner_of me.0) p)) at wide (omega arith)

  pub store_asks : (id ≡ here) × (start + i + LOGS_AT < here.words) × Allows Running here.slots number me (start + i + LOGS_AT) (λ _. word) (λ _. Stored (step here.slots (start + i + LOGS_AT) word 0 none) me word)
  store_asks =
      let w = stores_at {S = ℕ} here.slots number me s.row.owner s.row.list s.row.places p at word s.row.held within s.soiled wide padded (start + i) to_address in
      let words : table_words (owner_of me.0).logs ≡ here.words = sym s.row.table.1 ∙ ap (λ (z : TableId). z.words) s.row.table.0 in
      (s.row.table.0, subst (λ k. start + i + LOGS_AT < k) words w.0, w.1)

  pub store_tells : (after : Me ℕ View) → Stored (step here.slots (start + i + LOGS_AT) word 0 none) me word after →
      Tells me.0 after.0 (Store (owner_of me.0).number p at word) Done (stored_view p at word (owner_of me.0))
  store_tells after told = store_told {S = ℕ} here.slots number me s.row.owner s.row.list s.row.places p at word s.row.held within s.soiled wide padded (start + i) to_address after told
