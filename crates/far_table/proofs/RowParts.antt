-- Rows of words of an object that a seat holds: their parts, and what one word more comes to.
use Rattle.std.proofs.Common.{◌≡◌, ℕ, ◌+◌, ◌-◌, ◌*◌, ◌/◌, ◌%◌, ◌^◌, ◌<◌, ◌≤◌, true, arith, refl, sym, ap, subst, ◌∙◌, List, ◌++◌, length, get_or, take, drop, Fits}
use Rattle.std.specs.Int.{bytes_low_first}
use Rattle.std.specs.Prelude.{IsSome}
use Rattle.std.proofs.lemmas.List.{length-drop, length-take-le}
use mir.Syntax.{w64}
use borrow.Rule.Slice.PartMut.{put_mid}
use Rattle.atomic_table.specs.Seated.{TableId}
use Rattle.byteorder.specs.Endian.{little_number}
use Rattle.far_word.specs.declared.sizes.TheConstants.{LOG_WORDS, MOST_LOGS}
use Rattle.far_word.specs.Bytes.{packed_word}
use Rattle.far_events.specs.declared.event.Event.TheVariants.{Load, Store}
use Rattle.far_events.specs.declared.event.Reply.TheVariants.{Done, Word}
use Rattle.far_table.specs.Layout.{table_words}
use Rattle.far_table.specs.Ranges.{Wrote}
use Rattle.far_table.specs.SeatRows.{HoldsRow, RowLoaded, RowStored, SoiledRow}
use Rattle.far_table.specs.Tells.{OwnerMade, owner_of}
use Rattle.far_table.specs.View.{OwnerView, View, Owner}
use Rattle.far_table.specs.Views.{held_at, len_of, object_at, soiled_at, stored_view, word_in_view}
use Rattle.far_table.proofs.RowEvents.{loaded_more, read_packed, stored_more, stored_none}
use Rattle.far_table.proofs.WholeWords.{places_within, places_wrote, whole_read, whole_wrote}

pub all_of : (n : ℕ) → n ≤ n
all_of n = omega arith

pub low : (n : ℕ) → n ≤ 8 * (MOST_LOGS * LOG_WORDS) → Fits w64 n
low n le = record { fits = omega arith }

pub word_left : (i : ℕ) (xs : List ℕ) → 8 * i + 8 ≤ length xs → 8 ≤ length (take (length xs - 8 * i) (drop (8 * i) xs))
word_left i xs fits = let long = length-drop (8 * i) xs in omega (arith, length-take-le (length xs - 8 * i) (drop (8 * i) xs) (omega arith))

-- ---- the words of an object that is held, from one on
module _ (id here : TableId) (v : View) (p begin first n : ℕ) (r : HoldsRow id here v p begin first n) where
  -- they lie within the logs
  pub row_ends : begin + n / 8 ≤ MOST_LOGS * LOG_WORDS
  row_ends = let within = places_within p r.list (owner_of v) r.places r.held in let inside = r.inside in omega (arith, within, r.begins)

  pub row_fits : (a : ℕ) → 8 * a ≤ n → Fits w64 (begin + a)
  row_fits a le = let end = row_ends in record { fits = omega arith }

  pub row_beyond : (a k : ℕ) → 8 * a ≤ n → k < 65536 → Fits w64 (begin + a + k)
  row_beyond a k le small = let end = row_ends in record { fits = omega arith }

  -- a part of them
  pub row_part : (a m start next : ℕ) → start ≡ begin + a → next ≡ first + a → 8 * a + m ≤ n → HoldsRow id here v p start next m
  row_part a m start next at there part = let inside = r.inside in record {
    list = r.list;
    table = r.table;
    owner = r.owner;
    places = r.places;
    begins = omega (arith, r.begins);
    held = r.held;
    inside = omega arith;
  }

  -- the remainder changes no address
  pub row_start : (a : ℕ) → 8 * a + 8 ≤ n → (begin + a) % (MOST_LOGS * LOG_WORDS) ≡ begin + a
  row_start a le = let end = row_ends in omega arith

  -- the same once the seat has loaded others
  pub row_later : (later : TableId) (v' : View) (n' : ℕ) → later ≡ id → v' ≡ v → n' ≡ n → HoldsRow later here v' p begin first n'
  row_later later v' n' same view long = subst (λ (z : TableId × View × ℕ). HoldsRow z.0 here z.1 p begin first z.2) (λ k. (sym same k, sym view k, sym long k)) r

pub soiled_part : (id here : TableId) (v : View) (p begin first n : ℕ) → SoiledRow id here v p begin first n → (a m start next : ℕ) → start ≡ begin + a → next ≡ first + a → 8 * a + m ≤ n → SoiledRow id here v p start next m
soiled_part id here v p begin first n s a m start next at there part = record { row = row_part id here v p begin first n s.row a m start next at there part; soiled = s.soiled }

-- and once it has stored others
pub soiled_later : (id later here : TableId) (v v' : View) (p begin first n from : ℕ) (bytes : List ℕ) → later ≡ id → v' ≡ Owner (owner_of v') → Wrote p from bytes (owner_of v) (owner_of v') →
    SoiledRow id here v p begin first n → SoiledRow later here v' p begin first n
soiled_later id later here v v' p begin first n from bytes same owner w s =
    let r = s.row in record {
      row = record {
        list = r.list;
        table = (same ∙ r.table.0, ap (λ (z : TableId). z.words) same ∙ (r.table.1 ∙ ap (λ (z : OwnerView). table_words z.logs) (sym w.rest)));
        owner = owner;
        places = places_wrote p from bytes r.list (owner_of v) (owner_of v') w r.places;
        begins = r.begins;
        held = subst (λ (z : OwnerView). IsSome (held_at z p)) (sym w.rest) r.held;
        inside = subst (λ k. 8 * first + n ≤ k) (sym w.len) r.inside;
      };
      soiled = ap (λ (z : OwnerView). soiled_at z p) w.rest ∙ s.soiled;
    }

-- ---- what has come
pub none_loaded : (p first : ℕ) (out : List ℕ) (o : OwnerView) → RowLoaded p first 0 out o
none_loaded p first out o = record { bytes = λ h k lt. absurd (omega arith); events = λ i lt. absurd (omega arith) }

pub none_stored : (p first : ℕ) (bytes : List ℕ) (o : OwnerView) → RowStored p first 0 bytes o o
none_stored p first bytes o = record {
  wrote = record { rest = refl; others = λ q ne. refl; there = refl; len = refl; ds = refl; inside = λ h k lt. absurd (omega arith); before = λ h k lt. refl; after = λ h k le lt. refl };
  events = stored_none p first (packed_word bytes) o;
}

-- one word more
pub word_loaded : (p first j next w : ℕ) (bs buf : List ℕ) (o : OwnerView) → w < 2 ^ 64 → 8 * j + 8 ≤ length bs → buf ≡ bytes_low_first 0 8 w ++ drop 8 (take (length bs - 8 * j) (drop (8 * j) bs)) → next ≡ j + 1 →
    (o.honest ≡ true → w ≡ word_in_view (object_at o p) (first + j)) → OwnerMade (Load o.number p (first + j)) o (Word w) o → RowLoaded p first j bs o → RowLoaded p first next (put_mid (8 * j) (length bs - 8 * j) bs buf) o
word_loaded p first j next w bs buf o wide fits is on word made before = record {
  bytes = λ h k lt. whole_read (word_in_view (object_at o p)) first j w bs buf fits is (word h) (before.bytes h) k (omega arith);
  events = λ i lt. loaded_more p first j w bs buf o wide fits is before.events made i (omega arith);
}

pub word_stored : (p first j next w : ℕ) (bs xs : List ℕ) (o u v : OwnerView) → ((k : ℕ) → get_or bs k 0 < 256) → 8 * j + 8 ≤ length bs → 8 * (first + j) + 8 ≤ len_of (object_at u p) →
    xs ≡ take (length bs - 8 * j) (drop (8 * j) bs) → w ≡ little_number 8 xs → next ≡ j + 1 → v ≡ stored_view p (first + j) w u → OwnerMade (Store u.number p (first + j) w) u Done v → RowStored p first j bs o u → RowStored p first next bs o v
word_stored p first j next w bs xs o u v small fits room part read on view made before =
    let len = before.wrote.len in record {
      wrote = subst (λ (z : ℕ × OwnerView). Wrote p (8 * first) (take (8 * z.0) bs) o z.1) (λ k. (sym on k, sym view k)) (whole_wrote p first j w bs xs o u small fits (omega arith) part read before.wrote);
      events = stored_more p first j w next (packed_word bs) o u v on (read_packed bs xs j w fits part read) before.events made view;
    }
