-- A far object comes near: what is written, what may be named, and what that leaves.
use Rattle.std.proofs.Common.{◌≡◌, ℕ, ◌+◌, ◌-◌, ◌*◌, ◌<◌, ◌≤◌, ◌^◌, Bool, true, false, Result, Ok, Err, arith, sym, refl, ap, subst, ◌∙◌, Some, inl, inr}
use Rattle.std.specs.Prelude.{◌⊎◌, ◌&&◌, ◌||◌, IfErr, not}
use Rattle.std.proofs.lemmas.Bool.{false≢true}
use Rattle.far_word.specs.declared.mark.Marks.{Marks}
use Rattle.far_word.specs.declared.pointer.Place.{Place}
use Rattle.far_word.specs.declared.pointer.PtrWord.TheVariants.{Near, Far}
use Rattle.far_word.specs.declared.sizes.TheConstants.{CELLS}
use Rattle.far_word.specs.Header.{head_word}
use Rattle.far_word.specs.Pointer.{IsPtr, read_of}
use Rattle.far_word.specs.Sizes.{size_of, words_for}
use Rattle.far_word.proofs.PointerLaws.{read_back}
use Rattle.far_events.specs.declared.event.Event.TheVariants as events
use Rattle.far_events.specs.declared.naming.Naming.TheVariants as naming
use Rattle.far_events.specs.events.Copies.{Alike, data_at}
use Rattle.far_events.specs.events.Legal.{IsNext}
use Rattle.far_events.specs.events.namings.Fetches.{words_stored}
use Rattle.far_events.specs.events.Naming.{is_dropped, no_marks}
use Rattle.far_events.specs.events.Ranges.{with_row}
use Rattle.far_events.specs.events.Step.{after}
use Rattle.far_events.specs.state.Law.{is_dirty}
use Rattle.far_events.specs.state.State.{State, put, addr}
use Rattle.far_events.proofs.Put.{put_same, put_other}
use Rattle.far_events.proofs.Rows.{row_in, row_out, row_is}
use Rattle.far_hand.specs.Finds.{Finds, body_of}
use Rattle.far_book.specs.book.Effects.{fetched, fetched_of, near_word, with_written_span}
use Rattle.far_book.specs.book.Placeable.{IsAbsent}
use Rattle.far_book.specs.book.Renaming.{MayRename, seen, stops}
use Rattle.far_book.proofs.region.Dirt.{not_dropped}
use Rattle.far_book.proofs.region.Leaving.{far_cell}

-- what is found in a far object's cell is far
pub far_found : (v w len ds : ℕ) (m : Marks) → Finds v w → read_of v ≡ Some (Far len ds m) → (k : Marks) × (read_of w ≡ Some (Far len ds k))
far_found v w len ds m f e = far_cell (read_of w) len ds m (ap body_of (sym e) ∙ sym f.body)

only_dropped : (d a k : Bool) → a ≡ false → (d || (a && not k)) ≡ true → d ≡ true
only_dropped true a k none h = refl
only_dropped false true k none h = absurd (false≢true (sym none))
only_dropped false false k none h = h

-- so what stops its naming has DROP
pub far_stopped : {A : Type 0} (r : Result A ℕ) (v len ds : ℕ) (m : Marks) → read_of v ≡ Some (Far len ds m) → IfErr r (λ w. Finds v w) → IfErr r (λ w. stops (read_of v) (read_of w) ≡ true) →
    IfErr r (λ w. is_dropped (read_of w) ≡ true)
far_stopped (Ok x) v len ds m far f h = tt
far_stopped (Err w) v len ds m far f h = only_dropped (is_dropped (read_of w)) (is_dirty (read_of w)) (is_dirty (read_of v)) (ap is_dirty (far_found v w len ds m f far).1) h

module _ (s : State) (p len ds : ℕ) (place : Place) (row : ℕ → ℕ) where
  abbrev written : State
  written = with_written_span s p len ds place row

  pub header : written.word (addr place) ≡ head_word p len ds
  header = row_out (put s.word (addr place) (head_word p len ds)) (addr place + 1) (words_for len) row (addr place) (inl (omega arith)) ∙ put_same s.word (addr place) (head_word p len ds) (addr place) refl

  -- a word outside the span
  pub written_outside : (a : ℕ) → (a < addr place) ⊎ (addr place + size_of len ≤ a) → written.word a ≡ s.word a
  written_outside a (inl low) = row_out (put s.word (addr place) (head_word p len ds)) (addr place + 1) (words_for len) row a (inl (omega arith)) ∙ put_other s.word (addr place) (head_word p len ds) a (λ e. omega arith)
  written_outside a (inr high) = row_out (put s.word (addr place) (head_word p len ds)) (addr place + 1) (words_for len) row a (inr (omega arith)) ∙ put_other s.word (addr place) (head_word p len ds) a (λ e. omega arith)

  pub stands : (i : ℕ) → i < words_for len → data_at written.word place i ≡ row i
  stands i lt = row_in (put s.word (addr place) (head_word p len ds)) (addr place + 1) (words_for len) row (addr place + 1 + i) (omega arith) (omega arith)
      ∙ (let at : addr place + 1 + i - (addr place + 1) ≡ i = omega arith in ap row at)

  -- whatever marks are found, the place may be named
  pub may_come : p < CELLS * s.mutators → IsAbsent (read_of (s.cell p)) len ds → 0 < len → IsPtr (Near len ds place no_marks) → IsNext s place →
      row (words_for len - 1) < 2 ^ (8 * (len - 8 * (words_for len - 1))) → (s.honest ≡ true → Alike row (s.stored p) (words_for len)) → MayRename written p (near_word false len ds place)
  may_come pointer absent some layout next ends stored word fits finds on =
      let alive : is_dropped (read_of word) ≡ false = not_dropped (s.cell p) word on in
      let far = far_found (s.cell p) word len ds absent.0 finds absent.1 in
      let here : (seen written p word).cell p ≡ word = put_same s.cell p word p refl in
      let last : words_for len - 1 < words_for len = omega arith in (
        (
          pointer,
          (
            naming.Fetches len ds place,
            ((far.0, far.1, sym (ap is_dropped far.1) ∙ alive), read_back (Near len ds place no_marks) layout),
            record {
              span = record { next = next; head = header };
              padded = subst (λ w. w < 2 ^ (8 * (len - 8 * (words_for len - 1)))) (sym (stands (words_for len - 1) last)) ends;
              stored = λ honest. record { all = ap words_stored (ap read_of here ∙ far.1); same = λ i lt. stands i lt ∙ stored honest i lt };
            },
          ),
        ),
        λ n at h none i lt. let odd : Some (Far len ds far.0) ≡ Some (Near n h.0 at h.1) = sym far.1 ∙ h.2 in absurd cc,
      )

  -- by its own word the cell is named so
  pub fetched_is : (m : Marks) → read_of (s.cell p) ≡ Some (Far len ds m) → fetched s p place row ≡ after written (events.Name p (s.cell p) (near_word false len ds place))
  fetched_is m e = ap (fetched_of s p place row) e

  -- it is the same with another row of the same words
  pub fetched_alike : (m : Marks) → read_of (s.cell p) ≡ Some (Far len ds m) → (other : ℕ → ℕ) → Alike row other (words_for len) → fetched s p place row ≡ fetched s p place other
  fetched_alike m e other same =
      let headed = put s.word (addr place) (head_word p len ds) in
      let words : with_row headed (addr place + 1) (words_for len) row ≡ with_row headed (addr place + 1) (words_for len) other =
      row_is headed (with_row headed (addr place + 1) (words_for len) row) (addr place + 1) (words_for len) other
      (λ k low high. row_in headed (addr place + 1) (words_for len) row k low high ∙ same (k - (addr place + 1)) (omega arith)) (λ k out. row_out headed (addr place + 1) (words_for len) row k out) in
      ap (fetched_of s p place row) e ∙ ap (λ (w : ℕ → ℕ). after (record s { word = w }) (events.Name p (s.cell p) (near_word false len ds place))) words ∙ sym (ap (fetched_of s p place other) e)
