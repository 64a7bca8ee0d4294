-- The words of a log read one after the other, while owners store into their objects, walk to its spans.
use Rattle.std.proofs.Common.{◌≡◌, ℕ, ◌+◌, ◌-◌, ◌*◌, ◌^◌, ◌<◌, true, arith, sym, refl, ap, subst, ◌∙◌, List, length, inl, inr, get_or-set_same, get_or-set_other}
use Rattle.std.specs.Prelude.{Contains, slice_index, slice_set}
use Rattle.std.proofs.lemmas.Bool.{cases_eq}
use Rattle.std.proofs.lemmas.List.Elements.{All-contains}
use Rattle.far_word.specs.declared.sizes.TheConstants.{LOG_WORDS}
use Rattle.far_word.specs.Sizes.{words_for}
use Rattle.far_log.specs.declared.span.Span.{Span}
use Rattle.far_log.specs.Spans.{Stands, head_len}
use Rattle.far_log.specs.Walk.{IsWalk}
use Rattle.far_log.proofs.Members.{All-from}
use Rattle.far_log.proofs.SpanLaws.{tile_bounds}
use Rattle.far_events.specs.state.Law.{Law}
use Rattle.far_events.specs.state.Spans.{spans_of, word_in}
use Rattle.far_events.specs.state.State.{State}
use Rattle.far_core.proofs.Observations.{found, walks}
use Rattle.far_hand.specs.Known.{IsKnown, IsPaddedAt}
use Rattle.far_book.specs.book.Own.{own_part}
use Rattle.far_book.specs.book.Reading.{HeadersKnown, IsReadAt}
use Rattle.far_book.proofs.region.Owns.{own_header, own_spans}

pub headers_known : (s : State) → Law (own_part s) → HeadersKnown s
headers_known s law a begun = subst (λ w. w < 2 ^ 64) (own_header s a begun) (law.spans.word_fits a)

-- what is read of a state that has the same headers
module _ (s t : State) (is : t ≡ record s { word = t.word }) (headers : (a : ℕ) → s.starts a ≡ true → t.word a ≡ s.word a) (known : HeadersKnown s) where
  begins : (a : ℕ) → t.starts a ≡ s.starts a
  begins a = ap (λ (u : State). u.starts a) is

  pub still_known : (a : ℕ) → s.starts a ≡ true → IsKnown (t.word a)
  still_known a begun = subst IsKnown (sym (headers a begun)) (known a begun)

  pub read_at : (a w : ℕ) → (IsKnown (t.word a) → w ≡ t.word a) → IsPaddedAt t a w → IsReadAt s a w
  read_at a w same padded = record {
    header = λ begun. same (still_known a begun) ∙ headers a begun;
    padding = λ b i begun inside here. subst (λ h. w < 2 ^ (8 * (head_len h - 8 * i))) (headers b begun)
        (padded b i (begins b ∙ begun) (subst (λ h. i < words_for (head_len h)) (sym (headers b begun)) inside) here);
  }

module _ (s : State) (law : Law (own_part s)) (l : ℕ) (row : ℕ → ℕ) (read : (i : ℕ) → i < s.tail l → IsReadAt s (l * LOG_WORDS + i) (row i)) where
  stands : (x : Span) → Contains (spans_of (own_part s) l) x → Stands row x
  stands x member =
      let walk = walks (own_part s) law l in
      let there = found (own_part s) law l x member in
      let ends = (tile_bounds (spans_of (own_part s) l) 0 (s.tail l) x walk.tile member).1 in
      let old : Stands (word_in (own_part s) l) x = All-contains (Stands (word_in (own_part s) l)) (spans_of (own_part s) l) x walk.stand member in
      let header : row x.at ≡ (own_part s).word (l * LOG_WORDS + x.at) = (read x.at there.0).header there.1 ∙ sym (own_header s (l * LOG_WORDS + x.at) there.1) in
      let long : x.len ≡ head_len (s.word (l * LOG_WORDS + x.at)) = ap (λ (y : Span). y.len) there.2 ∙ ap head_len (own_header s (l * LOG_WORDS + x.at) there.1) in
      record {
        header = record { layout = old.header.layout; header = header ∙ old.header.header };
        padding = λ i lt. subst (λ n. row (x.at + 1 + i) < 2 ^ (8 * (n - 8 * i))) (sym long)
            ((read (x.at + 1 + i) (omega arith)).padding (l * LOG_WORDS + x.at) i there.1 (subst (λ n. i < words_for n) long lt) (omega arith));
      }

  pub row_walks : IsWalk row (s.tail l) (spans_of s l)
  row_walks = subst (IsWalk row (s.tail l)) (sym (own_spans s law l)) record {
    tile = (walks (own_part s) law l).tile;
    stand = All-from (Stands row) (spans_of (own_part s) l) stands;
    inside = (walks (own_part s) law l).inside;
  }

-- one word more is read
pub read_more : (s : State) (l i w : ℕ) (words : List ℕ) → i < length words → ((k : ℕ) → k < i → IsReadAt s (l * LOG_WORDS + k) (slice_index words k)) → IsReadAt s (l * LOG_WORDS + i) w →
    (k : ℕ) → k < i + 1 → IsReadAt s (l * LOG_WORDS + k) (slice_index (slice_set words i w) k)
read_more s l i w words long old new k lt = elim (cases_eq k i) [
  | inl e ↦ (let same : slice_index (slice_set words i w) i ≡ w = rw get_or-set_same refl in
      subst (λ j. IsReadAt s (l * LOG_WORDS + j) (slice_index (slice_set words i w) j)) (sym e) (subst (IsReadAt s (l * LOG_WORDS + i)) (sym same) new))
  | inr ne ↦ (let below : k < i = omega arith in
      let same : slice_index (slice_set words i w) k ≡ slice_index words k = rw get_or-set_other refl in
      subst (IsReadAt s (l * LOG_WORDS + k)) (sym same) (old k below))
]
