-- The first bad word: the first that no words behind it mend; and what is read there.
use Rattle.std.proofs.Common.{◌≡◌, ℕ, ◌+◌, ◌*◌, ◌-◌, ◌/◌, ◌%◌, ◌^◌, ◌<◌, ◌≤◌, arith, sym, refl, ap, subst, cond, Option, Some, None, List, [], ◌∷◌, ◌++◌, inl, inr}
use Rattle.std.specs.Prelude.{◌⊎◌, nat_lt}
use Rattle.std.proofs.lemmas.Bool.{cond_both, cases_lt, cases_order, ltb-true, ltb-false}
use lib.Pow.{pow_mono}
use Rattle.far_word.specs.declared.header.HeadWord.{HeadWord}
use Rattle.far_word.specs.declared.version.Version.{Version}
use Rattle.far_word.specs.Header.{header_in, log_words, version_of}
use Rattle.far_word.specs.Sizes.{size_of, words_for}
use Rattle.far_word.proofs.HeaderLaws.{header_says}
use Rattle.far_log.specs.declared.span.Span.{Span}
use Rattle.far_log.specs.Spans.{HasHeader, StandsBy, header_of}
use Rattle.far_log.specs.Walk.{IsImage, IsBadSpan, FirstBad, end_for, image_spans, last_limit, IsIllPadded}
use Rattle.far_log.specs.Laws.{CanBegin, ReadsNone, ReadsTooLong, ReadsMore}
use Rattle.far_log.proofs.Padding.{padded_by_last}
use Rattle.far_log.proofs.SpanLaws.{reads_as, listed_from}
use Rattle.far_log.proofs.WalkLaws.{end_high, end_low, is_image, not_bad, bad_below, bad_low, walks_or_bad, walk_more, same_walk, same_header, same_image_bad, no_header}

module _ (word : ℕ → ℕ) (fits : (i : ℕ) → word i < 2 ^ 64) (tail : ℕ) where
  -- the version of the image, and where its spans end at the latest
  abbrev v : Version
  v = version_of (word 0)

  abbrev end : ℕ
  end = end_for v tail

  ends : (end ≤ tail) × (end ≤ log_words v)
  ends = end_low v tail

  -- ---- nothing mends the first bad word
  not_mended : (at w : ℕ) → FirstBad word tail at w → ¬ CanBegin word tail at
  not_mended at w first can =
      let u = version_of (can.other 0) in
      let there : FirstBad can.other tail at w = same_image_bad word can.other tail at w (λ i lt. can.same i (omega arith)) first in
      let below : there.from < can.end = elim (cases_lt there.from can.end) [
        | inl lt ↦ lt
        | inr past ↦ omega (arith, can.through, bad_low can.other (end_for u tail) there.from at there.bad)
      ] in
      not_bad can.other there.from can.end (end_for u tail) at there.spans can.spans there.before can.walk below (end_high u tail can.end can.inside can.walk.inside) there.bad

  -- ---- an earlier word can still be a log's
  -- the words up to a place, and zeros from there on
  abbrev cut : ℕ → ℕ → ℕ
  cut at j = cond (nat_lt j at) (word j) 0

  cut_fits : (at j : ℕ) → cut at j < 2 ^ 64
  cut_fits at j = cond_both (nat_lt j at) (word j) 0 (λ (x : ℕ). x < 2 ^ 64) (λ _. fits j) (λ _. omega arith)

  cut_below : (at j : ℕ) → j < at → cut at j ≡ word j
  cut_below at j lt = cond_both (nat_lt j at) (word j) 0 (λ (x : ℕ). x ≡ word j) (λ _. refl) (λ f. absurd (omega (arith, lt, ltb-false j at f)))

  cut_past : (at j : ℕ) → at ≤ j → cut at j ≡ 0
  cut_past at j le = cond_both (nat_lt j at) (word j) 0 (λ (x : ℕ). x ≡ 0) (λ t. absurd (omega (arith, le, ltb-true j at t))) (λ _. refl)

  some_limit : (len : ℕ) → 0 < last_limit len
  some_limit len = let h : 2 ^ 0 ≤ last_limit len = (let low : 0 ≤ 8 * (len - 8 * (words_for len - 1)) = omega arith in pow_mono low) in omega (arith, h)

  mended : (from at : ℕ) (spans : List Span) → IsImage word from spans → IsIllPadded v word end from at → (i : ℕ) → i < at → CanBegin word tail i
  mended from at spans before ill i lt =
      let x = ill.span in
      let has : HasHeader v (cut at) x = same_header word (cut at) at (cut_below at) x (omega (arith, ill.place, ill.named, ill.header.layout.some)) ill.header in
      let zeros : cut at (x.at + words_for x.len) ≡ 0 = cut_past at _ (omega (arith, ill.place, ill.named)) in
      let stands : StandsBy v (cut at) x = record { header = has; padding = padded_by_last (cut at) x (cut_fits at) has.layout.some (omega (arith, zeros, some_limit x.len)) } in
      record {
        other = cut at;
        fits = cut_fits at;
        same = λ j le. cut_below at j (omega arith);
        end = from + size_of x.len;
        through = omega (arith, ill.named);
        inside = omega (arith, ill.fits, ends.0);
        spans = spans ++ x ∷ [];
        walk = is_image (cut at) (from + size_of x.len) (spans ++ x ∷ [])
            (walk_more (cut at) from spans x (same_walk word (cut at) at (cut_below at) from spans (omega (arith, ill.named)) before) ill.place stands (omega (arith, ill.fits, ends.1)));
      }

  earlier : (at w : ℕ) → FirstBad word tail at w → (i : ℕ) → i < at → CanBegin word tail i
  earlier at w first i lt = elim (cases_lt i first.from) [
    | inl low ↦ record { other = word; fits = fits; same = λ j le. refl; end = first.from; through = low; inside = omega (arith, first.below); spans = first.spans; walk = first.before }
    | inr high ↦ elim first.bad [
      | inl off ↦ absurd (omega (arith, off.named))
      | inr more ↦ elim more [
        | inl past ↦ absurd (omega (arith, past.named))
        | inr ill ↦ mended first.from at first.spans first.before ill i lt
      ]
    ]
  ]

  pub only_first : (at w : ℕ) → FirstBad word tail at w → (at < tail) × (w ≡ word at) × (¬ CanBegin word tail at) × ((i : ℕ) → i < at → CanBegin word tail i)
  only_first at w first = (bad_below word end first.from at tail first.bad first.below ends.0, first.is, not_mended at w first, earlier at w first)

  pub first_only : (at w : ℕ) → at < tail → w ≡ word at → ¬ CanBegin word tail at → ((i : ℕ) → i < at → CanBegin word tail i) → FirstBad word tail at w
  first_only at w lt is never each = elim (walks_or_bad v word fits tail) [
    | inl walk ↦ absurd (never record { other = word; fits = fits; same = λ j le. refl; end = tail; through = lt; inside = omega arith; spans = walk.0; walk = walk.1 })
    | inr bad ↦ (let first : FirstBad word tail bad.0 bad.1 = bad.2 in
        let same : bad.0 ≡ at = elim (cases_order bad.0 at) [
          | inl e ↦ e
          | inr order ↦ elim order [
            | inl low ↦ absurd (not_mended bad.0 bad.1 first (each bad.0 low))
            | inr high ↦ absurd (never (earlier bad.0 bad.1 first at high))
          ]
        ] in
        record { from = first.from; spans = first.spans; before = first.before; below = first.below; bad = subst (λ k. IsBadSpan v word end first.from k) same first.bad; is = is })
  ]

  -- ---- what is read there
  limit_read : (len : ℕ) → 0 < len → last_limit len ≡ 2 ^ (8 * ((len - 1) % 8 + 1))
  limit_read len some = let e : len - 8 * (words_for len - 1) ≡ (len - 1) % 8 + 1 = omega arith in ap (λ n. 2 ^ (8 * n)) e

  abbrev Said : ℕ → ℕ → Type 0
  Said begin at = ReadsNone word begin at ⊎ (ReadsTooLong word tail begin at ⊎ ReadsMore word tail begin at)

  spelled : (begin : ℕ) (spans : List Span) → IsImage word begin spans → IsImage word begin (image_spans word begin)
  spelled begin spans walk = subst (λ (xs : List Span). IsImage word begin xs) (sym (listed_from word spans begin 0 begin walk.tile walk.stand (omega arith))) walk

  read_at : (x : Span) (from : ℕ) → x.at ≡ from → HasHeader v word x → header_in v (word from) ≡ Some (header_of x)
  read_at x from place has = subst (λ k. header_in v (word k) ≡ Some (header_of x)) place (reads_as word x has)

  none_read : (from : ℕ) → ((x : Span) → x.at ≡ from → ¬ HasHeader v word x) → (o : Option HeadWord) → header_in v (word from) ≡ o → o ≡ None
  none_read from none None e = refl
  none_read from none (Some h) e = let says = header_says v (word from) h (fits from) e in
      absurd (none record { at = from; p = h.pointer; len = h.len; ds = h.ds } refl record { layout = says.0; header = sym says.1 })

  pub said : (from at : ℕ) → from < tail → IsBadSpan v word end from at → Said from at
  said from at below (inl off) = inl (off.named, subst (λ k. header_in v (word k) ≡ None) (sym off.named) (none_read from off.none (header_in v (word from)) refl))
  said from at below (inr (inl past)) =
      let h = header_of past.span in
      let read : header_in v (word at) ≡ Some h = subst (λ k. header_in v (word k) ≡ Some h) (sym past.named) (read_at past.span from past.place past.header) in
      inr (inl (past.named, (h, read, omega (arith, past.past, past.named, past.header.layout.some))))
  said from at below (inr (inr ill)) =
      let h = header_of ill.span in
      let some : 0 < ill.span.len = ill.header.layout.some in
      let more : 2 ^ (8 * ((ill.span.len - 1) % 8 + 1)) ≤ word at = subst (λ n. n ≤ word at) (limit_read ill.span.len some) ill.padding in
      inr (inr (h, read_at ill.span from ill.place ill.header, omega (arith, ill.named, some), omega (arith, ill.named, ill.fits), more))

  -- the span of a header that is read
  span_read : (begin : ℕ) (h : HeadWord) → header_in v (word begin) ≡ Some h → HasHeader v word record { at = begin; p = h.pointer; len = h.len; ds = h.ds }
  span_read begin h e = let says = header_says v (word begin) h (fits begin) e in record { layout = says.0; header = sym says.1 }

  pub unsaid : (begin at : ℕ) → begin < tail → Said begin at → IsBadSpan v word end begin at
  unsaid begin at below (inl none) = subst (λ k. IsBadSpan v word end begin k) (sym none.0) (no_header word end begin (subst (λ k. header_in v (word k) ≡ None) none.0 none.1))
  unsaid begin at below (inr (inl long)) =
      let h : HeadWord = long.1.0 in
      let read : header_in v (word begin) ≡ Some h = subst (λ k. header_in v (word k) ≡ Some h) long.0 long.1.1 in
      let much : 8 * (end - 1 - at) < h.len = long.1.2 in
      inr (inl record { span = record { at = begin; p = h.pointer; len = h.len; ds = h.ds }; place = refl; header = span_read begin h read; past = omega (arith, much, long.0, below); named = long.0 })
  unsaid begin at below (inr (inr more)) =
      let h : HeadWord = more.0 in
      let has = span_read begin h more.1 in
      let some : 0 < h.len = has.layout.some in
      let place : at ≡ begin + 1 + (h.len - 1) / 8 = more.2 in
      let inside : at < end = more.3 in
      inr (inr record { span = record { at = begin; p = h.pointer; len = h.len; ds = h.ds }; place = refl; header = has; fits = omega arith; named = omega arith; padding = subst (λ n. n ≤ word at) (sym (limit_read h.len some)) more.4 })

  pub first_read : (at w : ℕ) → FirstBad word tail at w → (w ≡ word at) × ((begin : ℕ) × (begin < tail) × IsImage word begin (image_spans word begin) × Said begin at)
  first_read at w first = (first.is, (first.from, first.below, spelled first.from first.spans first.before, said first.from at first.below first.bad))

  pub read_first : (at w : ℕ) → w ≡ word at → (begin : ℕ) → begin < tail → IsImage word begin (image_spans word begin) → Said begin at → FirstBad word tail at w
  read_first at w is begin below walk says = record { from = begin; spans = image_spans word begin; before = walk; below = below; bad = unsaid begin at below says; is = is }
