-- A list of spans or a first bad word: never both, and one of them always.
use Rattle.std.proofs.Common.{◌≡◌, ℕ, ◌+◌, ◌*◌, ◌-◌, ◌^◌, ◌<◌, ◌≤◌, zero, suc, arith, sym, refl, ap, subst, ◌∙◌, Option, Some, None, List, [], ◌∷◌, ◌++◌, inl, inr}
use Rattle.std.specs.Prelude.{◌⊎◌}
use Rattle.std.proofs.lemmas.Bool.{cases_lt, cases_order}
use Rattle.std.proofs.lemmas.List.Elements.{All-contains, All-head, All-push, All-nil}
use Rattle.far_word.specs.declared.header.HeadWord.{HeadWord}
use Rattle.far_word.specs.Header.{header_in, log_words, version_of}
use Rattle.far_word.specs.declared.version.Version.{Version}
use Rattle.far_word.specs.Sizes.{size_of, words_for}
use Rattle.far_word.proofs.HeaderLaws.{header_says, header_version}
use Rattle.far_log.specs.declared.span.Span.{Span}
use Rattle.far_log.specs.Spans.{HasHeader, StandsBy, Tile, header_of}
use Rattle.far_log.specs.Walk.{IsWalkBy, IsImage, IsBadSpan, FirstBadBy, FirstBad, end_for, last_limit}
use Rattle.far_log.proofs.Members.{All-from}
use Rattle.far_log.proofs.Padding.{padded_by_last, last_padded}
use Rattle.far_log.proofs.SpanLaws.{same_span, next_span, one_list, reads_as, tile_bounds}

-- ---- where spans end at the latest
pub end_low : (v : Version) (tail : ℕ) → (end_for v tail ≤ tail) × (end_for v tail ≤ log_words v)
end_low v tail = (omega arith, omega arith)

pub end_high : (v : Version) (tail x : ℕ) → x ≤ tail → x ≤ log_words v → x ≤ end_for v tail
end_high v tail x low inside = omega arith

-- ---- one span more
tile_more : (spans : List Span) (at from : ℕ) (x : Span) → Tile at spans from → x.at ≡ from → Tile at (spans ++ x ∷ []) (from + size_of x.len)
tile_more [] at from x tile place = (place ∙ sym tile, ap (λ k. k + size_of x.len) tile)
tile_more (y ∷ spans) at from x tile place = (tile.0, tile_more spans (at + size_of y.len) from x tile.1 place)

module _ {v : Version} where
  pub walk_none : (word : ℕ → ℕ) → IsWalkBy v word 0 []
  walk_none word = record { tile = refl; stand = All-nil (StandsBy v word); inside = omega arith }

  pub walk_more : (word : ℕ → ℕ) (from : ℕ) (spans : List Span) (x : Span) → IsWalkBy v word from spans → x.at ≡ from → StandsBy v word x → from + size_of x.len ≤ log_words v →
      IsWalkBy v word (from + size_of x.len) (spans ++ x ∷ [])
  walk_more word from spans x walk place stands inside = record {
    tile = tile_more spans 0 from x walk.tile place;
    stand = All-push (StandsBy v word) spans x walk.stand stands;
    inside = inside;
  }

  -- ---- never both
  module _ (word : ℕ → ℕ) (end from at : ℕ) where
    -- where a span is bad none stands that ends at the end or before it
    pub none_stands : IsBadSpan v word end from at → (y : Span) → y.at ≡ from → from + size_of y.len ≤ end → ¬ StandsBy v word y
    none_stands (inl off) y place fits stands = off.none y place stands.header
    none_stands (inr (inl past)) y place fits stands =
        let same : past.span ≡ y = same_span word past.span y (past.place ∙ sym place) past.header stands.header in
        let size : size_of past.span.len ≡ size_of y.len = ap (λ (z : Span). size_of z.len) same in
        omega (arith, past.past)
    none_stands (inr (inr ill)) y place fits stands =
        let same : ill.span ≡ y = same_span word ill.span y (ill.place ∙ sym place) ill.header stands.header in
        let last : word (y.at + words_for y.len) < last_limit y.len = last_padded word y stands.header.layout.some stands.padding in
        let there : at ≡ y.at + words_for y.len = ill.named ∙ ap (λ (z : Span). from + words_for z.len) same ∙ ap (λ k. k + words_for y.len) (sym place) in
        let limit : last_limit ill.span.len ≡ last_limit y.len = ap (λ (z : Span). last_limit z.len) same in
        let here : word at ≡ word (y.at + words_for y.len) = ap word there in
        omega (arith, ill.padding)

    -- the bad word lies below the tail
    pub bad_below : (tail : ℕ) → IsBadSpan v word end from at → from < tail → end ≤ tail → at < tail
    bad_below tail (inl off) lt le = omega (arith, off.named)
    bad_below tail (inr (inl past)) lt le = omega (arith, past.named)
    bad_below tail (inr (inr ill)) lt le = omega (arith, ill.named, ill.fits)

  -- a span is bad at one word alone
  pub one_place : (word : ℕ → ℕ) (tail from a b : ℕ) → IsBadSpan v word tail from a → IsBadSpan v word tail from b → a ≡ b
  one_place word tail from a b (inl x) (inl y) = x.named ∙ sym y.named
  one_place word tail from a b (inl x) (inr (inl y)) = absurd (x.none y.span y.place y.header)
  one_place word tail from a b (inl x) (inr (inr y)) = absurd (x.none y.span y.place y.header)
  one_place word tail from a b (inr (inl x)) (inl y) = absurd (y.none x.span x.place x.header)
  one_place word tail from a b (inr (inl x)) (inr (inl y)) = x.named ∙ sym y.named
  one_place word tail from a b (inr (inl x)) (inr (inr y)) =
      let same : x.span ≡ y.span = same_span word x.span y.span (x.place ∙ sym y.place) x.header y.header in
      let size : size_of x.span.len ≡ size_of y.span.len = ap (λ (z : Span). size_of z.len) same in
      absurd (omega (arith, x.past, y.fits))
  one_place word tail from a b (inr (inr x)) (inl y) = absurd (y.none x.span x.place x.header)
  one_place word tail from a b (inr (inr x)) (inr (inl y)) =
      let same : x.span ≡ y.span = same_span word x.span y.span (x.place ∙ sym y.place) x.header y.header in
      let size : size_of x.span.len ≡ size_of y.span.len = ap (λ (z : Span). size_of z.len) same in
      absurd (omega (arith, x.fits, y.past))
  one_place word tail from a b (inr (inr x)) (inr (inr y)) =
      let same : x.span ≡ y.span = same_span word x.span y.span (x.place ∙ sym y.place) x.header y.header in
      x.named ∙ ap (λ (z : Span). from + words_for z.len) same ∙ sym y.named

  -- spans to some place, and spans past it: none is bad there
  pub not_bad : (word : ℕ → ℕ) (from end tail at : ℕ) (spans others : List Span) → IsWalkBy v word from spans → IsWalkBy v word end others → from < end → end ≤ tail → ¬ IsBadSpan v word tail from at
  not_bad word from end tail at spans others walk other lt le bad =
      let y = next_span word spans others 0 from end walk.tile other.tile walk.stand other.stand lt in
      none_stands word tail from at bad y.0 y.1 (omega (arith, y.2)) y.3

  pub never_both : (word : ℕ → ℕ) (tail at w : ℕ) (spans : List Span) → IsWalkBy v word tail spans → ¬ FirstBadBy v word tail at w
  never_both word tail at w spans walk first = not_bad word first.from tail (end_for v tail) at first.spans spans first.before walk first.below (end_high v tail tail (omega arith) walk.inside) first.bad

  pub first_is_one : (word : ℕ → ℕ) (tail at w a b : ℕ) → FirstBadBy v word tail at w → FirstBadBy v word tail a b → (a ≡ at) × (b ≡ w)
  first_is_one word tail at w a b first other = elim (cases_order other.from first.from) [
    | inl same ↦ (let place : a ≡ at = one_place word (end_for v tail) first.from a at (subst (λ k. IsBadSpan v word (end_for v tail) k a) same other.bad) first.bad in
        (place, other.is ∙ ap word place ∙ sym first.is))
    | inr order ↦ elim order [
      | inl below ↦ absurd (not_bad word other.from first.from (end_for v tail) a other.spans first.spans other.before first.before below (end_high v tail first.from (omega (arith, first.below)) first.before.inside) other.bad)
      | inr above ↦ absurd (not_bad word first.from other.from (end_for v tail) at first.spans other.spans first.before other.before above (end_high v tail other.from (omega (arith, other.below)) other.before.inside) first.bad)
    ]
  ]

  -- ---- other words that agree as far as is read
  module _ (word other : ℕ → ℕ) (end : ℕ) (same : (i : ℕ) → i < end → other i ≡ word i) where
    pub same_header : (x : Span) → x.at < end → HasHeader v word x → HasHeader v other x
    same_header x lt has = record { layout = has.layout; header = same x.at lt ∙ has.header }

    same_span_stands : (x : Span) → x.at + size_of x.len ≤ end → StandsBy v word x → StandsBy v other x
    same_span_stands x le stands = record {
      header = same_header x (omega arith) stands.header;
      padding = λ i lt. subst (λ w. w < 2 ^ (8 * (x.len - 8 * i))) (sym (same (x.at + 1 + i) (omega arith))) (stands.padding i lt);
    }

    pub same_walk : (tail : ℕ) (spans : List Span) → tail ≤ end → IsWalkBy v word tail spans → IsWalkBy v other tail spans
    same_walk tail spans le walk = record {
      tile = walk.tile;
      stand = All-from (StandsBy v other) spans (λ x h. same_span_stands x (omega (arith, (tile_bounds spans 0 tail x walk.tile h).1)) (All-contains (StandsBy v word) spans x walk.stand h));
      inside = walk.inside;
    }

  pub same_bad : (word other : ℕ → ℕ) (end from at : ℕ) → ((i : ℕ) → i < at + 1 → other i ≡ word i) → IsBadSpan v word end from at → IsBadSpan v other end from at
  same_bad word other end from at same (inl off) = inl record {
    none = λ x place has. off.none x place (same_header other word (at + 1) (λ i lt. sym (same i lt)) x (omega (arith, off.named)) has);
    named = off.named;
  }
  same_bad word other end from at same (inr (inl past)) = inr (inl record {
    span = past.span;
    place = past.place;
    header = same_header word other (at + 1) same past.span (omega (arith, past.place, past.named)) past.header;
    past = past.past;
    named = past.named;
  })
  same_bad word other end from at same (inr (inr ill)) = inr (inr record {
    span = ill.span;
    place = ill.place;
    header = same_header word other (at + 1) same ill.span (omega (arith, ill.place, ill.named)) ill.header;
    fits = ill.fits;
    named = ill.named;
    padding = subst (λ w. last_limit ill.span.len ≤ w) (sym (same at (omega arith))) ill.padding;
  })

  -- a bad word stands at its span's place or behind it
  pub bad_low : (word : ℕ → ℕ) (end from at : ℕ) → IsBadSpan v word end from at → from ≤ at
  bad_low word end from at (inl off) = omega (arith, off.named)
  bad_low word end from at (inr (inl past)) = omega (arith, past.named)
  bad_low word end from at (inr (inr ill)) = omega (arith, ill.named)

  pub same_first : (word other : ℕ → ℕ) (tail at w : ℕ) → ((i : ℕ) → i < at + 1 → other i ≡ word i) → FirstBadBy v word tail at w → FirstBadBy v other tail at w
  same_first word other tail at w same first = record {
    from = first.from;
    spans = first.spans;
    before = same_walk word other (at + 1) same first.from first.spans (omega (arith, bad_low word (end_for v tail) first.from at first.bad)) first.before;
    below = first.below;
    bad = same_bad word other (end_for v tail) first.from at same first.bad;
    is = first.is ∙ sym (same at (omega arith));
  }

  -- no header is the word at a place
  pub no_header : (word : ℕ → ℕ) (tail from : ℕ) → header_in v (word from) ≡ None → IsBadSpan v word tail from from
  no_header word tail from e = inl record {
    none = λ x place has. let read : header_in v (word from) ≡ Some (header_of x) = ap (λ k. header_in v (word k)) (sym place) ∙ reads_as word x has in cc;
    named = refl;
  }

-- ---- one of them always
module _ (v : Version) (word : ℕ → ℕ) (fits : (i : ℕ) → word i < 2 ^ 64) (tail : ℕ) where
  -- the span at a place
  abbrev StandsOrBad : ℕ → Type 0
  StandsOrBad from = ((x : Span) × (x.at ≡ from) × (from + size_of x.len ≤ end_for v tail) × StandsBy v word x) ⊎ ((at : ℕ) × IsBadSpan v word (end_for v tail) from at)

  with_header : (x : Span) → HasHeader v word x → StandsOrBad x.at
  with_header x has = elim (cases_lt (end_for v tail) (x.at + size_of x.len)) [
    | inl past ↦ inr (x.at, inr (inl record { span = x; place = refl; header = has; past = past; named = refl }))
    | inr inside ↦ elim (cases_lt (word (x.at + words_for x.len)) (last_limit x.len)) [
      | inl last ↦ inl (x, refl, inside, record { header = has; padding = padded_by_last word x fits has.layout.some last })
      | inr more ↦ inr (x.at + words_for x.len, inr (inr record { span = x; place = refl; header = has; fits = inside; named = refl; padding = more }))
    ]
  ]

  ends : (end_for v tail ≤ tail) × (end_for v tail ≤ log_words v)
  ends = end_low v tail

  stands_or_bad : (from : ℕ) → StandsOrBad from
  stands_or_bad from = at_head (header_in v (word from)) refl where
    at_head : (o : Option HeadWord) → header_in v (word from) ≡ o → StandsOrBad from
    at_head None e = inr (from, no_header word (end_for v tail) from e)
    at_head (Some h) e = let says = header_says v (word from) h (fits from) e in
        with_header record { at = from; p = h.pointer; len = h.len; ds = h.ds } record { layout = says.0; header = sym says.1 }

  walk_or_bad : (fuel from : ℕ) (spans : List Span) → IsWalkBy v word from spans → from ≤ tail → tail ≤ from + fuel → ((spans : List Span) × IsWalkBy v word tail spans) ⊎ ((at w : ℕ) × FirstBadBy v word tail at w)
  walk_or_bad zero from spans walk low high = let e : from ≡ tail = omega arith in inl (spans, subst (λ k. IsWalkBy v word k spans) e walk)
  walk_or_bad (suc fuel) from spans walk low high = elim (cases_lt from tail) [
    | inl below ↦ elim (stands_or_bad from) [
      | inl x ↦ walk_or_bad fuel (from + size_of x.0.len) (spans ++ x.0 ∷ []) (walk_more word from spans x.0 walk x.1 x.3 (omega (arith, x.2, ends.1))) (omega (arith, x.2, ends.0)) (omega arith)
      | inr bad ↦ inr (bad.0, word bad.0, record { from = from; spans = spans; before = walk; below = below; bad = bad.1; is = refl })
    ]
    | inr end ↦ (let e : from ≡ tail = omega arith in inl (spans, subst (λ k. IsWalkBy v word k spans) e walk))
  ]

  pub walks_or_bad : ((spans : List Span) × IsWalkBy v word tail spans) ⊎ ((at w : ℕ) × FirstBadBy v word tail at w)
  walks_or_bad = walk_or_bad tail 0 [] (walk_none word) (omega arith) (omega arith)

module _ {v : Version} where
  -- ---- the first header says the version
  first_version : (word : ℕ → ℕ) (tail : ℕ) (x : Span) (spans : List Span) → IsWalkBy v word tail (x ∷ spans) → version_of (word 0) ≡ v
  first_version word tail x spans walk =
      let has = (All-head (StandsBy v word) x spans walk.stand).header in
      header_version v (word 0) x.p x.len x.ds has.layout (sym has.header ∙ ap word walk.tile.0)

  pub walk_version : (word : ℕ → ℕ) (tail : ℕ) (spans : List Span) → IsWalkBy v word tail spans → 0 < tail → version_of (word 0) ≡ v
  walk_version word tail [] walk some = absurd (omega (arith, walk.tile))
  walk_version word tail (x ∷ spans) walk some = first_version word tail x spans walk

  -- a list of spans in either version is the image's
  pub is_image : (word : ℕ → ℕ) (tail : ℕ) (spans : List Span) → IsWalkBy v word tail spans → IsImage word tail spans
  is_image word tail [] walk = record { tile = walk.tile; stand = All-nil (StandsBy (version_of (word 0)) word); inside = omega (arith, walk.tile) }
  is_image word tail (x ∷ spans) walk = subst (λ (u : Version). IsWalkBy u word tail (x ∷ spans)) (sym (first_version word tail x spans walk)) walk

-- ---- images that agree as far as is read
pub same_image : (word other : ℕ → ℕ) (tail : ℕ) (spans : List Span) → ((i : ℕ) → i < tail → other i ≡ word i) → IsImage word tail spans → IsImage other tail spans
same_image word other tail spans same walk = is_image other tail spans (same_walk word other tail same tail spans (omega arith) walk)

pub same_image_bad : (word other : ℕ → ℕ) (tail at w : ℕ) → ((i : ℕ) → i < at + 1 → other i ≡ word i) → FirstBad word tail at w → FirstBad other tail at w
same_image_bad word other tail at w same first =
    subst (λ k. FirstBadBy (version_of k) other tail at w) (sym (same 0 (omega arith))) (same_first word other tail at w same first)

-- ---- where the spans are known, the image has them and no bad word
pub image_has : {v : Version} (word : ℕ → ℕ) (tail : ℕ) (spans others : List Span) → IsWalkBy v word tail spans → IsImage word tail others → others ≡ spans
image_has word tail spans others walk image = let here = is_image word tail spans walk in
    one_list word others spans 0 tail image.tile here.tile image.stand here.stand

pub none_bad : {v : Version} (word : ℕ → ℕ) (tail at w : ℕ) (spans : List Span) → IsWalkBy v word tail spans → ¬ FirstBad word tail at w
none_bad word tail at w spans walk first = never_both word tail at w spans (is_image word tail spans walk) first
