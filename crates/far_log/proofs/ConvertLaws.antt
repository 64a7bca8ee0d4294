-- Converting an image: the next span of one of version 1, its header written anew, and what stands in the end.
use Rattle.std.proofs.Common.{◌≡◌, ◌==◌, if◌then◌else◌, ℕ, ◌+◌, ◌-◌, ◌*◌, ◌<◌, ◌≤◌, ◌^◌, arith, sym, refl, ap, subst, ◌∙◌, Option, Some, IfSome, List, [], ◌∷◌, ◌++◌, map, length, get_or, slice_set, inl, inr}
use Rattle.std.specs.Prelude.{◌≢◌, All, Contains, IsSome}
use Rattle.std.proofs.lemmas.Bool.{cases_lt}
use Rattle.std.proofs.lemmas.Grind.{get_or-set_at}
use Rattle.std.proofs.lemmas.List.{get_or-set_other}
use Rattle.std.proofs.lemmas.List.Elements.{All-contains, All-head, All-map, All-push, All-tail}
use Rattle.far_word.specs.Header.{IsHeadOf, head_of_v1, head_word, log_words, version_of}
use Rattle.far_word.specs.Mark.{field}
use Rattle.far_word.specs.Sizes.{size_of, words_for}
use Rattle.far_word.specs.declared.header.HeadWordV1.{HeadWordV1}
use Rattle.far_word.specs.declared.sizes.TheConstants.{POINTERS}
use Rattle.far_word.specs.declared.version.Version.{Version}
use Rattle.far_word.specs.declared.version.Version.TheVariants.{First, Second}
use Rattle.far_word.proofs.HeaderLaws.{SaysHeadV1, head_found_v1, head_only_v1}
use Rattle.far_log.specs.declared.span.Span.{Span}
use Rattle.far_log.specs.Laws.{ConvertedSays}
use Rattle.far_log.specs.Convert.{IsConverted, IsRenewed, SameData, renewed, renumbered}
use Rattle.far_log.specs.Spans.{HasHeader, StandsBy, Tile}
use Rattle.far_log.specs.Walk.{IsImage, IsWalk, IsWalkBy}
use Rattle.far_log.proofs.Members.{All-from, none_in, split}
use Rattle.far_log.proofs.SpanLaws.{covers, next_span, one_list, same_span, tile_bounds}
use Rattle.far_log.proofs.WalkLaws.{is_image}

-- ---- pointers
-- a header of either version is one here once its pointer is renumbered
pub renewed_head : (v : Version) (p len ds : ℕ) → IsHeadOf v p len ds → IsHeadOf Second (renumbered v p) len ds
renewed_head First p len ds ok =
    let most : len ≤ 1016 = ok.most in let cell : p < 1024 = ok.cell in
    record { some = ok.some; most = omega arith; structure = ok.structure; cell = omega arith }
renewed_head Second p len ds ok =
    let cell : p < POINTERS = ok.cell in
    record { some = ok.some; most = ok.most; structure = ok.structure; cell = omega arith }

pub same_number : (p : ℕ) → renumbered Second p ≡ p
same_number p = omega arith

-- ---- the span that stands where others end, by the header that is read there
module _ (word : ℕ → ℕ) (tail at : ℕ) (done all : List Span) (before : IsWalkBy First word at done) (walk : IsWalkBy First word tail all) (below : at < tail) where
  next : (y : Span) × (y.at ≡ at) × (at + size_of y.len ≤ tail) × StandsBy First word y
  next = next_span word done all 0 at tail before.tile walk.tile before.stand walk.stand below

  pub next_read : IsSome (head_of_v1 (word at))
  next_read =
      let y = next in
      let has = y.3.header in
      let e : head_of_v1 (word at) ≡ Some record { pointer = y.0.p; len = y.0.len; ds = y.0.ds } = head_only_v1 (word at) record { pointer = y.0.p; len = y.0.len; ds = y.0.ds } has.layout (sym has.header ∙ ap word y.1) in
      subst (λ (o : Option HeadWordV1). IsSome o) (sym e) refl

  pub next_stands : (h : HeadWordV1) → word at < 2 ^ 64 → head_of_v1 (word at) ≡ Some h → (at + size_of h.len ≤ tail) × StandsBy First word record { at = at; p = h.pointer; len = h.len; ds = h.ds }
  next_stands h fits e =
      let y = next in
      let says : SaysHeadV1 (word at) h = subst (λ (o : Option HeadWordV1). IfSome o (SaysHeadV1 (word at))) e (head_found_v1 (word at) fits) in
      let has : HasHeader First word record { at = at; p = h.pointer; len = h.len; ds = h.ds } = record { layout = says.0; header = sym says.1 } in
      let same : y.0 ≡ record { at = at; p = h.pointer; len = h.len; ds = h.ds } = same_span word y.0 record { at = at; p = h.pointer; len = h.len; ds = h.ds } y.1 y.3.header has in
      (subst (λ (x : Span). at + size_of x.len ≤ tail) same y.2, subst (λ (x : Span). StandsBy First word x) same y.3)

-- ---- one header more is written
same_renewed : {v : Version} (word new other : ℕ → ℕ) (spans : List Span) (at : ℕ) → Tile 0 spans at → ((i : ℕ) → i < at → other i ≡ new i) → All (IsRenewed v word new) spans → All (IsRenewed v word other) spans
same_renewed {v} word new other spans at tile same all = All-from (IsRenewed v word other) spans (λ x h.
    let old = All-contains (IsRenewed v word new) spans x all h in
    let bound = tile_bounds spans 0 at x tile h in
    record {
      header = same x.at (omega (arith, bound.1)) ∙ old.header;
      same_data = λ i lt. same (x.at + 1 + i) (omega (arith, bound.1)) ∙ old.same_data i lt;
    })

pub renewed_more : (word : ℕ → ℕ) (xs : List ℕ) (at w tail : ℕ) (spans : List Span) (x : Span) → Tile 0 spans at → All (IsRenewed First word (λ i. get_or xs i 0)) spans →
    x.at ≡ at → at + size_of x.len ≤ tail → at < length xs → w ≡ head_word (renumbered First x.p) x.len x.ds → ((i : ℕ) → at ≤ i → i < tail → get_or xs i 0 ≡ word i) →
    All (IsRenewed First word (λ i. get_or (slice_set xs at w) i 0)) (spans ++ x ∷ [])
renewed_more word xs at w tail spans x tile all place fits inside is copied =
    All-push (IsRenewed First word (λ i. get_or (slice_set xs at w) i 0)) spans x
    (same_renewed word (λ i. get_or xs i 0) (λ i. get_or (slice_set xs at w) i 0) spans at tile (λ i lt. let ne : i ≢ at = (λ e. omega (arith, e, lt)) in get_or-set_other xs at i w 0 ne) all)
    record {
      header = get_or-set_at xs at x.at w 0 place inside ∙ is;
      same_data = λ i lt. let ne : x.at + 1 + i ≢ at = (λ e. omega (arith, e, place)) in
          get_or-set_other xs at (x.at + 1 + i) w 0 ne ∙ copied (x.at + 1 + i) (omega (arith, place)) (omega (arith, place, fits, lt));
    }

-- ---- the image in the end
renewed_tile : (v : Version) (spans : List Span) (at tail : ℕ) → Tile at spans tail → Tile at (map (renewed v) spans) tail
renewed_tile v [] at tail tile = tile
renewed_tile v (x ∷ spans) at tail tile = (tile.0, renewed_tile v spans (at + size_of x.len) tail tile.1)

renewed_stands : (v : Version) (word new : ℕ → ℕ) (x : Span) → StandsBy v word x → IsRenewed v word new x → StandsBy Second new (renewed v x)
renewed_stands v word new x stands is = record {
  header = record { layout = renewed_head v x.p x.len x.ds stands.header.layout; header = is.header };
  padding = λ i lt. subst (λ w. w < 2 ^ (8 * (x.len - 8 * i))) (sym (is.same_data i lt)) (stands.padding i lt);
}

room : (v : Version) → log_words v ≤ log_words Second
room First = omega arith
room Second = omega arith

renewed_walk : (v : Version) (word new : ℕ → ℕ) (tail : ℕ) (spans : List Span) → IsWalkBy v word tail spans → All (IsRenewed v word new) spans → IsWalk new tail (map (renewed v) spans)
renewed_walk v word new tail spans walk all = record {
  tile = renewed_tile v spans 0 tail walk.tile;
  stand = All-map (StandsBy Second new) (renewed v) spans (All-from (λ x. StandsBy Second new (renewed v x)) spans (λ x h.
      renewed_stands v word new x (All-contains (StandsBy v word) spans x walk.stand h) (All-contains (IsRenewed v word new) spans x all h)));
  inside = omega (arith, walk.inside, room v);
}

renewed_data : (v : Version) (word new : ℕ → ℕ) (spans : List Span) → All (IsRenewed v word new) spans → All (SameData word new) spans
renewed_data v word new spans all = All-from (SameData word new) spans (λ x h. (All-contains (IsRenewed v word new) spans x all h).same_data)

-- a copy has all spans renewed where no number changes
copied_span : (word new : ℕ → ℕ) (tail : ℕ) (x : Span) → ((i : ℕ) → i < tail → new i ≡ word i) → x.at + size_of x.len ≤ tail → StandsBy Second word x → IsRenewed Second word new x
copied_span word new tail x same le stands = record {
  header = same x.at (omega (arith, le)) ∙ stands.header.header ∙ ap (λ p. head_word p x.len x.ds) (sym (same_number x.p));
  same_data = λ i lt. same (x.at + 1 + i) (omega (arith, le, lt));
}

copied_all : (word new : ℕ → ℕ) (tail : ℕ) (spans : List Span) → ((i : ℕ) → i < tail → new i ≡ word i) → IsWalkBy Second word tail spans → All (IsRenewed Second word new) spans
copied_all word new tail spans same walk = All-from (IsRenewed Second word new) spans (λ x h.
    copied_span word new tail x same (tile_bounds spans 0 tail x walk.tile h).1 (All-contains (StandsBy Second word) spans x walk.stand h))

-- an image of version 2 that is copied
pub copied_image : (word new : ℕ → ℕ) (tail : ℕ) (spans : List Span) → version_of (word 0) ≡ Second → ((i : ℕ) → i < tail → new i ≡ word i) → IsImage word tail spans → IsConverted word new tail
copied_image word new tail spans is same walk =
    let here : IsWalkBy Second word tail spans = subst (λ (v : Version). IsWalkBy v word tail spans) is walk in
    let all : All (IsRenewed Second word new) spans = copied_all word new tail spans same here in
    record {
      spans = spans;
      old = walk;
      new_spans = subst (λ (v : Version). IsWalk new tail (map (renewed v) spans)) (sym is) (renewed_walk Second word new tail spans here all);
      same_data = renewed_data Second word new spans all;
      copied = λ _. same;
    }

-- one of version 1 whose spans are renewed
first≢second : First ≢ Second
first≢second e = subst (λ (v : Version). of_first v) e tt where
  of_first : Version → Type 0
  of_first First = Unit {0}
  of_first Second = ⊥

pub renewed_image : (word new : ℕ → ℕ) (tail : ℕ) (spans : List Span) → version_of (word 0) ≡ First → IsWalkBy First word tail spans → All (IsRenewed First word new) spans → IsConverted word new tail
renewed_image word new tail spans is walk all = record {
  spans = spans;
  old = subst (λ (v : Version). IsWalkBy v word tail spans) (sym is) walk;
  new_spans = subst (λ (v : Version). IsWalk new tail (map (renewed v) spans)) (sym is) (renewed_walk First word new tail spans walk all);
  same_data = renewed_data First word new spans all;
  copied = λ second. absurd (first≢second (sym is ∙ second));
}

-- ---- what is converted
-- the spans are the image's own
pub converted_walks : (word new : ℕ → ℕ) (tail : ℕ) (spans : List Span) → IsConverted word new tail → IsImage word tail spans → IsImage new tail (map (renewed (version_of (word 0))) spans)
converted_walks word new tail spans made walk =
    let same : made.spans ≡ spans = one_list word made.spans spans 0 tail made.old.tile walk.tile made.old.stand walk.stand in
    subst (λ (xs : List Span). IsImage new tail (map (renewed (version_of (word 0))) xs)) same
    (is_image new tail (map (renewed (version_of (word 0))) made.spans) made.new_spans)

-- a span's words are said by its header and its data
map_stands : (v : Version) (new : ℕ → ℕ) (spans : List Span) → All (StandsBy Second new) (map (renewed v) spans) → (x : Span) → Contains spans x → StandsBy Second new (renewed v x)
map_stands v new [] all x h = absurd (none_in x h)
map_stands v new (y ∷ spans) all x h = elim (split x y spans h) [
  | inl e ↦ subst (λ (z : Span). StandsBy Second new (renewed v z)) e (All-head (StandsBy Second new) (renewed v y) (map (renewed v) spans) all)
  | inr more ↦ map_stands v new spans (All-tail (StandsBy Second new) (renewed v y) (map (renewed v) spans) all) x more
]

pub converted_is_one : (word new other : ℕ → ℕ) (tail : ℕ) → IsConverted word new tail → IsConverted word other tail → (i : ℕ) → i < tail → new i ≡ other i
converted_is_one word new other tail made also i lt =
    let v = version_of (word 0) in
    let same : also.spans ≡ made.spans = one_list word also.spans made.spans 0 tail also.old.tile made.old.tile also.old.stand made.old.stand in
    let x = covers made.spans 0 tail i made.old.tile (omega arith) lt in
    let there : Contains also.spans x.0 = subst (λ (xs : List Span). Contains xs x.0) (sym same) x.1 in
    let a = map_stands v new made.spans made.new_spans.stand x.0 x.1 in
    let b = map_stands v other also.spans also.new_spans.stand x.0 there in
    elim (cases_lt x.0.at i) [
      | inr here ↦ (let e : x.0.at ≡ i = omega (arith, x.2.0, here) in subst (λ k. new k ≡ other k) e (a.header.header ∙ sym b.header.header))
      | inl behind ↦ (let e : x.0.at + 1 + (i - x.0.at - 1) ≡ i = omega (arith, behind) in
          let inside : i - x.0.at - 1 < words_for x.0.len = omega (arith, x.2.1, behind) in
          subst (λ k. new k ≡ other k) e
          (All-contains (SameData word new) made.spans x.0 made.same_data x.1 (i - x.0.at - 1) inside ∙ sym (All-contains (SameData word other) also.spans x.0 also.same_data there (i - x.0.at - 1) inside)))
    ]

-- the version by the top byte
abbrev says : ℕ → Version
says k = if k == 0xa1 then First else Second

pub says_first : (w : ℕ) → field w 56 8 ≡ 0xa1 → version_of w ≡ First
says_first w e = subst (λ k. says k ≡ First) (sym e) refl

says_second : (w : ℕ) → field w 56 8 ≡ 0xa2 → version_of w ≡ Second
says_second w e = subst (λ k. says k ≡ Second) (sym e) refl

-- the words of what is converted
pub converted_is_said : (word new : ℕ → ℕ) (tail : ℕ) (spans : List Span) → IsConverted word new tail → IsImage word tail spans → ConvertedSays word new tail spans
converted_is_said word new tail spans made walk =
    let v = version_of (word 0) in
    let same : spans ≡ made.spans = one_list word spans made.spans 0 tail walk.tile made.old.tile walk.stand made.old.stand in
    let there : (x : Span) → Contains spans x → Contains made.spans x = (λ x h. subst (λ (xs : List Span). Contains xs x) same h) in
    record {
      headers = λ first x h.
          let stands : StandsBy Second new (renewed v x) = map_stands v new made.spans made.new_spans.stand x (there x h) in
          subst (λ (u : Version). new x.at ≡ head_word (renumbered u x.p) x.len x.ds) (says_first (word 0) first) stands.header.header;
      behind = λ x h i after inside.
          let e : x.at + 1 + (i - x.at - 1) ≡ i = omega arith in
          let few : i - x.at - 1 < words_for x.len = omega arith in
          subst (λ k. new k ≡ word k) e (All-contains (SameData word new) made.spans x made.same_data (there x h) (i - x.at - 1) few);
      copied = λ second. made.copied (says_second (word 0) second);
    }

-- where an image ends at the latest
pub image_short : (word : ℕ → ℕ) (tail : ℕ) (spans : List Span) → IsImage word tail spans → (tail ≤ 512) × (field (word 0) 56 8 ≡ 0xa1 → tail ≤ 128)
image_short word tail spans walk =
    let v = version_of (word 0) in
    let most : log_words v ≤ 512 = room v in
    (omega (arith, walk.inside, most), λ first. subst (λ (u : Version). tail ≤ log_words u) (says_first (word 0) first) walk.inside)
