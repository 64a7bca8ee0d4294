use Rattle.std.proofs.Common.{◌≡◌, ℕ, None, ap, ◌+◌, ◌-◌, ◌<◌, ◌≤◌, sym, refl, subst, ◌∙◌, arith, inl, inr}
use Rattle.std.specs.Prelude.{slice_index}
use Rattle.std.proofs.lemmas.Bool.{cases_lt, false≢true}
use Rattle.far_word.specs.Header.{IsHeadOf, header_in, version_of, word_by}
use Rattle.far_word.specs.Sizes.{words_for}
use Rattle.far_word.specs.declared.header.HeadWord.{HeadWord}
use Rattle.far_word.specs.declared.version.Version.{Version}
use Rattle.far_log.specs.declared.span.Span.{Span}
use Rattle.far_log.specs.Spans.{HasHeader}
use Rattle.far_log.specs.Walk.{IsBadSpan, end_for, last_limit}
use Rattle.far_log.proofs.Padding.{padded_by_last}
use Rattle.far_log.proofs.WalkLaws.{no_header}
use Rattle.far_log.proofs.walking.span_from.Goals as goal

-- the span of a header that was read, in the version that was asked for
has_header : (word : ℕ → ℕ) (from : ℕ) (u : Version) (h : HeadWord) → u ≡ version_of (word 0) → IsHeadOf u h.pointer h.len h.ds × (word_by u h.pointer h.len h.ds ≡ word from) →
    HasHeader (version_of (word 0)) word record { at = from; p = h.pointer; len = h.len; ds = h.ds }
has_header word from u h is found = subst (λ (x : Version). HasHeader x word record { at = from; p = h.pointer; len = h.len; ds = h.ds }) is record { layout = found.0; header = sym found.1 }

none_read : (word : ℕ → ℕ) (end from : ℕ) (u : Version) → u ≡ version_of (word 0) → header_in u (word from) ≡ None → IsBadSpan (version_of (word 0)) word end from from
none_read word end from u is none = subst (λ (x : Version). IsBadSpan x word end from from) is (no_header word end from none)

pub is_padded-requires : goal.is_padded-requires
is_padded-requires c = c.in-Some.ensures.found.0.some

pub returns-in_default-clause-bad : goal.returns-in_default-clause-bad
returns-in_default-clause-bad c =
    let word : ℕ → ℕ = λ i. slice_index c.args.words.now i in
    (refl, none_read word (end_for (version_of (word 0)) c.args.tail) c.args.from c.of-version.result c.of-version.ensures (sym c.header.ensures.exact ∙ c.in_default.is))

pub returns-then-next-end_for-clause-bad : goal.returns-then-next-end_for-clause-bad
returns-then-next-end_for-clause-bad c =
    let h = c.in-Some.head in
    let word : ℕ → ℕ = λ i. slice_index c.args.words.now i in
    let span : Span = record { at = c.args.from; p = h.pointer; len = h.len; ds = h.ds } in
    let ends : c.end_for.result ≡ end_for (version_of (word 0)) c.args.tail = c.end_for.ensures ∙ ap (λ (x : Version). end_for x c.args.tail) c.of-version.ensures in
    (refl, inr (inl record { span = span; place = refl; header = has_header word c.args.from c.of-version.result h c.of-version.ensures c.in-Some.ensures.found; past = omega (arith, c.size_of.ensures, c.if-next-end_for.true, ends); named = refl }))

pub returns-then-not-is_padded-clause-bad : goal.returns-then-not-is_padded-clause-bad
returns-then-not-is_padded-clause-bad c =
    let h = c.in-Some.head in
    let word : ℕ → ℕ = λ i. slice_index c.args.words.now i in
    let span : Span = record { at = c.args.from; p = h.pointer; len = h.len; ds = h.ds } in
    let ends : c.end_for.result ≡ end_for (version_of (word 0)) c.args.tail = c.end_for.ensures ∙ ap (λ (x : Version). end_for x c.args.tail) c.of-version.ensures in
    let last : ℕ = word (c.args.from + c.size_of.result - 1) in
    let more : last_limit h.len ≤ last = elim (cases_lt last (last_limit h.len)) [
      | inl lt ↦ absurd (false≢true (sym c.if-not-is_padded.true ∙ c.is_padded.ensures.1 lt))
      | inr le ↦ le
    ] in
    (refl, inr (inr record { span = span; place = refl; header = has_header word c.args.from c.of-version.result h c.of-version.ensures c.in-Some.ensures.found; fits = omega (arith, c.size_of.ensures, c.if-next-end_for.false, ends); named = omega (arith, c.size_of.ensures); padding = more }))

pub returns-clause-span : goal.returns-clause-span
returns-clause-span c =
    let h = c.in-Some.head in
    let word : ℕ → ℕ = λ i. slice_index c.args.words.now i in
    let span : Span = record { at = c.args.from; p = h.pointer; len = h.len; ds = h.ds } in
    let ends : c.end_for.result ≡ end_for (version_of (word 0)) c.args.tail = c.end_for.ensures ∙ ap (λ (x : Version). end_for x c.args.tail) c.of-version.ensures in
    let place : c.args.from + c.size_of.result - 1 ≡ c.args.from + words_for h.len = omega (arith, c.size_of.ensures) in
    let last : word (c.args.from + words_for h.len) < last_limit h.len = subst (λ k. word k < last_limit h.len) place (c.is_padded.ensures.0 c.if-not-is_padded.false) in (
      refl,
      omega (arith, c.size_of.ensures, c.if-next-end_for.false, ends),
      record {
        header = has_header word c.args.from c.of-version.result h c.of-version.ensures c.in-Some.ensures.found;
        padding = padded_by_last word span (λ i. (c.type_inv.words i).fits) c.in-Some.ensures.found.0.some last;
      },
    )
