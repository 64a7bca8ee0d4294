-- An object is read word by word: its bytes, and what is known of its words then.
use Rattle.std.proofs.Common.{◌≡◌, ◌≢◌, ℕ, ◌+◌, ◌-◌, ◌*◌, ◌^◌, ◌<◌, ◌≤◌, true, false, arith, sym, refl, ap, subst, ◌∙◌, List, length, take, get_or, inl, inr, length-take-le}
use Rattle.std.proofs.lemmas.Bool.{cases_eq, cases_lt, false≢true}
use Rattle.std.proofs.lemmas.List.{ext_get_or, get_or-take}
use Rattle.far_word.specs.declared.pointer.Place.{Place}
use Rattle.far_word.specs.Bytes.{bytes_of}
use Rattle.far_word.specs.Sizes.{words_for}
use Rattle.far_word.proofs.ByteLaws.{bytes_of-get, length-bytes_of}
use Rattle.far_log.specs.Spans.{head_len}
use Rattle.far_events.specs.state.State.{State, put, addr}
use Rattle.far_events.proofs.Put.{put_both, put_other}
use Rattle.far_hand.specs.Known.{IsKnown, IsPaddedAt}
use Rattle.far_book.specs.book.Dealing.{Leaves}
use Rattle.far_hand.specs.Quiet.{IsQuietAt}
use Rattle.far_book.specs.book.Evicting.{IsQuietData, Learns}

-- ---- bytes
-- the first of the bytes of whole words
pub bytes_front : (f : ℕ → ℕ) (xs : List ℕ) (n len : ℕ) → len ≤ 8 * n → 8 * n ≤ length xs → take (8 * n) xs ≡ bytes_of f (8 * n) → take len xs ≡ bytes_of f len
bytes_front f xs n len few fits front =
    let long : length (take len xs) ≡ len = length-take-le len xs (omega arith) in
    ext_get_or 0 _ _ (long ∙ sym (length-bytes_of f len)) (λ k lt. let low : k < len = omega (arith, long) in
    get_or-take len xs k 0 low ∙ sym (get_or-take (8 * n) xs k 0 (omega arith)) ∙ ap (λ ys. get_or ys k 0) front ∙ bytes_of-get f (8 * n) k (omega arith) ∙ sym (bytes_of-get f len k low))

-- ---- words
pub learns_none : (s : State) (place : Place) → Learns s s.word place 0
learns_none s place = record {
  known = λ i lt. absurd (omega arith);
  same = λ i lt. absurd (omega arith);
  padded = λ i lt. absurd (omega arith);
  others = λ a none. refl;
}

module _ (s : State) (word : ℕ → ℕ) (place : Place) (n : ℕ) (bare : s.starts (addr place + 1 + n) ≡ false) (before : (i : ℕ) → i < n → s.starts (addr place + 1 + i) ≡ false) (h : Learns s word place n) where
  -- headers are as they were
  pub header_same : (b : ℕ) → s.starts b ≡ true → word b ≡ s.word b
  header_same b begun = h.others b (λ i lt e. false≢true (sym (before i lt) ∙ ap s.starts (sym e) ∙ begun))

  pub padded_same : (a w : ℕ) (t : State) → t ≡ record s { word = word } → IsPaddedAt t a w → IsPaddedAt s a w
  padded_same a w t is padded b i begun inside here =
      let there : IsPaddedAt (record s { word = word }) a w = subst (λ (u : State). IsPaddedAt u a w) is padded in
      subst (λ x. w < 2 ^ (8 * (head_len x - 8 * i))) (header_same b begun)
      (there b i begun (subst (λ x. i < words_for (head_len x)) (sym (header_same b begun)) inside) here)

  -- the word behind them is read too
  pub learns_more : (w : ℕ) → w < 2 ^ 64 → (IsKnown (word (addr place + 1 + n)) → w ≡ word (addr place + 1 + n)) → IsPaddedAt s (addr place + 1 + n) w →
      Learns s (put word (addr place + 1 + n) w) place (n + 1)
  learns_more w fits same padded = record {
    known = λ i lt. put_both IsKnown word (addr place + 1 + n) w (addr place + 1 + i) (λ _. fits) (λ ne. h.known i (low i lt ne));
    same = λ i lt known. put_both (λ x. x ≡ s.word (addr place + 1 + i)) word (addr place + 1 + n) w (addr place + 1 + i)
        (λ e. let last : i ≡ n = omega arith in
        let old : word (addr place + 1 + n) ≡ s.word (addr place + 1 + n) = h.others (addr place + 1 + n) (λ j below is. absurd (omega arith)) in
        let is : s.word (addr place + 1 + n) ≡ s.word (addr place + 1 + i) = ap s.word (sym e) in
        same (subst IsKnown (sym (old ∙ is)) known) ∙ old ∙ is)
        (λ ne. h.same i (low i lt ne) known);
    padded = λ i lt. put_both (λ x. IsPaddedAt s (addr place + 1 + i) x) word (addr place + 1 + n) w (addr place + 1 + i)
        (λ e. subst (λ a. IsPaddedAt s a w) (sym e) padded) (λ ne. h.padded i (low i lt ne));
    others = λ a none. put_other word (addr place + 1 + n) w a (none n (omega arith)) ∙ h.others a (λ i lt. none i (omega arith));
  } where
    low : (i : ℕ) → i < n + 1 → addr place + 1 + i ≢ addr place + 1 + n → i < n
    low i lt ne = elim (cases_eq i n) [ inl e ↦ absurd (ne (ap (λ k. addr place + 1 + k) e)) | inr other ↦ omega arith ]

-- what was learned leaves the rest
pub learned_leaves : (s t : State) (place : Place) (n : ℕ) → t ≡ record s { word = t.word } → ((i : ℕ) → i < n → s.starts (addr place + 1 + i) ≡ false) → Learns s t.word place n → Leaves s t
learned_leaves s t place n is bare h = (
  is,
  record {
    known = λ a known now. elim (cases_lt a (addr place + 1)) [
      | inl below ↦ h.others a (λ i lt e. omega arith)
      | inr above ↦ elim (cases_lt a (addr place + 1 + n)) [
        | inl inside ↦ (let here : addr place + 1 + (a - (addr place + 1)) ≡ a = omega arith in
            subst (λ b. IsKnown (s.word b) → t.word b ≡ s.word b) here (h.same (a - (addr place + 1)) (omega arith)) known)
        | inr past ↦ h.others a (λ i lt e. omega arith)
      ]
    ];
    headers = λ a begun. h.others a (λ i lt e. false≢true (sym (bare i lt) ∙ ap s.starts (sym e) ∙ (ap (λ (u : State). u.starts a) (sym is) ∙ begun)));
  },
)

-- ---- one turn of the loop
-- a word of a quiet object is so whatever words are known
pub quiet_still : (s t : State) (a : ℕ) → t ≡ record s { word = t.word } → IsQuietAt s a → IsQuietAt t a
quiet_still s t a is q = subst (λ (u : State). IsQuietAt u a) (sym is) q

module _ (s t u : State) (len : ℕ) (place : Place) (i a w : ℕ) (object : IsQuietData s len place) (is : t ≡ record s { word = t.word }) (h : Learns s t.word place i) (lt : i < words_for len) (here : a ≡ addr place + 1 + i) where
  pub quiet_now : IsQuietAt t a
  quiet_now = quiet_still s t a is (subst (IsQuietAt s) (sym here) (object.quiet i lt))

  module _ (read : u ≡ record t { word = put t.word a w }) where
    word_is : u.word ≡ put t.word (addr place + 1 + i) w
    word_is = ap (λ (v : State). v.word) read ∙ ap (λ b. put t.word b w) here

    pub learned_more : w < 2 ^ 64 → (IsKnown (t.word a) → w ≡ t.word a) → IsPaddedAt t a w → Learns s u.word place (i + 1)
    learned_more fits same padded =
        let before : (j : ℕ) → j < i → s.starts (addr place + 1 + j) ≡ false = (λ j below. object.bare j (omega arith)) in
        subst (λ (f : ℕ → ℕ). Learns s f place (i + 1)) (sym word_is)
        (learns_more s t.word place i (object.bare i lt) before h w fits (subst (λ b. IsKnown (t.word b) → w ≡ t.word b) here same)
        (padded_same s t.word place i (object.bare i lt) before h (addr place + 1 + i) w t is (subst (λ b. IsPaddedAt t b w) here padded)))
