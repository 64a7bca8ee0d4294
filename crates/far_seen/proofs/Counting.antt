-- What a line more makes of counts.
use Rattle.std.proofs.Common.{◌≡◌, ℕ, zero, suc, ◌+◌, ◌<◌, ◌≤◌, Bool, true, false, cond, Option, Some, None, List, [], ◌∷◌, ◌++◌, length, slice_get, slice_index, slice_set, refl, sym, ◌∙◌, ap, arith}
use Rattle.std.specs.Str.{bytes_eq}
use Rattle.std.proofs.lemmas.Slice.Eq.{bytes_eq-Decides}
use Rattle.far_seen.specs.Listed.{Listed, counts_from, line_or_none}
use Rattle.far_seen.specs.Parts.{Bytes, Has, Plain, Sound}
use Rattle.far_seen.specs.Tallied.{Counts, count_of, counted, line_of, often, times, total}
use Rattle.far_seen.proofs.Listing.{has_line, one_place}

is_false : (b : Bool) → (b ≡ true → ⊥) → b ≡ false
is_false true f = absurd (f refl)
is_false false f = refl

not_same : (xs ys : List ℕ) → (xs ≡ ys → ⊥) → bytes_eq xs ys ≡ false
not_same xs ys f = is_false (bytes_eq xs ys) (λ e. f ((bytes_eq-Decides xs ys).0 e))

none_some : (n : ℕ) → ◌≡◌ {A = Option ℕ} None (Some n) → ⊥
none_some n e = cc

same_some : (m n : ℕ) → ◌≡◌ {A = Option ℕ} (Some m) (Some n) → m ≡ n
same_some m n e = cc

-- a line that has bytes
pub some_line : (o : Option (List ℕ)) (line : List ℕ) → 0 < length line → line_or_none o ≡ line → o ≡ Some line
some_line None line some e = absurd (omega (arith, some, ap (λ (xs : List ℕ). length xs) e))
some_line (Some xs) line some e = ap Some e

-- ---- what is there
pub counts_long : (b : Bytes) (k : ℕ) (cs : List ℕ) → length (counts_from b k cs) ≡ length cs
counts_long b k [] = refl
counts_long b k (c ∷ cs) = omega (arith, counts_long b (suc k) cs)

pub line_there : (b : Bytes) (k : ℕ) (cs : List ℕ) (i : ℕ) → i < length cs → line_of (counts_from b k cs) i ≡ line_or_none (b (k + i))
line_there b k [] i h = absurd (omega (arith, h))
line_there b k (c ∷ cs) zero h = let e : k ≡ k + 0 = omega arith in ap (λ n. line_or_none (b n)) e
line_there b k (c ∷ cs) (suc i) h = let e : suc k + i ≡ k + suc i = omega arith in line_there b (suc k) cs i (omega (arith, h)) ∙ ap (λ n. line_or_none (b n)) e

pub count_there : (b : Bytes) (k : ℕ) (cs : List ℕ) (i n : ℕ) → slice_get cs i ≡ Some n → count_of (counts_from b k cs) i ≡ n
count_there b k [] i n e = absurd (none_some n e)
count_there b k (c ∷ cs) zero n e = same_some c n e
count_there b k (c ∷ cs) (suc i) n e = count_there b (suc k) cs i n e

-- the same lines
pub counts_same : (b d : Bytes) (k : ℕ) (cs : List ℕ) → ((j : ℕ) → k ≤ j → j < k + length cs → d j ≡ b j) → counts_from d k cs ≡ counts_from b k cs
counts_same b d k [] same = refl
counts_same b d k (c ∷ cs) same = λ i. (line_or_none (same k (omega arith) (omega arith) i), c) ∷ counts_same b d (suc k) cs (λ j low up. same j (omega (arith, low)) (omega (arith, up))) i

-- ---- a line that comes first
counts_last : (b : Bytes) (k n : ℕ) (cs : List ℕ) → counts_from b k (cs ++ n ∷ []) ≡ counts_from b k cs ++ (line_or_none (b (k + length cs)), n) ∷ []
counts_last b k n [] = let e : k ≡ k + 0 = omega arith in ap (λ j. (line_or_none (b j), n) ∷ []) e
counts_last b k n (c ∷ cs) =
    let e : suc k + length cs ≡ k + suc (length cs) = omega arith in
    ap (λ ps. (line_or_none (b k), c) ∷ ps) (counts_last b (suc k) n cs ∙ ap (λ j. counts_from b (suc k) cs ++ (line_or_none (b j), n) ∷ []) e)

counted_new : (b : Bytes) (line : List ℕ) (k : ℕ) (cs : List ℕ) → ((j : ℕ) → k ≤ j → j < k + length cs → line_or_none (b j) ≡ line → ⊥) → counted (counts_from b k cs) line ≡ counts_from b k cs ++ (line, 1) ∷ []
counted_new b line k [] none = refl
counted_new b line k (c ∷ cs) none =
    let l = line_or_none (b k) in
    ap (λ t. cond t ((l, c + 1) ∷ counts_from b (suc k) cs) ((l, c) ∷ counted (counts_from b (suc k) cs) line)) (not_same l line (none k (omega arith) (omega arith)))
    ∙ ap (λ ps. (l, c) ∷ ps) (counted_new b line (suc k) cs (λ j low up. none j (omega (arith, low)) (omega (arith, up))))

pub counts_first : (b d : Bytes) (cs : List ℕ) (line : List ℕ) → ((j : ℕ) → j < length cs → d j ≡ b j) → d (length cs) ≡ Some line → ((j : ℕ) → j < length cs → line_or_none (b j) ≡ line → ⊥) →
    counts_from d 0 (cs ++ 1 ∷ []) ≡ counted (counts_from b 0 cs) line
counts_first b d cs line same last none =
    let e : 0 + length cs ≡ length cs = omega arith in
    counts_last d 0 1 cs ∙ ap (λ k. counts_from d 0 cs ++ (line_or_none (d k), 1) ∷ []) e
    ∙ (λ i. counts_same b d 0 cs (λ j low up. same j (omega (arith, up))) i ++ (line_or_none (last i), 1) ∷ [])
    ∙ sym (counted_new b line 0 cs (λ j low up. none j (omega (arith, up))))

-- ---- a line that comes again
counted_at : (b : Bytes) (line : List ℕ) (k i : ℕ) (cs : List ℕ) → i < length cs → line_or_none (b (k + i)) ≡ line → ((j : ℕ) → k ≤ j → j < k + i → line_or_none (b j) ≡ line → ⊥) →
    counted (counts_from b k cs) line ≡ counts_from b k (slice_set cs i (slice_index cs i + 1))
counted_at b line k i [] h there none = absurd (omega (arith, h))
counted_at b line k zero (c ∷ cs) h there none =
    let l = line_or_none (b k) in
    let e : k ≡ k + 0 = omega arith in
    let same : l ≡ line = ap (λ n. line_or_none (b n)) e ∙ there in
    ap (λ t. cond t ((l, c + 1) ∷ counts_from b (suc k) cs) ((l, c) ∷ counted (counts_from b (suc k) cs) line)) ((bytes_eq-Decides l line).1 same)
counted_at b line k (suc i) (c ∷ cs) h there none =
    let l = line_or_none (b k) in
    let e : suc k + i ≡ k + suc i = omega arith in
    ap (λ t. cond t ((l, c + 1) ∷ counts_from b (suc k) cs) ((l, c) ∷ counted (counts_from b (suc k) cs) line)) (not_same l line (none k (omega arith) (omega arith)))
    ∙ ap (λ ps. (l, c) ∷ ps) (counted_at b line (suc k) i cs (omega (arith, h)) (ap (λ n. line_or_none (b n)) e ∙ there) (λ j low up. none j (omega (arith, low)) (omega (arith, up))))

pub counts_again : (b : Bytes) (line : List ℕ) (i : ℕ) (cs : List ℕ) → i < length cs → b i ≡ Some line → ((j : ℕ) → j < i → line_or_none (b j) ≡ line → ⊥) →
    counts_from b 0 (slice_set cs i (slice_index cs i + 1)) ≡ counted (counts_from b 0 cs) line
counts_again b line i cs h there none =
    let e : 0 + i ≡ i = omega arith in
    sym (counted_at b line 0 i cs h (ap (λ n. line_or_none (b n)) e ∙ ap line_or_none there) (λ j low up. none j (omega (arith, up))))

-- ---- how many came in all
abbrev sum_of : List ℕ → ℕ
sum_of [] = 0
sum_of (c ∷ cs) = c + sum_of cs

total_is : (b : Bytes) (k : ℕ) (cs : List ℕ) → total (counts_from b k cs) ≡ sum_of cs
total_is b k [] = refl
total_is b k (c ∷ cs) = ap (λ n. c + n) (total_is b (suc k) cs)

all_more : (cs : List ℕ) → sum_of (cs ++ 1 ∷ []) ≡ sum_of cs + 1
all_more [] = omega arith
all_more (c ∷ cs) = omega (arith, all_more cs)

all_again : (cs : List ℕ) (i : ℕ) → i < length cs → sum_of (slice_set cs i (slice_index cs i + 1)) ≡ sum_of cs + 1
all_again [] i h = absurd (omega (arith, h))
all_again (c ∷ cs) zero h = omega arith
all_again (c ∷ cs) (suc i) h = omega (arith, all_again cs i (omega (arith, h)))

pub total_first : (b d : Bytes) (cs : List ℕ) → total (counts_from d 0 (cs ++ 1 ∷ [])) ≡ total (counts_from b 0 cs) + 1
total_first b d cs = total_is d 0 (cs ++ 1 ∷ []) ∙ all_more cs ∙ ap (λ n. n + 1) (sym (total_is b 0 cs))

pub total_again : (b d : Bytes) (cs : List ℕ) (i : ℕ) → i < length cs → total (counts_from d 0 (slice_set cs i (slice_index cs i + 1))) ≡ total (counts_from b 0 cs) + 1
total_again b d cs i h = total_is d 0 (slice_set cs i (slice_index cs i + 1)) ∙ all_again cs i h ∙ ap (λ n. n + 1) (sym (total_is b 0 cs))

-- ---- how many came of one stamp
pub one_more : (b d : Bool) (n x y : ℕ) → y ≡ cond d (1 + x) x → cond b (n + y) y ≡ cond d (1 + cond b (n + x) x) (cond b (n + x) x)
one_more true true n x y e = omega (arith, e)
one_more true false n x y e = ap (λ z. n + z) e
one_more false true n x y e = e
one_more false false n x y e = e

pub one_here : (b d : Bool) (n x : ℕ) → b ≡ d → cond b (n + 1 + x) x ≡ cond d (1 + cond b (n + x) x) (cond b (n + x) x)
one_here true true n x e = omega arith
one_here true false n x e = absurd (cc)
one_here false true n x e = absurd (cc)
one_here false false n x e = refl

often_last : (q s : List ℕ) (ps : Counts) → often q (ps ++ (s, 1) ∷ []) ≡ often q ((s, 1) ∷ ps)
often_last q s [] = refl
often_last q s (p ∷ ps) = one_more (bytes_eq q p.0) (bytes_eq q s) p.1 (often q ps) (often q (ps ++ (s, 1) ∷ [])) (often_last q s ps)

pub often_first : (b d : Bytes) (q s : List ℕ) (cs : List ℕ) → ((j : ℕ) → j < length cs → d j ≡ b j) → d (length cs) ≡ Some s → often q (counts_from d 0 (cs ++ 1 ∷ [])) ≡ often q ((s, 1) ∷ counts_from b 0 cs)
often_first b d q s cs same last =
    let e : 0 + length cs ≡ length cs = omega arith in
    ap (often q) (counts_last d 0 1 cs ∙ ap (λ k. counts_from d 0 cs ++ (line_or_none (d k), 1) ∷ []) e
    ∙ (λ i. counts_same b d 0 cs (λ j low up. same j (omega (arith, up))) i ++ (line_or_none (last i), 1) ∷ []))
    ∙ often_last q s (counts_from b 0 cs)

often_at : (b : Bytes) (q s : List ℕ) (k i : ℕ) (cs : List ℕ) → i < length cs → line_or_none (b (k + i)) ≡ s → often q (counts_from b k (slice_set cs i (slice_index cs i + 1))) ≡ often q ((s, 1) ∷ counts_from b k cs)
often_at b q s k i [] h there = absurd (omega (arith, h))
often_at b q s k zero (c ∷ cs) h there =
    let e : k ≡ k + 0 = omega arith in
    one_here (bytes_eq q (line_or_none (b k))) (bytes_eq q s) c (often q (counts_from b (suc k) cs)) (ap (bytes_eq q) (ap (λ n. line_or_none (b n)) e ∙ there))
often_at b q s k (suc i) (c ∷ cs) h there =
    let e : suc k + i ≡ k + suc i = omega arith in
    one_more (bytes_eq q (line_or_none (b k))) (bytes_eq q s) c (often q (counts_from b (suc k) cs)) (often q (counts_from b (suc k) (slice_set cs i (slice_index cs i + 1))))
    (often_at b q s (suc k) i cs (omega (arith, h)) (ap (λ n. line_or_none (b n)) e ∙ there))

pub often_again : (b : Bytes) (q s : List ℕ) (i : ℕ) (cs : List ℕ) → i < length cs → b i ≡ Some s → often q (counts_from b 0 (slice_set cs i (slice_index cs i + 1))) ≡ often q ((s, 1) ∷ counts_from b 0 cs)
often_again b q s i cs h there =
    let e : 0 + i ≡ i = omega arith in
    often_at b q s 0 i cs h (ap (λ n. line_or_none (b n)) e ∙ ap line_or_none there)

pub times_are : (b : Bytes) (k : ℕ) (cs : List ℕ) → times (counts_from b k cs) ≡ cs
times_are b k [] = refl
times_are b k (c ∷ cs) = ap (λ ns. c ∷ ns) (times_are b (suc k) cs)

-- ---- lines by slots
module _ (p : Plain) (numbers counts : List ℕ) (sound : Sound p) (listed : Listed p.slots numbers counts) (line : List ℕ) (some : 0 < length line) where
  -- a line that no slot has stands at no place
  pub nowhere : (Has p.far.bytes p.slots line → ⊥) → (j : ℕ) → j < length counts → line_or_none (p.far.bytes j) ≡ line → ⊥
  nowhere none j h e = none (has_line p numbers counts sound listed j line (omega (arith, h, listed.long)) (some_line (p.far.bytes j) line some e))

  -- a line that stands at a place stands at none before
  pub not_before : p.far.honest ≡ true → (i : ℕ) → i < length counts → p.far.bytes i ≡ Some line → (j : ℕ) → j < i → line_or_none (p.far.bytes j) ≡ line → ⊥
  not_before o i h there j low e =
      let same : j ≡ i = one_place p numbers counts sound listed o j i line (omega (arith, h, low, listed.long)) (omega (arith, h, listed.long)) (some_line (p.far.bytes j) line some e) there in
      omega (arith, same, low)
