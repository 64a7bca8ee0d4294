-- The header word, in either version: what a word says, and the word that says it.
use Rattle.std.proofs.Common.{◌≡◌, ℕ, ◌+◌, ◌*◌, ◌^◌, ◌<◌, ◌≤◌, true, ap, subst, sym, ◌∙◌, refl, arith, Option, Some, None, IfSome}
use Rattle.std.proofs.lemmas.Bool.Decides.{nat_tests}
use Rattle.far_word.specs.Header.{IsHead, IsHeadOf, as_said, ds_in, head_of, head_of_v1, head_word, header_in, is_head, len_bits, len_in, longest, pointer_in, pointer_low, pointers, top_byte, version_in, version_of, word_by}
use Rattle.far_word.specs.declared.header.HeadWord.{HeadWord}
use Rattle.far_word.specs.declared.header.HeadWordV1.{HeadWordV1}
use Rattle.far_word.specs.declared.version.Version.{Version}
use Rattle.far_word.specs.declared.version.Version.TheVariants.{First, Second}
use Rattle.far_word.specs.declared.sizes.TheConstants.{LONGEST, POINTERS}
use Rattle.far_word.proofs.Words.{split_at, at_guard}

-- ---- a word by its fields
head_fields : (v : Version) (w : ℕ) → w < 2 ^ 64 → w ≡ len_in v w + ds_in v w * 2 ^ len_bits v + pointer_in v w * 2 ^ pointer_low v + version_in w * 2 ^ 56
head_fields First w fits = omega (arith, split_at w 0 16, split_at w 16 8, split_at w 24 32, split_at w 56 8)
head_fields Second w fits = omega (arith, split_at w 0 24, split_at w 24 8, split_at w 32 24, split_at w 56 8)

-- the fields of a header's word
fields_back : (v : Version) (w pointer len ds : ℕ) → IsHeadOf v pointer len ds → word_by v pointer len ds ≡ w →
    (pointer_in v w ≡ pointer) × (len_in v w ≡ len) × (ds_in v w ≡ ds) × (version_in w ≡ top_byte v)
fields_back First w pointer len ds ok e =
    let most : len ≤ 1016 = ok.most in let structure : ds < 256 = ok.structure in let cell : pointer < 1024 = ok.cell in
    (omega arith, omega arith, omega arith, omega arith)
fields_back Second w pointer len ds ok e =
    let most : len ≤ LONGEST = ok.most in let structure : ds < 256 = ok.structure in let cell : pointer < POINTERS = ok.cell in
    (omega arith, omega arith, omega arith, omega arith)

-- a word that passes the test is the word of its fields, which lie on the layout
fields_found : (v : Version) (w : ℕ) → w < 2 ^ 64 → is_head v w ≡ true →
    IsHeadOf v (pointer_in v w) (len_in v w) (ds_in v w) × (word_by v (pointer_in v w) (len_in v w) (ds_in v w) ≡ w)
fields_found v w fits h =
    let top : version_in w ≡ top_byte v = grind (arith, nat_tests) in
    let some : 0 < len_in v w = grind (arith, nat_tests) in
    let most : len_in v w ≤ longest v = grind (arith, nat_tests) in
    let cell : pointer_in v w < pointers v = grind (arith, nat_tests) in
    let structure : ds_in v w < 256 = omega arith in (
      record { some = some; most = most; structure = structure; cell = cell },
      ap (λ t. len_in v w + ds_in v w * 2 ^ len_bits v + pointer_in v w * 2 ^ pointer_low v + t * 2 ^ 56) (sym top) ∙ sym (head_fields v w fits),
    )

is_head_back : (v : Version) (w : ℕ) → version_in w ≡ top_byte v → 0 < len_in v w → len_in v w ≤ longest v → pointer_in v w < pointers v → is_head v w ≡ true
is_head_back v w a b c d = grind (arith, nat_tests)

-- the word of a header passes the test
test_back : (v : Version) (w pointer len ds : ℕ) → IsHeadOf v pointer len ds → word_by v pointer len ds ≡ w → is_head v w ≡ true
test_back v w pointer len ds ok e =
    let f = fields_back v w pointer len ds ok e in
    is_head_back v w f.3 (subst (λ n. 0 < n) (sym f.1) ok.some) (subst (λ n. n ≤ longest v) (sym f.1) ok.most) (subst (λ n. n < pointers v) (sym f.0) ok.cell)

-- ---- the headers of this heap
-- what is read stands in the word
abbrev pub SaysHead : ℕ → HeadWord → Type 0
SaysHead w h = IsHead h × (head_word h.pointer h.len h.ds ≡ w)

pub head_found : (w : ℕ) → w < 2 ^ 64 → IfSome (head_of w) (SaysHead w)
unfolding head_of
head_found w fits = at_guard (SaysHead w) _ _ (λ (h : is_head Second w ≡ true). fields_found Second w fits h)

-- a header that was read lies on the layout, and its word is the one read
pub head_says : (w : ℕ) (h : HeadWord) → w < 2 ^ 64 → head_of w ≡ Some h → IsHead h × (head_word h.pointer h.len h.ds ≡ w)
head_says w h fits e = subst (λ (o : Option HeadWord). IfSome o (SaysHead w)) e (head_found w fits)

-- the word of a header on the layout is read as that header
pub head_only : (w : ℕ) (h : HeadWord) → IsHead h → head_word h.pointer h.len h.ds ≡ w → head_of w ≡ Some h
unfolding head_of
head_only w h ok e = let f = fields_back Second w h.pointer h.len h.ds ok e in rw (test_back Second w h.pointer h.len h.ds ok e, f.0, f.1, f.2) refl

pub head_back : (h : HeadWord) → IsHead h → head_of (head_word h.pointer h.len h.ds) ≡ Some h
head_back h ok = head_only _ h ok refl

-- ---- those of version 1
abbrev pub SaysHeadV1 : ℕ → HeadWordV1 → Type 0
SaysHeadV1 w h = IsHeadOf First h.pointer h.len h.ds × (word_by First h.pointer h.len h.ds ≡ w)

pub head_found_v1 : (w : ℕ) → w < 2 ^ 64 → IfSome (head_of_v1 w) (SaysHeadV1 w)
unfolding head_of_v1
head_found_v1 w fits = at_guard (SaysHeadV1 w) _ _ (λ (h : is_head First w ≡ true). fields_found First w fits h)

pub head_only_v1 : (w : ℕ) (h : HeadWordV1) → IsHeadOf First h.pointer h.len h.ds → word_by First h.pointer h.len h.ds ≡ w → head_of_v1 w ≡ Some h
unfolding head_of_v1
head_only_v1 w h ok e = let f = fields_back First w h.pointer h.len h.ds ok e in rw (test_back First w h.pointer h.len h.ds ok e, f.0, f.1, f.2) refl

-- ---- those of either
abbrev pub SaysOf : Version → ℕ → HeadWord → Type 0
SaysOf v w h = IsHeadOf v h.pointer h.len h.ds × (word_by v h.pointer h.len h.ds ≡ w)

said_of : (w : ℕ) (o : Option HeadWordV1) → IfSome o (SaysHeadV1 w) → IfSome (as_said o) (SaysOf First w)
said_of w None h = tt
said_of w (Some x) h = h

pub header_found : (v : Version) (w : ℕ) → w < 2 ^ 64 → IfSome (header_in v w) (SaysOf v w)
header_found First w fits = said_of w (head_of_v1 w) (head_found_v1 w fits)
header_found Second w fits = head_found w fits

pub header_says : (v : Version) (w : ℕ) (h : HeadWord) → w < 2 ^ 64 → header_in v w ≡ Some h → SaysOf v w h
header_says v w h fits e = subst (λ (o : Option HeadWord). IfSome o (SaysOf v w)) e (header_found v w fits)

pub header_only : (v : Version) (w : ℕ) (h : HeadWord) → IsHeadOf v h.pointer h.len h.ds → word_by v h.pointer h.len h.ds ≡ w → header_in v w ≡ Some h
header_only First w h ok e = ap as_said (head_only_v1 w record { pointer = h.pointer; len = h.len; ds = h.ds } ok e)
header_only Second w h ok e = head_only w h ok e

-- the word of a header fits
pub header_fits : (v : Version) (pointer len ds : ℕ) → IsHeadOf v pointer len ds → word_by v pointer len ds < 2 ^ 64
header_fits First pointer len ds ok =
    let most : len ≤ 1016 = ok.most in let structure : ds < 256 = ok.structure in let cell : pointer < 1024 = ok.cell in omega arith
header_fits Second pointer len ds ok =
    let most : len ≤ LONGEST = ok.most in let structure : ds < 256 = ok.structure in let cell : pointer < POINTERS = ok.cell in omega arith

pub head_fits : (h : HeadWord) → IsHead h → head_word h.pointer h.len h.ds < 2 ^ 64
head_fits h ok = header_fits Second h.pointer h.len h.ds ok

-- ---- the version that a word says
version_by : (v : Version) (w : ℕ) → version_in w ≡ top_byte v → version_of w ≡ v
version_by First w e = rw e refl
version_by Second w e = rw e refl

pub header_version : (v : Version) (w pointer len ds : ℕ) → IsHeadOf v pointer len ds → word_by v pointer len ds ≡ w → version_of w ≡ v
header_version v w pointer len ds ok e = version_by v w (fields_back v w pointer len ds ok e).3
