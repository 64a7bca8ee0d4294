-- Why a line isn't taken, and what that says of the text.
use Rattle.std.proofs.Common.{◌≡◌, ℕ, ◌+◌, ◌<◌, ◌≤◌, ◌⊎◌, inl, inr, Bool, Option, Some, None, List, [], ◌∷◌, ◌++◌, length, get_or, sym, ◌∙◌, ap, subst, arith}
use Rattle.std.specs.Io.KnownBytes.{Consumes, Keeps}
use Rattle.std.proofs.lemmas.List.{append-nil, append_assoc, get_or_at, length-append}
use Rattle.far_word.specs.declared.refused.Refused.{Refused as Refusal}
use Rattle.far_word.specs.declared.refused.Refused.TheVariants.{Length, Memory}
use Rattle.far_firsts.specs.Lines.{ends_in, lines_of, text_of, IsPlain}
use Rattle.far_firsts.specs.Causes.{IsCause, IsWhyNext, IsWhyNot}
use Rattle.far_firsts.specs.Doing.{Did, IsWhyHalt, Known, State, state}
use Rattle.far_firsts.specs.declared.end.Why.{Why}
use Rattle.far_firsts.specs.declared.end.Why.TheVariants.{Done, Refused, Input, Output, TooMany}
use Rattle.far_firsts.proofs.Cuts.{ends_of, first_line, lines_join, lines_within, plain_join}

-- ---- of a line
-- a longer line isn't taken for the same cause
longer : (longest : ℕ) (refuses : Refusal → Type 0) (m k : ℕ) (why : Refusal) → m ≤ k → IsWhyNot longest refuses m why → IsWhyNot longest refuses k why
longer longest refuses m k why le w = elim w [
  | inl long ↦ inl (long.0, omega (arith, long.1, le))
  | inr by ↦ inr by
]

-- ---- of a run that halts
module _ (longest : ℕ) (refuses : Refusal → Type 0) (end : ℕ) (known : Known) (part piece : List ℕ) (count : ℕ) (p : IsPlain end part) (q : IsPlain end piece) where
  -- at a line whose end is there
  pub end_halts : (rest tail : List ℕ) (why : Why) → rest ≡ (piece ++ end ∷ []) ++ tail → IsWhyNext longest refuses count (length (part ++ piece)) why → IsWhyHalt longest refuses end (state known (part ++ rest) count) why
  end_halts rest tail Done is w = absurd w
  end_halts rest tail (Refused why) is w = elim w [
    | inl e ↦ inl e
    | inr by ↦ inr (
      part ++ piece,
      end ∷ tail,
      ap (λ t. part ++ t) (is ∙ append_assoc piece (end ∷ []) tail) ∙ sym (append_assoc part piece (end ∷ tail)),
      plain_join end part piece p q,
      omega (arith, length-append part rest, ap (λ (t : List ℕ). length t) is, length-append (piece ++ end ∷ []) tail, length-append piece (end ∷ [])),
      by,
    )
  ]
  end_halts rest tail (Input e) is w = absurd w
  end_halts rest tail (Output e) is w = absurd w
  end_halts rest tail TooMany is w = w

  -- bytes of a line whose end isn't there weren't kept
  pub keep_halts : (why : Refusal) → (why ≡ Memory) ⊎ ((why ≡ Length) × (longest < length part + length piece)) → IsWhyHalt longest refuses end (state known (part ++ piece) count) (Refused why)
  keep_halts why w = elim w [
    | inl e ↦ inl e
    | inr long ↦ inr (
      part ++ piece,
      [],
      sym (append-nil (part ++ piece)),
      plain_join end part piece p q,
      omega (arith, long.1, length-append part piece),
      inl (long.0, omega (arith, long.1, length-append part piece)),
    )
  ]

-- at the line that the end of the text ends
pub last_halts : (longest : ℕ) (refuses : Refusal → Type 0) (end : ℕ) (known : Known) (part : List ℕ) (count : ℕ) (why : Why) → IsPlain end part → (length part ≡ 0 → ⊥) → IsWhyNext longest refuses count (length (part ++ [])) why →
    IsWhyHalt longest refuses end (state known part count) why
last_halts longest refuses end known part count Done p some w = absurd w
last_halts longest refuses end known part count (Refused why) p some w = elim w [
  | inl e ↦ inl e
  | inr by ↦ inr (part, [], sym (append-nil part), p, omega (arith, some), subst (λ t. IsWhyNot longest refuses (length t) why) (append-nil part) by)
]
last_halts longest refuses end known part count (Input e) p some w = absurd w
last_halts longest refuses end known part count (Output e) p some w = absurd w
last_halts longest refuses end known part count TooMany p some w = w

-- ---- of the text
module _ (longest : ℕ) (refuses : Refusal → Type 0) (honest : Bool) (end : ℕ) (text bytes rest printed : List ℕ) (a s : State) (left : Option (List ℕ)) (is : text ≡ bytes ++ rest) (nothing : a.part ≡ []) (zero : a.count ≡ 0) (did : Did honest end bytes a s [] printed) where
  pub bytes_are : bytes ≡ text_of end did.ended ++ s.part
  bytes_are = ap (λ t. t ++ bytes) (sym nothing) ∙ did.text

  pub lines_are : lines_of end text ≡ did.ended ++ lines_of end (s.part ++ rest)
  lines_are =
      ap (lines_of end) (is ∙ ap (λ t. t ++ rest) bytes_are ∙ append_assoc (text_of end did.ended) s.part rest)
      ∙ lines_join end did.ended (s.part ++ rest) did.plain

  pub done_are : (n : ℕ) → s.count ≡ n → length did.ended ≡ n
  done_are n counted = omega (arith, counted, did.count, zero)

  pub all_ends : (n : ℕ) → s.count ≡ n → IsPlain end s.part → n ≡ ends_in end bytes
  all_ends n counted plain = sym (ap (ends_in end) bytes_are ∙ ends_of end did.ended s.part did.plain plain ∙ done_are n counted)

  -- a line that isn't taken is there
  refused_line : (n : ℕ) (why : Refusal) (begun more : List ℕ) → s.count ≡ n → s.part ≡ begun ++ more → IsPlain end begun → 0 < length s.part → IsWhyNot longest refuses (length begun) why →
      (n < length (lines_of end text)) × IsWhyNot longest refuses (length (get_or (lines_of end text) n [])) why
  refused_line n why begun more counted part plain some by =
      let some_more : 0 < length (begun ++ (more ++ rest)) = omega (arith, some, ap (λ (t : List ℕ). length t) part, length-append begun more, length-append begun (more ++ rest), length-append more rest) in
      let first = first_line end begun (more ++ rest) plain some_more in
      let cut : s.part ++ rest ≡ begun ++ (more ++ rest) = ap (λ t. t ++ rest) part ∙ append_assoc begun more rest in
      let all : lines_of end text ≡ did.ended ++ (begun ++ first.0) ∷ first.1 = lines_are ∙ ap (λ t. did.ended ++ lines_of end t) cut ∙ ap (λ t. did.ended ++ t) first.2 in
      let here : get_or (lines_of end text) n [] ≡ begun ++ first.0 =
      ap (λ (t : List (List ℕ)). get_or t n []) all ∙ get_or_at did.ended (begun ++ first.0) first.1 [] n (done_are n counted) in (
        omega (arith, done_are n counted, ap (λ (t : List (List ℕ)). length t) all, length-append did.ended ((begun ++ first.0) ∷ first.1)),
        longer longest refuses (length begun) (length (get_or (lines_of end text) n [])) why (omega (arith, ap (λ (t : List ℕ). length t) here, length-append begun first.0)) by,
      )

  many : 18446744073709551615 ≤ s.count → 18446744073709551615 ≤ length text
  many h = omega (arith, h, did.count, zero, lines_within end did.ended, ap (λ (t : List ℕ). length t) bytes_are, length-append (text_of end did.ended) s.part, ap (λ (t : List ℕ). length t) is, length-append bytes rest)

  pub halt_cause : (n : ℕ) (why : Why) → s.count ≡ n → IsWhyHalt longest refuses end s why → IsCause longest refuses end n why text left
  halt_cause n Done counted w = absurd w
  halt_cause n (Refused why) counted w = elim w [
    | inl e ↦ inl e
    | inr x ↦ inr (refused_line n why x.0 x.1 counted x.2 x.3 x.4 x.5)
  ]
  halt_cause n (Input e) counted w = absurd w
  halt_cause n (Output e) counted w = tt
  halt_cause n TooMany counted w = many w

-- what was read, where the last read failed
reads_of : (n : Option (List ℕ)) (text bytes rest : List ℕ) → text ≡ bytes ++ rest → Keeps (Some rest) n → Consumes (Some text) n bytes
reads_of None text bytes rest is k = absurd k
reads_of (Some ys) text bytes rest is k = is ∙ ap (λ t. bytes ++ t) (sym k)

pub failed_read : (o n : Option (List ℕ)) (text bytes rest : List ℕ) → o ≡ Some rest → text ≡ bytes ++ rest → Keeps o n → Consumes (Some text) n bytes
failed_read o n text bytes rest left is k = reads_of n text bytes rest is (subst (λ x. Keeps x n) left k)
