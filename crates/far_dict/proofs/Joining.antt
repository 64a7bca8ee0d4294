-- The bytes of parts, one after the other.
use Rattle.std.proofs.Common.{◌≡◌, ℕ, zero, suc, ◌+◌, ◌*◌, ◌<◌, ◌≤◌, true, Some, List, [], ◌∷◌, ◌++◌, length, take, drop, refl, sym, ◌∙◌, ap, arith}
use Rattle.std.proofs.lemmas.List.{drop-drop, length-drop, take-append-drop}
use Rattle.far_objects.specs.declared.objects.TheConstants.{MOST}
use Rattle.far_objects.specs.Far.{Far}
use Rattle.far_large.specs.Parts.{Holds, IsCount, Parts, number_of, part_of}
use Rattle.far_dict.specs.Longs.{Bytes, bytes_in, joined, value_of}

no_bytes : (xs : List ℕ) → length xs ≤ 0 → [] ≡ xs
no_bytes [] h = refl
no_bytes (x ∷ xs) h = absurd (omega (arith, h))

pub joined_parts : (bytes : Bytes) (ns xs : List ℕ) → ((i : ℕ) → i < length ns → bytes (number_of ns i) ≡ Some (part_of xs i)) → length xs ≤ MOST * length ns → joined bytes ns ≡ xs
unfolding part_of
joined_parts bytes [] xs parts enough = no_bytes xs (omega (arith, enough))
joined_parts bytes (n ∷ ns) xs parts enough =
    let front : zero * MOST ≡ 0 = omega arith in
    let first : bytes n ≡ Some (take MOST xs) = parts zero (omega arith) ∙ ap (λ k. Some (take MOST (drop k xs))) front in
    let rest : (i : ℕ) → i < length ns → bytes (number_of ns i) ≡ Some (part_of (drop MOST xs) i) = λ i h.
    (let at : MOST + i * MOST ≡ suc i * MOST = omega arith in
    parts (suc i) (omega (arith, h)) ∙ ap (λ k. Some (take MOST (drop k xs))) (sym at) ∙ ap (λ l. Some (take MOST l)) (sym (drop-drop (i * MOST) MOST xs))) in
    ap (λ o. bytes_in o ++ joined bytes ns) first
    ∙ ap (λ l. take MOST xs ++ l) (joined_parts bytes ns (drop MOST xs) rest (omega (arith, enough, length-drop MOST xs)))
    ∙ take-append-drop MOST xs

pub value_held : (far : Far) (large : Parts) (xs : List ℕ) → far.honest ≡ true → Holds far large xs → IsCount large.len (length large.numbers) → value_of far large ≡ xs
value_held far large xs honest holds count = joined_parts far.bytes large.numbers xs (λ i h. (holds.parts i h).bytes honest) (omega (arith, holds.len, count.enough))

pub joined_same : (a b : Bytes) (ns : List ℕ) → ((i : ℕ) → i < length ns → b (number_of ns i) ≡ a (number_of ns i)) → joined b ns ≡ joined a ns
joined_same a b [] same = refl
joined_same a b (n ∷ ns) same =
    ap (λ o. bytes_in o ++ joined b ns) (same zero (omega arith)) ∙ ap (λ l. bytes_in (a n) ++ l) (joined_same a b ns (λ i h. same (suc i) (omega (arith, h))))
