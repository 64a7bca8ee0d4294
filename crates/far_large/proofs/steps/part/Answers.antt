use Rattle.std.proofs.Common.{◌≡◌, ℕ, ◌+◌, ◌-◌, ◌*◌, ◌≤◌, List, length, take, drop, ap, sym, ◌∙◌, arith, length-drop}
use Rattle.std.proofs.lemmas.List.{take_all}
use Rattle.far_large.specs.Parts.{part_of}
use Rattle.far_large.proofs.steps.part.Goals as goal

-- both are all of the list
taken_all : (xs : List ℕ) (m n : ℕ) → length xs ≤ m → length xs ≤ n → take m xs ≡ take n xs
taken_all xs m n h k = take_all m xs h ∙ sym (take_all n xs k)

rest_taken : (xs : List ℕ) (from m : ℕ) → length xs - from ≤ m → take (length xs - from) (drop from xs) ≡ take m (drop from xs)
rest_taken xs from m h = taken_all (drop from xs) (length xs - from) m (omega (arith, length-drop from xs)) (omega (arith, length-drop from xs))

pub returns-then-bytes-from-gt-MOST-clause-value :
    goal.returns-then-bytes-from-gt-MOST-clause-value
unfolding part_of
returns-then-bytes-from-gt-MOST-clause-value c =
    let from : ℕ = c.args.i * 4088 in
    let e : from + 4088 - from ≡ 4088 = omega arith in ap (λ n. take n (drop from c.args.bytes.now)) e

pub returns-else-bytes-from-gt-MOST-clause-value :
    goal.returns-else-bytes-from-gt-MOST-clause-value
unfolding part_of
returns-else-bytes-from-gt-MOST-clause-value c = rest_taken c.args.bytes.now (c.args.i * 4088) 4088 (omega arith)
