-- What a cell adds to the counts of kept and of near objects is what it adds to those of near and of far ones.
use Rattle.std.proofs.Common.{◌≡◌, ℕ, ◌+◌, ◌≤◌, Bool, true, false, not, Option, Some, None, refl, sym, arith}
use Rattle.std.proofs.lemmas.Bool.{true≢false}
use Rattle.std.specs.Prelude.{IsSome}
use mir.Val.{bool_byte}
use Rattle.far_word.specs.Counts.{names_kept, names_near}
use Rattle.far_word.specs.Mark.{bit_of}
use Rattle.far_word.specs.declared.pointer.PtrWord.{PtrWord}
use Rattle.far_word.specs.declared.pointer.PtrWord.TheVariants.{Free, Near, Far}
use Rattle.far_replay.specs.Audit.{lies_near, lies_far}

abbrev pub Adds : ℕ → ℕ → Bool → Bool → Type 0
Adds k n near far = (n ≡ bool_byte near) × (k ≡ n + bool_byte far) × (k ≤ 1) × (n ≤ 1)

near_adds : (d : Bool) (k n : ℕ) → k ≡ bit_of (not d) → n ≡ bit_of (not d) → Adds k n (not d) false
near_adds true k n a b = (b, omega arith, omega arith, omega arith)
near_adds false k n a b = (b, omega arith, omega arith, omega arith)

far_adds : (d : Bool) (k n : ℕ) → k ≡ bit_of (not d) → n ≡ 0 → Adds k n false (not d)
far_adds true k n a b = (b, omega arith, omega arith, omega arith)
far_adds false k n a b = (b, omega arith, omega arith, omega arith)

pub kept_adds : (o : Option PtrWord) (k n : ℕ) → IsSome o → ((v : PtrWord) → o ≡ Some v → k ≡ bit_of (names_kept v)) → ((v : PtrWord) → o ≡ Some v → n ≡ bit_of (names_near v)) → Adds k n (lies_near o) (lies_far o)
kept_adds None k n h a b = absurd (true≢false (sym h))
kept_adds (Some Free) k n h a b = let x : k ≡ 0 = a Free refl in let y : n ≡ 0 = b Free refl in (y, omega arith, omega arith, omega arith)
kept_adds (Some (Near len ds place m)) k n h a b = near_adds m.dropped k n (a (Near len ds place m) refl) (b (Near len ds place m) refl)
kept_adds (Some (Far len ds m)) k n h a b = far_adds m.dropped k n (a (Far len ds m) refl) (b (Far len ds m) refl)
