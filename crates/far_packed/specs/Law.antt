-- The law of objects, of values in blocks.
use Rattle.std.specs.Prelude.{◌≡◌, refl, ℕ, ◌+◌, ◌/◌, ◌<◌, ◌≤◌, ◌&&◌, Bool, true, false, cond, Option, Some, None, List, length, take, drop, nat_lt}
use Rattle.std.proofs.Common.{ap, subst, sym, ◌∙◌, arith, length-drop}
use Rattle.std.proofs.lemmas.Bool.{false≢true, ltb-true, lt-ltb}
use Rattle.std.proofs.lemmas.List.{length-take-le}
use Rattle.far_objects.specs.declared.objects.TheConstants.{MOST}
use Rattle.far_objects.specs.Far.{Far, Known}
use Rattle.far_packed.specs.declared.near.Place.{Place}
use Rattle.far_packed.specs.declared.near.Place.TheVariants.{Open, Sealed, Free}
use Rattle.far_packed.specs.declared.near.Slot.{Slot}
use Rattle.far_packed.specs.declared.near.TheConstants.{SLOTS}
use Rattle.far_packed.specs.Blocks.{Sound, Table, block_bytes, block_len, far_of, len_of, or_zero, piece, place_at, shown, slot_at, some_len}

-- what is known of a block that has bytes
pub record IsBlock (far : Far) (buffer : List ℕ) (p : Place) : Type 0 where
  pub most : block_len far buffer p ≤ MOST
  pub known : far.honest ≡ true → (xs : List ℕ) × (block_bytes far buffer p ≡ Some xs) × (length xs ≡ block_len far buffer p)

sealed_known : (far : Far) (buffer : List ℕ) (n : ℕ) (o : Option ℕ) → Known far → far.sizes n ≡ o → 0 < or_zero o → IsBlock far buffer (Sealed n)
sealed_known far buffer n None known e some = absurd (omega arith)
sealed_known far buffer n (Some k) known e some =
    let is = known n k e in
    let long : or_zero (far.sizes n) ≡ k = ap or_zero e in
    record {
      most = subst (λ m. m ≤ MOST) (sym long) is.most;
      known = λ honest. ((is.known honest).0, (is.known honest).1, (is.known honest).2 ∙ sym long);
    }

pub is_block : (far : Far) (buffer : List ℕ) (p : Place) → Known far → length buffer ≤ MOST → 0 < block_len far buffer p → IsBlock far buffer p
is_block far buffer Open known most some = record { most = most; known = λ honest. (buffer, refl, refl) }
is_block far buffer (Sealed n) known most some = sealed_known far buffer n (far.sizes n) known refl some
is_block far buffer (Free n) known most some = absurd (omega arith)

-- a value's length is one
some_len_is : (len n : ℕ) (t : Bool) → nat_lt 0 len ≡ t → ◌≡◌ {A = Option ℕ} (cond t (Some len) None) (Some n) → (0 < len) × (len ≡ n)
some_len_is len n true is e = (ltb-true 0 len is, ap or_zero e)
some_len_is len n false is e = absurd (false≢true (cc))

pub len_is : (len n : ℕ) → some_len len ≡ Some n → (0 < len) × (len ≡ n)
len_is len n e = some_len_is len n (nat_lt 0 len) refl e

pub shown_is : (honest : Bool) (s : Slot) (o : Option (List ℕ)) (xs : List ℕ) → honest ≡ true → 0 < s.len → o ≡ Some xs → shown honest s o ≡ Some (take s.len (drop s.from xs))
shown_is honest s o xs h some e =
    ap (λ b. cond (b && nat_lt 0 s.len) (piece s.from s.len o) None) h ∙ ap (λ b. cond b (piece s.from s.len o) None) (lt-ltb 0 s.len some) ∙ ap (piece s.from s.len) e

pub length_piece : (from len : ℕ) (xs : List ℕ) → from + len ≤ length xs → length (take len (drop from xs)) ≡ len
length_piece from len xs h = length-take-le len (drop from xs) (omega (arith, length-drop from xs))

pub known_of : (far : Far) (t : Table) → Known far → Sound far t → Known (far_of far t)
known_of far t known sound h n e =
    let is = len_is (len_of t h) n e in
    let p : Place = place_at t.places (h / SLOTS) in
    let s : Slot = slot_at t h in
    let fits : s.from + s.len ≤ block_len far t.buffer p = sound.held.fits h is.0 in
    let some : 0 < s.len = is.0 in
    let same : s.len ≡ n = is.1 in
    let block = is_block far t.buffer p known sound.shaped.most (omega arith) in
    record {
      some = subst (λ k. 0 < k) same some;
      most = subst (λ k. k ≤ MOST) same (omega (arith, fits, block.most));
      known = λ honest. let k = block.known honest in
          (take s.len (drop s.from k.0), shown_is far.honest s (block_bytes far t.buffer p) k.0 honest some k.1, length_piece s.from s.len k.0 (omega (arith, fits, k.2)) ∙ same);
    }
