-- Values before and after a step.
use Rattle.std.proofs.Common.{◌≡◌, ◌≢◌, ℕ, ◌+◌, ◌/◌, ◌<◌, ◌≤◌, Bool, true, false, cond, Option, Some, None, List, length, take, drop, refl, sym, ap, ◌∙◌, arith, ◌++◌, length-append, length-drop}
use Rattle.std.specs.Prelude.{◌&&◌, nat_lt}
use Rattle.std.proofs.lemmas.Bool.{false≢true, ltb-true, lt-ltb}
use Rattle.std.proofs.lemmas.List.{drop-append-le, drop_at, take-append-le, take_all}
use Rattle.far_objects.specs.Far.{Far}
use Rattle.far_packed.specs.declared.near.Place.{Place}
use Rattle.far_packed.specs.declared.near.Place.TheVariants.{Open, Sealed, Free}
use Rattle.far_packed.specs.declared.near.Slot.{Slot}
use Rattle.far_packed.specs.declared.near.TheConstants.{SLOTS}
use Rattle.far_packed.specs.Blocks.{Table, block_bytes, block_len, bytes_of, far_of, is_free, is_open, len_of, or_zero, piece, place_at, shown, slot_at, some_len}

-- ---- what is shown
shown_by : (a b : Bool) (s : Slot) (x y : Option (List ℕ)) → nat_lt 0 s.len ≡ b → (a ≡ true → 0 < s.len → piece s.from s.len x ≡ piece s.from s.len y) → cond (a && b) (piece s.from s.len x) None ≡ cond (a && b) (piece s.from s.len y) None
shown_by true true s x y is f = f refl (ltb-true 0 s.len is)
shown_by true false s x y is f = refl
shown_by false b s x y is f = refl

pub shown_same : (a : Bool) (s : Slot) (x y : Option (List ℕ)) → (a ≡ true → 0 < s.len → piece s.from s.len x ≡ piece s.from s.len y) → shown a s x ≡ shown a s y
shown_same a s x y f = shown_by a (nat_lt 0 s.len) s x y refl f

pub bytes_same : (far later : Far) (t u : Table) (h : ℕ) → later.honest ≡ far.honest → slot_at u h ≡ slot_at t h
    → (far.honest ≡ true → 0 < len_of t h → block_bytes later u.buffer (place_at u.places (h / SLOTS)) ≡ block_bytes far t.buffer (place_at t.places (h / SLOTS)))
    → bytes_of later u h ≡ bytes_of far t h
bytes_same far later t u h honest slot block =
    let x = block_bytes later u.buffer (place_at u.places (h / SLOTS)) in
    let y = block_bytes far t.buffer (place_at t.places (h / SLOTS)) in
    let s : Slot = slot_at t h in
    ap (λ a. shown a (slot_at u h) x) honest ∙ ap (λ s. shown far.honest s x) slot
    ∙ shown_same far.honest s x y (λ o some. ap (piece s.from s.len) (block o some))

pub far_same : (far later : Far) (t u : Table) → later.honest ≡ far.honest → ((h : ℕ) → len_of u h ≡ len_of t h) → ((h : ℕ) → bytes_of later u h ≡ bytes_of far t h) → far_of later u ≡ far_of far t
far_same far later t u honest lens bytes = λ i. record { honest = honest i; sizes = λ h. some_len (lens h i); bytes = λ h. bytes h i }

-- ---- a block's place
pub open_is : (p : Place) → is_open p ≡ true → p ≡ Open
open_is Open e = refl
open_is (Sealed n) e = absurd (false≢true e)
open_is (Free n) e = absurd (false≢true e)

-- the open block's bytes are in the buffer, another's aren't
pub len_beside : (far : Far) (a b : List ℕ) (p : Place) → is_open p ≢ true → block_len far a p ≡ block_len far b p
len_beside far a b Open ne = absurd (ne refl)
len_beside far a b (Sealed n) ne = refl
len_beside far a b (Free n) ne = refl

pub bytes_beside : (far : Far) (a b : List ℕ) (p : Place) → is_open p ≢ true → block_bytes far a p ≡ block_bytes far b p
bytes_beside far a b Open ne = absurd (ne refl)
bytes_beside far a b (Sealed n) ne = refl
bytes_beside far a b (Free n) ne = refl

-- another sealed block's bytes are as before
pub len_apart : (far later : Far) (a : List ℕ) (p : Place) → ((n : ℕ) → p ≡ Sealed n → later.sizes n ≡ far.sizes n) → block_len later a p ≡ block_len far a p
len_apart far later a Open same = refl
len_apart far later a (Sealed n) same = ap or_zero (same n refl)
len_apart far later a (Free n) same = refl

pub bytes_apart : (far later : Far) (a : List ℕ) (p : Place) → ((n : ℕ) → p ≡ Sealed n → later.bytes n ≡ far.bytes n) → block_bytes later a p ≡ block_bytes far a p
bytes_apart far later a Open same = refl
bytes_apart far later a (Sealed n) same = same n refl
bytes_apart far later a (Free n) same = refl

pub free_len : (far : Far) (a : List ℕ) (p : Place) → is_free p ≡ true → block_len far a p ≡ 0
free_len far a Open e = absurd (false≢true e)
free_len far a (Sealed n) e = absurd (false≢true e)
free_len far a (Free n) e = refl

pub not_free : (p : Place) (n : ℕ) → p ≡ Sealed n → is_free p ≢ true
not_free p n e f = false≢true (sym (ap is_free e) ∙ f)

pub not_open : (p : Place) (n : ℕ) → p ≡ Sealed n → is_open p ≢ true
not_open p n e f = false≢true (sym (ap is_open e) ∙ f)

pub not_both : (p : Place) → is_free p ≡ true → is_open p ≢ true
not_both Open e f = false≢true e
not_both (Sealed n) e f = false≢true e
not_both (Free n) e f = false≢true f

-- a piece of the buffer's front
front_piece : (xs ys : List ℕ) (a size : ℕ) → a + size ≤ length xs → take size (drop a (xs ++ ys)) ≡ take size (drop a xs)
front_piece xs ys a size l =
    ap (take size) (drop-append-le a xs ys (omega arith)) ∙ take-append-le size (drop a xs) ys (omega (arith, length-drop a xs))

pub piece_front : (far : Far) (a b : List ℕ) (p : Place) (from len : ℕ) → from + len ≤ block_len far a p → piece from len (block_bytes far (a ++ b) p) ≡ piece from len (block_bytes far a p)
piece_front far a b Open from len l = ap Some (front_piece a b from len l)
piece_front far a b (Sealed n) from len l = refl
piece_front far a b (Free n) from len l = refl

pub len_front : (far : Far) (a b : List ℕ) (p : Place) → block_len far a p ≤ block_len far (a ++ b) p
len_front far a b Open = omega (arith, length-append a b)
len_front far a b (Sealed n) = omega arith
len_front far a b (Free n) = omega arith

-- what was put last
pub piece_last : (xs ys : List ℕ) → take (length ys) (drop (length xs) (xs ++ ys)) ≡ ys
piece_last xs ys = ap (take (length ys)) (drop_at xs ys (length xs) refl) ∙ take_all (length ys) ys (omega arith)

pub some_len_some : (n : ℕ) → 0 < n → some_len n ≡ Some n
some_len_some n some = ap (λ b. cond b (Some n) None) (lt-ltb 0 n some)

pub len_same : (far : Far) (a b : List ℕ) (p : Place) → length a ≡ length b → block_len far a p ≡ block_len far b p
len_same far a b Open e = e
len_same far a b (Sealed n) e = refl
len_same far a b (Free n) e = refl
