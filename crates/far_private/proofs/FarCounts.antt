-- What a cell adds to the counts of objects near and far, and to the bytes of those.
use Rattle.std.proofs.Common.{◌≡◌, ℕ, ◌+◌, ◌/◌, ◌≤◌, Bool, true, false, cond, not, refl, sym, ap, subst, ◌∙◌, arith, Option, Some, None, is_some, length, filter}
use Rattle.std.specs.Prelude.{IsSome, map, sum}
use Rattle.std.specs.List.{range_with_len}
use Rattle.std.proofs.lemmas.Bool.{false≢true}
use mathlib.Core.Path.{fun_ext}
use mir.Val.{bool_byte}
use Rattle.far_word.specs.Bytes.{bytes_of}
use Rattle.far_word.specs.Mark.{bit_of}
use Rattle.far_word.specs.declared.pointer.PtrWord.{PtrWord}
use Rattle.far_word.specs.declared.pointer.PtrWord.TheVariants.{Free, Near, Far}
use Rattle.far_word.specs.declared.sizes.TheConstants.{CELLS}
use Rattle.far_word.specs.Pointer.{read_of}
use Rattle.far_word.proofs.ByteLaws.{length-bytes_of}
use Rattle.far_word.proofs.PointerLaws.{read_says}
use Rattle.far_events.specs.state.Law.{Law}
use Rattle.far_events.specs.state.State.{State, addr}
use Rattle.far_core.specs.world.World.{FarSide, Group, Object as Thing}
use Rattle.far_core.specs.world.WorldOf.{object_of, world_of}
use Rattle.far_private.specs.FarBytes.{AreFar, far_len, lies_far, room_of, said_far_len, says_far, says_here}
use Rattle.far_private.specs.Heap.{Heap, len_in, object}
use Rattle.far_private.specs.HeapOf.{heap_of}
use Rattle.far_private.specs.Objects.{Object, len_of, objects_of, seen}
use Rattle.far_private.proofs.HeapTies.{EndsThere, object_so}

-- ---- one cell
bit_byte : (b : Bool) → bit_of b ≡ bool_byte b
bit_byte true = refl
bit_byte false = refl

byte_most : (b : Bool) → bool_byte b ≤ 1
byte_most true = omega arith
byte_most false = omega arith

here_kept : (h d : Bool) (x : Thing) → bit_of (not d) + bit_of false ≡ bool_byte (is_some (seen h (cond d None (Some x))))
here_kept h true x = refl
here_kept h false x = refl

far_kept : (h d : Bool) (x : Thing) → bit_of false + bit_of (not d) ≡ bool_byte (is_some (seen h (cond d None (Some x))))
far_kept h true x = refl
far_kept h false x = refl

word_kept : (h : Bool) (word stored : ℕ → ℕ) (p : ℕ) (v : Option PtrWord) → bit_of (says_here v) + bit_of (says_far v) ≡ bool_byte (is_some (seen h (object_of word stored p v)))
word_kept h word stored p None = refl
word_kept h word stored p (Some Free) = refl
word_kept h word stored p (Some (Near len ds place m)) = here_kept h m.dropped record { owner = p / CELLS; ds = ds; bytes = bytes_of (λ i. word (addr place + 1 + i)) len; home = Group place.log }
word_kept h word stored p (Some (Far len ds m)) = far_kept h m.dropped record { owner = p / CELLS; ds = ds; bytes = bytes_of stored len; home = FarSide }

-- no object is longer than an object may be
pub far_most : (s : State) → Law s → (p : ℕ) → said_far_len (read_of (s.cell p)) ≤ 4088
far_most s law p = by (read_of (s.cell p)) refl where
  long : (d : Bool) (len : ℕ) → len ≤ 4088 → cond d 0 len ≤ 4088
  long true len most = omega arith
  long false len most = most

  by : (o : Option PtrWord) → read_of (s.cell p) ≡ o → said_far_len o ≤ 4088
  by (Some (Far len ds m)) e = let x = (read_says (s.cell p) (Far len ds m) (law.cells.cell_read p).0 e).0 in long m.dropped len x.1
  by (Some (Near len ds place m)) e = omega arith
  by (Some Free) e = omega arith
  by None e = omega arith

-- what one cell adds, as a loop over all needs it
pub record AddsFar (s : State) (p n f b : ℕ) : Type 0 where
  pub all : n + f ≡ bool_byte (is_some ((objects_of s).object p))
  pub one : n + f ≤ 1
  pub far : f ≡ bool_byte (lies_far s p)
  pub long : b ≡ far_len s p
  pub most : b ≤ 4088

pub adds_far : (s : State) → Law s → (p n f b : ℕ) → n ≡ bit_of (says_here (read_of (s.cell p))) → f ≡ bit_of (says_far (read_of (s.cell p))) → b ≡ said_far_len (read_of (s.cell p)) → AddsFar s p n f b
unfolding lies_far far_len world_of
adds_far s law p n f b near far bytes =
    let all : n + f ≡ bool_byte (is_some ((objects_of s).object p)) = (λ i. near i + far i) ∙ word_kept s.honest s.word (s.stored p) p (read_of (s.cell p)) in
    record {
      all = all;
      one = subst (λ k. k ≤ 1) (sym all) (byte_most (is_some ((objects_of s).object p)));
      far = far ∙ bit_byte (says_far (read_of (s.cell p)));
      long = bytes;
      most = subst (λ k. k ≤ 4088) (sym bytes) (far_most s law p);
    }

-- ---- all cells, as users see them
far_there : (h : Bool) (word stored : ℕ → ℕ) (p : ℕ) (o : Option PtrWord) → says_far o ≡ true → IsSome (seen h (object_of word stored p o))
far_there h word stored p (Some (Far len ds m)) e = by m.dropped e where
  by : (d : Bool) → not d ≡ true → IsSome (seen h (cond d None (Some record { owner = p / CELLS; ds = ds; bytes = bytes_of stored len; home = FarSide })))
  by false e = refl
  by true e = absurd (false≢true e)
far_there h word stored p _ e = absurd (false≢true e)

far_long : (h : Bool) (word stored : ℕ → ℕ) (p : ℕ) (o : Option PtrWord) → cond (says_far o) (len_of (seen h (object_of word stored p o))) 0 ≡ said_far_len o
far_long h word stored p (Some (Far len ds m)) = by m.dropped where
  by : (d : Bool) → cond (not d) (len_of (seen h (cond d None (Some record { owner = p / CELLS; ds = ds; bytes = bytes_of stored len; home = FarSide })))) 0 ≡ cond d 0 len
  by false = length-bytes_of stored len
  by true = refl
far_long h word stored p (Some (Near len ds place m)) = refl
far_long h word stored p (Some Free) = refl
far_long h word stored p None = refl

module _ (s : State) (v : Heap) (is : heap_of (objects_of s) ≡ v) (ends : EndsThere (objects_of s)) where
  there_so : (p : ℕ) → lies_far s p ≡ true → IsSome (object v p)
  unfolding lies_far world_of
  there_so p e = ap is_some (object_so (objects_of s) v is ends p) ∙ far_there s.honest s.word (s.stored p) p (read_of (s.cell p)) e

  long_so : (p : ℕ) → far_len s p ≡ cond (lies_far s p) (len_in v p) 0
  unfolding lies_far far_len world_of
  long_so p = sym (ap (λ (x : Option Object). cond (says_far (read_of (s.cell p))) (len_of x) 0) (object_so (objects_of s) v is ends p) ∙ far_long s.honest s.word (s.stored p) p (read_of (s.cell p)))

  pub far_so : (count bytes live : ℕ) → count ≡ length (filter (lies_far s) (range_with_len 0 2048)) → bytes ≡ sum (map (far_len s) (range_with_len 0 2048)) →
      live ≡ sum (map (λ p. cond (lies_far s p) 0 (room_of (object v p))) (range_with_len 0 2048)) → AreFar v count bytes live
  far_so count bytes live many sums near = record { is_far = lies_far s; there = there_so; many = many; long = sums ∙ ap (λ (f : ℕ → ℕ). sum (map f (range_with_len 0 2048))) (fun_ext long_so); near = near }
