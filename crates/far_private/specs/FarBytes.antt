-- How many objects lie on the device alone, and how many bytes they have.
use Rattle.std.specs.Prelude.{◌≡◌, ℕ, Bool, true, false, cond, not, Option, Some, None, IsSome, length, filter, map, sum}
use Rattle.std.specs.List.{range_with_len}
use Rattle.far_word.specs.declared.pointer.PtrWord.{PtrWord}
use Rattle.far_word.specs.declared.pointer.PtrWord.TheVariants.{Free, Near, Far}
use Rattle.far_word.specs.declared.sizes.TheConstants.{POINTERS}
use Rattle.far_word.specs.Pointer.{read_of}
use Rattle.far_word.specs.Sizes.{bytes_taken}
use Rattle.far_events.specs.state.State.{State}
use Rattle.far_private.specs.Heap.{Heap, len_in, object}
use Rattle.far_private.specs.Objects.{Object}

-- a cell says that its object lies in the logs
abbrev pub says_here : Option PtrWord → Bool
says_here None = false
says_here (Some Free) = false
says_here (Some (Near len ds place marks)) = not marks.dropped
says_here (Some (Far len ds marks)) = false

-- it lies on the device alone
abbrev pub says_far : Option PtrWord → Bool
says_far None = false
says_far (Some Free) = false
says_far (Some (Near len ds place marks)) = false
says_far (Some (Far len ds marks)) = not marks.dropped

-- and how many bytes it has then; else 0
abbrev pub said_far_len : Option PtrWord → ℕ
said_far_len None = 0
said_far_len (Some Free) = 0
said_far_len (Some (Near len ds place marks)) = 0
said_far_len (Some (Far len ds marks)) = cond marks.dropped 0 len

unfoldable pub lies_far : State → ℕ → Bool
lies_far s p = says_far (read_of (s.cell p))

unfoldable pub far_len : State → ℕ → ℕ
far_len s p = said_far_len (read_of (s.cell p))

-- what an object takes of the logs: a header of 8 bytes, and its bytes in whole words
abbrev pub room_of : Option Object → ℕ
room_of None = 0
room_of (Some x) = bytes_taken x.len

-- ---- to users: some of the objects lie far alone, so many, and these have so many bytes; the others take so many of the logs
pub record AreFar (h : Heap) (count bytes live : ℕ) : Type 0 where
  pub is_far : ℕ → Bool
  pub there : (p : ℕ) → is_far p ≡ true → IsSome (object h p)
  pub many : count ≡ length (filter is_far (range_with_len 0 POINTERS))
  pub long : bytes ≡ sum (map (λ p. cond (is_far p) (len_in h p) 0) (range_with_len 0 POINTERS))
  pub near : live ≡ sum (map (λ p. cond (is_far p) 0 (room_of (object h p))) (range_with_len 0 POINTERS))
