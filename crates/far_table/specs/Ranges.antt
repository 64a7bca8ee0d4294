-- Bytes of an object that lies in words.
use Rattle.std.specs.Prelude.{◌≡◌, ◌≢◌, ◌+◌, ◌<◌, ◌≤◌, ℕ, true, List, length, slice_index, is_some}
use Rattle.far_word.specs.Bytes.{byte_at}
use Rattle.far_table.specs.View.{OwnerView}
use Rattle.far_table.specs.Views.{ds_of, len_of, object_at, word_in_view}

-- these are the bytes of a row of words, from byte `from` on
abbrev pub HasBytes : (ℕ → ℕ) → ℕ → List ℕ → Type 0
HasBytes word from bytes = (k : ℕ) → k < length bytes → slice_index bytes k ≡ byte_at word (from + k)

-- an owner's view after a store of bytes over those of an object, from byte `from` on: no other object changed, nor the object's length and data structure; and if the far side is
-- honest, these bytes stand there, and no other byte changed
pub record Wrote (p from : ℕ) (bytes : List ℕ) (o o' : OwnerView) : Type 0 where
  pub rest : o' ≡ record o { objects = o'.objects }
  pub others : (q : ℕ) → q ≢ p → object_at o' q ≡ object_at o q
  pub there : is_some (object_at o' p) ≡ is_some (object_at o p)
  pub len : len_of (object_at o' p) ≡ len_of (object_at o p)
  pub ds : ds_of (object_at o' p) ≡ ds_of (object_at o p)
  pub inside : o.honest ≡ true → HasBytes (word_in_view (object_at o' p)) from bytes
  pub before : o.honest ≡ true → (k : ℕ) → k < from → byte_at (word_in_view (object_at o' p)) k ≡ byte_at (word_in_view (object_at o p)) k
  pub after : o.honest ≡ true → (k : ℕ) → from + length bytes ≤ k → k < len_of (object_at o p) → byte_at (word_in_view (object_at o' p)) k ≡ byte_at (word_in_view (object_at o p)) k
