-- How long the object is that a cell names.
use Rattle.std.proofs.Common.{◌≡◌, ℕ, ◌^◌, ◌<◌, ◌≤◌, refl, sym, subst, arith, Option, Some, None}
use Rattle.std.specs.Prelude.{IsSome}
use Rattle.std.proofs.lemmas.Bool.{false≢true}
use Rattle.far_word.specs.declared.pointer.PtrWord.{PtrWord}
use Rattle.far_word.specs.declared.pointer.PtrWord.TheVariants.{Free, Near, Far}
use Rattle.far_word.specs.declared.sizes.TheConstants.{LONGEST}
use Rattle.far_word.specs.Pointer.{pointer_len, read_of}
use Rattle.far_word.proofs.PointerLaws.{read_says}
use Rattle.far_alone.specs.Objects.{named_len}

-- as long as a cell on the layout says
pub len_named : (o : Option PtrWord) (n : ℕ) → IsSome o → ((v : PtrWord) → o ≡ Some v → n ≡ pointer_len v) → n ≡ named_len o
len_named None n some is = absurd (false≢true some)
len_named (Some Free) n some is = is Free refl
len_named (Some (Near len ds place m)) n some is = is (Near len ds place m) refl
len_named (Some (Far len ds m)) n some is = is (Far len ds m) refl

-- none is longer than an object may be
pub named_most : (w : ℕ) (o : Option PtrWord) → w < 2 ^ 64 → read_of w ≡ o → named_len o ≤ LONGEST
named_most w None fits e = omega arith
named_most w (Some Free) fits e = omega arith
named_most w (Some (Near len ds place m)) fits e = (read_says w (Near len ds place m) fits e).0.1
named_most w (Some (Far len ds m)) fits e = (read_says w (Far len ds m) fits e).0.1

pub len_most : (w : ℕ) (o : Option PtrWord) (n : ℕ) → w < 2 ^ 64 → read_of w ≡ o → IsSome o → ((v : PtrWord) → o ≡ Some v → n ≡ pointer_len v) → n ≤ LONGEST
len_most w o n fits e some is = subst (λ k. k ≤ LONGEST) (sym (len_named o n some is)) (named_most w o fits e)
