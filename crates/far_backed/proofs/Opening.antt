-- A worker that has no object by handle has none by number.
use Rattle.std.proofs.Common.{◌≡◌, ℕ, ◌/◌, ◌%◌, Bool, Option, None, refl, sym, ap, ◌∙◌}
use Rattle.std.specs.Prelude.{if◌then◌else◌}
use Rattle.std.proofs.lemmas.Bool.{eq-eqb}
use Rattle.far_word.specs.declared.sizes.TheConstants.{POINTERS}
use Rattle.far_private.specs.Heap.{size_of}
use Rattle.far_private.specs.Numbered.{fitted}
use Rattle.far_private.specs.Objects.{Object}
use Rattle.far_pool.specs.declared.handle.Handle.{Handle}
use Rattle.far_pool.specs.Numbers.{far_of, handle_at, held}
use Rattle.far_pool.specs.Pool.{Pool, at, generation_on, object_on, shelf_in}

at_number : (w : Pool) (n : ℕ) → at w (handle_at w n) ≡ held w n
at_number w n =
    let s = shelf_in w (n / POINTERS) in
    let p = n % POINTERS in
    ap (λ (b : Bool). if b then object_on s p else None) (eq-eqb (generation_on s p) (generation_on s p) refl)

pub none_held : (w : Pool) → ((h : Handle) → at w h ≡ None) → (n : ℕ) → (far_of w).sizes n ≡ None
none_held w none n = ap (λ (o : Option Object). size_of (fitted w.honest o)) (sym (at_number w n) ∙ none (handle_at w n))
