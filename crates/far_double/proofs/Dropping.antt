-- An object is taken away.
use Rattle.std.proofs.Common.{◌≡◌, refl, sym, ap, subst, ℕ, zero, suc, Bool, Option, Some, None, List, [], ◌∷◌, length, get_or, set, get_or-set_other}
use Rattle.std.specs.Prelude.{slice_set}
use Rattle.std.specs.Option.{option_map, option_and_then}
use Rattle.far_objects.specs.Far.{Drops}
use Rattle.far_double.specs.Held.{far_of, fitting, known_if, object_at}

set_none : (objects : List (Option (List ℕ))) (h : ℕ) → get_or (set objects h None) h None ≡ None
set_none [] h = refl
set_none (x ∷ xs) zero = refl
set_none (x ∷ xs) (suc h) = set_none xs h

pub dropped : (honest : Bool) (objects : List (Option (List ℕ))) (h : ℕ) (now : Bool × List (Option (List ℕ))) (xs : List ℕ) →
    now ≡ (honest, slice_set objects h None) → object_at objects h ≡ Some xs → Drops h (far_of honest objects) (far_of now.0 now.1)
dropped honest objects h now xs e there =
    subst (λ (p : Bool × List (Option (List ℕ))). Drops h (far_of honest objects) (far_of p.0 p.1)) (sym e) record {
      there = (length xs, ap (option_map (length {A = ℕ})) there);
      gone = ap (λ x. option_map (length {A = ℕ}) (option_and_then fitting x)) (set_none objects h);
      others = record {
        honest = refl;
        sizes = λ k ne. ap (λ x. option_map (length {A = ℕ}) (option_and_then fitting x)) (get_or-set_other objects h k None None ne);
        bytes = λ k ne. ap (λ x. known_if honest (option_and_then fitting x)) (get_or-set_other objects h k None None ne);
      };
    }
