-- One owner's view changes: what all owners know then.
use Rattle.std.proofs.Common.{◌≡◌, ◌≢◌, ℕ, ◌/◌, List, set, sym, refl, ap, ◌∙◌, get_or-set_other, get_or-set_same}
use mathlib.Core.Logic.{dite}
use mathlib.Core.Option.{some}
use mathlib.Core.Path.{fun_ext}
use native.Mathlib.Decide.{ℕ_discrete}
use lib.ListN.{get_elem?}
use Rattle.far_word.specs.declared.sizes.TheConstants.{CELLS}
use Rattle.far_events.specs.state.State.{put}
use Rattle.far_events.proofs.Put.{put_both, put_other, put_two}
use Rattle.far_table.specs.View.{OwnerView}
use Rattle.far_table.specs.StateOf.{remembered_by}
use Rattle.far_table.specs.Views.{nobody, owner_at}
use Rattle.far_table.proofs.Places.{below, get_is}

module _ (os : List OwnerView) (m : ℕ) (o w : OwnerView) (at : get_elem? os m ≡ some o) where
  here : owner_at (set os m w) m ≡ w
  here = get_or-set_same os m w nobody (below os m o at)

  pub own_is : owner_at os m ≡ o
  own_is = get_is os m o nobody at

  else : (j : ℕ) → j ≢ m → owner_at (set os m w) j ≡ owner_at os j
  else j ne = get_or-set_other os m j w nobody ne

  pub remembered_set : remembered_by (set os m w) ≡ put (remembered_by os) m w.epoch
  remembered_set = fun_ext (λ j. put_both (λ v. remembered_by (set os m w) j ≡ v) (remembered_by os) m w.epoch j
      (λ e. ap (remembered_by (set os m w)) e ∙ ap (λ (y : OwnerView). y.epoch) here)
      (λ ne. ap (λ (y : OwnerView). y.epoch) (else j ne)))

  pub remembered_same : w.epoch ≡ o.epoch → remembered_by (set os m w) ≡ remembered_by os
  remembered_same same = fun_ext (λ j. dite (ℕ_discrete j m)
      (λ e. ap (remembered_by (set os m w)) e ∙ (ap (λ (y : OwnerView). y.epoch) here ∙ (same ∙ (sym (ap (λ (y : OwnerView). y.epoch) own_is) ∙ ap (remembered_by os) (sym e)))))
      (λ ne. ap (λ (y : OwnerView). y.epoch) (else j ne)))

  -- what owners know of pointers, each of its own
  module _ {X : Type 0} (g : OwnerView → ℕ → X) where
    abbrev pointers : List OwnerView → ℕ → X
    pointers l p = g (owner_at l (p / CELLS)) p

    pub known_by : (p : ℕ) → p / CELLS ≡ m → pointers os p ≡ g o p
    known_by p own = ap (λ j. g (owner_at os j) p) own ∙ ap (λ y. g y p) own_is

    pub pointers_set : (F : ℕ → X) → ((p : ℕ) → p / CELLS ≡ m → g w p ≡ F p) → ((p : ℕ) → p / CELLS ≢ m → g (owner_at os (p / CELLS)) p ≡ F p) →
        pointers (set os m w) ≡ F
    pointers_set F own other = fun_ext (λ p. dite (ℕ_discrete (p / CELLS) m)
        (λ e. ap (λ j. g (owner_at (set os m w) j) p) e ∙ (ap (λ y. g y p) here ∙ own p e))
        (λ ne. ap (λ y. g y p) (else (p / CELLS) ne) ∙ other p ne))

    pub pointers_same : g w ≡ g o → pointers (set os m w) ≡ pointers os
    pointers_same same = pointers_set (pointers os) (λ p e. ap (λ f. f p) same ∙ sym (known_by p e)) (λ p _. refl)

    -- the owner's own pointer p gets v
    pub pointers_put : (p : ℕ) (v : X) → p / CELLS ≡ m → g w ≡ put (g o) p v → pointers (set os m w) ≡ put (pointers os) p v
    pointers_put p v own new = pointers_set (put (pointers os) p v)
        (λ q e. ap (λ f. f q) new ∙ put_two (λ x y. x ≡ y) (g o) (pointers os) p v v q (λ _. refl) (λ _. sym (known_by q e)))
        (λ q ne. sym (put_other (pointers os) p v q (λ e. ne (ap (λ z. z / CELLS) e ∙ own))))
