-- What calls leave of a device, one after another.
use Rattle.std.proofs.Common.{◌∙◌, ℕ, suc, Bool, true, false, List, Option, refl, subst}
use Rattle.far_device.specs.Faults.{CountsFault, SpendsFault}
use Rattle.far_device.specs.Following.{Follows, any_key}

module _ {D : Type 0} (contents : D → ℕ → Option (List ℕ)) (is_honest : D → Bool) (faults : D → ℕ) (fails_at_most : D → ℕ → Type 0) where
  -- no call at all leaves all as it was
  pub follows_itself : (alone : ℕ → Type 0) (d : D) → Follows contents is_honest faults fails_at_most alone false d d
  follows_itself alone d = record { others = λ q is. refl; honest = refl; counted = refl; spent = λ n few. few }

  spends_on : (fault : Bool) (old between new : ℕ → Type 0) → SpendsFault false old between → SpendsFault fault between new → SpendsFault fault old new
  spends_on true old between new first then = (λ none. then.0 (first 0 none), λ n few. then.1 n (first (suc n) few))
  spends_on false old between new first then = λ n few. then n (first n few)

  -- what was done without a fault, and then more, which may have been one
  pub follows_on : (alone : ℕ → Type 0) (fault : Bool) (old between new : D) → Follows contents is_honest faults fails_at_most alone false old between →
      Follows contents is_honest faults fails_at_most alone fault between new → Follows contents is_honest faults fails_at_most alone fault old new
  follows_on alone fault old between new first then = record {
    others = λ q is. then.others q is ∙ first.others q is;
    honest = then.honest ∙ first.honest;
    counted = subst (λ count. CountsFault fault count (faults new)) first.counted then.counted;
    spent = spends_on fault (fails_at_most old) (fails_at_most between) (fails_at_most new) first.spent then.spent;
  }

  -- fewer keys were left alone for sure
  pub follows_still : (alone fewer : ℕ → Type 0) (fault : Bool) (old new : D) → ((q : ℕ) → fewer q → alone q) →
      Follows contents is_honest faults fails_at_most alone fault old new → Follows contents is_honest faults fails_at_most fewer fault old new
  follows_still alone fewer fault old new are h = record { others = λ q is. h.others q (are q is); honest = h.honest; counted = h.counted; spent = h.spent }

  spends_held : (P : Type 0) (fault : Bool) (old new : ℕ → Type 0) → P → SpendsFault fault (λ n. P × old n) (λ n. P × new n) → SpendsFault fault old new
  spends_held P true old new is h = (λ none. h.0 (is, none), λ n few. (h.1 n (is, few)).1)
  spends_held P false old new is h = λ n few. (h n (is, few)).1

  -- a read of a key under which something is, of which P says so
  pub follows_held : (P : Type 0) (alone : ℕ → Type 0) (fault : Bool) (old new : D) → P → Follows contents is_honest faults (λ d n. P × fails_at_most d n) any_key fault old new →
      Follows contents is_honest faults fails_at_most alone fault old new
  follows_held P alone fault old new is h = record {
    others = λ q left. h.others q tt;
    honest = h.honest;
    counted = h.counted;
    spent = spends_held P fault (fails_at_most old) (fails_at_most new) is h.spent;
  }
