-- A caller's step seals a log behind those that were sealed before.
use Rattle.std.proofs.Common.{◌≡◌, ◌≢◌, ℕ, Bool, true, false, cond, ◌==◌, inl, inr, List, [], ◌∷◌, ◌++◌, ap, sym, refl, ◌∙◌, subst}
use Rattle.std.specs.Prelude.{Contains}
use Rattle.std.proofs.lemmas.Bool.{cases_eq, eq-eqb, eqb-true, true≢false}
use Rattle.std.proofs.lemmas.List.{append-nil}
use Rattle.far_log.proofs.Members.{here, none_in, split}
use Rattle.far_events.specs.declared.event.Kind.TheVariants.{Sealed}
use Rattle.far_events.specs.state.Law.{Law}
use Rattle.far_events.specs.state.State.{State}
use Rattle.far_book.specs.book.Ages.{SealsBehind}
use Rattle.far_evac.specs.Callers.{CallersSealBehind, StepsAside}
use Rattle.far_evac.proofs.OfOneKind.{open_unsealed}

module _ (s t : State) (law : Law s) (then : Law t) (aside : StepsAside s t) (order : List ℕ) where
  not_open : (l : ℕ) → t.kind l ≡ Sealed → l ≢ t.current
  not_open l shut e = open_unsealed (t.kind l) (ap t.kind e ∙ then.logs.is_open) shut

  was_open : (l : ℕ) → s.kind l ≢ Sealed → t.kind l ≡ Sealed → l ≡ s.current
  was_open l before now = elim (cases_eq l s.current) [ inl e ↦ e | inr other ↦ absurd (before (sym (aside.others l other (not_open l now)) ∙ now)) ]

  by_core : (same : Bool) → (t.current == s.current) ≡ same → SealsBehind s t order (cond same order (order ++ s.current ∷ []))
  by_core true e = record {
    newly = [];
    behind = sym (append-nil order);
    sealed = λ l. (λ member. absurd (none_in l member), λ both. absurd (not_open l both.1 (was_open l both.0 both.1 ∙ sym (eqb-true t.current s.current e))));
  }
  by_core false e = record {
    newly = s.current ∷ [];
    behind = refl;
    sealed = λ l. (
      λ member. elim (split l s.current [] member) [
        | inl is ↦ subst (λ k. (s.kind k ≢ Sealed) × (t.kind k ≡ Sealed)) is
            (open_unsealed (s.kind s.current) law.logs.is_open, aside.shut (λ same. true≢false (sym (eq-eqb t.current s.current same) ∙ e)))
        | inr more ↦ absurd (none_in l more)
      ],
      λ both. subst (λ k. Contains (k ∷ []) l) (was_open l both.0 both.1) (here l []),
    );
  }

pub callers_seal_behind : CallersSealBehind
callers_seal_behind m t law then aside = by_core m.core t law then aside m.order (t.current == m.core.current) refl
