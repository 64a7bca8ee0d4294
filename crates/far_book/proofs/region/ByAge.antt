-- Logs that are sealed stand behind those that were sealed before.
use Rattle.std.proofs.Common.{◌≡◌, ◌≢◌, ℕ, Bool, true, false, cond, not, ◌==◌, eqb, inl, inr, List, [], ◌∷◌, ◌++◌, ap, sym, refl, ◌∙◌, subst}
use Rattle.std.specs.Prelude.{◌⊎◌, Contains}
use Rattle.std.specs.List.{AllByRecursion, IsDistinct}
use Rattle.std.proofs.lemmas.Bool.{eq-eqb, eqb-true, ne_eqb, true≢false}
use Rattle.std.proofs.lemmas.List.{append-nil}
use Rattle.far_word.specs.declared.pointer.Place.{Place}
use Rattle.far_log.proofs.Members.{here, none_in, split}
use Rattle.far_events.specs.declared.event.Kind.{Kind}
use Rattle.far_events.specs.declared.event.Kind.TheVariants.{Free, Open, Sealed}
use Rattle.far_events.specs.state.Law.{Law}
use Rattle.far_events.specs.state.State.{State}
use Rattle.far_book.specs.book.Ages.{SealsBehind, WithoutKeepsAges}
use Rattle.far_book.specs.book.Effects.{order_after}
use Rattle.far_book.specs.book.Releasing.{order_without}

open_unsealed : (k : Kind) → k ≡ Open → k ≢ Sealed
open_unsealed k is sealed = absurd cc

open_or_not : (k : Kind) → (k ≡ Open) ⊎ (k ≢ Open)
open_or_not Free = inr (λ e. absurd cc)
open_or_not Open = inl refl
open_or_not Sealed = inr (λ e. absurd cc)

module _ (s t : State) (law : Law s) (place : Place) (opens : t.kind place.log ≡ Open) (seals : (l : ℕ) → l ≢ place.log → s.kind l ≡ Open → t.kind l ≡ Sealed)
    (kinds : (l : ℕ) → l ≢ place.log → s.kind l ≢ Open → t.kind l ≡ s.kind l) where
  -- a log that was sealed meanwhile was the open one, and is it no more
  was_open : (l : ℕ) → s.kind l ≢ Sealed → t.kind l ≡ Sealed → (l ≡ s.current) × (l ≢ place.log)
  was_open l before now =
      let other : l ≢ place.log = λ e. open_unsealed (t.kind l) (ap t.kind e ∙ opens) now in
      elim (open_or_not (s.kind l)) [ inl is ↦ (law.logs.one_open l is, other) | inr closed ↦ absurd (before (sym (kinds l other closed) ∙ now)) ]

  module _ (order : List ℕ) where
    by_log : (same : Bool) → (place.log == s.current) ≡ same → SealsBehind s t order (cond same order (order ++ s.current ∷ []))
    by_log true e = record {
      newly = [];
      behind = sym (append-nil order);
      sealed = λ l. (
        λ member. absurd (none_in l member),
        λ both. let x = was_open l both.0 both.1 in absurd (x.1 (x.0 ∙ sym (eqb-true place.log s.current e))),
      );
    }
    by_log false e = record {
      newly = s.current ∷ [];
      behind = refl;
      sealed = λ l. (
        λ member. elim (split l s.current [] member) [
          | inl is ↦ (
              let other : s.current ≢ place.log = λ same. true≢false (sym (eq-eqb place.log s.current (sym same)) ∙ e) in
              subst (λ k. (s.kind k ≢ Sealed) × (t.kind k ≡ Sealed)) is (open_unsealed (s.kind s.current) law.logs.is_open, seals s.current other law.logs.is_open)
              )
          | inr more ↦ absurd (none_in l more)
        ],
        λ both. let x = was_open l both.0 both.1 in subst (λ k. Contains (k ∷ []) l) x.0 (here l []),
      );
    }

    pub seals_behind : SealsBehind s t order (order_after s order place)
    seals_behind = by_log (place.log == s.current) refl

-- ---- a log is given back
others_kept : (l : ℕ) (ks : List ℕ) → AllByRecursion (λ k. eqb l k ≡ false) ks → order_without l ks ≡ ks
others_kept l [] other = refl
others_kept l (k ∷ ks) other =
    let apart : (k == l) ≡ false = ne_eqb k l (λ e. true≢false (sym (eq-eqb l k (sym e)) ∙ other.0)) in
    ap (λ b. cond (not b) (k ∷ order_without l ks) (order_without l ks)) apart ∙ ap (λ rest. k ∷ rest) (others_kept l ks other.1)

from_append : (P : ℕ → Type 0) (xs : List ℕ) (y : ℕ) (ys : List ℕ) → AllByRecursion P (xs ++ y ∷ ys) → P y
from_append P [] y ys h = h.0
from_append P (x ∷ xs) y ys h = from_append P xs y ys h.1

pub without_keeps_ages : WithoutKeepsAges
unfolding IsDistinct
without_keeps_ages l [] younger once = ap (λ b. cond (not b) (l ∷ order_without l younger) (order_without l younger)) (eq-eqb l l refl) ∙ others_kept l younger once.0
without_keeps_ages l (k ∷ older) younger once =
    ap (λ b. cond (not b) (k ∷ order_without l (older ++ l ∷ younger)) (order_without l (older ++ l ∷ younger))) (from_append (λ j. eqb k j ≡ false) older l younger once.0)
    ∙ ap (λ rest. k ∷ rest) (without_keeps_ages l older younger once.1)
