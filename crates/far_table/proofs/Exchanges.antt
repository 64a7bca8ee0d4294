-- A compare-exchange by any seat, once it is known whether it won: what it owes, and what it tells.
use Rattle.std.proofs.Common.{◌≡◌, ◌≢◌, ℕ, Bool, true, false, cond, List, set, refl, sym, ap, ◌∙◌, subst}
use Rattle.std.specs.Prelude.{slice_index, ◌==◌}
use Rattle.std.proofs.lemmas.Bool.{eq-eqb, eqb-false, eqb-true, ne_eqb}
use prog.Atomic.{either}
use lib.Seq.{set-get_or}
use Rattle.far_events.specs.declared.event.Reply.{Reply}
use Rattle.far_events.specs.declared.event.Reply.TheVariants.{Done, Word}
use Rattle.far_events.specs.declared.event.Event.{Event}
use Rattle.far_table.specs.BookTells.{BookTells}
use Rattle.far_table.specs.NameViews.{exchange_reply}
use Rattle.far_table.specs.Tells.{CopierTells}
use Rattle.far_table.specs.View.{BookView, CopierView, View}

-- what it comes to, and what it answers
module _ (found old : ℕ) where
  pub if_won : {X : Type 0} (won lost : X) → found ≡ old → cond (found == old) won lost ≡ won
  if_won won lost is = ap (λ t. cond t won lost) (eq-eqb found old is)

  pub if_lost : {X : Type 0} (won lost : X) → found ≢ old → cond (found == old) won lost ≡ lost
  if_lost won lost ne = ap (λ t. cond t won lost) (ne_eqb found old ne)

  pub won_says : found ≡ old → Done ≡ exchange_reply old found
  won_says won = sym (if_won Done (Word found) won)

  pub lost_says : found ≢ old → Word found ≡ exchange_reply old found
  lost_says lost = sym (if_lost Done (Word found) lost)

-- what holds of the answer, the words and the view after, whether it wins or loses; word i of the table is the one found
pub by_case : {X : Type 0} (holds : Reply → List ℕ → X → Type 0) (ws : List ℕ) (i found old new : ℕ) (won lost : X) → found ≡ slice_index ws i →
    (found ≡ old → holds Done (set ws i new) won) → (found ≢ old → holds (Word found) ws lost) → holds (exchange_reply old found) (set ws i (either (found == old) new found)) (cond (found == old) won lost)
by_case {X} holds ws i found old new won lost here w l = by_test (found == old) refl where
  by_test : (t : Bool) → (found == old) ≡ t → holds (cond t Done (Word found)) (set ws i (either t new found)) (cond t won lost)
  by_test true e = w (eqb-true found old e)
  by_test false e = subst (λ z. holds (Word found) z lost) (sym (ap (set ws i) here ∙ set-get_or ws i 0)) (l (eqb-false found old e))

-- what was told, if it won, and if it lost: by any seat, by the book's, by a copier's
module _ {X : Type 0} (tells : Reply → X → Type 0) (old found : ℕ) (won lost : X) (told : tells (exchange_reply old found) (cond (found == old) won lost)) where
  at_test : (x : Bool) → (found == old) ≡ x → tells (cond x Done (Word found)) (cond x won lost)
  at_test x is = subst (λ y. tells (cond y Done (Word found)) (cond y won lost)) is told

  won_tells : found ≡ old → tells Done won
  won_tells is = at_test true (eq-eqb found old is)

  lost_tells : found ≢ old → tells (Word found) lost
  lost_tells ne = at_test false (ne_eqb found old ne)

module _ {v v' : View} {e : Event} {old found : ℕ} {X : Type 0} (view : X → BookView) (won lost : X) (t : BookTells v v' e (exchange_reply old found) (view (cond (found == old) won lost))) where
  pub book_won : found ≡ old → BookTells v v' e Done (view won)
  book_won = won_tells (λ r x. BookTells v v' e r (view x)) old found won lost t

  pub book_lost : found ≢ old → BookTells v v' e (Word found) (view lost)
  book_lost = lost_tells (λ r x. BookTells v v' e r (view x)) old found won lost t

module _ {v v' : View} {e : Event} {old found : ℕ} (won lost : CopierView) (t : CopierTells v v' e (exchange_reply old found) (cond (found == old) won lost)) where
  pub copier_won : found ≡ old → CopierTells v v' e Done won
  copier_won = won_tells (CopierTells v v' e) old found won lost t

  pub copier_lost : found ≢ old → CopierTells v v' e (Word found) lost
  copier_lost = lost_tells (CopierTells v v' e) old found won lost t
