-- What guards say, as tests and as facts.
use Rattle.std.proofs.Common.{None, Option, Some, ap, arith, false, refl, subst, sym, true, ℕ, ◌/◌, ◌<◌, ◌∙◌, ◌≡◌, ◌≢◌, Bool}
use Rattle.std.proofs.lemmas.Bool.{false≢true, true≢false}
use Rattle.std.proofs.lemmas.Bool.Decides.{nat_tests}
use Rattle.std.specs.Prelude.{is_some, not, ◌&&◌}
use Rattle.far_events.proofs.Bounds.{held_of}
use Rattle.far_events.proofs.Cells.{held_near}
use Rattle.far_events.specs.declared.event.Kind.{Kind}
use Rattle.far_events.specs.declared.event.Kind.TheVariants.{Free, Open, Sealed}
use Rattle.far_events.specs.events.Mark.{is_sealed}
use Rattle.far_events.specs.state.Law.{Law}
use Rattle.far_events.specs.events.Legal.{HoldsWord, IsClosed, IsOpen}
use Rattle.far_events.specs.state.State.{State}
use Rattle.far_events.specs.events.Step.{data_len, holds, is_closed, is_opened, near_len}
use Rattle.far_word.specs.Sizes.{words_for}
use Rattle.far_word.specs.declared.sizes.TheConstants.{CELLS}

pub closed_fact : (s : State) (m : ℕ) → is_closed s m ≡ true → IsClosed s m
closed_fact s m h = (grind (arith, nat_tests), grind (arith, nat_tests))

pub closed_test : (s : State) (m : ℕ) → IsClosed s m → is_closed s m ≡ true
closed_test s m h = let a : m < s.mutators = h.0 in let b : s.scope m ≡ 0 = h.1 in grind (arith, nat_tests)

pub open_fact : (s : State) (m : ℕ) → is_opened s m ≡ true → IsOpen s m
open_fact s m h = (grind (arith, nat_tests), λ z. true≢false (sym h ∙ shut z)) where
  shut : s.scope m ≡ 0 → is_opened s m ≡ false
  shut z = grind (arith, nat_tests)

pub open_test : (s : State) (m : ℕ) → IsOpen s m → is_opened s m ≡ true
open_test s m h = let a : m < s.mutators = h.0 in let b : s.scope m ≢ 0 = h.1 in grind (arith, nat_tests)

pub word_fact : (s : State) (m p i : ℕ) → Law s → holds s m p ≡ true → i < words_for (data_len s p) → (len : ℕ) × HoldsWord s m p i len × (data_len s p ≡ len)
word_fact s m p i law h inside =
    let x = held_of s m p h in
    let near = held_near _ x.0 (law.views.held_names p x.0 x.1) in
    let long : data_len s p ≡ near.len = ap near_len near.near in
    (near.len, (x.0, record { own = x.2; rests = x.1; near = (near.ds, near.marks, near.near) }, subst (λ n. i < words_for n) long inside), long)

pub word_test : (s : State) (m p i len : ℕ) → HoldsWord s m p i len → (holds s m p ≡ true) × (data_len s p ≡ len)
word_test s m p i len h =
    let some : is_some (s.held p) ≡ true = ap is_some h.1.rests in
    let own : p / CELLS ≡ m = h.1.own in
    (grind (arith, nat_tests), ap near_len h.1.near.2)

pub sealed_fact : (k : Kind) → is_sealed k ≡ true → k ≡ Sealed
sealed_fact Free h = absurd (false≢true h)
sealed_fact Open h = absurd (false≢true h)
sealed_fact Sealed h = refl

pub none_from : {X : Type 0} (o : Option X) → not (is_some o) ≡ true → o ≡ None
none_from None h = refl
none_from (Some x) h = absurd (false≢true h)

-- what holds of all but the last, and of the last
pub parts : (a b : Bool) → (a && b) ≡ true → (a ≡ true) × (b ≡ true)
parts true b h = (refl, h)
parts false b h = absurd (false≢true h)
