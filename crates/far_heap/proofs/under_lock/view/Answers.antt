use Rattle.std.proofs.Common.{◌≡◌, ◌⊎◌, Option, Ok, Err, ap, inl, refl, rules, subst, sym, ◌∙◌}
use Rattle.std.specs.Prelude.{IfSome}
use Rattle.std.proofs.lemmas.Bool.{false≢true}
use Rattle.far_word.specs.declared.refused.Refused.{Refused}
use Rattle.far_word.specs.declared.refused.Refused.TheVariants.{Memory, NoRoom}
use Rattle.far_heap.specs.BookHad.{IsAnswered}
use Rattle.far_heap.specs.Mine.{Asks, IsUnbrought}
use Rattle.far_heap.proofs.Asking.{asks_and_views, asks_none, asks_refused, asks_then, unasked_so}
use Rattle.far_heap.proofs.under_lock.view.Goals.{then-first-via-then-first, then-first-via-else-first+then-eq}
use Rattle.far_heap.proofs.under_lock.view.Goals as goal

pub loop-init : goal.loop-init
loop-init g c = (tt, tt, asks_none c.args.p c.args.own.now, λ _. refl)

pub loop-preserved-in-Ok-false : goal.loop-preserved-in-Ok-false
loop-preserved-in-Ok-false g c = (
  tt,
  tt,
  asks_then c.args.p c.args.own.now c.loop.own c.bring-brought.new.own c.loop.invariant.2 (c.in-Ok-false.ensures.slow (λ i. Ok (c.in-Ok-false.field-0-test i))),
  λ h. absurd (false≢true h),
)

pub loop-preserved : goal.loop-preserved
loop-preserved g c = (
  tt,
  tt,
  asks_then c.args.p c.args.own.now c.loop.own c.bring-brought.new.own c.loop.invariant.2 c.in-Err.ensures.refused.1,
  λ h. absurd (false≢true h),
)

pub returns-in-Ok-true-clause-viewed : goal.returns-in-Ok-true-clause-viewed
returns-in-Ok-true-clause-viewed g c =
    asks_and_views c.args.p c.args.own.now c.loop.own c.bring-brought.new.own c.loop.invariant.2 (c.in-Ok-true.ensures.viewed (λ i. Ok (c.in-Ok-true.field-0-test i)))

pub returns-then-first-clause-refused : goal.returns-then-first-clause-refused
returns-then-first-clause-refused g c = let r = c.in-Err.ensures.refused in
    subst (λ (o : Option Refused). IfSome o (λ why. IsUnbrought why × Asks c.args.p c.args.own.now c.bring-brought.new.own)) (sym c.of.ensures)
    (asks_refused c.args.p c.args.own.now c.loop.own c.bring-brought.new.own c.loop.invariant.2 c.in-Err.why r.0 r.1)

pub returns-then-first-clause-unasked : goal.returns-then-first-clause-unasked
returns-then-first-clause-unasked g c =
    let kept = c.in-Err.ensures.refused.2 in
    let unasked : (c.in-Err.why ≡ NoRoom) ⊎ (c.bring-brought.new.own ≡ c.args.own.now) = elim c.then-first.branch [
      | then-first-via-then-first w ↦ unasked_so c.args.p c.args.own.now c.loop.own c.bring-brought.new.own c.loop.invariant.2 c.loop.first c.in-Err.why c.loop.invariant.3 (inl w.if-first.true) kept
      | then-first-via-else-first+then-eq w ↦ (let room : c.in-Err.why ≡ NoRoom = search rules in inl room)
    ] in
    subst (λ (o : Option Refused). IfSome o (λ why. (why ≡ NoRoom) ⊎ (c.bring-brought.new.own ≡ c.args.own.now))) (sym c.of.ensures) unasked

pub returns-then-first-clause-answered : goal.returns-then-first-clause-answered
returns-then-first-clause-answered g c =
    subst (λ (o : Option Refused). IfSome o (IsAnswered g.row.D.Denot g.K.HeapName.heap g.D.Device.reads c.args.p)) (sym c.of.ensures) c.in-Err.ensures.answered

pub returns-then-first-clause-in_place : goal.returns-then-first-clause-in_place
returns-then-first-clause-in_place g c = λ kind is.
    let told = sym c.of.ensures ∙ is in
    let same : c.in-Err.why ≡ Memory = cc in
    c.in-Err.ensures.in_place kind (ap Err same)

pub returns-in-Ok-true-clause-brought : goal.returns-in-Ok-true-clause-brought
returns-in-Ok-true-clause-brought g c = c.in-Ok-true.ensures.brought (λ i. Ok (c.in-Ok-true.field-0-test i))
