use Rattle.std.proofs.Common.{◌≡◌, ◌∙◌, None, inr, refl, sym, ap, subst, arith}
use Rattle.far_word.specs.Job.{job_in}
use Rattle.far_events.specs.declared.event.Event.TheVariants.{Claim}
use Rattle.far_table.specs.CopierViews.{claimed_view, peeked_view}
use Rattle.far_table.specs.Seats.{CopierSeated}
use Rattle.far_table.specs.View.{CopierView}
use Rattle.far_table.proofs.CopySeatLemmas.{copier_made, copier_stays, staged_word, view_after}
use Rattle.far_table.proofs.CopySteps.{claims}
use Rattle.far_table.proofs.Exchanges.{copier_lost, copier_won}
use Rattle.far_table.proofs.SeatLemmas.{job_inside}
use Rattle.far_table.proofs.copy_seat.CopySeat.take.Goals as goal

pub overflow_add-word : goal.overflow_add-word
overflow_add-word g c = let i = c.self.invariant in let fits = (staged_word c.peek-word.result _ _ 1 (c.if-not-is_offered.ensures.offers refl) i.5 (omega arith) i.3).1 in omega (arith, fits)

pub compare_exchange-found-requires : goal.compare_exchange-found-requires
compare_exchange-found-requires g c =
    let i = c.self.invariant in
    let offers = c.if-not-is_offered.ensures.offers refl in
    let before = ap (λ (z : CopierSeated). z.view) c.self.view_is ∙ c.peek-word.ensures.seen in
    let free = subst (λ (v : CopierView). v.task ≡ None) (sym before) c.requires.free in
    let t = job_inside _ _ _ c.args.number i.0 (ap (λ t. t.shared.table_id) c.deref.ensures) i.1 c.requires.job (omega arith) in
    (t.0, t.1, claims _ _ _ i.2 c.args.number c.peek-word.result _ c.requires.job c.peek-word.type_inv free offers (staged_word _ _ _ 1 offers i.5 (omega arith) i.3).0)

pub invariant_of-self : goal.invariant_of-self
invariant_of-self g c = let h = c.compare_exchange-found.ensures in copier_stays _ _ _ _ _ _ _ _ _ _ c.self.invariant h.0 (h.2 c.args.number refl)

pub invariant_of-self-2 : goal.invariant_of-self-2
invariant_of-self-2 g c = let h = c.compare_exchange-found.ensures in copier_stays _ _ _ _ _ _ _ _ _ _ c.self.invariant h.0 (h.2 c.args.number refl)

pub returns-clause-took : goal.returns-clause-took
returns-clause-took g c =
    let before = ap (λ (z : CopierSeated). z.view) c.self.view_is ∙ c.peek-word.ensures.seen in
    let t = copier_won _ _ (c.compare_exchange-found.ensures.2 c.args.number refl) c.if-found-word.false in record {
      found = c.peek-word.result;
      offers = c.if-not-is_offered.ensures.offers refl;
      peeks = c.peek-word.ensures.event;
      claims = copier_made _ _ _ (λ v. Claim v.number c.args.number c.peek-word.result) _ _ before t;
      view = view_after _ _ _ _ _ (claimed_view c.args.number (job_in c.peek-word.result)) before t;
    }

pub returns-then-found-word-clause-missed : goal.returns-then-found-word-clause-missed
returns-then-found-word-clause-missed g c = λ _.
    let before = ap (λ (z : CopierSeated). z.view) c.self.view_is ∙ c.peek-word.ensures.seen in
    let t = copier_lost _ _ (c.compare_exchange-found.ensures.2 c.args.number refl) c.if-found-word.true in (
      c.peek-word.result,
      c.peek-word.ensures.event,
      inr (
        c.compare_exchange-found.result,
        c.if-found-word.true,
        copier_made _ _ _ (λ v. Claim v.number c.args.number c.peek-word.result) _ _ before t,
        view_after _ _ _ _ _ (peeked_view c.args.number c.compare_exchange-found.result) before t,
      ),
    )
