use Rattle.std.proofs.Common.{refl, ap, subst, arith}
use Rattle.far_events.specs.declared.event.Event.TheVariants.{PeekJob}
use Rattle.far_events.specs.declared.event.Reply.TheVariants.{Word}
use Rattle.far_table.specs.CopierViews.{peeked_view}
use Rattle.far_table.specs.Seats.{CopierSeated}
use Rattle.far_table.specs.Tells.{CopierMade}
use Rattle.far_table.proofs.CopySeatLemmas.{copier_stays, peeked_reads, view_after}
use Rattle.far_table.proofs.CopySteps.{peeks}
use Rattle.far_table.proofs.SeatLemmas.{job_inside}
use Rattle.far_table.proofs.copy_seat.CopySeat.peek.Goals as goal

pub load-requires : goal.load-requires
load-requires g c =
    let i = c.self.invariant in
    let t = job_inside _ _ _ c.args.number i.0 (ap (λ t. t.shared.table_id) c.deref.ensures) i.1 c.requires.job (omega arith) in
    (t.0, t.1, peeks _ _ _ i.2 c.args.number c.requires.job)

pub invariant_of-self : goal.invariant_of-self
invariant_of-self g c = let h = c.load.ensures in copier_stays _ _ _ _ _ _ _ _ _ _ c.self.invariant h.0 (h.2 c.args.number refl)

pub returns-clause-seen : goal.returns-clause-seen
returns-clause-seen g c = view_after _ _ _ _ _ (peeked_view c.args.number c.load.result) (ap (λ (z : CopierSeated). z.view) c.self.view_is) (c.load.ensures.2 c.args.number refl)

pub returns-clause-event : goal.returns-clause-event
returns-clause-event g c = subst (λ (z : CopierSeated). CopierMade (PeekJob z.view.number c.args.number) z.view (Word c.load.result) (peeked_view c.args.number c.load.result z.view)) c.self.view_is (c.load.ensures.2 c.args.number refl).made

pub returns-clause-reads : goal.returns-clause-reads
returns-clause-reads g c = peeked_reads c.args.number _ _ _ (c.load.ensures.2 c.args.number refl).made
