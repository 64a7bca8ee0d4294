use Rattle.std.proofs.Common.{◌≡◌, ◌⊎◌, ℕ, true, false, inl, inr, subst, sym, ◌∙◌}
use Rattle.far_word.specs.declared.refused.Refused.TheVariants.{NotHeld}
use Rattle.far_heap.specs.declared.scope.Scope.TheInside.{Inside}
use Rattle.far_heap.specs.declared.view.Tried.TheVariants.{View as Viewed}
use Rattle.far_heap.specs.BookHad.{BookDid}
use Rattle.far_heap.specs.Helping.{BringsSo}
use Rattle.far_heap.specs.Made.{Pinned}
use Rattle.far_heap.specs.Mine.{AsksToView, Mine, TriedSo, uses, view_of, views}
use Rattle.far_heap.proofs.Asking.{quick_pins, quick_views, slow_views, tried_unheld, unrefused, view_made}
use Rattle.far_heap.proofs.scope.Scope.view.Goals.{in-Slow+in_default-refusal, in_default}
use Rattle.far_heap.proofs.scope.Scope.view.Goals as goal

pub returns-in-Err-clause-refused : goal.returns-in-Err-clause-refused
returns-in-Err-clause-refused g c = tried_unheld c.args.p c.args.self.now c.try_view.new.self c.in-Err.why
    (subst (λ (m : Mine). (c.in-Err.why ≡ NotHeld) × (uses m c.args.p ≡ false) × (c.try_view.new.self ≡ m)) c.self.view_is c.in-Err.ensures.refused)

pub returns-clause-viewed : goal.returns-clause-viewed
returns-clause-viewed g c =
    let p : ℕ = c.args.p in
    let m = c.args.self.now in
    let tried = subst (λ (x : Mine). (uses x p ≡ true) × TriedSo p x c.in-Ok.tried c.try_view.new.self) c.self.view_is c.in-Ok.ensures.tried in
    let So : Inside g.row.K.Denot g.row.D.Denot → Type 0 = λ i. AsksToView p m i.own in
    let asks : So c.match-tried.self-inside = elim c.match-tried.branch [
      | in-Slow+in_default-refusal w ↦ subst So (sym w.self-inside-is)
          (slow_views p m c.try_view.new.self w.view-brought.new.own c.in-Ok.tried _ _ tried.1 w.in-Slow.is (sym w.refusal.ensures ∙ w.in_default-refusal.is) w.view-brought.ensures.viewed)
      | in_default w ↦ subst So (sym w.self-inside-is) (quick_views p m c.try_view.new.self c.in-Ok.tried tried.1 w.in_default.not-Slow)
    ] in
    view_made p m c.match-tried.self-inside.own c.view_of.result tried.0 asks c.view_of.ensures

pub returns-clause-brought : goal.returns-clause-brought
returns-clause-brought g c = λ free.
    let d = g.D.Device in
    let p : ℕ = c.args.p in
    let m = c.args.self.now in
    let pinned = subst (λ (x : Mine). views x p ≡ false → Pinned p x c.in-Ok.tried c.try_view.new.self) c.self.view_is c.in-Ok.ensures.pinned free in
    let So : Inside g.row.K.Denot g.row.D.Denot → Type 0 =
    λ i. Pinned p m (Viewed (view_of p m)) i.own ⊎ BookDid g.row.D.Denot g.K.HeapName.heap (BringsSo d.contents d.honest d.faults d.fails_at_most d.lets_go d.forgets d.reads d.reads_in_place p true) in
    let so : So c.match-tried.self-inside = elim c.match-tried.branch [
      | in-Slow+in_default-refusal w ↦ inr (unrefused _ (sym w.refusal.ensures ∙ w.in_default-refusal.is) w.view-brought.ensures.brought)
      | in_default w ↦ subst So (sym w.self-inside-is) (inl (quick_pins p m c.try_view.new.self c.in-Ok.tried pinned w.in_default.not-Slow))
    ] in so
