use Rattle.std.proofs.Common.{◌≡◌, ◌/◌, refl, sym, ap, ◌∙◌, subst, arith, Bool, Some, None, ◌∷◌}
use Rattle.std.specs.Prelude.{if◌then◌else◌}
use Rattle.far_word.specs.declared.sizes.TheConstants.{CELLS}
use Rattle.far_table.specs.Layout.{cell_at}
use Rattle.far_table.specs.Seats.{Seated}
use Rattle.far_events.specs.declared.event.Event.TheVariants.{Adopt}
use Rattle.far_table.specs.View.{OwnerView}
use Rattle.far_table.specs.Tells.{OwnerRefused, owner_of}
use Rattle.far_table.specs.Views.{adopted_view, noted_view, object_at}
use Rattle.far_table.proofs.AdoptSteps.{adopts}
use Rattle.far_table.proofs.SeatLemmas.{adopt_made, adopt_refused, adopt_stays, if_none, if_some, inside, seat_made}
use Rattle.far_table.proofs.seat.MutSeat.adopt.Goals as goal
use Rattle.far_table.proofs.seat.MutSeat.adopt.Goals.{then-in_use, else-in_use}

pub load-found-requires : goal.load-found-requires
load-found-requires g c =
    let i = c.self.invariant in
    let q = subst (λ (z : Seated). (c.args.p / CELLS ≡ z.view.number) × (object_at z.view c.args.p ≡ None)) (sym c.self.view_is) (c.requires.own, c.requires.unused) in
    let own = q.0 in
    let number = i.3 in
    let few = i.4 in
    let t = inside _ _ _ (cell_at c.args.p) i.0 (ap (λ t. t.shared.table_id) c.deref.ensures) i.1 (omega arith) in
    (t.0, t.1, adopts _ _ _ i.2 c.args.p (omega arith) q.0 q.1)

pub in_use-requires : goal.in_use-requires
in_use-requires g c = (c.load-found.ensures.2 c.args.p refl).0

pub invariant_of-self : goal.invariant_of-self
invariant_of-self g c =
    let h = c.load-found.ensures in
    let l = h.2 c.args.p refl in
    adopt_stays _ _ _ _ _ _ _ _ _ c.args.p c.load-found.result c.self.invariant h.0 l.1 l.2

pub returns-clause-adopted : goal.returns-clause-adopted
returns-clause-adopted g c =
    let l = c.load-found.ensures.2 c.args.p refl in
    elim c.if-in_use.branch [
      | then-in_use w ↦ (let t = adopt_made _ _ _ c.args.p c.load-found.result (sym c.in_use.ensures ∙ w.if-in_use.true) l.2 in
          if_some _ _ _ w.result-is (
            ap owner_of t.after_is ∙ ap (λ (z : Seated). adopted_view c.args.p c.load-found.result z.view) c.self.view_is,
            seat_made _ _ _ (λ (o : OwnerView). Adopt o.number c.args.p) _ _ (ap (λ (z : Seated). z.view) c.self.view_is) t,
          ))
      | else-in_use w ↦ if_none _ _ w.result-is
    ]

pub returns-clause-refused : goal.returns-clause-refused
returns-clause-refused g c =
    let n = c.load-found.result in
    let l = c.load-found.ensures.2 c.args.p refl in
    elim c.if-in_use.branch [
      | then-in_use w ↦ (λ e. let odd : Some n ≡ None = sym w.result-is ∙ e in cc)
      | else-in_use w ↦ (λ _. let t = adopt_refused _ _ _ c.args.p n (sym c.in_use.ensures ∙ w.if-in_use.false) l.2 in (
        n,
        ap owner_of t.0 ∙ ap (λ (z : Seated). noted_view c.args.p n z.view) c.self.view_is,
        subst (λ (o : OwnerView). OwnerRefused (Adopt o.number c.args.p) o) (ap (λ (z : Seated). z.view) c.self.view_is) t.1,
      ))
    ]

pub returns-clause-found : goal.returns-clause-found
returns-clause-found g c =
    let n = c.load-found.result in
    let l = c.load-found.ensures.2 c.args.p refl in
    let row = ap (λ (z : Seated). (c.args.p, n) ∷ z.view.found) c.self.view_is in
    elim c.if-in_use.branch [
      | then-in_use w ↦ (let used = sym c.in_use.ensures ∙ w.if-in_use.true in let t = adopt_made _ _ _ c.args.p n used l.2 in
          (n, ap (λ z. (owner_of z).found) t.after_is ∙ row, w.result-is ∙ ap (λ (b : Bool). if b then Some n else None) (sym used)))
      | else-in_use w ↦ (let free = sym c.in_use.ensures ∙ w.if-in_use.false in let t = adopt_refused _ _ _ c.args.p n free l.2 in
          (n, ap (λ z. (owner_of z).found) t.0 ∙ row, w.result-is ∙ ap (λ (b : Bool). if b then Some n else None) (sym free)))
    ]
