use Rattle.std.proofs.Common.{◌∙◌, ℕ, is_some, refl, ap, subst, sym}
use Rattle.atomic_table.specs.Seated.{TableId}
use Rattle.far_table.specs.Seats.{Seated}
use Rattle.far_table.specs.View.{OwnerView}
use Rattle.far_table.specs.Views.{opened_view, read_view}
use Rattle.far_heap.specs.declared.rows.Rows.{Rows}
use Rattle.far_heap.specs.Mine.{Mine, OwnOk, mine_of, opening}
use Rattle.far_heap.proofs.Mines.{none_there}
use Rattle.far_heap.proofs.OwnSteps.{seated_is, structures_stay}
use Rattle.far_heap.proofs.own.Own.open.Goals as goal

-- the scope is open at an epoch, and nothing else has changed
opened_ok : (s : Seated) (name : TableId) (number : ℕ) (rows : Rows) → OwnOk s name number rows → (epoch : ℕ) → OwnOk (record { table = s.table; view = opened_view (read_view epoch s.view) }) name number rows
opened_ok s name number rows ok epoch = record {
  table = ok.table;
  number_is = ok.number_is;
  few = ok.few;
  rows_ok = ok.rows_ok;
  lens_are = ok.lens_are;
  used_are = ok.used_are;
  short = ok.short;
  views_are = ok.views_are;
  held_used = ok.held_used;
  held_open = λ p mine held. refl;
  soils_are = ok.soils_are;
  other_lens = ok.other_lens;
  other_views = ok.other_views;
}

pub read_epoch-requires : goal.read_epoch-requires
read_epoch-requires g c = record { closed = none_there c.self.inside.seat.view.open_at (ap (λ (m : Mine). m.opened) c.self.view_is ∙ c.requires) }

pub open-requires-clause-closed : goal.open-requires-clause-closed
open-requires-clause-closed g c =
    ap (λ (o : OwnerView). o.open_at) c.read_epoch.ensures.view ∙ none_there c.self.inside.seat.view.open_at (ap (λ (m : Mine). m.opened) c.self.view_is ∙ c.requires)

pub open-requires-clause-read : goal.open-requires-clause-read
open-requires-clause-read g c = ap (λ (o : OwnerView). is_some o.epoch) c.read_epoch.ensures.view

pub invariant_of-self : goal.invariant_of-self
invariant_of-self g c =
    let s = c.self.inside in
    let view = c.open.ensures.view ∙ ap opened_view c.read_epoch.ensures.view in (
      subst (λ (t : Seated). OwnOk t _ s.number s.rows) (sym (seated_is c.open.new.self s.seat.table _ (c.open.ensures.table ∙ c.read_epoch.ensures.table) view))
          (opened_ok s.seat _ s.number s.rows c.self.invariant.0 c.read_epoch.result),
      structures_stay s.number s.rows s.seat.view c.open.new.self.view _ c.self.invariant.1 view (λ p. refl),
    )

pub returns : goal.returns
returns g c =
    let view = c.open.ensures.view ∙ ap opened_view c.read_epoch.ensures.view in
    ap mine_of (seated_is c.open.new.self c.self.inside.seat.table _ (c.open.ensures.table ∙ c.read_epoch.ensures.table) view) ∙ ap opening c.self.view_is
