use Rattle.far_book.proofs.book.Book.new.Goals as goal
use Rattle.std.proofs.Common.{◌≡◌, subst, ap, sym, ◌∙◌}
use Rattle.std.specs.Prelude.{false}
use Rattle.far_events.specs.state.Opening.{for_copiers, opening}
use Rattle.far_book.specs.book.Ledger.{Notes}
use Rattle.far_book.specs.book.Own.{own_part}
use Rattle.far_book.proofs.region.InOrders.{none_far}

pub invariant_of-result : goal.invariant_of-result
invariant_of-result g c =
    let has = (g.N.Near.view c.args.near).copying.has_copiers in
    let start : own_part (g.N.Near.view c.args.near) ≡ own_part (for_copiers has (opening c.shape-shape.result false)) = c.requires.start ∙ ap (λ shape. own_part (for_copiers has (opening shape false))) (sym c.shape-shape.ensures.is) in (
      record {
        notes = subst (λ s. Notes s c.in-Ok.ledger) (sym start) (c.in-Ok.ensures.notes has);
        far = none_far (g.N.Near.view c.args.near) (g.D.Device.contents c.args.device) c.requires.start;
        honest = c.requires.honest;
      },
      c.in-Ok-with_capacity.ensures.capacity,
    )
