use Rattle.std.proofs.Common.{◌∙◌, sym, ap, subst}
use Rattle.std.specs.Arc.{arc_value}
use Rattle.far_core.specs.state.CoreState.{core_state}
use Rattle.far_table.specs.Stands.{BookOk}
use Rattle.far_table.proofs.Seating.{book_starts}
use Rattle.far_table.proofs.book.BookSeat.new.Goals as goal

pub invariant_of-result-clause-fits : goal.invariant_of-result-clause-fits
invariant_of-result-clause-fits g c =
    subst (λ l. BookOk c.args.seat.table_id (arc_value c.args.table).shared.table_id c.args.seat.me.0 l c.mutators-mutators.result c.epoch-epoch.result) (sym c.logs-logs.ensures)
    (subst (λ m. BookOk c.args.seat.table_id (arc_value c.args.table).shared.table_id c.args.seat.me.0 (core_state c.args.core.now).logs m c.epoch-epoch.result) (sym c.mutators-mutators.ensures)
    (subst (λ e. BookOk c.args.seat.table_id (arc_value c.args.table).shared.table_id c.args.seat.me.0 (core_state c.args.core.now).logs (core_state c.args.core.now).mutators e) (sym c.epoch-epoch.ensures.is)
    (book_starts (core_state c.args.core.now) c.keeps_law.ensures.law c.requires.view.0 _ _ c.args.seat.me.0 c.requires.dealer.0 (ap (λ z. z.words) c.requires.dealer.0 ∙ c.requires.dealer.1) c.requires.dealer.2 c.requires.view.1)))

pub invariant_of-result-clause-stands : goal.invariant_of-result-clause-stands
invariant_of-result-clause-stands g c = c.requires.stands
