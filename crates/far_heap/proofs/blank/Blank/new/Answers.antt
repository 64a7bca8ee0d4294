use Rattle.std.proofs.Common.{◌≡◌, ◌∙◌, Bool, false, sym, subst, ap}
use Rattle.far_core.specs.state.CoreState.{core_state}
use Rattle.far_events.specs.state.State.{State}
use Rattle.far_table.specs.View.{BookView}
use Rattle.far_table.specs.BookSeats.{seat_view, table_of}
use Rattle.far_hand.specs.ShapeOf.{shape_of}
use Rattle.far_book.specs.book.Own.{HasNoJob}
use Rattle.far_heap.specs.Blanks.{IsUnused, NewSeats}
use Rattle.far_heap.specs.Copiers.{NewCopiers}
use Rattle.far_heap.specs.HeapId.{heap_of}
use Rattle.far_heap.proofs.NewCopiers.{none_at_work, shared_free, shared_many}
use Rattle.far_heap.proofs.NewSeats.{jobs_start, new_seats, none_used, seat_start, shape_start}
use Rattle.far_heap.proofs.blank.Blank.new.Goals as goal

pub invariant_of-result : goal.invariant_of-result
invariant_of-result g c =
    let s : State = core_state c.in-Ok.core in
    let honest : Bool = g.D.Device.honest c.of.result.value in
    let shared = c.in-Ok-share in
    let seats = shared.seats.items in
    let none = none_at_work s c.args.shape c.in-Ok.ensures.opening in
    subst (λ b. NewSeats (heap_of false b) seats × NewCopiers (heap_of false b) shared.copiers.items × HasNoJob (seat_view b)) (sym c.in-Ok-new.ensures.near) (
      subst (λ (z : BookView). NewSeats (record { table = table_of shared.seat; logs = z.logs; mutators = z.mutators; honest = z.honest; copying = false }) seats) (sym shared.ensures.book)
          (new_seats (table_of shared.seat) s honest c.args.shape c.in-Ok.ensures.opening shared.ensures.starts.owners s.logs seats c.in-Ok.ensures.law.shape.few_mutators shared.ensures.owners),
      record { many = shared_many (table_of shared.seat) s none shared.copiers.items shared.ensures.copiers; are = shared_free (table_of shared.seat) s none shared.copiers.items shared.ensures.copiers },
      jobs_start s _ c.args.shape honest c.in-Ok.ensures.opening shared.ensures.starts.book,
    )

pub new-requires-clause-start : goal.new-requires-clause-start
new-requires-clause-start g c = seat_start (core_state c.in-Ok.core) _ c.args.shape (g.D.Device.honest c.of.result.value) c.in-Ok.ensures.opening c.in-Ok-share.ensures.starts.book

pub new-requires-clause-honest : goal.new-requires-clause-honest
new-requires-clause-honest g c = λ h. sym (ap g.D.Device.honest c.of.ensures) ∙ sym (ap (λ (t : State). t.honest) c.in-Ok-share.ensures.starts.book) ∙ h

pub share-requires : goal.share-requires
share-requires g c = record { copiers = ap (λ (t : State). t.copying.has_copiers) c.in-Ok.ensures.opening; honest = λ p some. absurd (some (ap (λ (t : State). t.cell p) c.in-Ok.ensures.opening)) }

pub returns-clause-core : goal.returns-clause-core
returns-clause-core g c =
    let s : State = core_state c.in-Ok.core in
    let honest : Bool = g.D.Device.honest c.of.result.value in
    subst (λ b. shape_of (seat_view b) ≡ c.args.shape) (sym c.in-Ok-new.ensures.near) (shape_start s _ c.args.shape honest c.in-Ok.ensures.opening c.in-Ok-share.ensures.starts.book)

pub returns-clause-unused : goal.returns-clause-unused
returns-clause-unused g c =
    let s : State = core_state c.in-Ok.core in
    let honest : Bool = g.D.Device.honest c.of.result.value in
    subst (λ b. IsUnused (seat_view b)) (sym c.in-Ok-new.ensures.near) (none_used _ (seat_start s _ c.args.shape honest c.in-Ok.ensures.opening c.in-Ok-share.ensures.starts.book))
