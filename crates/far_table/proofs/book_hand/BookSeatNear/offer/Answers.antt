use Rattle.std.proofs.Common.{refl, ap, arith}
use Rattle.far_table.specs.BookPlays.{JobTold}
use Rattle.far_table.specs.BookSeats.{book_in}
use Rattle.far_table.proofs.BookJobs.{offered_done, offered_forgets, offered_lies, offered_says, offers}
use Rattle.far_table.proofs.BookSeatLemmas.{seat_forgets, seat_kept, seat_keeps, seat_made}
use Rattle.far_table.proofs.SeatLemmas.{job_inside}
use Rattle.far_table.proofs.book_hand.BookSeatNear.offer.Given.{Over}
use Rattle.far_table.proofs.book_hand.BookSeatNear.offer.Goals as goal
use Rattle.far_table.proofs.book_hand.BookSeatNear.offer.Goals.{After-store}

pub pack-requires : goal.pack-requires
pack-requires g c = offered_lies _ c.args.job _ c.requires.legal c.requires.lies c.args.self.now.fits.plain c.args.self.now.stands

pub store-requires : goal.store-requires
store-requires g c =
    let i = c.args.self.now.fits in
    let t = job_inside _ _ _ c.args.job i.same (ap (λ t. t.shared.table_id) c.deref.ensures) i.wide c.requires.legal.0 (omega arith) in
    (t.0, t.1, offers _ _ _ i.is_book i.plain c.args.job _ _ c.requires.legal c.requires.lies (offered_says _ c.args.job _ c.requires.legal c.requires.lies i.plain c.args.self.now.stands _ c.pack.ensures))

-- what the step told
told : (g : Over) (c : After-store g) → JobTold c.args.self.now.seat.me.0 c.store.new.seat.me.0 c.args.job (record { pointer = c.args.pointer; from = c.args.from; to = c.args.to })
told g c = c.store.ensures.2 c.args.job _ refl (offered_says _ c.args.job _ c.requires.legal c.requires.lies c.args.self.now.fits.plain c.args.self.now.stands _ c.pack.ensures)

pub invariant_of-self : goal.invariant_of-self
invariant_of-self g c = let k = seat_keeps _ _ _ _ _ (told g c).1 _ _ _ _ _ _ c.args.self.now.fits c.store.ensures.0 refl refl refl refl (λ a _. refl) in record { fits = k.0; stands = k.1 }

pub returns-clause-kept : goal.returns-clause-kept
returns-clause-kept g c = let t = told g (goal.at.returns-clause-kept g c).After-store in seat_kept _ _ _ _ _ t.1 (offered_done (book_in c.args.self.now) c.args.job _ t.0 c.requires.lies)

pub returns-clause-forgot : goal.returns-clause-forgot
returns-clause-forgot g c = let t = told g (goal.at.returns-clause-forgot g c).After-store in seat_forgets _ _ _ _ _ t.1 (offered_forgets (book_in c.args.self.now) c.args.job _ t.0 c.requires.lies)

pub returns-clause-made : goal.returns-clause-made
returns-clause-made g c = (c.store.ensures.0, seat_made _ _ _ _ _ (told g (goal.at.returns-clause-made g c).After-store).1)
