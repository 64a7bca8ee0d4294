use Rattle.std.proofs.Common.{◌≡◌, sym, ap, subst, ◌∙◌, arith}
use Rattle.far_events.specs.declared.shape.Shape.{Shape}
use Rattle.far_events.specs.state.State.{State}
use Rattle.tests_seats.specs.Offers.{HasRoom, HasRound, IsMarked, KnowsJobs}
use Rattle.tests_seats.proofs.Offering.{may_move, moved_then, next_there, past_tail, quiet_there}
use Rattle.tests_seats.proofs.tests.jobs.JobBook.moves.Goals as goal

pub room-requires-clause-low : goal.room-requires-clause-low
room-requires-clause-low g c = (c.args.self.now.room.there c.in-Some-next.next c.in-Some-next.is).low

pub moved-requires : goal.moved-requires
moved-requires g c =
    let x = c.in-Some.object in
    let layout = c.in-Some.ensures.found.layout in
    let long = c.if-object-ne8.false in
    let end = c.in-Some-room.ensures.1 in record {
      cell = omega (arith, c.if-pointer-ge-CELLS.false);
      from = (layout.3, omega (arith, layout.4, long));
      to = (c.if-to-ge-MOST_LOGS.false, omega (arith, end));
    }

pub copy_one-requires-clause-quiet : goal.copy_one-requires-clause-quiet
copy_one-requires-clause-quiet g c =
    let b = c.args.self.now in
    let x = c.in-Some.object in
    (quiet_there (g.N.Near.view c.marked.new.near) c.args.pointer x.len x.ds x.place (subst HasRound (sym c.in-Some.ensures.kept) b.round) c.in-Some.ensures.found c.if-pointer-ge-CELLS.false).1

pub copy_one-requires-clause-next : goal.copy_one-requires-clause-next
copy_one-requires-clause-next g c =
    let b = c.args.self.now in
    let room = subst (λ (z : State). HasRoom z c.in-Some-next.next b.spare) (sym c.in-Some.ensures.kept) (b.room.there c.in-Some-next.next c.in-Some-next.is) in
    next_there (g.N.Near.view c.marked.new.near) c.in-Some-next.next b.spare 2 c.in-Some-room.to room c.in-Some-room.ensures

pub copy_one-requires-clause-past : goal.copy_one-requires-clause-past
copy_one-requires-clause-past g c =
    let b = c.args.self.now in
    let room = subst (λ (z : State). HasRoom z c.in-Some-next.next b.spare) (sym c.in-Some.ensures.kept) (b.room.there c.in-Some-next.next c.in-Some-next.is) in
    past_tail (g.N.Near.view c.marked.new.near) c.in-Some-next.next b.spare 2 c.in-Some-room.to room c.in-Some-room.ensures

pub name-requires-clause-legal : goal.name-requires-clause-legal
name-requires-clause-legal g c =
    let b = c.args.self.now in
    let x = c.in-Some.object in
    let p = c.args.pointer in
    let to = c.in-Some-room.to in
    let u : State = g.N.Near.view c.marked.new.near in
    let v : State = g.N.Near.view c.copy_one.new.near in
    let round = subst HasRound (sym c.copy_one.ensures.kept) (subst HasRound (sym c.in-Some.ensures.kept) b.round) in
    let jobs = subst (λ (z : State). KnowsJobs z b.offered b.job b.word) (sym c.copy_one.ensures.kept) (subst (λ (z : State). KnowsJobs z b.offered b.job b.word) (sym c.in-Some.ensures.kept) b.jobs) in
    let eight = subst (λ n. IsMarked u p n x.ds x.place) c.if-object-ne8.false c.in-Some.ensures.found in
    let lies = subst (λ (z : State). IsMarked z p 8 x.ds x.place) (sym c.copy_one.ensures.kept) eight in
    let at : x.cell ≡ v.cell p = c.in-Some.ensures.seen ∙ sym (ap (λ (z : State). z.cell p) c.copy_one.ensures.kept) in
    let room = subst (λ (z : State). HasRoom z c.in-Some-next.next b.spare) (sym c.copy_one.ensures.kept)
    (subst (λ (z : State). HasRoom z c.in-Some-next.next b.spare) (sym c.in-Some.ensures.kept) (b.room.there c.in-Some-next.next c.in-Some-next.is)) in
    let there = next_there v c.in-Some-next.next b.spare 2 to room c.in-Some-room.ensures in
    let logs : v.logs ≡ c.shape-logs.result.logs = ap (λ (z : State). z.logs) c.copy_one.ensures.kept ∙ sym (ap (λ (z : Shape). z.logs) c.shape-logs.ensures.is) in
    may_move v b.offered b.job b.word p x.ds x.cell c.in-Some-moved.new x.place to round jobs c.if-pointer-ge-CELLS.false lies at c.in-Some-moved.ensures (omega (arith, logs, c.if-from-logs.false)) there
    c.copy_one.ensures.head c.copy_one.ensures.same c.copy_one.ensures.fits

pub invariant_of-self-2 : goal.invariant_of-self-2
invariant_of-self-2 g c =
    let b = c.args.self.now in
    let x = c.in-Some.object in
    let p = c.args.pointer in
    let to = c.in-Some-room.to in
    let u : State = g.N.Near.view c.marked.new.near in
    let v : State = g.N.Near.view c.copy_one.new.near in
    let round = subst HasRound (sym c.copy_one.ensures.kept) (subst HasRound (sym c.in-Some.ensures.kept) b.round) in
    let jobs = subst (λ (z : State). KnowsJobs z b.offered b.job b.word) (sym c.copy_one.ensures.kept) (subst (λ (z : State). KnowsJobs z b.offered b.job b.word) (sym c.in-Some.ensures.kept) b.jobs) in
    let eight = subst (λ n. IsMarked u p n x.ds x.place) c.if-object-ne8.false c.in-Some.ensures.found in
    let lies = subst (λ (z : State). IsMarked z p 8 x.ds x.place) (sym c.copy_one.ensures.kept) eight in
    let at : x.cell ≡ v.cell p = c.in-Some.ensures.seen ∙ sym (ap (λ (z : State). z.cell p) c.copy_one.ensures.kept) in
    let both = moved_then v b.offered b.job b.word p x.ds x.cell c.in-Some-moved.new x.place to round jobs c.if-pointer-ge-CELLS.false lies at c.in-Some-moved.ensures
    c.name.result (g.N.Near.view c.name.new.self) c.name.ensures.done c.name.ensures.kept in
    record { round = both.0; room = record { there = λ place e. absurd cc }; jobs = both.1 }
