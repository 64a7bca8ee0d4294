use Rattle.std.proofs.Common.{◌≡◌, ◌+◌, sym, ap, subst, ◌∙◌}
use Rattle.far_word.specs.declared.job.Job.{Job}
use Rattle.far_word.specs.declared.pointer.Place.{Place}
use Rattle.far_word.specs.Sizes.{size_of}
use Rattle.far_events.specs.events.Offer.{offered}
use Rattle.far_events.specs.state.State.{State}
use Rattle.far_hand.specs.FindsJob.{job_found}
use Rattle.tests_seats.specs.Offers.{HasRoom, HasRound, IsMarked, IsRoom, KnowsJobs}
use Rattle.tests_seats.proofs.Offering.{jobs_after, may_offer, next_there, offered_is, past_tail, room_after, seen, written}
use Rattle.tests_seats.proofs.tests.jobs.JobBook.offers.Goals as goal

pub room-requires-clause-low : goal.room-requires-clause-low
room-requires-clause-low g c = (c.args.self.now.room.there c.in-Some-next.next c.in-Some-next.is).low

pub blank-requires-clause-past : goal.blank-requires-clause-past
blank-requires-clause-past g c =
    let b = c.args.self.now in
    let s : State = g.N.Near.view b.near in
    let t : State = g.N.Near.view c.see_job-self.new.self in
    let u : State = g.N.Near.view c.marked.new.near in
    let empty = c.see_job-self.ensures.kept ∙ ap (job_found s b.offered) c.if-self-ne0.false in
    let is = seen c.in-Some-next.next b.spare b.offered s t u b.round (b.room.there c.in-Some-next.next c.in-Some-next.is) b.jobs.begun empty c.in-Some.ensures.kept in
    past_tail u c.in-Some-next.next b.spare c.size_of-size.result c.in-Some-room.to is.1 c.in-Some-room.ensures

pub blank-requires-clause-next : goal.blank-requires-clause-next
blank-requires-clause-next g c =
    let b = c.args.self.now in
    let s : State = g.N.Near.view b.near in
    let t : State = g.N.Near.view c.see_job-self.new.self in
    let u : State = g.N.Near.view c.marked.new.near in
    let empty = c.see_job-self.ensures.kept ∙ ap (job_found s b.offered) c.if-self-ne0.false in
    let is = seen c.in-Some-next.next b.spare b.offered s t u b.round (b.room.there c.in-Some-next.next c.in-Some-next.is) b.jobs.begun empty c.in-Some.ensures.kept in
    next_there u c.in-Some-next.next b.spare c.size_of-size.result c.in-Some-room.to is.1 c.in-Some-room.ensures

pub offer-requires-clause-legal : goal.offer-requires-clause-legal
offer-requires-clause-legal g c =
    let b = c.args.self.now in
    let x = c.in-Some.object in
    let s : State = g.N.Near.view b.near in
    let t : State = g.N.Near.view c.see_job-self.new.self in
    let u : State = g.N.Near.view c.marked.new.near in
    let v : State = g.N.Near.view c.blank.new.near in
    let empty = c.see_job-self.ensures.kept ∙ ap (job_found s b.offered) c.if-self-ne0.false in
    let is = written c.in-Some-next.next b.spare b.offered s t u b.round (b.room.there c.in-Some-next.next c.in-Some-next.is) b.jobs.begun empty c.in-Some.ensures.kept v c.blank.ensures.kept in
    let lies = subst (λ (z : State). IsMarked z c.args.pointer x.len x.ds x.place) (sym c.blank.ensures.kept) c.in-Some.ensures.found in
    let r : IsRoom c.in-Some-next.next b.spare (size_of x.len) c.in-Some-room.to = subst (λ n. IsRoom c.in-Some-next.next b.spare n c.in-Some-room.to) c.size_of-size.ensures c.in-Some-room.ensures in
    may_offer v c.in-Some-next.next b.spare is.0 is.1 b.offered c.args.pointer x.len x.ds x.place c.in-Some-room.to lies c.if-job-ge-JOBS.false c.if-pointer-ge-CELLS.false is.3 r c.blank.ensures.head c.blank.ensures.last

pub invariant_of-self-2 : goal.invariant_of-self-2
invariant_of-self-2 g c =
    let b = c.args.self.now in
    let x = c.in-Some.object in
    let to = c.in-Some-room.to in
    let job : Job = record { pointer = c.args.pointer; from = x.place; to = to } in
    let s : State = g.N.Near.view b.near in
    let t : State = g.N.Near.view c.see_job-self.new.self in
    let u : State = g.N.Near.view c.marked.new.near in
    let v : State = g.N.Near.view c.blank.new.near in
    let y : State = g.N.Near.view c.offer.new.self in
    let empty = c.see_job-self.ensures.kept ∙ ap (job_found s b.offered) c.if-self-ne0.false in
    let is = written c.in-Some-next.next b.spare b.offered s t u b.round (b.room.there c.in-Some-next.next c.in-Some-next.is) b.jobs.begun empty c.in-Some.ensures.kept v c.blank.ensures.kept in
    let lies = subst (λ (z : State). IsMarked z c.args.pointer x.len x.ds x.place) (sym c.blank.ensures.kept) c.in-Some.ensures.found in
    let offers : y ≡ record (offered v b.offered x.len job) { word = y.word } =
    c.offer.ensures.kept ∙ ap (λ (z : State). record z { word = y.word }) (offered_is v c.in-Some-next.next b.spare is.0 is.1 b.offered c.args.pointer x.len x.ds x.place to lies) in
    let room = room_after v c.in-Some-next.next b.spare c.left-self.result x.len c.size_of-size.result to c.size_of-size.ensures is.1 c.in-Some-room.ensures c.left-self.ensures in
    let jobs = jobs_after v b.offered x.len c.see_job-self-2.result job is.2 c.if-job-ge-JOBS.false in
    let room' = subst (λ (z : State). HasRoom z (record { log = to.log; at = to.at + c.size_of-size.result }) c.left-self.result) (sym offers) room in
    let jobs' = subst (λ (z : State). KnowsJobs (job_found z b.offered c.see_job-self-2.result) (b.offered + 1) b.offered c.see_job-self-2.result) (sym offers) jobs in
    let here = subst (λ (z : State). HasRoom z (record { log = to.log; at = to.at + c.size_of-size.result }) c.left-self.result) (sym c.see_job-self-2.ensures.kept) room' in
    record {
      round = subst HasRound (sym c.see_job-self-2.ensures.kept) (subst HasRound (sym offers) is.0);
      room = record { there = λ place e. subst (λ (z : Place). HasRoom (g.N.Near.view c.see_job-self-2.new.self) z c.left-self.result) (let same : record { log = to.log; at = to.at + c.size_of-size.result } ≡ place = cc in same) here };
      jobs = subst (λ (z : State). KnowsJobs z (b.offered + 1) b.offered c.see_job-self-2.result) (sym c.see_job-self-2.ensures.kept) jobs';
    }
