use Rattle.std.proofs.Common.{◌≡◌, ◌+◌, Bool, subst, rules}
use Rattle.far_device.specs.Following.{Follows, none_of}
use Rattle.far_evac.specs.declared.answers.Progress.{Progress}
use Rattle.far_evac.specs.declared.phase.Phase.TheVariants.{Evacuating}
use Rattle.far_evac.specs.ByCopying.{asked_live}
use Rattle.far_evac.specs.EvacOf.{moment}
use Rattle.far_evac.specs.Moment.{objects_in, progress_of, tally_of}
use Rattle.far_evac.proofs.Failures.{fails_so}
use Rattle.far_evac.proofs.evac.Evac.evacuate_some.Goals as goal

pub returns-in-Ok : goal.returns-in-Ok
returns-in-Ok g c =
    let e = c.evacuate.ensures in
    let did = c.in-Ok.ensures in record {
      came = e.came;
      copying = e.copying;
      walks = did.walks;
      exact = λ still. let x = did.exact still in (x.0, λ i. progress_of (x.1 i) (x.2 i));
      evacuating = search rules;
      goes_on = did.goes_on;
      stays = tt;
      bounded = e.bounded;
      barred = λ _. tt;
      stops = λ _. tt;
      stops_exact = λ _ _. tt;
      why = λ _. tt;
      asked = did.asked;
      refused = λ _. tt;
      follows = did.follows;
    }

pub returns-in-Err : goal.returns-in-Err
returns-in-Err g c =
    let e = c.evacuate.ensures in
    let did = c.in-Err.ensures in
    let walks : c.args.self.now.phase ≡ Evacuating = search rules in record {
      came = e.came;
      copying = e.copying;
      walks = tt;
      exact = λ _. tt;
      evacuating = tt;
      goes_on = tt;
      stays = did.stays;
      bounded = e.bounded;
      barred = λ other. absurd (other walks);
      stops = λ _. did.stops;
      stops_exact = λ still _. let x = did.stops_exact still in (x.0, x.1, x.2, λ i. progress_of (x.3 i) (e.done i));
      why = λ _. did.why;
      asked = tt;
      refused = λ _. did.refused;
      follows = subst (λ (fault : Bool). Follows g.D.Device.contents g.D.Device.honest g.D.Device.faults g.D.Device.fails_at_most
          (none_of (asked_live (moment g.N.Near.view c.args.self.now) (objects_in (tally_of c.evacuate.new.progress) + 1))) fault c.args.self.now.book.device c.evacuate.new.self.book.device)
          (fails_so Bool Progress (record { so_far = c.evacuate.new.progress; why = c.in-Err.why }) did.why) did.follows;
    }
