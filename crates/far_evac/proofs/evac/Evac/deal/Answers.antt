use Rattle.std.proofs.Common.{◌∙◌, ap, sym, refl, subst}
use Rattle.std.specs.Prelude.{Bool, Err, false}
use Rattle.far_word.specs.Pointer.{read_of}
use Rattle.far_device.specs.Following.{Follows, other_than}
use Rattle.far_events.specs.state.Law.{Law}
use Rattle.far_book.specs.book.Asking.{AsksToEvict}
use Rattle.far_book.specs.book.Dealing.{is_failure}
use Rattle.far_book.specs.book.Own.{own_part}
use Rattle.far_evac.specs.declared.answers.Progress.{Progress}
use Rattle.far_evac.specs.declared.evac.evacuating.Fate.{Fate}
use Rattle.far_evac.specs.declared.phase.Phase.TheVariants.{Evacuating}
use Rattle.far_evac.specs.AnyHand.{Knows}
use Rattle.far_evac.specs.Asked.{IsToBeWritten, SparesClean}
use Rattle.far_evac.specs.Cursor.{IsNextLeaving}
use Rattle.far_evac.specs.EvacOf.{EvacOf, moment}
use Rattle.far_evac.specs.Leaving.{AsksAs, LeavesAs, LeavesBy, fate_by, standing}
use Rattle.far_evac.specs.Moment.{tally_of}
use Rattle.far_evac.specs.MomentLaw.{has_risen}
use Rattle.far_evac.specs.Ready.{Ready}
use Rattle.far_evac.specs.Standing.{collection_in}
use Rattle.far_evac.specs.Walk.{way_of}
use Rattle.far_evac.proofs.Asking.{asks_alike}
use Rattle.far_evac.proofs.BesideDealt.{freed_still}
use Rattle.far_evac.proofs.Failures.{failure_alike}
use Rattle.far_evac.proofs.HandKept.{since_evac}
use Rattle.far_evac.proofs.HeldJobs.{jobs_kept}
use Rattle.far_evac.proofs.Readiness.{risen_is_ready}
use Rattle.far_evac.proofs.SendingOff.{Wanted, first_wanted}
use Rattle.far_evac.proofs.Sound.{sound_found}
use Rattle.far_evac.proofs.WalkingOn.{dealt_exact, dealt_known, jobs_on, walks_on}
use Rattle.far_evac.proofs.evac.Evac.deal.Goals as goal

pub send_off-requires : goal.send_off-requires
send_off-requires g c =
    let here = first_wanted (moment g.N.Near.view c.args.self.now) c.keeps_law.ensures.law c.keeps_law.ensures.moment c.requires.phase c.args.span.p c.requires.first.0 c.requires.first.1 in
    let wanted = subst (λ (e : EvacOf g.row.N.Denot g.row.D.Denot). Wanted (g.N.Near.view e.book.near) c.args.span.p) (sym c.self.view_is) here in
    record {
      pointer = wanted.pointer;
      quiet = wanted.quiet;
      evac = wanted.evac;
      cell = c.requires.cell ∙ sym (ap (λ (e : EvacOf g.row.N.Denot g.row.D.Denot). (g.N.Near.view e.book.near).cell c.args.span.p) c.self.view_is);
    }

pub invariant_of-self : goal.invariant_of-self
invariant_of-self g c =
    let view = g.N.Near.view in
    let here = first_wanted (moment view c.args.self.now) c.keeps_law.ensures.law c.keeps_law.ensures.moment c.requires.phase c.args.span.p c.requires.first.0 c.requires.first.1 in
    let wanted = subst (λ (e : EvacOf g.row.N.Denot g.row.D.Denot). Wanted (view e.book.near) c.args.span.p) (sym c.self.view_is) here in
    let law = subst (λ (e : EvacOf g.row.N.Denot g.row.D.Denot). Law (own_part (view e.book.near))) (sym c.self.view_is) c.keeps_law.ensures.law in
    let phase = ap (λ (e : EvacOf g.row.N.Denot g.row.D.Denot). e.phase) c.self.view_is ∙ c.requires.phase in
    let next = subst (λ (e : EvacOf g.row.N.Denot g.row.D.Denot). IsNextLeaving (view e.book.near) e.collection c.args.span) (sym c.self.view_is) c.requires.next in
    let risen = risen_is_ready (moment view c.args.self.now) c.keeps_law.ensures.law c.keeps_law.ensures.moment (ap has_risen c.requires.phase) in
    let ready = subst (λ (e : EvacOf g.row.N.Denot g.row.D.Denot). Ready (view e.book.near) e.collection) (sym c.self.view_is) risen in
    let s = view c.self.inside.book.near in
    let t = view c.send_off.new.book.near in
    let r = c.self.inside.round in
    record {
      round = walks_on s t r c.self.invariant.round phase c.args.span next ready wanted.quiet law c.keeps_law-in-Ok.ensures.law wanted.evac
          c.self.inside.book.order c.send_off.new.book.order c.in-Ok.fate c.in-Ok.ensures.leaves c.size_of.result c.size_of.ensures;
      jobs = jobs_kept s t c.self.inside.copying
          (jobs_on s t r c.self.invariant.round phase c.args.span next ready wanted.quiet law c.keeps_law-in-Ok.ensures.law wanted.evac
          c.self.inside.book.order c.send_off.new.book.order c.in-Ok.fate c.in-Ok.ensures.leaves) r.phase (collection_in r) c.self.invariant.jobs;
      exact = c.self.invariant.exact;
    }

pub invariant_of-self-in-Err : goal.invariant_of-self-in-Err
invariant_of-self-in-Err g c = sound_found (g.N.Near.view c.self.inside.book.near) (g.N.Near.view c.send_off.new.book.near) c.self.inside.round c.self.invariant c.in-Err.ensures.kept

pub returns-in-Ok-clause-dealt : goal.returns-in-Ok-clause-dealt
returns-in-Ok-clause-dealt g c =
    let view = g.N.Near.view in
    let s = view c.args.self.now.book.near in
    let p = c.args.span.p in
    let t = view c.send_off.new.book.near in
    let old = c.args.self.now.book.device in
    let new = c.send_off.new.book.device in
    let leaves = subst (λ (e : EvacOf g.row.N.Denot g.row.D.Denot). LeavesBy (view e.book.near) e.book.order t c.send_off.new.book.order p c.in-Ok.fate) c.self.view_is c.in-Ok.ensures.leaves in
    let dealt = dealt_known (standing view c.args.self.now c.args.progress.now) (record { core = t; order = c.send_off.new.book.order; phase = Evacuating; collection = collection_in c.self.inside.round; copying = c.self.inside.copying })
    (tally_of c.count.new.progress) p c.in-Ok.fate leaves refl (ap (λ (e : EvacOf g.row.N.Denot g.row.D.Denot). e.collection) c.self.view_is) (ap (λ (e : EvacOf g.row.N.Denot g.row.D.Denot). e.copying) c.self.view_is) (ap tally_of c.count.ensures) in
    let asked = subst (λ (e : EvacOf g.row.N.Denot g.row.D.Denot). AsksAs g.row.D.Denot g.D.Device.writes g.D.Device.lets_go (view e.book.near) p c.in-Ok.fate e.book.device new) c.self.view_is c.in-Ok.ensures.asked in
    (leaves.word, leaves.found, dealt, asks_alike g.row.D.Denot g.D.Device.writes g.D.Device.lets_go s p asked.0 (way_of s (read_of leaves.word)) old new (sym asked.1 ∙ leaves.is) asked.2)

pub returns-in-Ok-clause-exact : goal.returns-in-Ok-clause-exact
returns-in-Ok-clause-exact g c still =
    let view = g.N.Near.view in
    let t = view c.send_off.new.book.near in
    let p = c.args.span.p in
    let leaves = subst (λ (e : EvacOf g.row.N.Denot g.row.D.Denot). LeavesAs (view e.book.near) e.book.order t c.send_off.new.book.order p ((view e.book.near).cell p) c.in-Ok.fate) c.self.view_is
    (c.in-Ok.ensures.exact still) in
    dealt_exact (standing view c.args.self.now c.args.progress.now) (record {
      moment = record { core = t; order = c.send_off.new.book.order; phase = Evacuating; collection = collection_in c.self.inside.round; copying = c.self.inside.copying };
      tally = tally_of c.count.new.progress;
    }) p ((view c.args.self.now.book.near).cell p) c.in-Ok.fate leaves refl (ap (λ (e : EvacOf g.row.N.Denot g.row.D.Denot). e.collection) c.self.view_is) (ap (λ (e : EvacOf g.row.N.Denot g.row.D.Denot). e.copying) c.self.view_is) (ap tally_of c.count.ensures)

pub returns-in-Err-clause-refused : goal.returns-in-Err-clause-refused
returns-in-Err-clause-refused g c =
    subst (λ (e : EvacOf g.row.N.Denot g.row.D.Denot). AsksToEvict g.row.D.Denot g.D.Device.writes g.D.Device.lets_go (g.N.Near.view e.book.near) c.args.span.p (Err c.in-Err.why) e.book.device c.send_off.new.book.device) c.self.view_is c.in-Err.ensures.refused

pub returns-in-Err-clause-owed : goal.returns-in-Err-clause-owed
returns-in-Err-clause-owed g c =
    subst (λ (e : EvacOf g.row.N.Denot g.row.D.Denot). IsToBeWritten g.N.Near.still (g.N.Near.view e.book.near) (g.N.Near.view c.send_off.new.book.near) c.args.span.p) c.self.view_is c.in-Err.ensures.owed

pub returns-in-Ok-clause-unasked : goal.returns-in-Ok-clause-unasked
returns-in-Ok-clause-unasked g c = λ still goes.
    let view = g.N.Near.view in
    let p = c.args.span.p in
    let leaves = subst (λ (e : EvacOf g.row.N.Denot g.row.D.Denot). LeavesAs (view e.book.near) e.book.order (view c.send_off.new.book.near) c.send_off.new.book.order p ((view e.book.near).cell p) c.in-Ok.fate) c.self.view_is
    (c.in-Ok.ensures.exact still) in
    subst (λ (e : EvacOf g.row.N.Denot g.row.D.Denot). SparesClean g.row.D.Denot (view e.book.near) p e.book.device c.send_off.new.book.device) c.self.view_is
    (c.in-Ok.ensures.unasked still (leaves.is ∙ ap fate_by goes))

-- ---- what stays, and what is handed on
pub count-requires : goal.count-requires
count-requires g c = record { room = c.requires.room }

pub returns-in-Ok-clause-came : goal.returns-in-Ok-clause-came
returns-in-Ok-clause-came g c = since_evac c.self.view_is c.send_off.ensures.came

pub returns-in-Ok-clause-round : goal.returns-in-Ok-clause-round
returns-in-Ok-clause-round g c = (ap (λ (e : EvacOf g.row.N.Denot g.row.D.Denot). e.phase) c.self.view_is, ap (λ (e : EvacOf g.row.N.Denot g.row.D.Denot). e.collection) c.self.view_is, ap (λ (e : EvacOf g.row.N.Denot g.row.D.Denot). e.copying) c.self.view_is)

pub returns-in-Ok-clause-rest : goal.returns-in-Ok-clause-rest
returns-in-Ok-clause-rest g c = (ap (λ (q : Progress). q.freed) c.count.ensures ∙ freed_still (tally_of c.args.progress.now) c.in-Ok.fate, ap (λ (q : Progress). q.done) c.count.ensures)

pub returns-in-Ok-clause-follows : goal.returns-in-Ok-clause-follows
returns-in-Ok-clause-follows g c =
    subst (λ (e : EvacOf g.row.N.Denot g.row.D.Denot). Follows g.D.Device.contents g.D.Device.honest g.D.Device.faults g.D.Device.fails_at_most (other_than c.args.span.p) false e.book.device c.send_off.new.book.device) c.self.view_is c.in-Ok.ensures.follows

pub returns-in-Err-clause-came : goal.returns-in-Err-clause-came
returns-in-Err-clause-came g c = since_evac c.self.view_is c.send_off.ensures.came

pub returns-in-Err-clause-kept : goal.returns-in-Err-clause-kept
returns-in-Err-clause-kept g c =
    let t = g.N.Near.view c.send_off.new.book.near in
    let order = c.in-Err.ensures.order ∙ ap (λ (e : EvacOf g.row.N.Denot g.row.D.Denot). e.book.order) c.self.view_is in
    let phase = ap (λ (e : EvacOf g.row.N.Denot g.row.D.Denot). e.phase) c.self.view_is in
    let collection = ap (λ (e : EvacOf g.row.N.Denot g.row.D.Denot). e.collection) c.self.view_is in
    let copying = ap (λ (e : EvacOf g.row.N.Denot g.row.D.Denot). e.copying) c.self.view_is in
    record {
      core = subst (λ (e : EvacOf g.row.N.Denot g.row.D.Denot). Knows (g.N.Near.view e.book.near) t) c.self.view_is c.in-Err.ensures.kept;
      rest = λ i. record { core = t; order = order i; phase = phase i; collection = collection i; copying = copying i };
    }

pub returns-in-Err-clause-same : goal.returns-in-Err-clause-same
returns-in-Err-clause-same g c still =
    let core = c.in-Err.ensures.same still ∙ ap (λ (e : EvacOf g.row.N.Denot g.row.D.Denot). g.N.Near.view e.book.near) c.self.view_is in
    let order = c.in-Err.ensures.order ∙ ap (λ (e : EvacOf g.row.N.Denot g.row.D.Denot). e.book.order) c.self.view_is in
    let phase = ap (λ (e : EvacOf g.row.N.Denot g.row.D.Denot). e.phase) c.self.view_is in
    let collection = ap (λ (e : EvacOf g.row.N.Denot g.row.D.Denot). e.collection) c.self.view_is in
    let copying = ap (λ (e : EvacOf g.row.N.Denot g.row.D.Denot). e.copying) c.self.view_is in
    λ i. record { core = core i; order = order i; phase = phase i; collection = collection i; copying = copying i }

pub returns-in-Err-clause-round : goal.returns-in-Err-clause-round
returns-in-Err-clause-round g c = (ap (λ (e : EvacOf g.row.N.Denot g.row.D.Denot). e.phase) c.self.view_is, ap (λ (e : EvacOf g.row.N.Denot g.row.D.Denot). e.collection) c.self.view_is, ap (λ (e : EvacOf g.row.N.Denot g.row.D.Denot). e.copying) c.self.view_is)

pub returns-in-Err-clause-follows : goal.returns-in-Err-clause-follows
returns-in-Err-clause-follows g c =
    subst (λ (fault : Bool). Follows g.D.Device.contents g.D.Device.honest g.D.Device.faults g.D.Device.fails_at_most (other_than c.args.span.p) fault c.args.self.now.book.device c.send_off.new.book.device)
    (failure_alike Fate (Unit {0}) c.in-Err.why c.in-Err.ensures.why)
    (subst (λ (e : EvacOf g.row.N.Denot g.row.D.Denot). Follows g.D.Device.contents g.D.Device.honest g.D.Device.faults g.D.Device.fails_at_most (other_than c.args.span.p) (is_failure {A = Fate} (Err c.in-Err.why)) e.book.device c.send_off.new.book.device) c.self.view_is
    c.in-Err.ensures.follows)

pub returns-in-Err-clause-why : goal.returns-in-Err-clause-why
returns-in-Err-clause-why g c = c.in-Err.ensures.why
