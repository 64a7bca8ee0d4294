use Rattle.std.proofs.Common.{◌≡◌, ◌∙◌, Bool, cond, List, ℕ, ap, refl, subst, sym}
use Rattle.std.proofs.lemmas.Bool.{true≢false}
use Rattle.far_device.specs.Following.{Follows, none_of}
use Rattle.far_book.specs.book.Dealing.{is_failure}
use Rattle.far_evac.specs.Asked.{asked_by, first_live}
use Rattle.far_evac.specs.Leaving.{standing}
use Rattle.far_evac.specs.Live.{is_empty, live_among}
use Rattle.far_evac.specs.Turning.{IsBoundedBy}
use Rattle.far_evac.specs.Walk.{Walked, ended, is_done}
use Rattle.far_word.specs.declared.refused.Refused.{Refused}
use Rattle.far_evac.specs.ByCopying.{EvacuatesAsking, EvacuatesBy, StopsBy, StopsRefused}
use Rattle.far_evac.specs.EvacOf.{EvacOf, moment}
use Rattle.far_evac.specs.Moment.{Moment, Tally, tally_of}
use Rattle.far_evac.specs.MomentLaw.{is_idle}
use Rattle.far_evac.proofs.BesideKept.{alone_so, beside_so, err_one, evacuates_alone, ok_both, ok_one, stops_alone}
use Rattle.far_evac.proofs.evac.Evac.evacuate.Goals as goal

pub returns-then-self-clause-walks : goal.returns-then-self-clause-walks
returns-then-self-clause-walks g c =
    let D = g.row.D.Denot in
    let m : Moment = moment g.N.Near.view c.args.self.now in
    let t : Moment = moment g.N.Near.view c.evacuate_beside.new.self in
    let tally : Tally = tally_of c.evacuate_beside.new.progress in
    let old : D = c.args.self.now.book.device in
    let new : D = c.evacuate_beside.new.self.book.device in
    let copies = sym (ap (λ (e : EvacOf g.row.N.Denot D). e.copying) c.self.view_is) ∙ c.if-self.true in
    ok_both (λ (done : Bool). EvacuatesAsking D g.D.Device.writes g.D.Device.lets_go g.D.Device.contents m c.args.n t tally old new)
    (λ (done : Bool). (done ≡ is_empty c.evacuate_beside.new.self.collection) × (is_idle c.evacuate_beside.new.self.phase ≡ done)) (λ (done : Bool). EvacuatesBy m c.args.n t tally done) c.evacuate_beside.result
    (λ done asks over. beside_so copies (evacuates_alone D g.D.Device.writes g.D.Device.lets_go g.D.Device.contents m c.args.n t tally old new asks done over.0)) c.evacuate_beside.ensures.asked c.evacuate_beside.ensures.over

pub returns-then-self-clause-stops : goal.returns-then-self-clause-stops
returns-then-self-clause-stops g c =
    let D = g.row.D.Denot in
    let m : Moment = moment g.N.Near.view c.args.self.now in
    let t : Moment = moment g.N.Near.view c.evacuate_beside.new.self in
    let tally : Tally = tally_of c.evacuate_beside.new.progress in
    let old : D = c.args.self.now.book.device in
    let new : D = c.evacuate_beside.new.self.book.device in
    let copies = sym (ap (λ (e : EvacOf g.row.N.Denot D). e.copying) c.self.view_is) ∙ c.if-self.true in
    err_one (λ (why : Refused). StopsRefused D g.D.Device.writes g.D.Device.lets_go g.D.Device.contents m c.args.n t tally why old new) (λ (why : Refused). StopsBy m c.args.n t tally) c.evacuate_beside.result
    (λ why stops. beside_so copies (stops_alone D g.D.Device.writes g.D.Device.lets_go g.D.Device.contents m c.args.n t tally old new why stops)) c.evacuate_beside.ensures.refused

pub evacuate_beside-requires-clause-phase : goal.evacuate_beside-requires-clause-phase
evacuate_beside-requires-clause-phase g c = c.requires.phase

pub evacuate_beside-requires-clause-copying : goal.evacuate_beside-requires-clause-copying
evacuate_beside-requires-clause-copying g c = sym (ap (λ (e : EvacOf g.row.N.Denot g.row.D.Denot). e.copying) c.self.view_is) ∙ c.if-self.true

pub evacuate_beside-requires-clause-begun : goal.evacuate_beside-requires-clause-begun
evacuate_beside-requires-clause-begun g c = c.requires.begun

pub returns-then-self-clause-came : goal.returns-then-self-clause-came
returns-then-self-clause-came g c = c.evacuate_beside.ensures.came

pub returns-then-self-clause-copying : goal.returns-then-self-clause-copying
returns-then-self-clause-copying g c = c.evacuate_beside.ensures.copying ∙ sym (sym (ap (λ (e : EvacOf g.row.N.Denot g.row.D.Denot). e.copying) c.self.view_is) ∙ c.if-self.true)

-- a hand that is still leaves nothing to copiers
pub returns-then-self-clause-exact : goal.returns-then-self-clause-exact
returns-then-self-clause-exact g c still = absurd (true≢false (sym (sym (ap (λ (e : EvacOf g.row.N.Denot g.row.D.Denot). e.copying) c.self.view_is) ∙ c.if-self.true) ∙ c.keeps_law.ensures.exact still))

pub returns-then-self-clause-stops_exact : goal.returns-then-self-clause-stops_exact
returns-then-self-clause-stops_exact g c still = absurd (true≢false (sym (sym (ap (λ (e : EvacOf g.row.N.Denot g.row.D.Denot). e.copying) c.self.view_is) ∙ c.if-self.true) ∙ c.keeps_law.ensures.exact still))

pub returns-then-self-clause-why : goal.returns-then-self-clause-why
returns-then-self-clause-why g c = c.evacuate_beside.ensures.why

pub returns-then-self-clause-done : goal.returns-then-self-clause-done
returns-then-self-clause-done g c = c.evacuate_beside.ensures.done

pub returns-then-self-clause-goes_on : goal.returns-then-self-clause-goes_on
returns-then-self-clause-goes_on g c =
    let e = c.evacuate_beside.new.self in
    ok_one (λ (done : Bool). (done ≡ is_empty e.collection) × (is_idle e.phase ≡ done)) (λ (done : Bool). is_idle e.phase ≡ done) c.evacuate_beside.result (λ done over. over.1) c.evacuate_beside.ensures.over

pub returns-then-self-clause-stays : goal.returns-then-self-clause-stays
returns-then-self-clause-stays g c = c.evacuate_beside.ensures.stays

pub returns-then-self-clause-bounded : goal.returns-then-self-clause-bounded
returns-then-self-clause-bounded g c = subst (λ b. IsBoundedBy b (tally_of c.evacuate_beside.new.progress)) (sym (sym (ap (λ (e : EvacOf g.row.N.Denot g.row.D.Denot). e.copying) c.self.view_is) ∙ c.if-self.true)) c.evacuate_beside.ensures.bounded

pub returns-then-self-clause-asked : goal.returns-then-self-clause-asked
returns-then-self-clause-asked g c = ok_one _ _ c.evacuate_beside.result (λ done asks. beside_so (sym (ap (λ (e : EvacOf g.row.N.Denot g.row.D.Denot). e.copying) c.self.view_is) ∙ c.if-self.true) asks) c.evacuate_beside.ensures.asked

pub returns-then-self-clause-refused : goal.returns-then-self-clause-refused
returns-then-self-clause-refused g c = err_one _ _ c.evacuate_beside.result (λ why stops. beside_so (sym (ap (λ (e : EvacOf g.row.N.Denot g.row.D.Denot). e.copying) c.self.view_is) ∙ c.if-self.true) stops) c.evacuate_beside.ensures.refused

pub returns-then-self-clause-follows : goal.returns-then-self-clause-follows
returns-then-self-clause-follows g c =
    let m : Moment = moment g.N.Near.view c.args.self.now in
    let k = asked_by (tally_of c.evacuate_beside.new.progress) c.evacuate_beside.result in
    subst (λ (objects : List ℕ). Follows g.D.Device.contents g.D.Device.honest g.D.Device.faults g.D.Device.fails_at_most (none_of objects) (is_failure {A = Bool} c.evacuate_beside.result) c.args.self.now.book.device c.evacuate_beside.new.self.book.device)
    (ap (λ b. cond b (live_among m.core m.collection) (first_live m k)) (sym (sym (ap (λ (e : EvacOf g.row.N.Denot g.row.D.Denot). e.copying) c.self.view_is) ∙ c.if-self.true))) c.evacuate_beside.ensures.follows

-- ---- where no copy may be offered
pub evacuate_up_to-requires-clause-phase : goal.evacuate_up_to-requires-clause-phase
evacuate_up_to-requires-clause-phase g c = c.requires.phase

pub evacuate_up_to-requires-clause-alone : goal.evacuate_up_to-requires-clause-alone
evacuate_up_to-requires-clause-alone g c = sym (ap (λ (e : EvacOf g.row.N.Denot g.row.D.Denot). e.copying) c.self.view_is) ∙ c.if-self.false

pub evacuate_up_to-requires-clause-begun : goal.evacuate_up_to-requires-clause-begun
evacuate_up_to-requires-clause-begun g c = c.requires.begun

pub returns : goal.returns
returns g c =
    let alone = sym (ap (λ (e : EvacOf g.row.N.Denot g.row.D.Denot). e.copying) c.self.view_is) ∙ c.if-self.false in
    let done = c.evacuate_up_to.ensures in
    let m : Moment = moment g.N.Near.view c.args.self.now in
    let w : Walked = standing g.N.Near.view c.evacuate_up_to.new.self c.evacuate_up_to.new.progress in
    let tally : Tally = tally_of c.evacuate_up_to.new.progress in
    let k = asked_by tally c.evacuate_up_to.result in
    let result = c.evacuate_up_to.result in record {
      came = done.came;
      copying = done.copying ∙ sym alone;
      walks = ok_both _ _ _ result (λ over walks ends. alone_so alone (walks.0, w, walks.1, ends.0, refl, ends.1)) done.walks done.ends;
      exact = λ still. ok_both _ _ _ result (λ over is ends. (ends.0 ∙ ap ended is, ap (λ (x : Walked). x.tally) is, ends.1 ∙ ap is_done is)) (done.exact still) done.ends;
      stops = err_one _ _ result (λ why stops. alone_so alone stops) done.stops;
      stops_exact = done.stops_exact;
      why = done.why;
      done = done.done;
      goes_on = done.goes_on;
      stays = done.stays;
      bounded = subst (λ b. IsBoundedBy b tally) (sym alone) (record { objects = done.bounded.objects; logs = done.bounded.logs });
      asked = ok_both _ _ _ result (λ over asks ends. alone_so alone (w, asks, ends.0, refl)) done.asked done.ends;
      refused = err_one _ _ result (λ why stops. alone_so alone stops) done.refused;
      follows = subst (λ (objects : List ℕ). Follows g.D.Device.contents g.D.Device.honest g.D.Device.faults g.D.Device.fails_at_most (none_of objects) (is_failure {A = Bool} result) c.args.self.now.book.device c.evacuate_up_to.new.self.book.device)
          (ap (λ b. cond b (live_among m.core m.collection) (first_live m k)) (sym alone)) done.follows;
    }
