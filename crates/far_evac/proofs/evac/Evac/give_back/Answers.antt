use Rattle.std.proofs.Common.{◌≡◌, ◌+◌, ◌<◌, ◌≤◌, ◌∙◌, ◌∷◌, [], cond, length, arith, ap, refl, sym, subst}
use Rattle.std.proofs.lemmas.Bool.Decides.{nat_tests}
use Rattle.far_book.specs.book.Releasing.{order_without, released}
use Rattle.far_events.specs.events.Get.{IsUncopied, IsVacant}
use Rattle.far_evac.specs.AnyHand.{Knows}
use Rattle.far_evac.specs.EvacOf.{EvacOf}
use Rattle.far_evac.specs.Live.{is_empty, live_in}
use Rattle.far_evac.specs.Standing.{collection_in}
use Rattle.far_evac.specs.declared.phase.Phase.TheVariants.{Evacuating, Idle}
use Rattle.far_evac.proofs.GivingBack.{ends, given_known, goes_on, held_next, held_then, jobs_end, jobs_on, last_held, more_held}
use Rattle.far_evac.proofs.HandKept.{since_evac}
use Rattle.far_evac.proofs.HeldJobs.{none_copied}
use Rattle.far_evac.proofs.Walking.{front_range, front_sealed, front_vacant}
use Rattle.far_evac.proofs.evac.Evac.give_back.Given.{Over}
use Rattle.far_evac.proofs.evac.Evac.give_back.Goals.{After-keeps_law, After-keeps_law-2}
use Rattle.far_evac.proofs.evac.Evac.give_back.Goals as goal

-- as the round has it
module _ (g : Over) (c : After-keeps_law g) where
  walks : c.self.inside.round.phase ≡ Evacuating
  walks = ap (λ (e : EvacOf g.row.N.Denot g.row.D.Denot). e.phase) c.self.view_is ∙ c.requires.phase

  held : collection_in c.self.inside.round ≡ c.args.log ∷ c.requires.front.0
  held = ap (λ (e : EvacOf g.row.N.Denot g.row.D.Denot). e.collection) c.self.view_is ∙ c.requires.front.1

  vacant : IsVacant (g.N.Near.view c.self.inside.book.near) c.args.log
  vacant =
      let none = subst (λ (e : EvacOf g.row.N.Denot g.row.D.Denot). live_in (g.N.Near.view e.book.near) c.args.log ≡ []) (sym c.self.view_is) c.requires.none in
      front_vacant (g.N.Near.view c.self.inside.book.near) c.self.inside.round c.self.invariant.round c.keeps_law.ensures.law walks c.args.log c.requires.front.0 held none

  -- no object lies there, and no job is
  whole : IsVacant (g.N.Near.view c.self.inside.book.near) c.args.log × IsUncopied (g.N.Near.view c.self.inside.book.near).copying c.args.log
  whole =
      let alone = ap (λ (e : EvacOf g.row.N.Denot g.row.D.Denot). e.copying) c.self.view_is ∙ c.requires.alone in
      (vacant, none_copied (g.N.Near.view c.self.inside.book.near) (c.self.invariant.jobs.alone alone) c.args.log)

knows : (g : Over) (c : After-keeps_law-2 g) → IsVacant (g.N.Near.view c.self.inside.book.near) c.args.log × IsUncopied (g.N.Near.view c.self.inside.book.near).copying c.args.log → Knows (released (g.N.Near.view c.self.inside.book.near) c.args.log) (g.N.Near.view c.release.new.self.near)
knows g c empty =
    let freed = c.release.ensures.vacant.1 empty in
    given_known (g.N.Near.view c.self.inside.book.near) (g.N.Near.view c.release.new.self.near) c.args.log (c.release.ensures.kept freed) (c.release.ensures.forgot freed) c.keeps_law-2.ensures.law

pub release-requires-clause-log : goal.release-requires-clause-log
release-requires-clause-log g c =
    let h = (goal.at.release-requires-clause-log g c).After-keeps_law in
    front_range (g.N.Near.view c.self.inside.book.near) c.self.inside.round c.self.invariant.round c.keeps_law.ensures.law (walks g h) c.args.log c.requires.front.0 (held g h)

pub invariant_of-self : goal.invariant_of-self
invariant_of-self g c =
    let h = (goal.at.invariant_of-self g c).After-keeps_law in
    let knows = knows g (goal.at.invariant_of-self g c).After-keeps_law-2 (whole g h) in
    let s = g.N.Near.view c.self.inside.book.near in
    let t = g.N.Near.view c.release.new.self.near in
    let r = c.self.inside.round in
    let all : length r.chosen ≤ r.index + 1 = grind (arith, nat_tests, c.len.ensures, c.if-self-len.true) in
    record {
      round = ends s t r c.self.invariant.round c.keeps_law-2.ensures.law (walks g h) c.args.log c.requires.front.0 (held g h) knows;
      jobs = jobs_end s t r c.self.invariant.round c.keeps_law-2.ensures.law (walks g h) c.args.log c.requires.front.0 (held g h) knows all c.self.invariant.jobs;
      exact = c.self.invariant.exact;
    }

pub invariant_of-self-else-self-len : goal.invariant_of-self-else-self-len
invariant_of-self-else-self-len g c =
    let h = (goal.at.invariant_of-self-else-self-len g c).After-keeps_law in
    let r = c.self.inside.round in
    let most = (held_next r (walks g h) c.args.log c.requires.front.0 (held g h)).1 in
    let some : r.index + 1 < length r.chosen = grind (arith, nat_tests, most, c.len.ensures, c.if-self-len.false) in
    let knows = knows g (goal.at.invariant_of-self-else-self-len g c).After-keeps_law-2 (whole g h) in
    let s = g.N.Near.view c.self.inside.book.near in
    let t = g.N.Near.view c.release.new.self.near in
    record {
      round = goes_on s t r c.self.invariant.round c.keeps_law-2.ensures.law (walks g h) c.args.log c.requires.front.0 (held g h) knows (more_held r (walks g h) c.args.log c.requires.front.0 (held g h) some);
      jobs = jobs_on s t r c.self.invariant.round c.keeps_law-2.ensures.law (walks g h) c.args.log c.requires.front.0 (held g h) knows c.self.invariant.jobs;
      exact = c.self.invariant.exact;
    }

pub returns-then-self-len-clause-core : goal.returns-then-self-len-clause-core
returns-then-self-len-clause-core g c =
    let knows = knows g (goal.at.returns-then-self-len-clause-core g c).After-keeps_law-2 (whole g (goal.at.returns-then-self-len-clause-core g c).After-keeps_law) in
    subst (λ (e : EvacOf g.row.N.Denot g.row.D.Denot). Knows (released (g.N.Near.view e.book.near) c.args.log) (g.N.Near.view c.release.new.self.near)) c.self.view_is knows

pub returns-then-self-len-clause-exact : goal.returns-then-self-len-clause-exact
returns-then-self-len-clause-exact g c =
    let freed = c.release.ensures.vacant.1 (whole g (goal.at.returns-then-self-len-clause-exact g c).After-keeps_law) in
    λ still. c.release.ensures.exact still freed ∙ ap (λ (e : EvacOf g.row.N.Denot g.row.D.Denot). released (g.N.Near.view e.book.near) c.args.log) c.self.view_is

pub returns-then-self-len-clause-order : goal.returns-then-self-len-clause-order
returns-then-self-len-clause-order g c =
    let freed = c.release.ensures.vacant.1 (whole g (goal.at.returns-then-self-len-clause-order g c).After-keeps_law) in
    c.release.ensures.order freed ∙ ap (λ (e : EvacOf g.row.N.Denot g.row.D.Denot). order_without c.args.log e.book.order) c.self.view_is

pub returns-then-self-len-clause-collection : goal.returns-then-self-len-clause-collection
returns-then-self-len-clause-collection g c =
    let h = (goal.at.returns-then-self-len-clause-collection g c).After-keeps_law in
    let r = c.self.inside.round in
    let all : length r.chosen ≤ r.index + 1 = grind (arith, nat_tests, c.len.ensures, c.if-self-len.true) in
    c.requires.front.1 ∙ ap (λ ls. c.args.log ∷ ls) (last_held r (walks g h) c.args.log c.requires.front.0 (held g h) all)

pub returns-else-self-len-clause-core : goal.returns-else-self-len-clause-core
returns-else-self-len-clause-core g c =
    let knows = knows g (goal.at.returns-else-self-len-clause-core g c).After-keeps_law-2 (whole g (goal.at.returns-else-self-len-clause-core g c).After-keeps_law) in
    subst (λ (e : EvacOf g.row.N.Denot g.row.D.Denot). Knows (released (g.N.Near.view e.book.near) c.args.log) (g.N.Near.view c.release.new.self.near)) c.self.view_is knows

pub returns-else-self-len-clause-exact : goal.returns-else-self-len-clause-exact
returns-else-self-len-clause-exact g c =
    let freed = c.release.ensures.vacant.1 (whole g (goal.at.returns-else-self-len-clause-exact g c).After-keeps_law) in
    λ still. c.release.ensures.exact still freed ∙ ap (λ (e : EvacOf g.row.N.Denot g.row.D.Denot). released (g.N.Near.view e.book.near) c.args.log) c.self.view_is

pub returns-else-self-len-clause-order : goal.returns-else-self-len-clause-order
returns-else-self-len-clause-order g c =
    let freed = c.release.ensures.vacant.1 (whole g (goal.at.returns-else-self-len-clause-order g c).After-keeps_law) in
    c.release.ensures.order freed ∙ ap (λ (e : EvacOf g.row.N.Denot g.row.D.Denot). order_without c.args.log e.book.order) c.self.view_is

pub returns-else-self-len-clause-collection : goal.returns-else-self-len-clause-collection
returns-else-self-len-clause-collection g c =
    let h = (goal.at.returns-else-self-len-clause-collection g c).After-keeps_law in
    c.requires.front.1 ∙ ap (λ ls. c.args.log ∷ ls) (sym (held_then c.self.inside.round (walks g h) c.args.log c.requires.front.0 (held g h)))

pub release-requires-clause-sealed : goal.release-requires-clause-sealed
release-requires-clause-sealed g c =
    let h = (goal.at.release-requires-clause-sealed g c).After-keeps_law in
    front_sealed (g.N.Near.view c.self.inside.book.near) c.self.inside.round c.self.invariant.round c.keeps_law.ensures.law (walks g h) c.args.log c.requires.front.0 (held g h)

-- ---- what is handed on
pub returns-then-self-len-clause-came : goal.returns-then-self-len-clause-came
returns-then-self-len-clause-came g c = since_evac c.self.view_is c.release.ensures.came

pub returns-then-self-len-clause-copying : goal.returns-then-self-len-clause-copying
returns-then-self-len-clause-copying g c = ap (λ (e : EvacOf g.row.N.Denot g.row.D.Denot). e.copying) c.self.view_is ∙ c.requires.alone

pub returns-then-self-len-clause-ends : goal.returns-then-self-len-clause-ends
returns-then-self-len-clause-ends g c = refl

pub returns-then-self-len-clause-device : goal.returns-then-self-len-clause-device
returns-then-self-len-clause-device g c = c.release.ensures.device ∙ ap (λ (e : EvacOf g.row.N.Denot g.row.D.Denot). e.book.device) c.self.view_is

pub returns-else-self-len-clause-came : goal.returns-else-self-len-clause-came
returns-else-self-len-clause-came g c = since_evac c.self.view_is c.release.ensures.came

pub returns-else-self-len-clause-copying : goal.returns-else-self-len-clause-copying
returns-else-self-len-clause-copying g c = ap (λ (e : EvacOf g.row.N.Denot g.row.D.Denot). e.copying) c.self.view_is ∙ c.requires.alone

pub returns-else-self-len-clause-ends : goal.returns-else-self-len-clause-ends
returns-else-self-len-clause-ends g c =
    let h = (goal.at.returns-else-self-len-clause-ends g c).After-keeps_law in
    let r = c.self.inside.round in
    let most = (held_next r (walks g h) c.args.log c.requires.front.0 (held g h)).1 in
    let some : r.index + 1 < length r.chosen = grind (arith, nat_tests, most, c.len.ensures, c.if-self-len.false) in
    let more = ap is_empty (held_then r (walks g h) c.args.log c.requires.front.0 (held g h)) ∙ more_held r (walks g h) c.args.log c.requires.front.0 (held g h) some in
    walks g h ∙ sym (ap (λ none. cond none Idle Evacuating) more)

pub returns-else-self-len-clause-device : goal.returns-else-self-len-clause-device
returns-else-self-len-clause-device g c = c.release.ensures.device ∙ ap (λ (e : EvacOf g.row.N.Denot g.row.D.Denot). e.book.device) c.self.view_is
