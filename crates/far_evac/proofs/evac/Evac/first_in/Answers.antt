use Rattle.std.proofs.Common.{◌≡◌, ◌∙◌, ◌∷◌, [], ap, subst}
use Rattle.far_evac.specs.EvacOf.{EvacOf, moment}
use Rattle.far_evac.specs.Live.{live_in}
use Rattle.far_evac.proofs.Fronts.{first_lives, knows_cells, none_lives}
use Rattle.far_evac.proofs.HandKept.{since_evac}
use Rattle.far_evac.proofs.Sound.{sound_found}
use Rattle.far_evac.proofs.Walking.{found_exactly, found_moment, front_begins, front_lies, front_range, stands_first}
use Rattle.far_evac.proofs.WalkingOn.{next_leaving}
use Rattle.far_evac.proofs.evac.Evac.first_in.Goals as goal

pub next_found-requires : goal.next_found-requires
next_found-requires g c =
    let phase = ap (λ (e : EvacOf g.row.N.Denot g.row.D.Denot). e.phase) c.self.view_is ∙ c.requires.phase in
    let held = ap (λ (e : EvacOf g.row.N.Denot g.row.D.Denot). e.collection) c.self.view_is ∙ c.requires.front.1 in
    let s = g.N.Near.view c.self.inside.book.near in
    let law = c.keeps_law.ensures.law in record {
      log = front_range s c.self.inside.round c.self.invariant.round law phase c.args.log c.requires.front.0 held;
      begins = front_begins s c.self.inside.round c.self.invariant.round law phase c.args.log c.requires.front.0 held;
    }

pub invariant_of-self : goal.invariant_of-self
invariant_of-self g c =
    let s = g.N.Near.view c.self.inside.book.near in
    let t = g.N.Near.view c.next_found.new.self.near in
    sound_found s t c.self.inside.round c.self.invariant (knows_cells s t c.next_found.ensures.found c.next_found.ensures.kept)

pub returns-in_default-clause-known : goal.returns-in_default-clause-known
returns-in_default-clause-known g c =
    let s = g.N.Near.view c.self.inside.book.near in
    let t = g.N.Near.view c.next_found.new.self.near in
    found_moment (moment g.N.Near.view c.args.self.now) _ t c.next_found.new.self.order (ap (moment g.N.Near.view) c.self.view_is) (knows_cells s t c.next_found.ensures.found c.next_found.ensures.kept) c.next_found.ensures.order

pub returns-in_default-clause-none : goal.returns-in_default-clause-none
returns-in_default-clause-none g c =
    let phase = ap (λ (e : EvacOf g.row.N.Denot g.row.D.Denot). e.phase) c.self.view_is ∙ c.requires.phase in
    let held = ap (λ (e : EvacOf g.row.N.Denot g.row.D.Denot). e.collection) c.self.view_is ∙ c.requires.front.1 in
    let s = g.N.Near.view c.self.inside.book.near in
    let law = c.keeps_law.ensures.law in
    let lies = front_lies s c.self.inside.round c.self.invariant.round law phase c.args.log c.requires.front.0 held in
    subst (λ (e : EvacOf g.row.N.Denot g.row.D.Denot). live_in (g.N.Near.view e.book.near) c.args.log ≡ []) c.self.view_is
    (none_lives s law c.args.log c.self.inside.round.at lies c.in_default.ensures.none)

pub returns-in_default-clause-came : goal.returns-in_default-clause-came
returns-in_default-clause-came g c = since_evac c.self.view_is c.next_found.ensures.came

pub returns-in_default-clause-exact : goal.returns-in_default-clause-exact
returns-in_default-clause-exact g c still =
    found_exactly (moment g.N.Near.view c.args.self.now) _ (g.N.Near.view c.next_found.new.self.near) c.next_found.new.self.order (ap (moment g.N.Near.view) c.self.view_is) (c.next_found.ensures.exact still) c.next_found.ensures.order

pub returns-in_default-clause-device : goal.returns-in_default-clause-device
returns-in_default-clause-device g c = c.next_found.ensures.device ∙ ap (λ (e : EvacOf g.row.N.Denot g.row.D.Denot). e.book.device) c.self.view_is

pub invariant_of-self-2 : goal.invariant_of-self-2
invariant_of-self-2 g c =
    let phase = ap (λ (e : EvacOf g.row.N.Denot g.row.D.Denot). e.phase) c.self.view_is ∙ c.requires.phase in
    let held = ap (λ (e : EvacOf g.row.N.Denot g.row.D.Denot). e.collection) c.self.view_is ∙ c.requires.front.1 in
    let s = g.N.Near.view c.self.inside.book.near in
    let t = g.N.Near.view c.next_found.new.self.near in
    let moved = stands_first s c.self.inside.round c.self.invariant.round c.keeps_law.ensures.law phase c.args.log c.requires.front.0 held c.in-Some.first.span c.in-Some.ensures.first in
    sound_found s t _ record { round = moved; jobs = c.self.invariant.jobs; exact = c.self.invariant.exact } (knows_cells s t c.next_found.ensures.found c.next_found.ensures.kept)

pub returns : goal.returns
returns g c =
    let phase = ap (λ (e : EvacOf g.row.N.Denot g.row.D.Denot). e.phase) c.self.view_is ∙ c.requires.phase in
    let held = ap (λ (e : EvacOf g.row.N.Denot g.row.D.Denot). e.collection) c.self.view_is ∙ c.requires.front.1 in
    let s = g.N.Near.view c.self.inside.book.near in
    let t = g.N.Near.view c.next_found.new.self.near in
    let law = c.keeps_law.ensures.law in
    let known = knows_cells s t c.next_found.ensures.found c.next_found.ensures.kept in
    let lies = front_lies s c.self.inside.round c.self.invariant.round law phase c.args.log c.requires.front.0 held in
    let first = c.in-Some.ensures.first in
    let lives = first_lives s law c.args.log c.self.inside.round.at lies c.in-Some.first.span first in
    record {
      came = since_evac c.self.view_is c.next_found.ensures.came;
      known = found_moment (moment g.N.Near.view c.args.self.now) _ t c.next_found.new.self.order (ap (moment g.N.Near.view) c.self.view_is) known c.next_found.ensures.order;
      exact = λ still. found_exactly (moment g.N.Near.view c.args.self.now) _ t c.next_found.new.self.order (ap (moment g.N.Near.view) c.self.view_is) (c.next_found.ensures.exact still) c.next_found.ensures.order;
      first = (lives.0, subst (λ (e : EvacOf g.row.N.Denot g.row.D.Denot). live_in (g.N.Near.view e.book.near) c.args.log ≡ c.in-Some.first.span.p ∷ lives.0) c.self.view_is lives.1);
      next = next_leaving s t law known c.args.log c.self.inside.round.at lies c.in-Some.first.span first _ c.requires.front.0 held c.in-Some.ensures.next c.in-Some.ensures.inside;
      cell = c.in-Some.ensures.cell;
      none = tt;
      device = c.next_found.ensures.device ∙ ap (λ (e : EvacOf g.row.N.Denot g.row.D.Denot). e.book.device) c.self.view_is;
    }
