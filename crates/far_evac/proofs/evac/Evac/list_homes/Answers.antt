use Rattle.std.proofs.Common.{◌≡◌, ◌*◌, length, ap, refl, rules, sym, ◌∙◌, arith}
use Rattle.far_word.specs.declared.sizes.TheConstants.{CELLS}
use Rattle.far_events.specs.state.State.{State}
use Rattle.far_hand.proofs.Closure.{no_call, then_call}
use Rattle.far_evac.proofs.Auditing.{found_more, listed, listed_dropped, listed_none, listed_one, same_but_near}
use Rattle.far_evac.proofs.Walks.{knows_same}
use Rattle.far_evac.proofs.evac.Evac.list_homes.Goals as goal

pub loop-pointer-preserved-in_default : goal.loop-pointer-preserved-in_default
loop-pointer-preserved-in_default g c =
    let h = c.loop-pointer.invariant in
    let s = g.N.Near.view c.loop-pointer.self.book.near in
    let t = g.N.Near.view c.locate.new.self.book.near in
    let p = c.loop-pointer.pointer in
    let items = c.loop-pointer.homes.items in
    let done = c.locate.ensures.found in
    record {
      homes = listed_none s t p items done.kept h.homes (sym done.home ∙ c.in_default.is);
      count = omega (arith, h.count);
      room = h.room;
      end = h.end;
      known = found_more s t p items done.kept h.homes (g.N.Near.view c.args.self.now.book.near) done.found h.known;
      rest = same_but_near c.args.self.now c.loop-pointer.self c.locate.new.self h.rest done.order done.device c.locate.ensures.round;
      exact = λ still. done.exact still ∙ h.exact still;
      sees = then_call _ _ h.sees ((p, refl), done.made);
    }

pub loop-pointer-preserved-then-has_drop : goal.loop-pointer-preserved-then-has_drop
loop-pointer-preserved-then-has_drop g c =
    let h = c.loop-pointer.invariant in
    let s = g.N.Near.view c.loop-pointer.self.book.near in
    let t = g.N.Near.view c.locate.new.self.book.near in
    let p = c.loop-pointer.pointer in
    let items = c.loop-pointer.homes.items in
    let done = c.locate.ensures.found in
    record {
      homes = listed_dropped s t p items done.kept h.homes c.in-Some.home (sym done.home ∙ c.in-Some.is) (sym c.has_drop.ensures ∙ c.if-has_drop.true);
      count = omega (arith, h.count);
      room = h.room;
      end = h.end;
      known = found_more s t p items done.kept h.homes (g.N.Near.view c.args.self.now.book.near) done.found h.known;
      rest = same_but_near c.args.self.now c.loop-pointer.self c.locate.new.self h.rest done.order done.device c.locate.ensures.round;
      exact = λ still. done.exact still ∙ h.exact still;
      sees = then_call _ _ h.sees ((p, refl), done.made);
    }

pub loop-pointer-preserved : goal.loop-pointer-preserved
loop-pointer-preserved g c =
    let h = c.loop-pointer.invariant in
    let s = g.N.Near.view c.loop-pointer.self.book.near in
    let t = g.N.Near.view c.locate.new.self.book.near in
    let p = c.loop-pointer.pointer in
    let items = c.loop-pointer.homes.items in
    let done = c.locate.ensures.found in
    record {
      homes = listed_one s t p items done.kept h.homes c.in-Some.home c.push_reserved.new.self.items (sym done.home ∙ c.in-Some.is) (sym c.has_drop.ensures ∙ c.if-has_drop.false) (c.push_reserved.ensures.items);
      count = omega (arith, c.push_reserved.ensures.len, h.count);
      room = c.push_reserved.ensures.capacity ∙ h.room;
      end = h.end;
      known = found_more s t p items done.kept h.homes (g.N.Near.view c.args.self.now.book.near) done.found h.known;
      rest = same_but_near c.args.self.now c.loop-pointer.self c.locate.new.self h.rest done.order done.device c.locate.ensures.round;
      exact = λ still. done.exact still ∙ h.exact still;
      sees = then_call _ _ h.sees ((p, refl), done.made);
    }

pub loop-pointer-init : goal.loop-pointer-init
loop-pointer-init g c =
    let none = ap length c.requires.empty in
    record {
      homes = c.requires.empty;
      count = omega (arith, none);
      room = refl;
      end = search rules;
      known = knows_same (g.N.Near.view c.args.self.now.book.near);
      rest = refl;
      exact = λ still. refl;
      sees = no_call refl;
    }

pub returns : goal.returns
returns g c =
    let h = c.loop-pointer.invariant in
    let t = g.N.Near.view c.loop-pointer.self.book.near in
    let all : c.loop-pointer.pointer ≡ CELLS * (g.N.Near.view c.args.self.now.book.near).mutators = omega (arith, h.end, c.loop-pointer.auto.pointer-end, c.loop-pointer-test.false) in
    record {
      sees = h.sees;
      homes = h.homes ∙ ap (listed t.cell) (all ∙ sym (ap (λ (x : State). CELLS * x.mutators) h.known.rest));
      known = h.known;
      rest = h.rest;
      exact = h.exact;
    }
