use Rattle.std.proofs.Common.{◌∙◌, ◌+◌, arith, drop, slice_index_or, refl}
use Rattle.far_hand.proofs.Closure.{no_call, then_came}
use Rattle.far_evac.proofs.Hands.{knows_more}
use Rattle.far_evac.proofs.Keeping.{round_found}
use Rattle.far_evac.proofs.Onward.{front_begins, front_inside, front_is, front_marked, moved_on, next_log}
use Rattle.far_evac.proofs.Passing.{boundary_known}
use Rattle.far_evac.proofs.Standings.{at_start}
use Rattle.far_evac.proofs.Walks.{knows_same}
use Rattle.far_evac.proofs.evac.marking.seek.Goals as goal

pub next_unmarked-requires : goal.next_unmarked-requires
next_unmarked-requires g c =
    let front = front_is c.args.round.now.chosen c.as_slice.result.now c.loop-index.index c.len.result c.as_slice.ensures c.len.ensures c.loop-index-test.true in
    let s = g.N.Near.view c.loop-index.book.near in
    let stands = c.loop-index.invariant.stands in record {
      log = front_inside s _ stands c.requires.marking _ _ front c.keeps_law.ensures.law;
      begins = front_begins s _ stands c.requires.marking _ _ front;
      before = front_marked s _ stands c.requires.marking _ _ front;
    }

pub returns-in-Some : goal.returns-in-Some
returns-in-Some g c =
    let front = front_is c.args.round.now.chosen c.as_slice.result.now c.loop-index.index c.len.result c.as_slice.ensures c.len.ensures c.loop-index-test.true in
    let s = g.N.Near.view c.loop-index.book.near in
    let t = g.N.Near.view c.next_unmarked.new.book.near in
    let r = record c.args.round.now { index = c.loop-index.index; at = c.loop-index.at } in
    let e = c.in-Some.ensures in
    let h = c.loop-index.invariant in
    record {
      came = then_came h.came c.next_unmarked.ensures.came;
      stands = moved_on t r (round_found s t r h.stands e.known) c.requires.marking _ _ front c.in-Some.span.at e.next.here e.next.before;
      next = record { log = slice_index_or c.as_slice.result.now c.loop-index.index 0; more = drop (c.loop-index.index + 1) c.args.round.now.chosen; front = front; next = e.next; at = refl };
      none = tt;
      known = knows_more (g.N.Near.view c.args.book.now.near) s t h.known e.known;
      exact = λ still. e.exact still ∙ h.exact still;
      order = e.order ∙ h.order;
      device = e.device ∙ h.device;
    }

pub loop-index-preserved : goal.loop-index-preserved
loop-index-preserved g c =
    let front = front_is c.args.round.now.chosen c.as_slice.result.now c.loop-index.index c.len.result c.as_slice.ensures c.len.ensures c.loop-index-test.true in
    let s = g.N.Near.view c.loop-index.book.near in
    let t = g.N.Near.view c.next_unmarked.new.book.near in
    let r = record c.args.round.now { index = c.loop-index.index; at = c.loop-index.at } in
    let e = c.in_default.ensures in
    let h = c.loop-index.invariant in
    record {
      known = knows_more (g.N.Near.view c.args.book.now.near) s t h.known e.known;
      exact = λ still. e.exact still ∙ h.exact still;
      stands = next_log t r (round_found s t r h.stands e.known) c.requires.marking _ _ front (λ k. boundary_known s t e.known k 0 (at_start s c.keeps_law.ensures.law k)) e.none;
      order = e.order ∙ h.order;
      device = e.device ∙ h.device;
      came = then_came h.came e.came;
    }

pub loop-index-init : goal.loop-index-init
loop-index-init g c = record {
  known = knows_same (g.N.Near.view c.args.book.now.near);
  exact = λ still. refl;
  stands = c.requires.stands;
  order = refl;
  device = refl;
  came = no_call refl;
}

pub returns : goal.returns
returns g c = let h = c.loop-index.invariant in record {
  came = h.came;
  stands = h.stands;
  next = tt;
  none = omega (arith, c.len.ensures, c.loop-index-test.false, h.stands.stands.index);
  known = h.known;
  exact = h.exact;
  order = h.order;
  device = h.device;
}
