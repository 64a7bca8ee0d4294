use Rattle.std.proofs.Common.{◌≡◌, ℕ, ◌∙◌, ◌+◌, ◌-◌, ◌<◌, arith, refl, ap, sym, subst, take, drop, length, slice_index_or}
use Rattle.std.specs.Prelude.{fold}
use Rattle.std.proofs.lemmas.List.{take_all}
use Rattle.far_hand.proofs.Closure.{no_call, then_came}
use Rattle.far_evac.specs.AnyHand.{Knows}
use Rattle.far_evac.specs.Live.{live_among}
use Rattle.far_evac.specs.RoundSteps.{unmarked}
use Rattle.far_evac.proofs.Keeping.{dropped_among}
use Rattle.far_evac.proofs.Onward.{front_is}
use Rattle.far_evac.proofs.Unmarking.{log_exactly, log_known, logs_known, slice_rest, taken_next}
use Rattle.far_evac.proofs.Walks.{knows_same}
use Rattle.far_evac.proofs.evac.marking.unmark_logs.Goals as goal

pub unmark_log-requires : goal.unmark_log-requires
unmark_log-requires g c =
    let start = g.N.Near.view c.args.book.now.near in
    let i = c.loop-log.log-index in
    let xs = drop c.args.first c.args.chosen.now in
    let ys = take (length c.as_slice.result.now - c.args.first) (drop c.args.first c.as_slice.result.now) in
    let same = slice_rest c.args.chosen.now c.as_slice.result.now c.args.first c.as_slice.ensures in
    let front = front_is xs ys i (length ys) same (ap length same) c.loop-log-test.true in
    let below = c.requires.logs (slice_index_or ys i 0) (dropped_among xs i (slice_index_or ys i 0) (drop (i + 1) xs) front) in
    record {
      log = subst (λ n. slice_index_or ys i 0 < n) (sym (logs_known (live_among start (take i xs)) start (g.N.Near.view c.loop-log.book.near) c.loop-log.invariant.known)) below;
    }

pub loop-log-preserved : goal.loop-log-preserved
loop-log-preserved g c =
    let start = g.N.Near.view c.args.book.now.near in
    let t = g.N.Near.view c.loop-log.book.near in
    let u = g.N.Near.view c.unmark_log.new.book.near in
    let i = c.loop-log.log-index in
    let xs = drop c.args.first c.args.chosen.now in
    let ys = take (length c.as_slice.result.now - c.args.first) (drop c.args.first c.as_slice.result.now) in
    let same = slice_rest c.args.chosen.now c.as_slice.result.now c.args.first c.as_slice.ensures in
    let next = taken_next xs ys i same c.loop-log-test.true in
    let h = c.loop-log.invariant in
    let e = c.unmark_log.ensures in
    let fits = λ (q : ℕ). (c.keeps_law.ensures.law.cells.cell_read q).0 in
    let law = c.keeps_law-in-loop-log.ensures.law in
    record {
      known = subst (λ ls. Knows (fold unmarked start (live_among start ls)) u) (sym next) (log_known start t fits (take i xs) (slice_index_or ys i 0) h.known law u e.known);
      exact = λ still. log_exactly start t fits (take i xs) (slice_index_or ys i 0) h.known law u (h.exact still) (e.exact still)
          ∙ ap (λ ls. fold unmarked start (live_among start ls)) (sym next);
      order = e.order ∙ h.order;
      device = e.device ∙ h.device;
      came = then_came h.came e.came;
    }

pub loop-log-init : goal.loop-log-init
loop-log-init g c = record {
  known = knows_same (g.N.Near.view c.args.book.now.near);
  exact = λ still. refl;
  order = refl;
  device = refl;
  came = no_call refl;
}

pub returns : goal.returns
returns g c =
    let start = g.N.Near.view c.args.book.now.near in
    let t = g.N.Near.view c.loop-log.book.near in
    let i = c.loop-log.log-index in
    let xs = drop c.args.first c.args.chosen.now in
    let long = ap length (slice_rest c.args.chosen.now c.as_slice.result.now c.args.first c.as_slice.ensures) in
    let all : take i xs ≡ xs = take_all i xs (omega (arith, long, c.loop-log-test.false)) in
    let h = c.loop-log.invariant in
    record {
      came = h.came;
      known = subst (λ ls. Knows (fold unmarked start (live_among start ls)) t) all h.known;
      exact = λ still. h.exact still ∙ ap (λ ls. fold unmarked start (live_among start ls)) all;
      order = h.order;
      device = h.device;
    }
