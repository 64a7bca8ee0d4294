use Rattle.std.proofs.Common.{◌++◌, ◌+◌, ◌≤◌, ◌∙◌, [], ℕ, List, false, length, take, drop, slice_index_or, arith, ap, sym, refl, subst}
use Rattle.std.proofs.Math.ListN.{drop_of_length-le}
use Rattle.far_device.specs.Following.{Follows, none_of}
use Rattle.far_device.proofs.Following.{follows_itself, follows_on, follows_still}
use Rattle.far_hand.proofs.Closure.{no_call, then_came}
use Rattle.far_evac.specs.Beside.{AsksOnly, End, OverLogs, OverObjects, RefusedOnly, may_free}
use Rattle.far_evac.specs.BookStands.{end_of, is_failed, stands}
use Rattle.far_evac.specs.Live.{live_among, live_in}
use Rattle.far_evac.specs.Walk.{Walked}
use Rattle.far_evac.specs.WalkedLogs.{KeepsRound}
use Rattle.far_evac.proofs.OfferingFree.{core_if, counts_if, few_if, not_behind}
use Rattle.far_evac.proofs.OfferingOver.{GoesOn, goes_end, goes_first, goes_next, goes_stop}
use Rattle.far_evac.proofs.OfferingRounds.{KeepsAhead, before_log, key_apart, walks_next, walks_none, walks_stop}
use Rattle.far_evac.proofs.Unmarking.{slice_rest}
use Rattle.far_evac.proofs.evac.offering.walk_logs.Goals as goal

pub loop-index-init : goal.loop-index-init
loop-index-init g c = record {
  within = omega arith;
  over = λ held.
      goes_first g.row.D.Denot (AsksOnly g.row.D.Denot g.D.Device.writes g.D.Device.lets_go g.D.Device.contents) (RefusedOnly g.row.D.Denot g.D.Device.writes g.D.Device.lets_go g.D.Device.contents)
      c.args.logs.now c.args.n (stands g.N.Near.view c.args.book.now c.args.progress.now held) c.args.kept.now c.args.book.now.device c.requires.none;
  walks = walks_none (g.N.Near.view c.args.book.now.near) c.args.kept.now c.requires.none;
  counted = omega arith;
  freed = omega arith;
  done = refl;
  few = let none = ap length c.requires.none in omega (arith, none);
  follows = follows_itself g.D.Device.contents g.D.Device.honest g.D.Device.faults g.D.Device.fails_at_most (none_of (live_among (g.N.Near.view c.args.book.now.near) c.args.logs.now)) c.args.book.now.device;
  came = no_call refl;
}

pub walk_log-more-requires-clause-chosen : goal.walk_log-more-requires-clause-chosen
walk_log-more-requires-clause-chosen g c =
    (before_log (g.N.Near.view c.args.book.now.near) (g.N.Near.view c.loop-index.book.near) c.args.logs.now c.loop-index.kept c.loop-index.index c.loop-index-test.true c.requires.once c.requires.chosen c.loop-index.invariant.walks).is

pub free_or_keep-requires-clause-chosen : goal.free_or_keep-requires-clause-chosen
free_or_keep-requires-clause-chosen g c =
    let b = before_log (g.N.Near.view c.args.book.now.near) (g.N.Near.view c.loop-index.book.near) c.args.logs.now c.loop-index.kept c.loop-index.index c.loop-index-test.true c.requires.once c.requires.chosen c.loop-index.invariant.walks in
    c.walk_log-more.ensures.keeps.chosen (slice_index_or c.args.logs.now c.loop-index.index 0) b.is

-- ---- it stops in a log
pub returns-in_default : goal.returns-in_default
returns-in_default g c =
    let view = g.N.Near.view in
    let Asks = AsksOnly g.row.D.Denot g.D.Device.writes g.D.Device.lets_go g.D.Device.contents in
    let Fails = RefusedOnly g.row.D.Denot g.D.Device.writes g.D.Device.lets_go g.D.Device.contents in
    let s = view c.args.book.now.near in
    let t = view c.loop-index.book.near in
    let u = view c.walk_log-more.new.book.near in
    let logs = c.args.logs.now in
    let kept = c.loop-index.kept in
    let i = c.loop-index.index in
    let l = slice_index_or logs i 0 in
    let h = c.loop-index.invariant in
    let b = before_log s t logs kept i c.loop-index-test.true c.requires.once c.requires.chosen h.walks in
    let e = c.walk_log-more.ensures in
    let end = end_of c.walk_log-more.result.1 in
    let old = c.args.book.now.device in
    let now = c.loop-index.book.device in
    let mid = c.walk_log-more.new.book.device in
    let rest = c.keep_all.ensures ∙ ap (λ ks. kept ++ ks) (slice_rest logs logs i refl ∙ b.front) in
    record {
      came = then_came h.came e.came;
      over = λ held.
          let w = stands view c.args.book.now c.args.progress.now held in
          let v = stands view c.loop-index.book c.loop-index.progress held in
          let x = stands view c.walk_log-more.new.book c.walk_log-more.new.progress held in
          let goes = subst (λ ls. GoesOn g.row.D.Denot Asks Fails logs c.args.n w kept ls c.loop-index.left v old now) b.front (h.over held) in
          let o = e.over held in
          subst (λ ks. OverLogs g.row.D.Denot Asks Fails logs c.args.n w x ks end old mid) (sym rest)
          (goes_stop g.row.D.Denot Asks Fails logs c.args.n w kept l (drop (i + 1) logs) c.loop-index.left v old now goes o.0 x c.walk_log-more.result.0 mid o.1 end (not_behind c.walk_log-more.result.1 c.in_default.not-On) o.2);
      keeps = subst (λ ks. KeepsRound s logs ks u) (sym rest) (walks_stop logs (take i logs) l (drop (i + 1) logs) b.parts c.requires.once s t u kept h.walks c.requires.chosen e.keeps);
      counted = omega (arith, h.counted, e.counted, c.loop-index-test.true);
      freed = omega (arith, h.freed, e.rest.0, c.loop-index-test.true);
      done = e.rest.1 ∙ h.done;
      why = e.why;
      follows = follows_on g.D.Device.contents g.D.Device.honest g.D.Device.faults g.D.Device.fails_at_most (none_of (live_among s logs)) (is_failed end) old now mid h.follows
          (follows_still g.D.Device.contents g.D.Device.honest g.D.Device.faults g.D.Device.fails_at_most (none_of (live_in t l)) (none_of (live_among s logs)) (is_failed end) now mid
          (λ q none. subst (λ ks. none_of ks q) (sym b.lives) (key_apart s logs l b.member q none)) e.follows);
    }

-- ---- it goes on
pub loop-index-preserved : goal.loop-index-preserved
loop-index-preserved g c =
    let view = g.N.Near.view in
    let Asks = AsksOnly g.row.D.Denot g.D.Device.writes g.D.Device.lets_go g.D.Device.contents in
    let Fails = RefusedOnly g.row.D.Denot g.D.Device.writes g.D.Device.lets_go g.D.Device.contents in
    let s = view c.args.book.now.near in
    let t = view c.loop-index.book.near in
    let u = view c.walk_log-more.new.book.near in
    let y = view c.free_or_keep.new.book.near in
    let logs = c.args.logs.now in
    let kept = c.loop-index.kept in
    let next = c.free_or_keep.new.kept in
    let i = c.loop-index.index in
    let l = slice_index_or logs i 0 in
    let h = c.loop-index.invariant in
    let b = before_log s t logs kept i c.loop-index-test.true c.requires.once c.requires.chosen h.walks in
    let e = c.walk_log-more.ensures in
    let f = c.free_or_keep.ensures in
    let behind = ap end_of c.in-On.is in
    let old = c.args.book.now.device in
    let now = c.loop-index.book.device in
    let mid = c.walk_log-more.new.book.device in
    let x : List ℕ → Walked = λ held. stands view c.walk_log-more.new.book c.walk_log-more.new.progress held in
    let z : List ℕ → Walked = λ held. stands view c.free_or_keep.new.book c.free_or_keep.new.progress held in
    let counts = counts_if (x []) (z []) l (f.known []) in
    record {
      within = omega (arith, c.loop-index-test.true);
      over = λ held.
          let w = stands view c.args.book.now c.args.progress.now held in
          let v = stands view c.loop-index.book c.loop-index.progress held in
          let goes = subst (λ ls. GoesOn g.row.D.Denot Asks Fails logs c.args.n w kept ls c.loop-index.left v old now) b.front (h.over held) in
          let o = e.over held in
          let objects = subst (λ (end : End). OverObjects g.row.D.Denot Asks Fails (live_in o.0.moment.core l) c.loop-index.left o.0 (x held) c.walk_log-more.result.0 end now mid) behind o.2 in
          subst (λ d. GoesOn g.row.D.Denot Asks Fails logs c.args.n w next (drop (i + 1) logs) c.walk_log-more.result.0 (z held) old d) (sym f.device)
          (goes_next g.row.D.Denot Asks Fails logs c.args.n w kept l (drop (i + 1) logs) c.loop-index.left v old now goes o.0 (x held) c.walk_log-more.result.0 mid o.1 objects (z held) next (f.known held) f.kept);
      walks = subst (λ past. KeepsAhead s past next y) (sym b.next)
          (walks_next s t u y (take i logs) kept l h.walks b.fresh b.was e.keeps next (may_free u l) (core_if (x []) (z []) l (f.known [])) f.kept);
      counted = omega (arith, h.counted, e.counted, counts.0);
      freed = omega (arith, h.freed, e.rest.0, counts.1);
      done = f.done ∙ e.rest.1 ∙ h.done;
      few = few_if (may_free u l) kept next l i f.kept h.few;
      follows = subst (λ d. Follows g.D.Device.contents g.D.Device.honest g.D.Device.faults g.D.Device.fails_at_most (none_of (live_among s logs)) false old d) (sym f.device)
          (follows_on g.D.Device.contents g.D.Device.honest g.D.Device.faults g.D.Device.fails_at_most (none_of (live_among s logs)) false old now mid h.follows
          (follows_still g.D.Device.contents g.D.Device.honest g.D.Device.faults g.D.Device.fails_at_most (none_of (live_in t l)) (none_of (live_among s logs)) false now mid
          (λ q none. subst (λ ks. none_of ks q) (sym b.lives) (key_apart s logs l b.member q none))
          (subst (λ (end : End). Follows g.D.Device.contents g.D.Device.honest g.D.Device.faults g.D.Device.fails_at_most (none_of (live_in t l)) (is_failed end) now mid) behind e.follows)));
      came = then_came (then_came h.came e.came) f.came;
    }

-- ---- all were walked over
pub returns-clause-over : goal.returns-clause-over
returns-clause-over g c held =
    let logs = c.args.logs.now in
    let i = c.loop-index.index in
    let all : length logs ≤ i = omega (arith, c.loop-index-test.false) in
    goes_end g.row.D.Denot (AsksOnly g.row.D.Denot g.D.Device.writes g.D.Device.lets_go g.D.Device.contents) (RefusedOnly g.row.D.Denot g.D.Device.writes g.D.Device.lets_go g.D.Device.contents)
    logs c.args.n (stands g.N.Near.view c.args.book.now c.args.progress.now held) c.loop-index.kept (drop i logs) c.loop-index.left (stands g.N.Near.view c.loop-index.book c.loop-index.progress held)
    c.args.book.now.device c.loop-index.book.device (drop_of_length-le logs all) (c.loop-index.invariant.over held)
