use Rattle.std.proofs.Common.{◌∙◌, ◌+◌, ◌<◌, ◌++◌, ◌∷◌, [], ap, sym, subst, arith, refl}
use Rattle.std.specs.Prelude.{fold}
use Rattle.far_book.specs.book.NextLive.{IsBoundary, live_from}
use Rattle.far_hand.proofs.Closure.{no_call, then_came}
use Rattle.far_evac.specs.AnyHand.{Knows}
use Rattle.far_evac.specs.Live.{pointers_of}
use Rattle.far_evac.specs.RoundSteps.{unmarked}
use Rattle.far_evac.proofs.Fronts.{knows_cells}
use Rattle.far_evac.proofs.Hands.{knows_more}
use Rattle.far_evac.proofs.Standings.{at_start}
use Rattle.far_evac.proofs.Unmarking.{all_done, goes_past, live_start, logs_known, then_begins, then_exactly, then_fits, then_known, then_parts}
use Rattle.far_evac.proofs.Walks.{knows_same}
use Rattle.far_evac.proofs.evac.marking.unmark_log.Goals as goal

pub loop-span-init : goal.loop-span-init
loop-span-init g c =
    let s = g.N.Near.view c.args.book.now.near in
    let law = c.keeps_law.ensures.law in
    record {
      done = [];
      parts = live_start s law c.args.log;
      fits = λ p. (law.cells.cell_read p).0;
      known = knows_same s;
      exact = λ still. refl;
      begins = at_start s law c.args.log;
      law = law;
      order = refl;
      device = refl;
      came = no_call refl;
    }

pub next_live-requires-clause-log : goal.next_live-requires-clause-log
next_live-requires-clause-log g c =
    let h = c.loop-span.invariant in
    subst (λ n. c.args.log < n) (sym (logs_known h.done (g.N.Near.view c.args.book.now.near) (g.N.Near.view c.loop-span.book.near) h.known)) c.requires.log

pub loop-span-smaller : goal.loop-span-smaller
loop-span-smaller g c =
    let past = goes_past (g.N.Near.view c.loop-span.book.near) c.loop-span.invariant.law c.args.log c.loop-span.from c.in-Some.span c.in-Some.ensures.first in
    omega (arith, past, c.size_of.ensures, c.in-Some.ensures.inside)

pub loop-span-preserved : goal.loop-span-preserved
loop-span-preserved g c =
    let start = g.N.Near.view c.args.book.now.near in
    let s = g.N.Near.view c.loop-span.book.near in
    let t = g.N.Near.view c.next_live.new.self.near in
    let u = g.N.Near.view c.clear.new.self.near in
    let l = c.args.log in
    let at = c.loop-span.from in
    let word = c.clear.result in
    let span = c.in-Some.span in
    let h = c.loop-span.invariant in
    let e = c.in-Some.ensures in
    let k = c.clear.ensures in
    let law = c.keeps_law-in-Some.ensures.law in
    let last = c.keeps_law-in-Some-2.ensures.law in
    record {
      done = h.done ++ span.p ∷ [];
      parts = then_parts start s t u l at word span h.done h.fits h.parts h.known law last e.first e.next e.found e.kept e.lies k.found c.clear.type_inv k.kept k.forgot
          ∙ ap (λ size. (h.done ++ span.p ∷ []) ++ pointers_of (live_from u l (span.at + size))) (sym c.size_of.ensures);
      fits = then_fits start s t u l at word span h.done h.fits h.parts h.known law last e.first e.next e.found e.kept e.lies k.found c.clear.type_inv k.kept k.forgot;
      known = then_known start s t u l at word span h.done h.fits h.parts h.known law last e.first e.next e.found e.kept e.lies k.found c.clear.type_inv k.kept k.forgot;
      exact = λ still. then_exactly start s t u l at word span h.done h.fits h.parts h.known law last e.first e.next e.found e.kept e.lies k.found c.clear.type_inv k.kept k.forgot
          (h.exact still) (e.exact still) (k.set still);
      begins = subst (λ size. IsBoundary u l (span.at + size)) (sym c.size_of.ensures)
          (then_begins start s t u l at word span h.done h.fits h.parts h.known law last e.first e.next e.found e.kept e.lies k.found c.clear.type_inv k.kept k.forgot);
      law = last;
      order = k.order ∙ e.order ∙ h.order;
      device = k.device ∙ e.device ∙ h.device;
      came = then_came (then_came h.came c.next_live.ensures.came) k.came;
    }

pub returns : goal.returns
returns g c =
    let start = g.N.Near.view c.args.book.now.near in
    let s = g.N.Near.view c.loop-span.book.near in
    let t = g.N.Near.view c.next_live.new.self.near in
    let h = c.loop-span.invariant in
    let e = c.in_default.ensures in
    let done = all_done start s t c.args.log c.loop-span.from h.done h.parts e.none in
    record {
      came = then_came h.came c.next_live.ensures.came;
      known = subst (λ ps. Knows (fold unmarked start ps) t) (sym done) (knows_more (fold unmarked start h.done) s t h.known (knows_cells s t e.found e.kept));
      exact = λ still. e.exact still ∙ h.exact still ∙ ap (fold unmarked start) (sym done);
      order = e.order ∙ h.order;
      device = e.device ∙ h.device;
    }
