use Rattle.far_book.proofs.book.Book.next_found.Given.{Over}
use Rattle.far_book.proofs.book.Book.next_found.Goals.{After-see-cell}
use Rattle.far_book.proofs.book.Book.next_found.Goals as goal
use Rattle.std.proofs.Common.{◌≡◌, ◌+◌, ◌*◌, ◌<◌, ◌∙◌, arith, ap, inr, refl, sym, subst, true}
use Rattle.std.specs.Prelude.{◌⊎◌}
use Rattle.far_word.specs.declared.sizes.TheConstants.{LOG_WORDS}
use Rattle.far_word.specs.Sizes.{size_of}
use Rattle.far_log.specs.declared.span.Span.{Span}
use Rattle.far_events.specs.state.State.{State}
use Rattle.far_events.proofs.Put.{put_same}
use Rattle.far_book.specs.book.NextLive.{IsBoundary, IsNamedBetween, live_from}
use Rattle.far_book.proofs.region.NextLives.{Step, begun, below_tail, ended, found_more, here_dead, here_lies, here_live, here_next, here_reads, kept_more, none_more, others_more}
use Rattle.far_hand.proofs.Closure.{no_call, then_came, came_only}
use Rattle.far_hand.proofs.Finding.{finds_same}

-- the span at hand is read, and its cell seen
step : (g : Over) (c : After-see-cell g) → Step (g.N.Near.view c.args.self.now.near) (g.N.Near.view c.loop-at.self.near) (g.N.Near.view c.span_at-span.new.self.near) (g.N.Near.view c.see-cell.new.self.near) c.args.log c.loop-at.at c.span_at-span.result c.see-cell.result
step g c =
    let s = g.N.Near.view c.args.self.now.near in
    let h = c.loop-at.invariant in
    let below = below_tail s c.args.log c.loop-at.at c.tail-tail.result c.tail-tail.ensures.is c.loop-at-test.true in
    record {
      law = c.keeps_law.ensures.law;
      below = below;
      begins = begun s c.args.log c.loop-at.at h.edge below;
      kept = h.kept;
      found = h.found;
      same = c.span_at-span.ensures.same;
      is = c.span_at-span.ensures.is;
      seen = c.see-cell.ensures.found;
      noted = c.see-cell.ensures.kept;
    }

pub returns-then-none_lives-clause-none : goal.returns-then-none_lives-clause-none
returns-then-none_lives-clause-none g c = c.none_lives.ensures c.if-none_lives.true c.args.at

pub returns-then-none_lives-clause-found : goal.returns-then-none_lives-clause-found
returns-then-none_lives-clause-found g c p = finds_same ((g.N.Near.view c.args.self.now.near).cell p)

pub returns-then-none_lives-clause-others : goal.returns-then-none_lives-clause-others
returns-then-none_lives-clause-others g c p = inr refl

pub returns-then-none_lives-clause-kept : goal.returns-then-none_lives-clause-kept
returns-then-none_lives-clause-kept g c = refl

pub returns-then-none_lives-clause-exact : goal.returns-then-none_lives-clause-exact
returns-then-none_lives-clause-exact g c _ = refl

pub returns-then-none_lives-clause-came : goal.returns-then-none_lives-clause-came
returns-then-none_lives-clause-came g c = no_call refl

pub returns-then-none_lives-clause-order : goal.returns-then-none_lives-clause-order
returns-then-none_lives-clause-order g c = refl

pub returns-then-none_lives-clause-device : goal.returns-then-none_lives-clause-device
returns-then-none_lives-clause-device g c = refl

-- ---- from span to span
pub loop-at-init : goal.loop-at-init
loop-at-init g c = record {
  low = omega arith;
  edge = c.requires.begins;
  rest = refl;
  found = λ p. finds_same ((g.N.Near.view c.args.self.now.near).cell p);
  others = λ p. inr refl;
  kept = refl;
  came = no_call refl;
  exact = λ _. refl;
  order = refl;
  device = refl;
}

pub span_at-span-requires-clause-log : goal.span_at-span-requires-clause-log
span_at-span-requires-clause-log g c = subst (λ (x : State). c.args.log < x.logs) (sym c.loop-at.invariant.kept) c.requires.log

pub span_at-span-requires-clause-below : goal.span_at-span-requires-clause-below
span_at-span-requires-clause-below g c =
    subst (λ (x : State). c.loop-at.at < x.tail c.args.log) (sym c.loop-at.invariant.kept)
    (below_tail (g.N.Near.view c.args.self.now.near) c.args.log c.loop-at.at c.tail-tail.result c.tail-tail.ensures.is c.loop-at-test.true)

pub span_at-span-requires-clause-begins : goal.span_at-span-requires-clause-begins
span_at-span-requires-clause-begins g c =
    let s = g.N.Near.view c.args.self.now.near in
    let h = c.loop-at.invariant in
    subst (λ (x : State). x.starts (c.args.log * LOG_WORDS + c.loop-at.at) ≡ true) (sym h.kept)
    (begun s c.args.log c.loop-at.at h.edge (below_tail s c.args.log c.loop-at.at c.tail-tail.result c.tail-tail.ensures.is c.loop-at-test.true))

pub names_place-requires : goal.names_place-requires
names_place-requires g c = here_reads (step g (goal.at.names_place-requires g c).After-see-cell)

pub returns-then-names_place-clause-first : goal.returns-then-names_place-clause-first
returns-then-names_place-clause-first g c =
    c.loop-at.invariant.rest ∙ here_live (step g (goal.at.returns-then-names_place-clause-first g c).After-see-cell) (sym c.names_place.ensures ∙ c.if-names_place.true)

pub returns-then-names_place-clause-next : goal.returns-then-names_place-clause-next
returns-then-names_place-clause-next g c =
    subst (λ n. IsBoundary (g.N.Near.view c.args.self.now.near) c.args.log (n + size_of c.span_at-span.result.len)) (sym (ap (λ (y : Span). y.at) c.span_at-span.ensures.is))
    (here_next (step g (goal.at.returns-then-names_place-clause-next g c).After-see-cell))

pub returns-then-names_place-clause-lies : goal.returns-then-names_place-clause-lies
returns-then-names_place-clause-lies g c = here_lies (step g (goal.at.returns-then-names_place-clause-lies g c).After-see-cell) (sym c.names_place.ensures ∙ c.if-names_place.true)

pub returns-then-names_place-clause-cell : goal.returns-then-names_place-clause-cell
returns-then-names_place-clause-cell g c = let h = c.see-cell.ensures in
    sym (ap (λ (x : State). x.cell c.span_at-span.result.p) h.kept ∙ put_same (g.N.Near.view c.span_at-span.new.self.near).cell c.span_at-span.result.p c.see-cell.result c.span_at-span.result.p refl)

pub returns-then-names_place-clause-found : goal.returns-then-names_place-clause-found
returns-then-names_place-clause-found g c = found_more (step g (goal.at.returns-then-names_place-clause-found g c).After-see-cell)

pub returns-then-names_place-clause-others : goal.returns-then-names_place-clause-others
returns-then-names_place-clause-others g c p =
    let h = c.loop-at.invariant in
    subst (λ n. IsNamedBetween (g.N.Near.view c.args.self.now.near) c.args.log c.args.at (n + size_of c.span_at-span.result.len) p ⊎ ((g.N.Near.view c.see-cell.new.self.near).cell p ≡ (g.N.Near.view c.args.self.now.near).cell p))
    (sym (ap (λ (y : Span). y.at) c.span_at-span.ensures.is)) (others_more (step g (goal.at.returns-then-names_place-clause-others g c).After-see-cell) c.args.at h.low p (h.others p))

pub returns-then-names_place-clause-exact : goal.returns-then-names_place-clause-exact
returns-then-names_place-clause-exact g c still = c.see-cell.ensures.set still ∙ c.span_at-span.ensures.same ∙ c.loop-at.invariant.exact still

pub loop-at-preserved : goal.loop-at-preserved
loop-at-preserved g c =
    let s = g.N.Near.view c.args.self.now.near in
    let step = step g (goal.at.loop-at-preserved g c).After-see-cell in
    let h = c.loop-at.invariant in
    let size = sym c.size_of-at.ensures in
    record {
      low = omega (arith, h.low);
      edge = subst (λ n. IsBoundary s c.args.log (c.loop-at.at + n)) size (here_next step);
      rest = subst (λ n. live_from s c.args.log c.args.at ≡ live_from s c.args.log (c.loop-at.at + n)) size (h.rest ∙ here_dead step (sym c.names_place.ensures ∙ c.if-names_place.false));
      found = found_more step;
      kept = kept_more step;
      others = λ p. subst (λ n. IsNamedBetween s c.args.log c.args.at (c.loop-at.at + n) p ⊎ ((g.N.Near.view c.see-cell.new.self.near).cell p ≡ s.cell p)) size (others_more step c.args.at h.low p (h.others p));
      came = then_came (then_came h.came (came_only _ c.span_at-span.ensures.reads)) c.see-cell.ensures.came;
      exact = λ still. c.see-cell.ensures.set still ∙ c.span_at-span.ensures.same ∙ h.exact still;
      order = c.see-cell.ensures.order ∙ c.span_at-span.ensures.order ∙ h.order;
      device = c.see-cell.ensures.device ∙ c.span_at-span.ensures.device ∙ h.device;
    }

pub returns-clause-others : goal.returns-clause-others
returns-clause-others g c =
    let h = c.loop-at.invariant in
    λ p. none_more (g.N.Near.view c.args.self.now.near) (g.N.Near.view c.loop-at.self.near) c.args.log c.args.at c.loop-at.at h.edge p (h.others p)

pub returns-clause-none : goal.returns-clause-none
returns-clause-none g c =
    let s = g.N.Near.view c.args.self.now.near in
    let h = c.loop-at.invariant in
    h.rest ∙ ended s c.keeps_law.ensures.law c.args.log c.loop-at.at c.tail-tail.result h.edge c.tail-tail.ensures.is (omega (arith, c.loop-at-test.false))

pub returns-then-names_place-clause-came : goal.returns-then-names_place-clause-came
returns-then-names_place-clause-came g c = then_came (then_came c.loop-at.invariant.came (came_only _ c.span_at-span.ensures.reads)) c.see-cell.ensures.came

pub returns-then-names_place-clause-kept : goal.returns-then-names_place-clause-kept
returns-then-names_place-clause-kept g c = kept_more (step g (goal.at.returns-then-names_place-clause-kept g c).After-see-cell)

pub returns-then-names_place-clause-order : goal.returns-then-names_place-clause-order
returns-then-names_place-clause-order g c = c.see-cell.ensures.order ∙ c.span_at-span.ensures.order ∙ c.loop-at.invariant.order

pub returns-then-names_place-clause-device : goal.returns-then-names_place-clause-device
returns-then-names_place-clause-device g c = c.see-cell.ensures.device ∙ c.span_at-span.ensures.device ∙ c.loop-at.invariant.device

pub returns-clause-found : goal.returns-clause-found
returns-clause-found g c = c.loop-at.invariant.found

pub returns-clause-kept : goal.returns-clause-kept
returns-clause-kept g c = c.loop-at.invariant.kept

pub returns-clause-exact : goal.returns-clause-exact
returns-clause-exact g c = c.loop-at.invariant.exact

pub returns-clause-came : goal.returns-clause-came
returns-clause-came g c = c.loop-at.invariant.came

pub returns-clause-order : goal.returns-clause-order
returns-clause-order g c = c.loop-at.invariant.order

pub returns-clause-device : goal.returns-clause-device
returns-clause-device g c = c.loop-at.invariant.device

-- ---- clauses that say nothing of this answer
pub returns-then-none_lives-clause-first : goal.returns-then-none_lives-clause-first
returns-then-none_lives-clause-first g c = tt

pub returns-then-none_lives-clause-next : goal.returns-then-none_lives-clause-next
returns-then-none_lives-clause-next g c = tt

pub returns-then-none_lives-clause-inside : goal.returns-then-none_lives-clause-inside
returns-then-none_lives-clause-inside g c = tt

pub returns-then-none_lives-clause-lies : goal.returns-then-none_lives-clause-lies
returns-then-none_lives-clause-lies g c = tt

pub returns-then-none_lives-clause-cell : goal.returns-then-none_lives-clause-cell
returns-then-none_lives-clause-cell g c = tt

pub returns-then-names_place-clause-none : goal.returns-then-names_place-clause-none
returns-then-names_place-clause-none g c = tt

pub returns-clause-first : goal.returns-clause-first
returns-clause-first g c = tt

pub returns-clause-next : goal.returns-clause-next
returns-clause-next g c = tt

pub returns-clause-inside : goal.returns-clause-inside
returns-clause-inside g c = tt

pub returns-clause-lies : goal.returns-clause-lies
returns-clause-lies g c = tt

pub returns-clause-cell : goal.returns-clause-cell
returns-clause-cell g c = tt
