use Rattle.std.proofs.Common.{◌≡◌, length, inl, inr, sym, ap, ◌∙◌}
use Rattle.far_word.specs.declared.sizes.TheConstants.{CELLS}
use Rattle.far_table.specs.Views.{object_at}
use Rattle.far_heap.specs.Mine.{Mine, dropping, mine_of, seen, uses, views}
use Rattle.far_heap.proofs.OwnRows.{length-own_row}
use Rattle.far_heap.proofs.OwnSteps.{viewed_used}
use Rattle.far_heap.proofs.Undone.{adopted_used, undone, unviewed}
use Rattle.far_heap.proofs.own.Own.adopt_new.Goals as goal

pub ask_drop-requires-clause-used : goal.ask_drop-requires-clause-used
ask_drop-requires-clause-used g c =
    let s = c.self.inside.seat in
    let many : length c.args.self.now.objects ≡ CELLS = ap (λ (m : Mine). length m.objects) (sym c.self.view_is) ∙ length-own_row (λ p. seen s.view.honest (object_at s.view p)) s.view.number in
    ap (λ (m : Mine). uses m c.args.p) c.in-Some.ensures.adopted.2 ∙ adopted_used c.args.self.now many c.args.p c.in-Some.found c.in-Some.of c.requires

pub ask_drop-requires-clause-free : goal.ask_drop-requires-clause-free
ask_drop-requires-clause-free g c =
    let s = c.self.inside in
    let unused = sym c.has.ensures ∙ c.if-has.false in
    let quiet = unviewed (views (mine_of s.seat) c.args.p) (uses (mine_of s.seat) c.args.p) (viewed_used s.seat _ s.number s.rows c.self.invariant.0 c.args.p) (ap (λ (m : Mine). uses m c.args.p) c.self.view_is ∙ unused) in
    ap (λ (m : Mine). views m c.args.p) c.in-Some.ensures.adopted.2 ∙ (ap (λ (m : Mine). views m c.args.p) (sym c.self.view_is) ∙ quiet)

pub returns-else-found-len-clause-kept : goal.returns-else-found-len-clause-kept
returns-else-found-len-clause-kept g c = λ _.
    c.ask_drop.ensures.dropped ∙ ap (dropping c.args.p) c.in-Some.ensures.adopted.2 ∙ undone c.args.self.now c.args.p c.in-Some.found c.in-Some.of c.requires (sym c.has.ensures ∙ c.if-has.false)

pub returns-else-found-len-clause-other : goal.returns-else-found-len-clause-other
returns-else-found-len-clause-other g c = λ _ _.
    let f = c.in-Some.ensures.found in (
    inl (
      f.0,
      c.adopt.new.self,
      f.1,
      λ len ds. elim c.else-found-len.either [
        | inl same ↦ same.1 (f.3 ∙ ds)
        | inr ne ↦ ne (f.2 ∙ len)
      ],
    )
    )
