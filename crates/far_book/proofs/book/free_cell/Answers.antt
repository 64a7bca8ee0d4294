use Rattle.far_book.proofs.book.free_cell.Goals as goal
use Rattle.std.proofs.Common.{◌∙◌, ◌*◌, ◌<◌, ◌^◌, ap, sym, subst, arith}
use Rattle.far_word.specs.declared.sizes.TheConstants.{CELLS}
use Rattle.far_word.specs.Pointer.{read_of}
use Rattle.far_word.proofs.PointerLaws.{word_fits}
use Rattle.far_events.specs.declared.event.Event.TheVariants.{Name}
use Rattle.far_events.specs.events.Step.{after}
use Rattle.far_events.specs.state.State.{State, put}
use Rattle.far_hand.proofs.Finding.{finds_more}
use Rattle.far_book.proofs.region.Calls.{after_is, dropped_counts, still_dropped, put_put, count_more, some_dropped}
use Rattle.far_book.proofs.region.Founds.{drop_found}
use Rattle.far_book.proofs.region.Retires.{may_retire}
use Rattle.far_hand.proofs.Knowing.{not_to_free}
use Rattle.far_hand.proofs.Closure.{first_call, then_call}

pub name-requires-clause-legal : goal.name-requires-clause-legal
name-requires-clause-legal g c =
    let h = c.loop.invariant in
    let inside : c.args.pointer < CELLS * (g.N.Near.view c.loop.near).mutators = subst (λ (s : State). c.args.pointer < CELLS * s.mutators) (sym h.kept) c.requires.pointer in
    may_retire (g.N.Near.view c.loop.near) c.args.pointer c.loop.word inside
    (still_dropped (g.N.Near.view c.args.near.now) (g.N.Near.view c.loop.near) c.args.pointer c.loop.word h.kept c.requires.dropped h.found)

pub returns-in-Ok-clause-kept : goal.returns-in-Ok-clause-kept
returns-in-Ok-clause-kept g c =
    let h = c.loop.invariant in
    let now = after_is (g.N.Near.view c.args.near.now) (g.N.Near.view c.loop.near) c.args.pointer c.loop.word h.kept c.requires.dropped h.found in
    let t = g.N.Near.view c.name.new.self in
    let stored = c.in-Ok.ensures.stored.kept (λ len place n. absurd (not_to_free _ len place n)) in
    c.in-Ok.ensures.done
    ∙ (λ i. record (after (g.N.Near.view c.loop.near) (Name c.args.pointer c.loop.word 0)) { word = t.word; stored = stored i })
    ∙ (λ i. record (now i) { word = t.word })

pub returns-in-Ok-clause-exact : goal.returns-in-Ok-clause-exact
returns-in-Ok-clause-exact g c still =
    let h = c.loop.invariant in
    c.in-Ok.ensures.set still ∙ after_is (g.N.Near.view c.args.near.now) (g.N.Near.view c.loop.near) c.args.pointer c.loop.word h.kept c.requires.dropped h.found

pub says-was-requires-in-Err : goal.says-was-requires-in-Err
says-was-requires-in-Err g c =
    let h = c.loop.invariant in
    let dropped = still_dropped (g.N.Near.view c.args.near.now) (g.N.Near.view c.loop.near) c.args.pointer c.loop.word h.kept c.requires.dropped h.found in
    drop_found c.loop.word c.in-Err.found c.in-Err.ensures.found dropped

pub loop-preserved : goal.loop-preserved
loop-preserved g c =
    let h = c.loop.invariant in
    let dropped = still_dropped (g.N.Near.view c.args.near.now) (g.N.Near.view c.loop.near) c.args.pointer c.loop.word h.kept c.requires.dropped h.found in
    let old_fits : c.loop.word < 2 ^ 64 = subst (λ w. w < 2 ^ 64) h.word (word_fits c.loop.was h.layout) in
    let new_fits : c.in-Err.found < 2 ^ 64 = subst (λ w. w < 2 ^ 64) c.says-was-in-Err.ensures.word (word_fits c.says-was-in-Err.result c.says-was-in-Err.ensures.layout) in
    record {
      found = finds_more _ _ _ h.found c.in-Err.ensures.found;
      kept = c.in-Err.ensures.kept ∙ ap (λ (s : State). record s { cell = put s.cell c.args.pointer c.in-Err.found }) h.kept
          ∙ (λ i. record (g.N.Near.view c.args.near.now) { cell = put_put (g.N.Near.view c.args.near.now).cell c.args.pointer c.loop.word c.in-Err.found i });
      came = then_call _ _ h.came c.in-Err.ensures.lost;
      is = c.says-was-in-Err.ensures.is;
      layout = c.says-was-in-Err.ensures.layout;
      word = c.says-was-in-Err.ensures.word;
      tries = omega (arith, h.tries, count_more c.loop.word c.in-Err.found old_fits new_fits (some_dropped (read_of c.loop.word) dropped) c.in-Err.ensures.found c.in-Err.ensures.other);
    }

pub name-requires-clause-known : goal.name-requires-clause-known
name-requires-clause-known g c len place n i lt = absurd (not_to_free _ len place n)

pub loop-init : goal.loop-init
loop-init g c = record {
  found = c.see-word.ensures.found;
  kept = c.see-word.ensures.kept;
  came = first_call _ _ c.see-word.ensures.made;
  is = c.says-was.ensures.is;
  layout = c.says-was.ensures.layout;
  word = c.says-was.ensures.word;
  tries = dropped_counts (read_of c.see-word.result) (drop_found _ c.see-word.result c.see-word.ensures.found c.requires.dropped);
}

pub returns-in-Ok-clause-came : goal.returns-in-Ok-clause-came
returns-in-Ok-clause-came g c = then_call _ _ c.loop.invariant.came c.in-Ok.ensures.made
