use Rattle.std.proofs.Common.{◌≡◌, ◌∙◌, sym, subst, ℕ, ap, arith, false, refl}
use Rattle.far_events.specs.declared.event.Event.TheVariants.{Name}
use Rattle.far_events.specs.events.Step.{after}
use Rattle.far_events.specs.state.State.{State, put}
use Rattle.far_hand.proofs.Finding.{finds_more, some_found}
use Rattle.far_book.specs.book.Renaming.{seen, stops}
use Rattle.far_hand.specs.Finds.{Finds}
use Rattle.far_hand.specs.Known.{Forgets, StoresLeaving}
use Rattle.far_book.proofs.region.Calls.{put_put, count_more}
use Rattle.far_word.specs.Pointer.{read_of}
use Rattle.far_book.proofs.region.Renamings.{chain, same_seen, stops_too}
use Rattle.far_book.proofs.region.Dirt.{up_by}
use Rattle.far_book.proofs.book.renaming.rename_marked.Goals as goal
use Rattle.far_hand.proofs.Closure.{then_call}

pub loop-preserved : goal.loop-preserved
loop-preserved g c =
    let h = c.loop.invariant in
    let s = g.N.Near.view c.args.near.now in
    record {
      fits = c.stops.ensures.fits;
      found = finds_more (s.cell c.args.pointer) c.loop.word c.in-Err.more h.found c.in-Err.ensures.found;
      kept = c.in-Err.ensures.kept ∙ ap (λ (u : State). record u { cell = put u.cell c.args.pointer c.in-Err.more }) h.kept
          ∙ (λ i. record s { cell = put_put s.cell c.args.pointer c.loop.word c.in-Err.more i });
      names = then_call _ _ h.names ((c.loop.word, refl), c.in-Err.ensures.lost);
      readable = some_found c.loop.word c.in-Err.more c.in-Err.ensures.found h.readable;
      alive = chain (read_of c.args.found) (read_of c.loop.word) (read_of c.in-Err.more) h.alive (sym c.stops.ensures.value ∙ c.if-stops.false);
      dirty = λ h2. up_by (read_of c.loop.word) (read_of c.in-Err.more) c.in-Err.ensures.found.body c.in-Err.ensures.found.dirty (h.dirty h2);
      same = λ still. absurd (c.in-Err.ensures.won still);
      tries = omega (arith, h.tries, count_more c.loop.word c.in-Err.more h.fits c.stops.ensures.fits h.readable c.in-Err.ensures.found c.in-Err.ensures.other);
    }

pub returns-in-Ok : goal.returns-in-Ok
returns-in-Ok g c =
    let h = c.loop.invariant in
    let s = g.N.Near.view c.args.near.now in
    let t = g.N.Near.view c.name.new.self in
    record {
      done = record {
        word = c.loop.word;
        found = h.found;
        alive = subst (λ v. stops (read_of v) (read_of c.loop.word) ≡ false) c.requires.found h.alive;
        leads = c.in-Ok.ensures.done ∙ ap (λ (u : State). record (after u (Name c.args.pointer c.loop.word c.args.new)) { word = t.word; stored = t.stored }) h.kept;
        stored = subst (λ (u : State). StoresLeaving u t c.args.pointer c.loop.word c.args.new) h.kept c.in-Ok.ensures.stored;
        forgot = subst (λ (u : State). Forgets u t) h.kept c.in-Ok.ensures.forgot;
      };
      set = λ still. c.in-Ok.ensures.set still
          ∙ ap (λ (u : State). after u (Name c.args.pointer c.loop.word c.args.new)) h.kept
          ∙ ap (λ (w : ℕ). after (seen s c.args.pointer w) (Name c.args.pointer w c.args.new)) (h.same still)
          ∙ ap (λ (u : State). after u (Name c.args.pointer c.args.found c.args.new)) (same_seen s c.args.pointer c.args.found c.args.new c.requires.found);
      won_by = record {
        before = c.loop.near;
        word = c.loop.word;
        found = subst (λ v. Finds v c.loop.word) (sym c.requires.found) h.found;
        goes_on = h.alive;
        made = c.in-Ok.ensures.made;
      };
      won = λ still. tt;
      fits = tt;
      found = tt;
      stopped = tt;
      kept = tt;
      names = then_call _ _ h.names ((c.loop.word, refl), c.in-Ok.ensures.made);
    }

pub returns-then-stops : goal.returns-then-stops
returns-then-stops g c = record {
  done = tt;
  set = λ still. tt;
  won_by = tt;
  won = c.in-Err.ensures.won;
  fits = c.stops.ensures.fits;
  found = finds_more c.args.found c.loop.word c.in-Err.more (subst (λ v. Finds v c.loop.word) (sym c.requires.found) c.loop.invariant.found) c.in-Err.ensures.found;
  stopped = stops_too (read_of c.args.found) (read_of c.loop.word) (read_of c.in-Err.more) c.loop.invariant.dirty (sym c.stops.ensures.value ∙ c.if-stops.true);
  kept = c.in-Err.ensures.kept ∙ ap (λ (u : State). record u { cell = put u.cell c.args.pointer c.in-Err.more }) c.loop.invariant.kept
      ∙ (λ i. record (g.N.Near.view c.args.near.now) { cell = put_put (g.N.Near.view c.args.near.now).cell c.args.pointer c.loop.word c.in-Err.more i });
  names = then_call _ _ c.loop.invariant.names ((c.loop.word, refl), c.in-Err.ensures.lost);
}
