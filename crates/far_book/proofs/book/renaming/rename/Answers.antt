use Rattle.far_book.proofs.book.renaming.rename.Goals as goal
use Rattle.std.proofs.Common.{◌≡◌, ◌∙◌, arith, false, refl, subst, sym}
use Rattle.far_word.specs.Pointer.{read_of}
use Rattle.far_book.specs.book.Renaming.{stops}
use Rattle.far_hand.specs.Finds.{Finds}
use Rattle.far_book.proofs.region.Renamings.{done_after, found_after, kept_after, may_after, may_now, not_by_itself, renamed_now, stopped_after, won_after}
use Rattle.far_hand.proofs.Closure.{first_call, then_came}
use Rattle.far_hand.proofs.Finding.{finds_is}

pub name-requires-clause-legal : goal.name-requires-clause-legal
name-requires-clause-legal g c = may_now (g.N.Near.view c.args.near.now) c.args.pointer c.args.found c.args.new c.requires.found (omega arith) c.requires.alive c.requires.may

pub rename_marked-requires-clause-may : goal.rename_marked-requires-clause-may
rename_marked-requires-clause-may g c =
    let s = g.N.Near.view c.args.near.now in
    may_after s (g.N.Near.view c.name.new.self) c.args.pointer c.in-Err.other c.in-Err.ensures.kept (subst (λ v. Finds v c.in-Err.other) c.requires.found c.in-Err.ensures.found) (subst (λ v. stops (read_of v) (read_of c.in-Err.other) ≡ false) c.requires.found (sym c.stops.ensures.value ∙ c.if-stops.false)) c.args.new c.requires.may

pub returns-in-Ok : goal.returns-in-Ok
returns-in-Ok g c = record {
  done = renamed_now (g.N.Near.view c.args.near.now) c.args.pointer c.args.found c.args.new c.requires.found (g.N.Near.view c.name.new.self) c.requires.alive c.in-Ok.ensures.done c.in-Ok.ensures.stored c.in-Ok.ensures.forgot;
  set = c.in-Ok.ensures.set;
  won_by = record {
    before = c.args.near.now;
    word = c.args.found;
    found = finds_is c.args.found c.args.found refl;
    goes_on = not_by_itself (read_of c.args.found) c.requires.alive;
    made = c.in-Ok.ensures.made;
  };
  won = λ still. tt;
  fits = tt;
  found = tt;
  stopped = tt;
  kept = tt;
  names = first_call _ _ ((c.args.found, refl), c.in-Ok.ensures.made);
}

pub returns-then-stops : goal.returns-then-stops
returns-then-stops g c = record {
  done = tt;
  set = λ still. tt;
  won_by = tt;
  won = c.in-Err.ensures.won;
  fits = c.stops.ensures.fits;
  found = c.in-Err.ensures.found;
  stopped = sym c.stops.ensures.value ∙ c.if-stops.true;
  kept = c.in-Err.ensures.kept;
  names = first_call _ _ ((c.args.found, refl), c.in-Err.ensures.lost);
}

pub returns-else-stops : goal.returns-else-stops
returns-else-stops g c =
    let s = g.N.Near.view c.args.near.now in
    let found = subst (λ v. Finds v c.in-Err.other) c.requires.found c.in-Err.ensures.found in
    let on = subst (λ v. stops (read_of v) (read_of c.in-Err.other) ≡ false) c.requires.found (sym c.stops.ensures.value ∙ c.if-stops.false) in
    record {
      done = done_after s (g.N.Near.view c.name.new.self) c.args.pointer c.in-Err.other c.in-Err.ensures.kept found on c.rename_marked.result c.args.new (g.N.Near.view c.rename_marked.new.near) c.rename_marked.ensures.done;
      set = λ still. absurd (c.in-Err.ensures.won still);
      won_by = won_after g.N.Near.makes c.rename_marked.new.near c.rename_marked.result c.args.pointer c.args.found c.in-Err.other c.args.new c.in-Err.ensures.found (sym c.stops.ensures.value ∙ c.if-stops.false) c.rename_marked.ensures.won_by;
      won = c.rename_marked.ensures.won;
      fits = c.rename_marked.ensures.fits;
      found = found_after c.rename_marked.result c.args.found c.in-Err.other c.in-Err.ensures.found c.rename_marked.ensures.found;
      stopped = stopped_after c.rename_marked.result c.args.found c.in-Err.other c.in-Err.ensures.found c.rename_marked.ensures.stopped;
      kept = kept_after s (g.N.Near.view c.name.new.self) c.args.pointer c.in-Err.other c.in-Err.ensures.kept found c.rename_marked.result (g.N.Near.view c.rename_marked.new.near) c.rename_marked.ensures.kept;
      names = then_came (first_call _ _ ((c.args.found, refl), c.in-Err.ensures.lost)) c.rename_marked.ensures.names;
    }
