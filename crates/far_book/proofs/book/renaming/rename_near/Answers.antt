use Rattle.far_book.proofs.book.renaming.rename_near.Given.{Over}
use Rattle.far_book.proofs.book.renaming.rename_near.Goals.{After-rename, Else-is_dropped}
use Rattle.far_book.proofs.book.renaming.rename_near.Goals as goal
use Rattle.std.proofs.Common.{◌≡◌, ◌∙◌, IfOk, ap, arith, subst, sym, false, true}
use Rattle.far_word.specs.Pointer.{read_of}
use Rattle.far_events.specs.declared.event.Event.TheVariants.{Name}
use Rattle.far_events.specs.events.Naming.{is_dropped}
use Rattle.far_events.specs.events.Step.{after}
use Rattle.far_events.specs.state.Law.{is_dirty}
use Rattle.far_hand.specs.Came.{Came, only}
use Rattle.far_hand.specs.Finds.{Finds}
use Rattle.far_hand.proofs.Closure.{then_came}
use Rattle.far_book.specs.book.Effects.{near_word}
use Rattle.far_book.specs.book.Only.{Names, NamesNear}
use Rattle.far_book.specs.book.Renaming.{MayRename, Renamed}
use Rattle.far_book.proofs.region.Renamings.{found_after, kept_after}
use Rattle.far_book.proofs.region.RenamingsNear.{may_first, may_second, named_first, named_second, names_near, stops_dirty, stops_dropped}

-- ---- the first naming, by a word that has DIRTY as it was known
module _ (g : Over) (c : After-rename g) where
  word : c.near_word-new.result ≡ near_word (is_dirty (read_of c.args.found)) c.args.len c.args.ds c.args.place
  word = c.near_word-new.ensures ∙ ap (λ d. near_word d c.args.len c.args.ds c.args.place) c.is_dirty.ensures

  names : Came (only (NamesNear c.args.pointer c.args.len c.args.ds c.args.place) g.N.Near.makes) c.args.near.now c.rename.new.near
  names = names_near c.args.pointer (is_dirty (read_of c.args.found)) c.args.len c.args.ds c.args.place
      (subst (λ v. Came (only (Names c.args.pointer v) g.N.Near.makes) c.args.near.now c.rename.new.near) word c.rename.ensures.names)

pub rename-requires-clause-may : goal.rename-requires-clause-may
rename-requires-clause-may g c =
    let s = g.N.Near.view c.args.near.now in
    let word = c.near_word-new.ensures ∙ ap (λ d. near_word d c.args.len c.args.ds c.args.place) c.is_dirty.ensures in
    subst (MayRename s c.args.pointer) (sym word) (may_first s c.args.pointer c.args.len c.args.ds c.args.place c.requires.may c.args.found c.requires.found)

pub returns-in_default : goal.returns-in_default
returns-in_default g c =
    let s = g.N.Near.view c.args.near.now in
    let t = g.N.Near.view c.rename.new.near in
    let first = (goal.at.returns-in_default g c).After-rename in
    record {
      done = named_first s c.args.pointer c.args.len c.args.ds c.args.place t c.args.found (omega arith) c.requires.found c.requires.alive (subst (Renamed s t c.args.pointer) (word g first) c.in_default.ensures.done);
      set = λ still. subst (λ v. t ≡ after s (Name c.args.pointer c.args.found v)) (word g first) (c.in_default.ensures.set still);
      won = λ still. tt;
      fits = tt;
      found = tt;
      dropped = tt;
      kept = tt;
      names = names g first;
    }

pub returns-then-is_dropped : goal.returns-then-is_dropped
returns-then-is_dropped g c = record {
  done = tt;
  set = λ still. tt;
  won = c.in-Err.ensures.won;
  fits = c.in-Err.ensures.fits;
  found = c.in-Err.ensures.found;
  dropped = sym c.is_dropped.ensures.value ∙ c.if-is_dropped.true;
  kept = c.in-Err.ensures.kept;
  names = names g (goal.at.returns-then-is_dropped g c).After-rename;
}

-- ---- the second, once DIRTY was found
module _ (g : Over) (c : Else-is_dropped g) where
  finds : Finds ((g.N.Near.view c.args.near.now).cell c.args.pointer) c.in-Err.word
  finds = subst (λ v. Finds v c.in-Err.word) c.requires.found c.in-Err.ensures.found

  alive : is_dropped (read_of c.in-Err.word) ≡ false
  alive = sym c.is_dropped.ensures.value ∙ c.if-is_dropped.false

  dirty : is_dirty (read_of c.in-Err.word) ≡ true
  dirty = stops_dirty c.args.found c.in-Err.word alive c.in-Err.ensures.stopped

pub rename-requires-2-clause-may : goal.rename-requires-2-clause-may
rename-requires-2-clause-may g c =
    let s = g.N.Near.view c.args.near.now in
    let t = g.N.Near.view c.rename.new.near in
    let now = (goal.at.rename-requires-2-clause-may g c).Else-is_dropped in
    subst (MayRename t c.args.pointer) (sym c.near_word.ensures)
    (may_second s c.args.pointer c.args.len c.args.ds c.args.place t c.in-Err.word c.in-Err.ensures.kept (finds g now) (dirty g now) c.requires.may)

pub returns : goal.returns
returns g c =
    let s = g.N.Near.view c.args.near.now in
    let t = g.N.Near.view c.rename.new.near in
    let u = g.N.Near.view c.rename-2.new.near in
    let now = (goal.at.returns g c).Else-is_dropped in
    let done = subst (λ v. IfOk c.rename-2.result (λ _. Renamed t u c.args.pointer v)) c.near_word.ensures c.rename-2.ensures.done in
    let last = names_near c.args.pointer true c.args.len c.args.ds c.args.place
    (subst (λ v. Came (only (Names c.args.pointer v) g.N.Near.makes) c.rename.new.near c.rename-2.new.near) c.near_word.ensures c.rename-2.ensures.names) in
    record {
      done = named_second s c.args.pointer c.args.len c.args.ds c.args.place t c.in-Err.word c.in-Err.ensures.kept (finds g now) (dirty g now) c.rename-2.result u c.in-Err.ensures.fits (alive g now) done;
      set = λ still. absurd (c.in-Err.ensures.won still);
      won = λ still. absurd (c.in-Err.ensures.won still);
      fits = c.rename-2.ensures.fits;
      found = found_after c.rename-2.result c.args.found c.in-Err.word c.in-Err.ensures.found c.rename-2.ensures.found;
      dropped = stops_dropped c.rename-2.result c.in-Err.word (dirty g now) c.rename-2.ensures.stopped;
      kept = kept_after s t c.args.pointer c.in-Err.word c.in-Err.ensures.kept (finds g now) c.rename-2.result u c.rename-2.ensures.kept;
      names = then_came (names g (goal.at.returns g c).After-rename) last;
    }
