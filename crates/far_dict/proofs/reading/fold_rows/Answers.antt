use Rattle.std.proofs.Common.{List, ℕ, Ok, Err, refl, sym, ap, ◌∙◌, subst}
use Rattle.std.specs.Map.Iter.{deref_pair}
use Rattle.std.proofs.lemmas.Map.Iter.{rest_more}
use Rattle.far_objects.specs.Far.{Far}
use Rattle.far_map.specs.Listed.{FoldsUntil, GivesAt}
use Rattle.far_map.proofs.Folding.{until_cons, until_stop}
use Rattle.far_dict.specs.Longs.{AreWhole, IsWhole, value_of, valued}
use Rattle.far_dict.specs.Names.{rows}
use Rattle.far_dict.proofs.Told.{rows_whole}
use Rattle.far_dict.proofs.Rows.{row_entries}
use Rattle.far_dict.proofs.reading.fold_rows.Given as given
use Rattle.far_dict.proofs.reading.fold_rows.Goals as goal

pub loop-key-init : goal.loop-key-init
loop-key-init g c =
    let far = g.O.Objects.far c.args.worker.now in
    let all = c.args.table.now.entries in
    let gives = c.into_iter-key-iterator.ensures.into_iter_gives in
    record {
      far = refl;
      whole = subst (λ es. AreWhole far es) (sym gives.0) (rows_whole (λ k. k.items) far all gives.6 c.requires.whole);
      folded = λ o r steps.
          subst (λ es. FoldsUntil (GivesAt (given.F-post g c.args.f.now)) c.args.first (valued far es) r)
          ((λ i. rows (λ k. k.items) (gives.0 i)) ∙ sym (row_entries (λ k. k.items) all gives.5)) steps;
    }

pub fold_one-requires-clause-whole : goal.fold_one-requires-clause-whole
fold_one-requires-clause-whole g c =
    let at = c.loop-key in
    let more = rest_more deref_pair at.key-iterator c.next.new.self c.next.result (c.in-Some.key, c.in-Some.large) c.in-Some.is c.next.ensures.steps in
    let whole = subst (λ es. AreWhole (g.O.Objects.far c.args.worker.now) es) more at.invariant.whole in
    subst (λ f. IsWhole f c.in-Some.large.now) (sym at.invariant.far) whole.0

pub loop-key-preserved : goal.loop-key-preserved
loop-key-preserved g c =
    let at = c.loop-key in
    let so = at.invariant in
    let far = g.O.Objects.far c.args.worker.now in
    let key = c.in-Some.key.now in
    let large = c.in-Some.large.now in
    let step = GivesAt (given.F-post g c.args.f.now) in
    let more = rest_more deref_pair at.key-iterator c.next.new.self c.next.result (c.in-Some.key, c.in-Some.large) c.in-Some.is c.next.ensures.steps in
    let whole = subst (λ es. AreWhole far es) more so.whole in
    record {
      far = c.fold_one.ensures.same ∙ so.far;
      whole = whole.1;
      folded = λ o r steps.
          let stepped = c.in-Ok-Ok.ensures.stepped (ap (λ (f : Far). f.honest) so.far ∙ o) in
          let made = subst (λ (x : List ℕ × Far). step at.folded x.0 (value_of x.1 large) c.in-Ok-Ok.field-0) (λ i. (c.as_slice.ensures.value i, so.far i)) stepped in
          so.folded o r
          (subst (λ es. FoldsUntil step at.folded (valued far (rows (λ k. k.items) es)) r) (sym more)
          (until_cons step (key.items, value_of far large) (valued far (rows (λ k. k.items) c.next.new.self)) at.folded c.in-Ok-Ok.next r
          (subst (step at.folded key.items (value_of far large)) c.in-Ok-Ok.field-0-is made) steps));
    }

pub returns-in-Ok-Err-clause-folded : goal.returns-in-Ok-Err-clause-folded
returns-in-Ok-Err-clause-folded g c = λ o.
    let at = c.loop-key in
    let so = at.invariant in
    let far = g.O.Objects.far c.args.worker.now in
    let key = c.in-Some.key.now in
    let large = c.in-Some.large.now in
    let step = GivesAt (given.F-post g c.args.f.now) in
    let more = rest_more deref_pair at.key-iterator c.next.new.self c.next.result (c.in-Some.key, c.in-Some.large) c.in-Some.is c.next.ensures.steps in
    let stepped = c.in-Ok-Err.ensures.stepped (ap (λ (f : Far). f.honest) so.far ∙ o) in
    let made = subst (λ (x : List ℕ × Far). step at.folded x.0 (value_of x.1 large) c.in-Ok-Err.field-0) (λ i. (c.as_slice.ensures.value i, so.far i)) stepped in
    so.folded o (Err c.in-Ok-Err.stop)
    (subst (λ es. FoldsUntil step at.folded (valued far (rows (λ k. k.items) es)) (Err c.in-Ok-Err.stop)) (sym more)
    (until_stop step (key.items, value_of far large) (valued far (rows (λ k. k.items) c.next.new.self)) at.folded c.in-Ok-Err.stop
    (subst (step at.folded key.items (value_of far large)) c.in-Ok-Err.field-0-is made)))

pub returns-clause-folded : goal.returns-clause-folded
returns-clause-folded g c = λ o.
    let at = c.loop-key in
    at.invariant.folded o (Ok at.folded)
    (subst (λ es. FoldsUntil (GivesAt (given.F-post g c.args.f.now)) at.folded (valued (g.O.Objects.far c.args.worker.now) (rows (λ k. k.items) es)) (Ok at.folded)) (sym c.in-None.ensures.steps.0) refl)
