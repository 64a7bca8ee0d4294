use Rattle.std.proofs.Common.{List, ℕ, refl, sym, ap, ◌∙◌, subst}
use Rattle.std.specs.Fn.{CalledAtTwo}
use Rattle.std.specs.Map.Iter.{deref_pair}
use Rattle.std.proofs.lemmas.Map.Iter.{rest_more}
use Rattle.far_objects.specs.Far.{Far}
use Rattle.far_map.specs.Listed.{StepsAtEach}
use Rattle.far_dict.specs.Longs.{AreWhole, IsWhole, value_of, valued}
use Rattle.far_dict.specs.Names.{rows}
use Rattle.far_dict.proofs.Told.{rows_whole}
use Rattle.far_dict.proofs.Rows.{row_entries}
use Rattle.far_dict.proofs.reading.visit_rows.Goals as goal

pub loop-key-init : goal.loop-key-init
loop-key-init g c =
    let far = g.O.Objects.far c.args.worker.now in
    let all = c.args.table.now.entries in
    let gives = c.into_iter-key-iterator.ensures.into_iter_gives in
    record {
      callable = c.requires.callable;
      far = refl;
      whole = subst (λ es. AreWhole far es) (sym gives.0) (rows_whole (λ k. k.items) far all gives.6 c.requires.whole);
      called = λ o last steps.
          subst (λ es. StepsAtEach (λ p k v q. CalledAtTwo g.F.FnMut p k v tt q) c.args.visit.now (valued far es) last)
          ((λ i. rows (λ k. k.items) (gives.0 i)) ∙ sym (row_entries (λ k. k.items) all gives.5)) steps;
    }

pub visit_one-requires-clause-whole : goal.visit_one-requires-clause-whole
visit_one-requires-clause-whole g c =
    let at = c.loop-key in
    let more = rest_more deref_pair at.key-iterator c.next.new.self c.next.result (c.in-Some.key, c.in-Some.large) c.in-Some.is c.next.ensures.steps in
    let whole = subst (λ es. AreWhole (g.O.Objects.far c.args.worker.now) es) more at.invariant.whole in
    subst (λ f. IsWhole f c.in-Some.large.now) (sym at.invariant.far) whole.0

pub loop-key-preserved : goal.loop-key-preserved
loop-key-preserved g c =
    let at = c.loop-key in
    let so = at.invariant in
    let far = g.O.Objects.far c.args.worker.now in
    let more = rest_more deref_pair at.key-iterator c.next.new.self c.next.result (c.in-Some.key, c.in-Some.large) c.in-Some.is c.next.ensures.steps in
    let whole = subst (λ es. AreWhole far es) more so.whole in
    record {
      callable = c.visit_one.ensures.callable;
      far = c.visit_one.ensures.same ∙ so.far;
      whole = whole.1;
      called = λ o last steps.
          let called = c.in-Ok.ensures.called (ap (λ (f : Far). f.honest) so.far ∙ o) in
          let made = subst (λ (x : List ℕ × Far). CalledAtTwo g.F.FnMut at.visit x.0 (value_of x.1 c.in-Some.large.now) tt c.visit_one.new.visit) (λ i. (c.as_slice.ensures.value i, so.far i)) called in
          so.called o last
          (subst (λ es. StepsAtEach (λ p k v q. CalledAtTwo g.F.FnMut p k v tt q) at.visit (valued far (rows (λ k. k.items) es)) last) (sym more) (c.visit_one.new.visit, made, steps));
    }

pub returns-clause-called : goal.returns-clause-called
returns-clause-called g c = λ o.
    let at = c.loop-key in
    at.invariant.called o at.visit
    (subst (λ es. StepsAtEach (λ p k v q. CalledAtTwo g.F.FnMut p k v tt q) at.visit (valued (g.O.Objects.far c.args.worker.now) (rows (λ k. k.items) es)) at.visit) (sym c.in-None.ensures.steps.0) refl)
