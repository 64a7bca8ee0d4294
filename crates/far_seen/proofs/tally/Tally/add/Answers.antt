use Rattle.std.proofs.Common.{◌≡◌, ◌<◌, ◌+◌, ℕ, List, [], ◌∷◌, true, Some, IfSome, MatchOption, length, sym, ◌∙◌, ap, subst, arith}
use Rattle.std.proofs.lemmas.Bool.{eqb-false}
use Rattle.std.proofs.lemmas.List.{length-append}
use Rattle.far_objects.specs.Far.{Far}
use Rattle.far_seen.specs.Lines.{Lines, stamp_of}
use Rattle.far_seen.specs.Listed.{all_of, counts_from, stamp_for}
use Rattle.far_seen.specs.Parts.{Bytes, Has, plain}
use Rattle.far_seen.specs.Tallied.{Tallied, counted, often, total}
use Rattle.far_seen.proofs.Counting.{counts_again, counts_first, counts_same, not_before, nowhere, often_again, often_first, total_again, total_first}
use Rattle.far_seen.proofs.Listing.{listed_kept}
use Rattle.far_seen.proofs.Placing.{stamps_kept}
use Rattle.far_seen.proofs.Wholes.{on_err, on_ok}
use Rattle.far_seen.proofs.tally.Tally.add.Given.{Over}
use Rattle.far_seen.proofs.tally.Tally.add.Goals.{After-count_again, After-tag_of_key-tag, In-Ok-None}
use Rattle.far_seen.proofs.tally.Tally.add.Goals as goal

some : (g : Over) (c : After-tag_of_key-tag g) → 0 < length c.args.line.now
some g c = omega (arith, eqb-false _ _ (sym c.if-is_empty.ensures))

within : (g : Over) (c : After-count_again g) → c.in-Ok-Some.place < length c.self.inside.roll.counts.items
within g c =
    let here : c.in-Ok-Some.place < length c.as_slice.result.now = subst (λ x. IfSome x (λ k. k < length c.as_slice.result.now)) c.in-Ok-Some.field-0-is c.in-Ok-Some.ensures.within in
    omega (arith, here, ap (λ (xs : List ℕ). length xs) c.as_slice.ensures.value, c.self.invariant.2.long)

-- ---- a line that came before
pub returns-in-Ok-Some-clause-counted : goal.returns-in-Ok-Some-clause-counted
returns-in-Ok-Some-clause-counted g c = λ h.
    let r = c.self.inside.roll in
    let f = all_of (g.O.Objects.far r.store.worker) r.store.longs.items r.numbers.items in
    let found = c.in-Ok-Some.ensures in
    let o : f.honest ≡ true = ap (λ (t : Tallied). t.honest) c.self.view_is ∙ h in
    let a = (goal.at.returns-in-Ok-Some-clause-counted g c).After-count_again in
    let there : f.bytes c.in-Ok-Some.place ≡ Some c.args.line.now =
    (λ i. (all_of (g.O.Objects.far r.store.worker) r.store.longs.items (sym c.as_slice.ensures.value i)).bytes c.in-Ok-Some.place)
    ∙ subst (λ x. MatchOption x (Has (all_of (g.O.Objects.far r.store.worker) r.store.longs.items c.as_slice.result.now).bytes r.near.slots c.args.line.now → ⊥)
    (λ k. (all_of (g.O.Objects.far r.store.worker) r.store.longs.items c.as_slice.result.now).bytes k ≡ Some c.args.line.now)) c.in-Ok-Some.field-0-is (found.there o) in
    on_ok c.count_again.result _ _ (λ e.
    (λ i. counts_from (all_of (found.far i) (found.longs i).items r.numbers.items).bytes 0 (e i))
    ∙ counts_again f.bytes c.args.line.now c.in-Ok-Some.place r.counts.items (within g a) there
    (not_before (plain f r.near) r.numbers.items r.counts.items c.self.invariant.1 c.self.invariant.2 c.args.line.now (some g (goal.at.returns-in-Ok-Some-clause-counted g c).After-tag_of_key-tag) o c.in-Ok-Some.place (within g a) there)
    ∙ ap (λ (t : Tallied). counted t.lines c.args.line.now) c.self.view_is)
    c.count_again.ensures.more

pub returns-in-Ok-Some-clause-total : goal.returns-in-Ok-Some-clause-total
returns-in-Ok-Some-clause-total g c =
    let r = c.self.inside.roll in
    let f = all_of (g.O.Objects.far r.store.worker) r.store.longs.items r.numbers.items in
    let b = (all_of (g.O.Objects.far c.find_line.new.store.worker) c.find_line.new.store.longs.items r.numbers.items).bytes in
    on_ok c.count_again.result _ _ (λ e.
    ap (λ cs. total (counts_from b 0 cs)) e ∙ total_again f.bytes b r.counts.items c.in-Ok-Some.place (within g (goal.at.returns-in-Ok-Some-clause-total g c).After-count_again)
    ∙ ap (λ (t : Tallied). total t.lines + 1) c.self.view_is)
    c.count_again.ensures.more

pub returns-in-Ok-Some-clause-stamps : goal.returns-in-Ok-Some-clause-stamps
returns-in-Ok-Some-clause-stamps g c =
    let r = c.self.inside.roll in
    let b = stamp_for (all_of (g.O.Objects.far r.store.worker) r.store.longs.items r.numbers.items).sizes r.near.slots in
    let s = stamp_of r.near.seed c.args.line.now in
    let found = c.in-Ok-Some.ensures in
    let a = (goal.at.returns-in-Ok-Some-clause-stamps g c).After-count_again in
    let there : b c.in-Ok-Some.place ≡ Some s =
    (λ i. stamp_for (all_of (g.O.Objects.far r.store.worker) r.store.longs.items (sym c.as_slice.ensures.value i)).sizes r.near.slots c.in-Ok-Some.place)
    ∙ subst (λ x. IfSome x (λ k. stamp_for (all_of (g.O.Objects.far r.store.worker) r.store.longs.items c.as_slice.result.now).sizes r.near.slots k ≡ Some s)) c.in-Ok-Some.field-0-is found.known in
    on_ok c.count_again.result _ _ (λ e q.
    (λ i. often q (counts_from (stamp_for (all_of (found.far i) (found.longs i).items r.numbers.items).sizes r.near.slots) 0 (e i)))
    ∙ often_again b q s c.in-Ok-Some.place r.counts.items (within g a) there
    ∙ ap (λ (t : Tallied). often q ((stamp_of t.seed c.args.line.now, 1) ∷ t.stamps)) c.self.view_is)
    c.count_again.ensures.more

pub returns-in-Ok-Some-clause-refused : goal.returns-in-Ok-Some-clause-refused
returns-in-Ok-Some-clause-refused g c =
    let r = c.self.inside.roll in
    let found = c.in-Ok-Some.ensures in
    on_err c.count_again.result _ _ (λ e.
    (λ i. record {
      honest = (found.far i).honest;
      lines = counts_from (all_of (found.far i) (found.longs i).items r.numbers.items).bytes 0 (e i);
      seed = r.near.seed;
      stamps = counts_from (stamp_for (all_of (found.far i) (found.longs i).items r.numbers.items).sizes r.near.slots) 0 (e i);
    }) ∙ c.self.view_is)
    c.count_again.ensures.refused

pub returns-in-Err-clause-refused : goal.returns-in-Err-clause-refused
returns-in-Err-clause-refused g c =
    let r = c.self.inside.roll in
    let found = c.in-Err.ensures in
    (λ i. record {
      honest = (found.far i).honest;
      lines = counts_from (all_of (found.far i) (found.longs i).items r.numbers.items).bytes 0 r.counts.items;
      seed = r.near.seed;
      stamps = counts_from (stamp_for (all_of (found.far i) (found.longs i).items r.numbers.items).sizes r.near.slots) 0 r.counts.items;
    }) ∙ c.self.view_is

-- ---- a line that didn't
none : (g : Over) (c : In-Ok-None g) → (g.O.Objects.far c.self.inside.roll.store.worker).honest ≡ true →
    Has (all_of (g.O.Objects.far c.self.inside.roll.store.worker) c.self.inside.roll.store.longs.items c.self.inside.roll.numbers.items).bytes c.self.inside.roll.near.slots c.args.line.now → ⊥
none g c o =
    let r = c.self.inside.roll in
    subst (λ (ns : List ℕ). Has (all_of (g.O.Objects.far r.store.worker) r.store.longs.items ns).bytes r.near.slots c.args.line.now → ⊥) c.as_slice.ensures.value
    (subst (λ x. MatchOption x (Has (all_of (g.O.Objects.far r.store.worker) r.store.longs.items c.as_slice.result.now).bytes r.near.slots c.args.line.now → ⊥)
    (λ k. (all_of (g.O.Objects.far r.store.worker) r.store.longs.items c.as_slice.result.now).bytes k ≡ Some c.args.line.now)) c.in-Ok-None.field-0-is (c.in-Ok-None.ensures.there o))

pub enter-requires-clause-absent : goal.enter-requires-clause-absent
enter-requires-clause-absent g c = λ o.
    let r = c.self.inside.roll in
    let found = c.in-Ok-None.ensures in
    subst (λ (b : Bytes). Has b r.near.slots c.args.line.now → ⊥) (λ i. (all_of (sym found.far i) (sym found.longs i).items r.numbers.items).bytes)
    (none g (goal.at.enter-requires-clause-absent g c).In-Ok-None (ap (λ (t : Far). t.honest) (sym found.far) ∙ o))

pub invariant_of-self-in-Ok : goal.invariant_of-self-in-Ok
invariant_of-self-in-Ok g c =
    let r = c.enter.new.roll in (
      c.in-Ok.ensures.stored,
      c.make_roomy.ensures.sound (all_of (g.O.Objects.far r.store.worker) r.store.longs.items r.numbers.items) c.in-Ok.ensures.sound,
      listed_kept r.near.slots c.make_roomy.new.near.slots r.numbers.items r.counts.items c.in-Ok.ensures.listed c.make_roomy.ensures.kept,
    )

pub returns-in-Ok-clause-counted : goal.returns-in-Ok-clause-counted
returns-in-Ok-clause-counted g c = λ h.
    let r = c.self.inside.roll in
    let f = all_of (g.O.Objects.far r.store.worker) r.store.longs.items r.numbers.items in
    let n = c.enter.new.roll in
    let d = (all_of (g.O.Objects.far n.store.worker) n.store.longs.items n.numbers.items).bytes in
    let found = c.in-Ok-None.ensures in
    let o : f.honest ≡ true = ap (λ (t : Tallied). t.honest) c.self.view_is ∙ h in
    ap (counts_from d 0) c.in-Ok.ensures.counts
    ∙ counts_first f.bytes d r.counts.items c.args.line.now
    (λ j l. c.in-Ok.ensures.before j (omega (arith, l, c.self.invariant.2.long)) ∙ (λ i. (all_of (found.far i) (found.longs i).items r.numbers.items).bytes j))
    (ap d c.self.invariant.2.long ∙ c.in-Ok.ensures.last (ap (λ (t : Far). t.honest) found.far ∙ o))
    (nowhere (plain f r.near) r.numbers.items r.counts.items c.self.invariant.1 c.self.invariant.2 c.args.line.now (some g (goal.at.returns-in-Ok-clause-counted g c).After-tag_of_key-tag) (none g (goal.at.returns-in-Ok-clause-counted g c).In-Ok-None o))
    ∙ ap (λ (t : Tallied). counted t.lines c.args.line.now) c.self.view_is

pub returns-in-Ok-clause-total : goal.returns-in-Ok-clause-total
returns-in-Ok-clause-total g c =
    let r = c.self.inside.roll in
    let f = all_of (g.O.Objects.far r.store.worker) r.store.longs.items r.numbers.items in
    let n = c.enter.new.roll in
    let d = (all_of (g.O.Objects.far n.store.worker) n.store.longs.items n.numbers.items).bytes in
    ap (λ cs. total (counts_from d 0 cs)) c.in-Ok.ensures.counts ∙ total_first f.bytes d r.counts.items ∙ ap (λ (t : Tallied). total t.lines + 1) c.self.view_is

pub returns-in-Ok-clause-seed : goal.returns-in-Ok-clause-seed
returns-in-Ok-clause-seed g c =
    let n = c.enter.new.roll in
    ap (λ (t : Lines). t.seed) (c.make_roomy.ensures.same (all_of (g.O.Objects.far n.store.worker) n.store.longs.items n.numbers.items) c.in-Ok.ensures.sound)
    ∙ c.in-Ok.ensures.seed ∙ ap (λ (t : Tallied). t.seed) c.self.view_is

pub returns-in-Ok-clause-stamps : goal.returns-in-Ok-clause-stamps
returns-in-Ok-clause-stamps g c = λ q.
    let r = c.self.inside.roll in
    let n = c.enter.new.roll in
    let f = all_of (g.O.Objects.far n.store.worker) n.store.longs.items n.numbers.items in
    let b = stamp_for (all_of (g.O.Objects.far r.store.worker) r.store.longs.items r.numbers.items).sizes r.near.slots in
    let d = stamp_for f.sizes c.make_roomy.new.near.slots in
    let found = c.in-Ok-None.ensures in
    let one = ap (λ (xs : List ℕ). length xs) c.in-Ok.ensures.counts in
    let kept : (j : ℕ) → j < length n.numbers.items → d j ≡ stamp_for f.sizes n.near.slots j =
    stamps_kept (plain f n.near) (plain f c.make_roomy.new.near) n.numbers.items n.counts.items c.in-Ok.ensures.sound (c.make_roomy.ensures.sound f c.in-Ok.ensures.sound) c.in-Ok.ensures.listed (λ k x e. e) c.make_roomy.ensures.kept in
    ap (λ cs. often q (counts_from d 0 cs)) c.in-Ok.ensures.counts
    ∙ often_first b d q (stamp_of r.near.seed c.args.line.now) r.counts.items
    (λ j l. kept j (omega (arith, l, c.in-Ok.ensures.listed.long, one, length-append r.counts.items (1 ∷ [])))
    ∙ c.in-Ok.ensures.stamps j (omega (arith, l, c.self.invariant.2.long)) ∙ (λ i. stamp_for (all_of (found.far i) (found.longs i).items r.numbers.items).sizes r.near.slots j))
    (kept (length r.counts.items) (omega (arith, c.in-Ok.ensures.listed.long, one, length-append r.counts.items (1 ∷ [])))
    ∙ ap (stamp_for f.sizes n.near.slots) c.self.invariant.2.long ∙ c.in-Ok.ensures.stamp)
    ∙ ap (λ (t : Tallied). often q ((stamp_of t.seed c.args.line.now, 1) ∷ t.stamps)) c.self.view_is

pub returns-in-Err-enter-clause-refused : goal.returns-in-Err-enter-clause-refused
returns-in-Err-enter-clause-refused g c =
    let r = c.self.inside.roll in
    let f = all_of (g.O.Objects.far r.store.worker) r.store.longs.items r.numbers.items in
    let n = c.enter.new.roll in
    let d = (all_of (g.O.Objects.far n.store.worker) n.store.longs.items n.numbers.items).bytes in
    let found = c.in-Ok-None.ensures in
    let lines : counts_from d 0 n.counts.items ≡ counts_from f.bytes 0 r.counts.items =
    ap (counts_from d 0) c.in-Err-enter.ensures.err
    ∙ counts_same f.bytes d 0 r.counts.items (λ j low up. c.in-Err-enter.ensures.before j (omega (arith, up, c.self.invariant.2.long)) ∙ (λ i. (all_of (found.far i) (found.longs i).items r.numbers.items).bytes j)) in
    let s = stamp_for (all_of (g.O.Objects.far n.store.worker) n.store.longs.items n.numbers.items).sizes n.near.slots in
    let stamps : counts_from s 0 n.counts.items ≡ counts_from (stamp_for f.sizes r.near.slots) 0 r.counts.items =
    ap (counts_from s 0) c.in-Err-enter.ensures.err
    ∙ counts_same (stamp_for f.sizes r.near.slots) s 0 r.counts.items
    (λ j low up. c.in-Err-enter.ensures.stamps j (omega (arith, up, c.self.invariant.2.long)) ∙ (λ i. stamp_for (all_of (found.far i) (found.longs i).items r.numbers.items).sizes r.near.slots j)) in
    (λ i. record { honest = (c.in-Err-enter.ensures.honest ∙ ap (λ (t : Far). t.honest) found.far) i; lines = lines i; seed = c.in-Err-enter.ensures.seed i; stamps = stamps i }) ∙ c.self.view_is
