use Rattle.std.proofs.Common.{◌≡◌, true, not, refl, sym, ap, ◌∙◌}
use Rattle.std.specs.FinSet as set
use Rattle.far_objects.specs.Far.{Far}
use Rattle.far_seen.specs.declared.near.Near.{Near}
use Rattle.far_seen.specs.Lines.{Lines, stamp_of}
use Rattle.far_seen.specs.Stored.{with_longs}
use Rattle.far_seen.specs.Parts.{line_in, lines_of, plain, set_in, stamp_in}
use Rattle.far_seen.proofs.Members.{contains_said, told, put_again}
use Rattle.far_seen.proofs.seen.Seen.first.Goals as goal

pub returns-in-Ok-true-clause-first : goal.returns-in-Ok-true-clause-first
returns-in-Ok-true-clause-first g c = λ h.
    let p = c.self.inside.parts in
    let f = with_longs (g.O.Objects.far p.store.worker) p.store.longs.items in
    let o : f.honest ≡ true = ap (λ (t : Lines). t.honest) c.self.view_is ∙ h in
    let there = told c.args.self.now.lines (line_in f.bytes) p.near.slots c.args.line.now c.in-Ok-true.field-0 refl (ap (λ (t : Lines). t.lines) c.self.view_is) (c.in-Ok-true.ensures.there o) in
    sym (ap not (there ∙ c.in-Ok-true.field-0-test))

pub returns-in-Ok-true-clause-put : goal.returns-in-Ok-true-clause-put
returns-in-Ok-true-clause-put g c = λ h.
    let p = c.self.inside.parts in
    let f = with_longs (g.O.Objects.far p.store.worker) p.store.longs.items in
    let o : f.honest ≡ true = ap (λ (t : Lines). t.honest) c.self.view_is ∙ h in
    let there = told c.args.self.now.lines (line_in f.bytes) p.near.slots c.args.line.now c.in-Ok-true.field-0 refl (ap (λ (t : Lines). t.lines) c.self.view_is) (c.in-Ok-true.ensures.there o) in
    (λ i. set_in (line_in (with_longs (c.in-Ok-true.ensures.far i) (c.in-Ok-true.ensures.longs i).items).bytes) (c.in-Ok-true.ensures.near i).slots)
    ∙ ap (λ (t : Lines). t.lines) c.self.view_is
    ∙ put_again c.args.self.now.lines c.args.line.now (there ∙ c.in-Ok-true.field-0-test)

pub returns-in-Ok-clause-first : goal.returns-in-Ok-clause-first
returns-in-Ok-clause-first g c = λ h.
    let p = c.self.inside.parts in
    let f = with_longs (g.O.Objects.far p.store.worker) p.store.longs.items in
    let o : f.honest ≡ true = ap (λ (t : Lines). t.honest) c.self.view_is ∙ h in
    let there = told c.args.self.now.lines (line_in f.bytes) p.near.slots c.args.line.now c.in-Ok-false.field-0 refl (ap (λ (t : Lines). t.lines) c.self.view_is) (c.in-Ok-false.ensures.there o) in
    sym (ap not (there ∙ c.in-Ok-false.field-0-test))

pub invariant_of-self-in-Ok : goal.invariant_of-self-in-Ok
invariant_of-self-in-Ok g c = (
  c.in-Ok.ensures.stored,
  c.make_roomy.ensures.sound (with_longs (g.O.Objects.far c.add.new.parts.store.worker) c.add.new.parts.store.longs.items) c.in-Ok.ensures.sound,
)

pub returns-in-Ok-clause-put : goal.returns-in-Ok-clause-put
returns-in-Ok-clause-put g c = λ h.
    let f = with_longs (g.O.Objects.far c.add.new.parts.store.worker) c.add.new.parts.store.longs.items in
    let found = c.in-Ok-false.ensures in
    let o : (g.O.Objects.far c.find.new.parts.store.worker).honest ≡ true = ap (λ (f : Far). f.honest) found.far ∙ ap (λ (t : Lines). t.honest) c.self.view_is ∙ h in
    ap (λ (t : Lines). t.lines) (c.make_roomy.ensures.same f c.in-Ok.ensures.sound)
    ∙ c.in-Ok.ensures.ok o
    ∙ ap (λ s. set.insert s c.args.line.now) ((λ i. set_in (line_in (with_longs (found.far i) (found.longs i).items).bytes) (found.near i).slots) ∙ ap (λ (t : Lines). t.lines) c.self.view_is)

-- ---- whether or not the far side is honest
pub returns-in-Err-clause-refused : goal.returns-in-Err-clause-refused
returns-in-Err-clause-refused g c =
    let found = c.in-Err.ensures in
    (λ i. lines_of (plain (with_longs (found.far i) (found.longs i).items) (found.near i))) ∙ c.self.view_is

pub returns-in-Err-add-clause-refused : goal.returns-in-Err-add-clause-refused
returns-in-Err-add-clause-refused g c =
    let found = c.in-Ok-false.ensures in
    c.in-Err-add.ensures.err ∙ (λ i. lines_of (plain (with_longs (found.far i) (found.longs i).items) (found.near i))) ∙ c.self.view_is

pub returns-in-Ok-true-clause-seed : goal.returns-in-Ok-true-clause-seed
returns-in-Ok-true-clause-seed g c = ap (λ (n : Near). n.seed) c.in-Ok-true.ensures.near ∙ ap (λ (t : Lines). t.seed) c.self.view_is

pub returns-in-Ok-true-clause-known : goal.returns-in-Ok-true-clause-known
returns-in-Ok-true-clause-known g c = λ e.
    let p = c.self.inside.parts in
    let f = with_longs (g.O.Objects.far p.store.worker) p.store.longs.items in
    ap (λ (t : Lines). set.contains t.stamps (stamp_of t.seed c.args.line.now)) (sym c.self.view_is)
    ∙ (contains_said (stamp_of p.near.seed c.args.line.now) (stamp_in f.sizes) p.near.slots refl).1 (c.in-Ok-true.ensures.known c.in-Ok-true.field-0-test)

pub returns-in-Ok-true-clause-stamps : goal.returns-in-Ok-true-clause-stamps
returns-in-Ok-true-clause-stamps g c =
    let p = c.self.inside.parts in
    let f = with_longs (g.O.Objects.far p.store.worker) p.store.longs.items in
    let k = stamp_of p.near.seed c.args.line.now in
    (λ i. set_in (stamp_in (with_longs (c.in-Ok-true.ensures.far i) (c.in-Ok-true.ensures.longs i).items).sizes) (c.in-Ok-true.ensures.near i).slots)
    ∙ put_again (set_in (stamp_in f.sizes) p.near.slots) k ((contains_said k (stamp_in f.sizes) p.near.slots refl).1 (c.in-Ok-true.ensures.known c.in-Ok-true.field-0-test))
    ∙ ap (λ (t : Lines). set.insert t.stamps (stamp_of t.seed c.args.line.now)) c.self.view_is

pub returns-in-Ok-clause-stamps : goal.returns-in-Ok-clause-stamps
returns-in-Ok-clause-stamps g c =
    let f = with_longs (g.O.Objects.far c.add.new.parts.store.worker) c.add.new.parts.store.longs.items in
    let found = c.in-Ok-false.ensures in
    ap (λ (t : Lines). t.stamps) (c.make_roomy.ensures.same f c.in-Ok.ensures.sound)
    ∙ c.in-Ok.ensures.stamps
    ∙ (λ i. set.insert (set_in (stamp_in (with_longs (found.far i) (found.longs i).items).sizes) (found.near i).slots) (stamp_of (found.near i).seed c.args.line.now))
    ∙ ap (λ (t : Lines). set.insert t.stamps (stamp_of t.seed c.args.line.now)) c.self.view_is

pub returns-in-Ok-clause-seed : goal.returns-in-Ok-clause-seed
returns-in-Ok-clause-seed g c =
    let f = with_longs (g.O.Objects.far c.add.new.parts.store.worker) c.add.new.parts.store.longs.items in
    ap (λ (t : Lines). t.seed) (c.make_roomy.ensures.same f c.in-Ok.ensures.sound)
    ∙ c.in-Ok.ensures.seed ∙ ap (λ (n : Near). n.seed) c.in-Ok-false.ensures.near ∙ ap (λ (t : Lines). t.seed) c.self.view_is
