use Rattle.std.proofs.Common.{ℕ, ap, subst, sym, ◌∙◌, Some}
use Rattle.std.specs.Prelude.{IsSome}
use Rattle.far_word.specs.Pointer.{read_of}
use Rattle.far_events.specs.state.Memory.{state_of}
use Rattle.far_events.specs.state.State.{State}
use Rattle.far_events.proofs.Kept.{rows_stay}
use Rattle.far_events.proofs.NamingTests.{name_fact}
use Rattle.far_events.proofs.MadeNamings.{away_freed, away_near, away_far}
use Rattle.far_events.proofs.memory.Memory.store_gone.Goals as goal

pub known-requires : goal.known-requires
known-requires c = subst (λ (w : ℕ). IsSome (read_of w)) c.requires.cell (c.requires.law.cells.cell_read c.args.pointer).1

pub store_in-requires-clause-pointer : goal.store_in-requires-clause-pointer
store_in-requires-clause-pointer c = (name_fact (state_of c.args.self.now) c.args.pointer c.args.old c.args.new c.requires.legal).0

pub store_in-requires-clause-near : goal.store_in-requires-clause-near
store_in-requires-clause-near c = (c.in-Near.ds, c.in-Near.marks, ap read_of c.requires.cell ∙ (c.known.ensures ∙ ap Some c.in-Near.is))

pub returns-then-new-eq0 : goal.returns-then-new-eq0
returns-then-new-eq0 c =
    rows_stay _ _ _ _ (ap (λ (u : State). u.stored) (sym (away_freed (state_of c.args.self.now) c.requires.law c.args.pointer c.args.old c.args.new c.ranges.new.fits c.requires.cell c.requires.legal c.requires.away c.if-new-eq0.true)))
    c.requires.rows

pub unreachable-requires : goal.unreachable-requires
unreachable-requires c =
    let far = away_near (state_of c.args.self.now) c.requires.law c.args.pointer c.args.old c.args.new c.ranges.new.fits c.requires.cell c.requires.legal c.requires.away c.if-new-eq0.false c.known.result c.known.ensures in
    c.in_default.not-Near _ _ _ _ far.is

pub returns : goal.returns
returns c =
    rows_stay _ _ _ _ (ap (λ (u : State). u.stored) (sym (away_far (state_of c.args.self.now) c.requires.law c.args.pointer c.args.old c.args.new c.ranges.new.fits c.requires.cell c.requires.legal c.requires.away c.if-new-eq0.false
    c.in-Near.len c.in-Near.ds c.in-Near.place c.in-Near.marks (c.known.ensures ∙ ap Some c.in-Near.is))))
    c.store_in.ensures
