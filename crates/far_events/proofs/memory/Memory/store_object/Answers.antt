use Rattle.std.proofs.Common.{◌≡◌, sym, ◌∙◌, ap, arith}
use Rattle.std.specs.Prelude.{not}
use Rattle.far_events.specs.state.Memory.{state_of}
use Rattle.far_events.proofs.Bounds.{near_inside}
use Rattle.far_events.proofs.StoredAlready.{clean_is, stored_already}
use Rattle.far_events.proofs.memory.Memory.store_object.Goals as goal

pub returns-then-not-marks : goal.returns-then-not-marks
returns-then-not-marks c =
    let near = c.requires.near in
    let word = c.cell_at.ensures in
    let known = c.known.ensures in
    let is = c.in-Near.is in
    let lies = near.2 in
    let marks : near.1 ≡ c.in-Near.marks = cc in
    stored_already (state_of c.args.self.now) c.requires.law c.args.pointer c.args.len c.args.place near (sym c.is_honest.ensures ∙ c.if-is_honest.true) (clean_is near.1.dirty (ap (λ m. not m.dirty) marks ∙ c.if-not-marks.true))

pub store_away-requires-clause-row : goal.store_away-requires-clause-row
store_away-requires-clause-row c =
    let n = c.requires.near in
    omega (arith, c.words_for.ensures, (near_inside (state_of c.args.self.now) c.requires.law c.args.pointer c.args.len n.0 c.args.place n.1 n.2).2)

pub store_away-requires-clause-inside : goal.store_away-requires-clause-inside
store_away-requires-clause-inside c =
    let n = c.requires.near in
    omega (arith, c.first_word.ensures, c.words_for.ensures, (near_inside (state_of c.args.self.now) c.requires.law c.args.pointer c.args.len n.0 c.args.place n.1 n.2).1)
