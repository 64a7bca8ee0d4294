use Rattle.std.proofs.Common.{◌≡◌, ◌+◌, ◌-◌, ◌≤◌, ◌*◌, ◌∙◌, ℕ, List, ap, arith, drop, subst, sym}
use Rattle.std.specs.Prelude.{length, slice_range}
use Rattle.std.specs.Vec.{vec_len}
use Rattle.std.proofs.lemmas.List.{length-drop, length-take-le}
use Rattle.far_word.proofs.ByteLaws.{length-words_of}
use Rattle.far_word.specs.declared.sizes.TheConstants.{CELLS}
use Rattle.far_events.specs.state.Memory.{state_of}
use Rattle.far_events.specs.state.Stored.{StoredEnds, stored_by}
use Rattle.far_events.proofs.Stored.{ends_noted}
use Rattle.far_word.specs.Bytes.{words_of}
use Rattle.far_events.specs.state.Words.{word_in}
use Rattle.far_events.proofs.Words.{part_noted}
use Rattle.far_events.proofs.memory.Memory.store_away.Goals as goal

pub invariant_of-self-clause-stored_ends : goal.invariant_of-self-clause-stored_ends
unfolding state_of
invariant_of-self-clause-stored_ends c =
    let m = c.args.self.now in let from = c.args.from in let end = from + c.args.count in
    let xs = c.deref.result.now in
    let zs : List ℕ = slice_range xs (8 * from) (8 * end) in
    let fits : 8 * end ≤ length xs = omega (arith, c.requires.inside, ap length c.deref.ensures.value, m.words_sized, m.words.bytes.ok.0) in
    let long : length zs ≡ 8 * c.args.count = length-take-le (8 * end - 8 * from) (drop (8 * from) xs) (omega (arith, fits, length-drop (8 * from) xs)) ∙ omega arith in
    subst (StoredEnds (CELLS * vec_len m.scopes)) (sym c.note.ensures)
    (ends_noted (CELLS * vec_len m.scopes) m.stored.items c.args.pointer (words_of zs) c.requires.pointer (omega (arith, length-words_of zs, long, c.requires.row)) m.stored_ends)

pub returns : goal.returns
unfolding state_of word_in
returns c =
    let m = c.args.self.now in let words = m.words.bytes.items in let from = c.args.from in let end = from + c.args.count in
    let old = stored_by m.stored.items in
    let fits : 8 * end ≤ length words = omega (arith, c.requires.inside, m.words_sized, m.words.bytes.ok.0) in
    ap (λ (f : ℕ → ℕ → ℕ). record (state_of m) { stored = f })
    (ap stored_by c.note.ensures
    ∙ part_noted words old c.args.pointer from c.args.count (slice_range c.deref.result.now (8 * from) (8 * end)) (ap (λ (xs : List ℕ). slice_range xs (8 * from) (8 * end)) c.deref.ensures.value) fits)
