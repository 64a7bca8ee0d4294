use Rattle.std.proofs.Common.{◌+◌, ◌*◌, ◌≤◌, ◌∙◌, ℕ, List, ap, arith, get_or, length}
use Rattle.std.specs.Prelude.{slice_range}
use Rattle.far_events.specs.state.Memory.{state_of}
use Rattle.far_events.specs.state.Rows.{with_first}
use Rattle.far_events.specs.state.State.{put}
use Rattle.far_word.specs.Bytes.{words_of}
use Rattle.far_events.specs.state.Words.{word_in}
use Rattle.far_events.proofs.Words.{part_noted}
use Rattle.far_events.proofs.memory.Memory.put_in.Goals as goal

pub returns : goal.returns
unfolding state_of word_in
returns c =
    let words = c.args.self.now.words.bytes.items in let p = c.args.pointer in let from = c.args.from in
    let old = (state_of c.args.self.now).stored in
    let fits : 8 * (from + c.args.count) ≤ length words = omega (arith, c.requires.inside, c.args.self.now.words_sized, c.args.self.now.words.bytes.ok.0) in
    let zs : List ℕ = slice_range c.deref.result.now (8 * from) (8 * (from + c.args.count)) in
    record {
      sized = c.store_bytes.ensures.sized ∙ c.requires.rows.sized;
      same = c.store_bytes.ensures.stored ∙ ap (λ (f : ℕ → ℕ → ℕ). put f p (with_first (length (words_of zs)) (λ i. get_or (words_of zs) i 0) (f p))) c.requires.rows.same
          ∙ part_noted words old p from c.args.count zs (ap (λ (xs : List ℕ). slice_range xs (8 * from) (8 * (from + c.args.count))) c.deref.ensures.value) fits;
    }
