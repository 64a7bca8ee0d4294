use Rattle.std.proofs.Common.{◌∙◌, ◌/◌, ◌<◌, ℕ, List, ap, get_or, sym}
use Rattle.far_events.specs.events.Step.{data_word}
use Rattle.far_events.specs.state.Memory.{state_of}
use Rattle.far_events.specs.events.Written.{written_words}
use Rattle.far_events.proofs.Calls.{soiled_held}
use Rattle.far_core.proofs.DataBytes.{bytes_after, others_after, written_inside, written_pad}
use Rattle.far_core.proofs.Ranges.{stores_end, stores_keep, stores_legal}
use Rattle.far_events.proofs.Splices.{written_fit}
use Rattle.far_core.proofs.Kept.{rows_same}
use Rattle.far_events.specs.state.State.{State}
use Rattle.far_core.proofs.machine.Core.store_bytes.Goals as goal

pub invariant_of-self : goal.invariant_of-self
invariant_of-self c =
    let s = state_of c.args.self.now.memory in let law = c.args.self.now.law in let p = c.args.pointer in let from = c.args.from in let bs = c.args.bytes.now in
    let held = soiled_held s law p c.requires.soiled in
    let words : List ℕ = written_words (λ i. s.word (data_word s p i)) from bs in
    let small : (k : ℕ) → get_or bs k 0 < 256 = λ k. (c.type_inv.bytes k).fits in
    record {
      law = rw c.store_bytes.ensures (stores_keep s law c.args.owner p (from / 8) words c.requires.own c.requires.soiled (written_inside s law p held from bs c.requires.inside)
          (written_pad s law p held from bs c.requires.inside small) (written_fit (λ i. s.word (data_word s p i)) from bs small));
      rows_are = rows_same c.args.self.now.rows (state_of c.args.self.now.memory) (state_of c.store_bytes.new.self) (ap (λ (u : State). u.stored) c.store_bytes.ensures) (ap (λ (u : State). u.mutators) c.store_bytes.ensures) c.args.self.now.rows_are;
    }

pub returns-clause-state : goal.returns-clause-state
returns-clause-state c =
    let s = state_of c.args.self.now.memory in let law = c.args.self.now.law in let p = c.args.pointer in let from = c.args.from in let bs = c.args.bytes.now in
    let held = soiled_held s law p c.requires.soiled in
    let words : List ℕ = written_words (λ i. s.word (data_word s p i)) from bs in
    let small : (k : ℕ) → get_or bs k 0 < 256 = λ k. (c.type_inv.bytes k).fits in
    c.store_bytes.ensures ∙ sym (stores_end s law c.args.owner p (from / 8) words c.requires.own c.requires.soiled (written_inside s law p held from bs c.requires.inside)
    (written_pad s law p held from bs c.requires.inside small) (written_fit (λ i. s.word (data_word s p i)) from bs small))

pub returns-clause-legal : goal.returns-clause-legal
returns-clause-legal c =
    let s = state_of c.args.self.now.memory in let law = c.args.self.now.law in let p = c.args.pointer in let from = c.args.from in let bs = c.args.bytes.now in
    let held = soiled_held s law p c.requires.soiled in
    let words : List ℕ = written_words (λ i. s.word (data_word s p i)) from bs in
    let small : (k : ℕ) → get_or bs k 0 < 256 = λ k. (c.type_inv.bytes k).fits in
    stores_legal s law c.args.owner p (from / 8) words c.requires.own c.requires.soiled (written_inside s law p held from bs c.requires.inside)
    (written_pad s law p held from bs c.requires.inside small) (written_fit (λ i. s.word (data_word s p i)) from bs small)

pub returns-clause-bytes : goal.returns-clause-bytes
returns-clause-bytes c =
    let s = state_of c.args.self.now.memory in let law = c.args.self.now.law in let p = c.args.pointer in let from = c.args.from in let bs = c.args.bytes.now in
    let held = soiled_held s law p c.requires.soiled in
    let small : (k : ℕ) → get_or bs k 0 < 256 = λ k. (c.type_inv.bytes k).fits in
    bytes_after s law p held from bs c.requires.inside small _ c.store_bytes.ensures

pub returns-clause-others : goal.returns-clause-others
returns-clause-others c = λ place is a out.
    let s = state_of c.args.self.now.memory in let law = c.args.self.now.law in let p = c.args.pointer in let from = c.args.from in let bs = c.args.bytes.now in
    let held = soiled_held s law p c.requires.soiled in
    let small : (k : ℕ) → get_or bs k 0 < 256 = λ k. (c.type_inv.bytes k).fits in
    others_after s law p held from bs c.requires.inside small _ c.store_bytes.ensures place is a out
