use Rattle.std.proofs.Common.{◌∙◌, ◌+◌, ap, length}
use Rattle.std.specs.Prelude.{slice_range}
use Rattle.far_word.specs.Bytes.{bytes_of}
use Rattle.far_events.specs.state.Memory.{state_of}
use Rattle.far_events.proofs.memory.Memory.get_bytes.Goals as goal

pub returns-clause-bytes : goal.returns-clause-bytes
returns-clause-bytes c = λ len le.
    let s = state_of c.args.self.now in let from = c.args.from in
    c.read_bytes.ensures.bytes len le ∙ ap (λ a. slice_range (bytes_of (λ i. s.word (a + i)) len) from (from + length c.args.bytes.now)) c.first_word.ensures
