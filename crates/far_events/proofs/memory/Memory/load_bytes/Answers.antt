use Rattle.std.proofs.Common.{◌∙◌, ◌+◌, ap, length}
use Rattle.std.specs.Prelude.{slice_range}
use Rattle.far_word.specs.Bytes.{bytes_of}
use Rattle.far_events.specs.events.Step.{data_len}
use Rattle.far_events.specs.state.Memory.{state_of}
use Rattle.far_events.proofs.memory.Memory.load_bytes.Goals as goal

pub returns-clause-bytes : goal.returns-clause-bytes
returns-clause-bytes c =
    let s = state_of c.args.self.now in let p = c.args.pointer in let from = c.args.from in
    c.read_bytes.ensures.bytes (data_len s p) c.requires.inside
    ∙ ap (λ a. slice_range (bytes_of (λ i. s.word (a + i)) (data_len s p)) from (from + length c.args.bytes.now)) c.first_data.ensures.is
