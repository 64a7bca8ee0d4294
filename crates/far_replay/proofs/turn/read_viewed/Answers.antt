use Rattle.std.proofs.Common.{◌≡◌, ◌+◌, ◌≤◌, ◌∙◌, ℕ, List, ap, arith, length, length-take-le, take}
use Rattle.std.specs.Prelude.{slice_range}
use Rattle.far_word.proofs.ByteLaws.{length-bytes_of}
use Rattle.far_core.specs.declared.machine.Core.{Core}
use Rattle.far_events.specs.events.Step.{data_len, data_word}
use Rattle.far_core.specs.state.CoreState.{core_state}
use Rattle.far_events.specs.state.State.{State}
use Rattle.far_replay.specs.Moment.{state_in}
use Rattle.far_alone.specs.Objects.{data_of}
use Rattle.far_reply.specs.Reply.{Data}
use Rattle.far_replay.proofs.Fronts.{read_front}
use Rattle.far_replay.proofs.turn.read_viewed.Goals as goal

pub returns-clause-reply : goal.returns-clause-reply
returns-clause-reply c =
    let s : State = state_in c.args.evac.now in
    let p : ℕ = c.args.access.pointer in
    let from : ℕ = c.args.access.from in
    let count : ℕ = c.args.access.count in
    let old : List ℕ = take count c.args.scratch.now.bytes in
    let size : length old ≡ count = length-take-le count c.args.scratch.now.bytes (omega (arith, c.requires.viewed.most)) in
    let inside : from + count ≤ length (data_of s p) = omega (arith, c.requires.viewed.inside, length-bytes_of (λ i. s.word (data_word s p i)) (data_len s p)) in
    let read : c.load_bytes.new.bytes ≡ slice_range (data_of (core_state c.core_of.result.now) p) from (from + length old) = c.load_bytes.ensures.bytes in
    ap Data (read_front (data_of s p) c.load_bytes.new.bytes _ from count (length old) size inside
    (read ∙ ap (λ (core : Core). slice_range (data_of (core_state core) p) from (from + length old)) c.core_of.ensures))
