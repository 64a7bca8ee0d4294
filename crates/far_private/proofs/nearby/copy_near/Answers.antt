use Rattle.std.proofs.Common.{◌≡◌, ◌∙◌, ◌+◌, ◌≤◌, ℕ, ap, subst, length}
use Rattle.std.specs.Prelude.{slice_range}
use Rattle.far_word.specs.Bytes.{bytes_of}
use Rattle.far_word.specs.Pointer.{read_of}
use Rattle.far_core.specs.declared.machine.Core.{Core}
use Rattle.far_core.specs.state.CoreState.{core_state}
use Rattle.far_events.specs.state.State.{addr}
use Rattle.far_private.specs.Objects.{state_in}
use Rattle.far_private.specs.Steps.{SaysAt}
use Rattle.far_private.proofs.Ranging.{behind, bytes_inside, range_of}
use Rattle.far_private.proofs.nearby.copy_near.Goals as goal

pub get_bytes-requires-clause-inside : goal.get_bytes-requires-clause-inside
get_bytes-requires-clause-inside g c =
    bytes_inside (state_in c.args.evac.now) c.args.evac.now.book.near.core.law c.args.pointer c.args.from (length c.args.out.now) c.place_of-place.result
    (subst (λ w. SaysAt (read_of w) c.place_of-place.result) (c.cell.ensures ∙ ap (λ (x : Core). (core_state x).cell c.args.pointer) c.core_of-core.ensures) c.place_of-place.ensures) c.requires.inside

pub returns : goal.returns
returns g c =
    range_of (state_in c.args.evac.now) c.args.pointer c.args.from (length c.args.out.now) c.place_of-place.result c.get_bytes.new.bytes
    (subst (λ w. SaysAt (read_of w) c.place_of-place.result) (c.cell.ensures ∙ ap (λ (x : Core). (core_state x).cell c.args.pointer) c.core_of-core.ensures) c.place_of-place.ensures) c.requires.inside
    (subst (λ (x : Core). (len : ℕ) → c.args.from + length c.args.out.now ≤ len → c.get_bytes.new.bytes ≡ slice_range (bytes_of (λ i. (core_state x).word (addr (behind c.place_of-place.result) + i)) len) c.args.from (c.args.from + length c.args.out.now))
    c.core_of-core.ensures c.get_bytes.ensures.bytes)
