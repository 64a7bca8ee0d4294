use Rattle.std.proofs.Common.{◌≡◌, ◌∙◌, ap, subst}
use Rattle.far_word.specs.declared.pointer.PtrWord.{PtrWord}
use Rattle.std.specs.Prelude.{Some, ℕ}
use Rattle.far_word.specs.Pointer.{pointer_len, read_of}
use Rattle.far_core.specs.declared.machine.Core.{Core}
use Rattle.far_core.specs.state.CoreState.{core_state}
use Rattle.far_private.specs.Objects.{state_in}
use Rattle.far_private.proofs.Ranging.{len_below, len_told}
use Rattle.far_private.proofs.ranges.used_len.Goals as goal

pub returns : goal.returns
returns g c =
    let s = state_in c.args.evac.now in
    let law = c.args.evac.now.book.near.core.law in
    let told = len_told s law c.args.pointer c.pointer_len.result c.requires.used
    (subst (λ (w : ℕ). (v : PtrWord) → read_of w ≡ Some v → c.pointer_len.result ≡ pointer_len v) (c.cell.ensures ∙ ap (λ (x : Core). (core_state x).cell c.args.pointer) c.core_of.ensures) c.pointer_len.ensures) in
    record { len = told; most = len_below s law c.args.pointer c.pointer_len.result c.requires.used told }
