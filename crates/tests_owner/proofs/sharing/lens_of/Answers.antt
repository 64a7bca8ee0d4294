use Rattle.std.proofs.Common.{◌≡◌, ◌++◌, ◌∷◌, [], List, Option, ℕ, ap, sym, ◌∙◌, arith, map}
use Rattle.std.specs.List.{range_with_len}
use Rattle.std.proofs.lemmas.List.FromFn.{map-range_with_len_more}
use Rattle.far_word.specs.declared.sizes.TheConstants.{CELLS}
use Rattle.far_core.specs.state.CoreState.{core_state}
use Rattle.tests_owner.specs.Used.{used_len}
use Rattle.tests_owner.proofs.sharing.lens_of.Goals as goal

pub loop-pointer-preserved : goal.loop-pointer-preserved
loop-pointer-preserved c =
    let s = core_state c.args.core.now in
    let i = c.loop-pointer.pointer in
    let far = c.loop-pointer.invariant in
    let p = c.push_reserved.ensures in
    let grown = ap (λ (l : List (Option ℕ)). l ++ c.used_len.result ∷ []) far.0
    ∙ (ap (λ x. map (used_len s) (range_with_len 0 i) ++ x ∷ []) c.used_len.ensures ∙ sym (map-range_with_len_more (used_len s) 0 i i (omega arith))) in
    (p.items ∙ grown, omega (arith, p.len, far.1), omega (arith, p.capacity, far.2))

pub returns : goal.returns
returns c =
    let end : c.loop-pointer.pointer ≡ CELLS = omega arith in
    c.loop-pointer.invariant.0 ∙ ap (λ n. map (used_len (core_state c.args.core.now)) (range_with_len 0 n)) end
