use Rattle.std.proofs.Common.{◌++◌, ◌∷◌, [], ◌∙◌, length, length-append, Some, None, cond, sym, ap, arith}
use Rattle.std.specs.Option.{option_map}
use Rattle.std.specs.Prelude.{zip}
use Rattle.far_text.specs.Spelled.{command_spelled}
use Rattle.far_text.proofs.PlaceLemmas.{length_beside, kept_beside}
use Rattle.far_text.proofs.Reading.{one_longer}
use Rattle.far_text.proofs.ThreadLemmas.{threaded_spelled}
use Rattle.far_text.proofs.split_text.SplitText.push.Goals as goal

pub push-requires-2 : goal.push-requires-2
push-requires-2 c =
    let t = c.self.inside in
    omega (arith, ap length c.self.view_is, length_beside t.numbers.items t.commands c.self.invariant.0)

pub invariant_of-self-then-push : goal.invariant_of-self-then-push
invariant_of-self-then-push c =
    let t = c.self.inside in
    let new = c.push-2.new.self in
    let kept = c.in-Ok-true.ensures.value ∙ ap (λ b. cond b (Some new) None) c.in-Ok-true.field-0-test in
    let long = one_longer t.commands new (command_spelled c.args.command) kept in
    let numbers = ap length c.in_ok-push.ensures.items ∙ length-append t.numbers.items (c.args.number ∷ []) in
    let old = ap length c.self.view_is in
    let beside = length_beside t.numbers.items t.commands c.self.invariant.0 in
    (omega (arith, c.self.invariant.0), omega (arith, c.requires))

pub returns-in-Ok-true : goal.returns-in-Ok-true
returns-in-Ok-true c =
    let t = c.self.inside in
    let all = c.args.self.now in
    let new = c.push-2.new.self in
    let spelled = command_spelled c.args.command in
    let kept = c.in-Ok-true.ensures.value ∙ ap (λ b. cond b (Some new) None) c.in-Ok-true.field-0-test in
    let has = sym c.has_thread.ensures ∙ c.if-not-has_thread.false in
    ap (option_map (λ x. all ++ (c.args.number, x) ∷ [])) (threaded_spelled c.args.mutators c.args.command ∙ ap (λ b. cond b spelled None) has)
    ∙ kept_beside t.numbers.items t.commands new c.args.number all spelled c.self.view_is c.self.invariant.0 kept
    ∙ ap (λ ns. Some (zip ns new)) (sym c.in_ok-push.ensures.items)
