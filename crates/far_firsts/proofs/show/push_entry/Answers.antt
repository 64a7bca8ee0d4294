use Rattle.std.proofs.Common.{◌≡◌, ◌-◌, ◌++◌, ◌∷◌, [], ℕ, List, length, min, replicate, decimal, ◌∙◌, ap, arith}
use Rattle.far_firsts.proofs.Showing.{entry_is, pad_is}
use Rattle.far_firsts.proofs.show.push_entry.Goals as goal

pub returns-clause-pushed : goal.returns-clause-pushed
returns-clause-pushed c =
    let digits : c.as_bytes-digits.result.now ≡ decimal c.args.count = c.as_bytes-digits.ensures.value ∙ c.format.ensures.text in
    let most : c.min.result ≡ min (length (decimal c.args.count)) 7 = omega (arith, c.min.ensures, ap (λ (xs : List ℕ). length xs) digits) in
    let pad = pad_is c.min.result (length (decimal c.args.count)) most in
    c.in_ok-push-2.ensures.items
    ∙ ap (λ t. t ++ c.args.end ∷ []) (c.in_ok-extend_from_slice-3.ensures.items
    ∙ ap (λ t. t ++ c.args.line.now) (c.in_ok-push.ensures.items
    ∙ ap (λ t. t ++ 32 ∷ []) (c.in_ok-extend_from_slice-2.ensures.items
    ∙ (λ i. (c.in_ok-extend_from_slice.ensures.items ∙ ap (λ t. c.args.out.now.items ++ t) pad) i ++ digits i))))
    ∙ entry_is c.args.out.now.items (replicate (7 - length (decimal c.args.count)) 32) (decimal c.args.count) c.args.line.now c.args.end
