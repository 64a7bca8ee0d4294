use Rattle.std.proofs.Common.{◌++◌, ◌∷◌, [], ◌∙◌, ◌≡◌, ap, arith, length, length-append, map, subst, sym}
use Rattle.far_split.specs.Kept.{AreKept, reply_in, round_reply}
use Rattle.far_split.specs.declared.replies.Kept.{Kept}
use Rattle.far_split.specs.declared.replies.Kept.TheVariants as kept
use Rattle.far_split.proofs.Keeping.{Grows, kept_more, last_one, reply_more, stays}
use Rattle.far_split.proofs.replies.Replies.push_round.Goals as goal

pub invariant_of-self-2 : goal.invariant_of-self-2
invariant_of-self-2 c =
    let old = c.self.inside in
    let new = c.push_reserved.new.self.items in
    let one : Kept = kept.Round c.len-at.result in
    let items = c.push_reserved-2.ensures.items ∙ ap (λ all. all ++ one ∷ []) c.in_ok-reserve.ensures.items in
    let grows : Grows old.rounds.items new = record { more = c.args.round ∷ []; is = c.push_reserved.ensures.items ∙ ap (λ all. all ++ c.args.round ∷ []) c.in_ok-reserve-2.ensures.items } in
    subst (AreKept (length old.bytes.items) (length old.logs.items) (length new)) (sym items)
    (kept_more old.bytes.items old.bytes.items (stays old.bytes.items) old.logs.items old.logs.items (stays old.logs.items) old.rounds.items new grows old.kept.items one c.self.invariant
    (omega (arith, ap length grows.is, length-append old.rounds.items (c.args.round ∷ []), c.len-at.ensures)))

pub returns : goal.returns
returns c =
    let old = c.self.inside in
    let new = c.push_reserved.new.self.items in
    let one : Kept = kept.Round c.len-at.result in
    let items = c.push_reserved-2.ensures.items ∙ ap (λ all. all ++ one ∷ []) c.in_ok-reserve.ensures.items in
    let grows : Grows old.rounds.items new = record { more = c.args.round ∷ []; is = c.push_reserved.ensures.items ∙ ap (λ all. all ++ c.args.round ∷ []) c.in_ok-reserve-2.ensures.items } in
    let at : c.len-at.result ≡ length old.rounds.items = omega (arith, c.len-at.ensures) in
    ap (map (reply_in old.bytes.items old.logs.items new)) items
    ∙ reply_more old.bytes.items old.bytes.items (stays old.bytes.items) old.logs.items old.logs.items (stays old.logs.items) old.rounds.items new grows old.kept.items one (round_reply c.args.round) c.self.invariant
    (ap round_reply (last_one old.rounds.items new c.args.round _ c.len-at.result grows.is at))
    ∙ ap (λ all. all ++ round_reply c.args.round ∷ []) c.self.view_is
