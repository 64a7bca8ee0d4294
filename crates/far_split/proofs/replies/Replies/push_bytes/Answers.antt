use Rattle.std.proofs.Common.{◌++◌, ◌∷◌, [], ◌∙◌, ◌≡◌, ap, arith, length, length-append, map, subst, sym}
use Rattle.far_split.specs.Kept.{AreKept, reply_in}
use Rattle.far_reply.specs.Reply.{Data}
use Rattle.far_split.specs.declared.replies.Kept.{Kept}
use Rattle.far_split.specs.declared.replies.Kept.TheVariants as kept
use Rattle.far_split.proofs.Keeping.{Grows, kept_more, last_part, reply_more, stays}
use Rattle.far_split.proofs.replies.Replies.push_bytes.Goals as goal

pub invariant_of-self-2 : goal.invariant_of-self-2
invariant_of-self-2 c =
    let old = c.self.inside in
    let new = c.extend_from_slice.new.self.items in
    let one : Kept = kept.Data c.len-from.result (length c.args.bytes.now) in
    let items = c.push_reserved.ensures.items ∙ ap (λ all. all ++ one ∷ []) c.in_ok-reserve.ensures.items in
    let grows : Grows old.bytes.items new = record { more = c.args.bytes.now; is = c.in_ok-extend_from_slice.ensures.items } in
    subst (AreKept (length new) (length old.logs.items) (length old.rounds.items)) (sym items)
    (kept_more old.bytes.items new grows old.logs.items old.logs.items (stays old.logs.items) old.rounds.items old.rounds.items (stays old.rounds.items) old.kept.items one c.self.invariant
    (omega (arith, ap length grows.is, length-append old.bytes.items c.args.bytes.now, c.len-from.ensures)))

pub returns : goal.returns
returns c =
    let old = c.self.inside in
    let new = c.extend_from_slice.new.self.items in
    let one : Kept = kept.Data c.len-from.result (length c.args.bytes.now) in
    let items = c.push_reserved.ensures.items ∙ ap (λ all. all ++ one ∷ []) c.in_ok-reserve.ensures.items in
    let grows : Grows old.bytes.items new = record { more = c.args.bytes.now; is = c.in_ok-extend_from_slice.ensures.items } in
    let at : c.len-from.result ≡ length old.bytes.items = omega (arith, c.len-from.ensures) in
    let told = ap (λ all. reply_in all old.logs.items old.rounds.items one) grows.is ∙ ap Data (last_part old.bytes.items c.args.bytes.now c.len-from.result (length c.args.bytes.now) at (λ i. length c.args.bytes.now)) in
    ap (map (reply_in new old.logs.items old.rounds.items)) items
    ∙ reply_more old.bytes.items new grows old.logs.items old.logs.items (stays old.logs.items) old.rounds.items old.rounds.items (stays old.rounds.items) old.kept.items one (Data c.args.bytes.now) c.self.invariant told
    ∙ ap (λ all. all ++ Data c.args.bytes.now ∷ []) c.self.view_is
