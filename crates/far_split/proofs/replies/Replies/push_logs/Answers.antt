use Rattle.std.proofs.Common.{◌++◌, ◌∷◌, [], ◌∙◌, ◌≡◌, ap, arith, length, length-append, map, subst, sym}
use Rattle.far_split.specs.Kept.{AreKept, lines_told, reply_in}
use Rattle.far_reply.specs.Reply.{Logs}
use Rattle.far_split.specs.declared.replies.Kept.{Kept}
use Rattle.far_split.specs.declared.replies.Kept.TheVariants as kept
use Rattle.far_split.proofs.Keeping.{Grows, kept_more, last_part, reply_more, stays}
use Rattle.far_split.proofs.replies.Replies.push_logs.Goals as goal

pub invariant_of-self-2 : goal.invariant_of-self-2
invariant_of-self-2 c =
    let old = c.self.inside in
    let new = c.extend_from_slice.new.self.items in
    let one : Kept = kept.Logs c.args.first c.len-from.result (length c.args.rows.now) in
    let items = c.push_reserved.ensures.items ∙ ap (λ all. all ++ one ∷ []) c.in_ok-reserve.ensures.items in
    let grows : Grows old.logs.items new = record { more = c.args.rows.now; is = c.in_ok-extend_from_slice.ensures.items } in
    subst (AreKept (length old.bytes.items) (length new) (length old.rounds.items)) (sym items)
    (kept_more old.bytes.items old.bytes.items (stays old.bytes.items) old.logs.items new grows old.rounds.items old.rounds.items (stays old.rounds.items) old.kept.items one c.self.invariant
    (omega (arith, ap length grows.is, length-append old.logs.items c.args.rows.now, c.len-from.ensures), omega (arith, c.requires)))

pub returns : goal.returns
returns c =
    let old = c.self.inside in
    let new = c.extend_from_slice.new.self.items in
    let one : Kept = kept.Logs c.args.first c.len-from.result (length c.args.rows.now) in
    let items = c.push_reserved.ensures.items ∙ ap (λ all. all ++ one ∷ []) c.in_ok-reserve.ensures.items in
    let grows : Grows old.logs.items new = record { more = c.args.rows.now; is = c.in_ok-extend_from_slice.ensures.items } in
    let at : c.len-from.result ≡ length old.logs.items = omega (arith, c.len-from.ensures) in
    let told = ap (λ all. reply_in old.bytes.items all old.rounds.items one) grows.is ∙ ap (λ rows. Logs (lines_told c.args.first rows)) (last_part old.logs.items c.args.rows.now c.len-from.result (length c.args.rows.now) at (λ i. length c.args.rows.now)) in
    ap (map (reply_in old.bytes.items new old.rounds.items)) items
    ∙ reply_more old.bytes.items old.bytes.items (stays old.bytes.items) old.logs.items new grows old.rounds.items old.rounds.items (stays old.rounds.items) old.kept.items one (Logs (lines_told c.args.first c.args.rows.now)) c.self.invariant told
    ∙ ap (λ all. all ++ Logs (lines_told c.args.first c.args.rows.now) ∷ []) c.self.view_is
