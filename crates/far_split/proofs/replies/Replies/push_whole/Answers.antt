use Rattle.std.proofs.Common.{◌++◌, ◌∷◌, [], ◌∙◌, ap, length, map, subst, sym}
use Rattle.far_split.specs.Kept.{AreKept, reply_in}
use Rattle.far_split.proofs.Keeping.{kept_more, reply_more, stays, whole_kept, whole_reply}
use Rattle.far_split.proofs.replies.Replies.push_whole.Goals as goal

pub invariant_of-self-2 : goal.invariant_of-self-2
invariant_of-self-2 c =
    let old = c.self.inside in
    let items = c.push_reserved.ensures.items ∙ ap (λ all. all ++ c.args.kept ∷ []) c.in_ok-reserve.ensures.items in
    subst (AreKept (length old.bytes.items) (length old.logs.items) (length old.rounds.items)) (sym items)
    (kept_more old.bytes.items old.bytes.items (stays old.bytes.items) old.logs.items old.logs.items (stays old.logs.items) old.rounds.items old.rounds.items (stays old.rounds.items) old.kept.items c.args.kept c.self.invariant
    (whole_kept (length old.bytes.items) (length old.logs.items) (length old.rounds.items) c.args.kept c.requires))

pub returns : goal.returns
returns c =
    let old = c.self.inside in
    let items = c.push_reserved.ensures.items ∙ ap (λ all. all ++ c.args.kept ∷ []) c.in_ok-reserve.ensures.items in
    ap (map (reply_in old.bytes.items old.logs.items old.rounds.items)) items
    ∙ reply_more old.bytes.items old.bytes.items (stays old.bytes.items) old.logs.items old.logs.items (stays old.logs.items) old.rounds.items old.rounds.items (stays old.rounds.items) old.kept.items c.args.kept
    (reply_in [] [] [] c.args.kept) c.self.invariant (whole_reply old.bytes.items old.logs.items old.rounds.items c.args.kept c.requires)
    ∙ ap (λ all. all ++ reply_in [] [] [] c.args.kept ∷ []) c.self.view_is
