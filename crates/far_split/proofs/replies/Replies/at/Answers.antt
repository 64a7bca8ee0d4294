use Rattle.std.proofs.Common.{◌<◌, ap, arith, length, subst}
use Rattle.std.proofs.lemmas.List.{length-map}
use Rattle.far_split.specs.Kept.{IsKept, reply_in}
use Rattle.far_split.proofs.Keeping.{kept_at, length-part}
use Rattle.far_split.proofs.replies.Replies.at.Goals as goal

pub bytes_at-requires : goal.bytes_at-requires
bytes_at-requires c =
    let inside = c.self.inside in
    let below : c.args.at < length inside.kept.items = omega (arith, c.requires, ap length c.self.view_is, length-map inside.kept.items (reply_in inside.bytes.items inside.logs.items inside.rounds.items)) in
    let is = kept_at (length inside.bytes.items) (length inside.logs.items) (length inside.rounds.items) inside.kept.items c.args.at c.index-kept.result.now c.self.invariant below c.index-kept.ensures in
    let here = subst (IsKept (length inside.bytes.items) (length inside.logs.items) (length inside.rounds.items)) c.in-Data.is is in
    omega (arith, here, ap length c.as_slice.ensures.value)

pub logs_at-requires : goal.logs_at-requires
logs_at-requires c =
    let inside = c.self.inside in
    let below : c.args.at < length inside.kept.items = omega (arith, c.requires, ap length c.self.view_is, length-map inside.kept.items (reply_in inside.bytes.items inside.logs.items inside.rounds.items)) in
    let is = kept_at (length inside.bytes.items) (length inside.logs.items) (length inside.rounds.items) inside.kept.items c.args.at c.index-kept.result.now c.self.invariant below c.index-kept.ensures in
    let here = subst (IsKept (length inside.bytes.items) (length inside.logs.items) (length inside.rounds.items)) c.in-Logs.is is in
    omega (arith, here.0, ap length c.as_slice-in-Logs.ensures.value)

pub new-requires : goal.new-requires
new-requires c =
    let inside = c.self.inside in
    let below : c.args.at < length inside.kept.items = omega (arith, c.requires, ap length c.self.view_is, length-map inside.kept.items (reply_in inside.bytes.items inside.logs.items inside.rounds.items)) in
    let is = kept_at (length inside.bytes.items) (length inside.logs.items) (length inside.rounds.items) inside.kept.items c.args.at c.index-kept.result.now c.self.invariant below c.index-kept.ensures in
    let here = subst (IsKept (length inside.bytes.items) (length inside.logs.items) (length inside.rounds.items)) c.in-Logs.is is in
    omega (arith, here.1, ap length c.logs_at.ensures, length-part c.as_slice-in-Logs.result.now c.in-Logs.from c.in-Logs.count)

pub round_at-requires : goal.round_at-requires
round_at-requires c =
    let inside = c.self.inside in
    let below : c.args.at < length inside.kept.items = omega (arith, c.requires, ap length c.self.view_is, length-map inside.kept.items (reply_in inside.bytes.items inside.logs.items inside.rounds.items)) in
    let is = kept_at (length inside.bytes.items) (length inside.logs.items) (length inside.rounds.items) inside.kept.items c.args.at c.index-kept.result.now c.self.invariant below c.index-kept.ensures in
    let here = subst (IsKept (length inside.bytes.items) (length inside.logs.items) (length inside.rounds.items)) c.in-Round.is is in
    omega (arith, here, ap length c.as_slice-in-Round.ensures.value)
