use Rattle.std.proofs.Common.{◌<◌, ◌-◌, ◌%◌, sym, subst, arith}
use Rattle.std.proofs.lemmas.Bool.{leb-true, le-leb}
use Rattle.far_log.proofs.Padding.{below_ones, limit_is}
use Rattle.far_log.proofs.walking.is_padded.Goals as goal

pub returns : goal.returns
returns c =
    let both = below_ones ((8 - c.args.len % 8) % 8) c.args.last (omega arith) in
    let limit = limit_is c.args.len c.requires in
    (λ t. subst (λ n. c.args.last < n) (sym limit) (both.0 (leb-true _ _ t)), λ h. le-leb _ _ (both.1 (subst (λ n. c.args.last < n) limit h)))
