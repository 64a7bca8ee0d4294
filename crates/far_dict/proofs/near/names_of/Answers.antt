use Rattle.far_dict.proofs.Walking.{begun}
use Rattle.far_dict.proofs.near.names_of.Goals as goal

pub loop-key-init : goal.loop-key-init
loop-key-init c =
    let gives = c.into_iter-key-iterator.ensures.into_iter_gives in
    record { copied = begun (λ k. k.items) c.args.table.now.entries c.into_iter-key-iterator.result c.new-names.result.items c.new-names.ensures.items gives.0 gives.5 }
