use Rattle.std.proofs.Common.{◌+◌, ◌-◌, ◌*◌, arith, length}
use Rattle.far_events.specs.state.Words.{word_in}
use Rattle.far_events.proofs.Words.{store_is}
use Rattle.far_events.proofs.memory.words.Words.store.Goals as goal

pub returns-clause-words : goal.returns-clause-words
unfolding word_in
returns-clause-words c =
    store_is c.args.self.now.bytes c.deref_mut.result.now c.unpack_bytes.new.bytes c.deref_mut.ensures.value c.args.words.now c.args.from
    (8 * (c.args.from + length c.args.words.now) - 8 * c.args.from) (length c.args.words.now) (λ k. (c.type_inv.words k).fits) c.unpack_bytes.ensures (omega arith) (omega (arith, c.requires, c.args.self.now.bytes.ok.0))
