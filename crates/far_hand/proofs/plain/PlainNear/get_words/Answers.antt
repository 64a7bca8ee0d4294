use Rattle.std.proofs.Common.{◌+◌, ◌*◌, arith}
use Rattle.far_word.specs.declared.sizes.TheConstants.{LOG_WORDS}
use Rattle.far_core.specs.state.CoreState.{core_state}
use Rattle.far_hand.proofs.PlainRows.{read_row}
use Rattle.far_hand.proofs.plain.PlainNear.get_words.Goals as goal

pub returns-clause-words : goal.returns-clause-words
returns-clause-words c =
    let h = c.args.self.now in
    ((λ k. (core_state h.core).word (c.args.log * LOG_WORDS + (c.args.at + k))), read_row h c.args.log c.args.at c.args.count c.requires.within c.args.count (omega arith), c.get_words.ensures.words)
