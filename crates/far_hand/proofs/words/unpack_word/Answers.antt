use Rattle.far_hand.proofs.words.unpack_word.Goals as goal
use Rattle.std.proofs.Common.{rules, ◌+◌, ◌-◌, ◌*◌, arith}
use Rattle.far_hand.proofs.ByteRows.{behind_unpacked, word_unpacked}

pub returns-clause-front : goal.returns-clause-front
returns-clause-front c = word_unpacked c.args.bytes.now c.unpack_bytes.new.bytes c.args.i (8 * c.args.i + 8 - 8 * c.args.i) _ c.args.word c.unpack_bytes.ensures (search rules) (omega (arith, c.requires))

pub returns-clause-behind : goal.returns-clause-behind
returns-clause-behind c = behind_unpacked c.args.bytes.now c.unpack_bytes.new.bytes c.args.i (8 * c.args.i + 8 - 8 * c.args.i) _ c.args.word c.unpack_bytes.ensures (search rules) (omega arith) (omega (arith, c.requires))
