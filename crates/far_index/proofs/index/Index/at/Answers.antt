use Rattle.std.proofs.Common.{sym, ◌∙◌, arith}
use Rattle.far_index.proofs.Words.{by_both, within, within_rests}
use Rattle.far_index.proofs.index.Index.at.Goals as goal

pub index-requires : goal.index-requires
index-requires c = omega (arith, within c.self.inside.words.items c.self.inside.rests.items c.args.self.now c.self.view_is c.self.invariant c.args.i c.requires, c.self.inside.words.ok.0)

pub index-requires-2 : goal.index-requires-2
index-requires-2 c = omega (arith, within_rests c.self.inside.words.items c.self.inside.rests.items c.args.self.now c.self.view_is c.self.invariant c.args.i c.requires, c.self.inside.rests.ok.0)

pub returns-clause-is : goal.returns-clause-is
returns-clause-is c =
    c.unpack.ensures.is ∙ sym (by_both c.self.inside.words.items c.self.inside.rests.items c.args.self.now c.self.view_is c.self.invariant c.args.i c.index.result.now c.index-2.result.now c.requires c.index.ensures c.index-2.ensures)
