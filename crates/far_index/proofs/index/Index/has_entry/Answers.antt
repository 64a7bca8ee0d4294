use Rattle.std.proofs.Common.{sym, ◌∙◌, arith}
use Rattle.far_index.proofs.Words.{by_word, not_empty_if, not_full_if, within}
use Rattle.far_index.proofs.index.Index.has_entry.Goals as goal

pub index-requires : goal.index-requires
index-requires c = omega (arith, within c.self.inside.words.items c.self.inside.rests.items c.args.self.now c.self.view_is c.self.invariant c.args.i c.requires, c.self.inside.words.ok.0)

pub returns-clause-full : goal.returns-clause-full
returns-clause-full c high e =
    not_empty_if c.index.result.now _ high (sym (by_word c.self.inside.words.items c.self.inside.rests.items c.args.self.now c.self.view_is c.self.invariant c.args.i c.index.result.now c.requires c.index.ensures) ∙ e)

pub returns-clause-free : goal.returns-clause-free
returns-clause-free c low t h e =
    not_full_if c.index.result.now _ t h low (sym (by_word c.self.inside.words.items c.self.inside.rests.items c.args.self.now c.self.view_is c.self.invariant c.args.i c.index.result.now c.requires c.index.ensures) ∙ e)
