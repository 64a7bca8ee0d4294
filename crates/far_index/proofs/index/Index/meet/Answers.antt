use Rattle.std.proofs.Common.{sym, ◌∙◌, ap, arith}
use Rattle.far_index.specs.declared.slot.Slot.TheVariants.{Full}
use Rattle.far_index.proofs.Words.{by_both, by_word, has_tag, is_empty, met_number, not_empty, other_rest, other_upper, within, within_rests}
use Rattle.far_index.proofs.index.Index.meet.Goals as goal

pub index-word-requires : goal.index-word-requires
index-word-requires c = omega (arith, within c.self.inside.words.items c.self.inside.rests.items c.args.self.now c.self.view_is c.self.invariant c.args.i c.requires.within, c.self.inside.words.ok.0)

pub returns-then-word-eq0-clause-end : goal.returns-then-word-eq0-clause-end
returns-then-word-eq0-clause-end c e = by_word c.self.inside.words.items c.self.inside.rests.items c.args.self.now c.self.view_is c.self.invariant c.args.i c.index-word.result.now c.requires.within c.index-word.ensures ∙ is_empty c.index-word.result.now _ c.if-word-eq0.true

pub index-requires : goal.index-requires
index-requires c = omega (arith, within_rests c.self.inside.words.items c.self.inside.rests.items c.args.self.now c.self.view_is c.self.invariant c.args.i c.requires.within, c.self.inside.rests.ok.0)

-- the word has other upper bits
pub returns-then-word-tag-clause-other : goal.returns-then-word-tag-clause-other
returns-then-word-tag-clause-other c e =
    let is = by_word c.self.inside.words.items c.self.inside.rests.items c.args.self.now c.self.view_is c.self.invariant c.args.i c.index-word.result.now c.requires.within c.index-word.ensures in
    (λ x. not_empty c.index-word.result.now _ c.if-word-eq0.false (sym is ∙ x), λ h x. other_upper c.index-word.result.now _ c.args.tag h c.if-word-tag.true (sym is ∙ x))

-- the rest is another
pub returns-then-rest-tag-clause-other : goal.returns-then-rest-tag-clause-other
returns-then-rest-tag-clause-other c e =
    let is = by_both c.self.inside.words.items c.self.inside.rests.items c.args.self.now c.self.view_is c.self.invariant c.args.i c.index-word.result.now c.index.result.now c.requires.within c.index-word.ensures c.index.ensures in (
      λ x. not_empty c.index-word.result.now _ c.if-word-eq0.false (sym is ∙ x),
      λ h x. other_rest c.index-word.result.now c.index.result.now c.args.tag h (λ y. c.if-rest-tag.true (c.lower_bits-rest.ensures.is ∙ y)) (omega (arith, c.lower_bits-rest.ensures.is, c.lower_bits-rest.ensures.low)) (sym is ∙ x),
    )

pub returns-clause-tag : goal.returns-clause-tag
returns-clause-tag c h e =
    by_both c.self.inside.words.items c.self.inside.rests.items c.args.self.now c.self.view_is c.self.invariant c.args.i c.index-word.result.now c.index.result.now c.requires.within c.index-word.ensures c.index.ensures
    ∙ has_tag c.index-word.result.now c.index.result.now c.args.tag c.requires.tag c.if-word-tag.false (sym c.lower_bits-rest.ensures.is ∙ c.if-rest-tag.false)
    ∙ ap (λ n. Full c.args.tag n) (met_number _ h e)
