use Rattle.far_book.proofs.order.take_out.Goals as goal
use Rattle.std.proofs.Common.{rules, sym}
use Rattle.std.specs.Prelude.{not}
use Rattle.std.proofs.lemmas.Fn.{filter_same}
use Rattle.far_book.specs.book.NumberSet.{has}
use Rattle.far_book.proofs.region.Gone.{all_still}

pub returns-then-is_empty-clause-list : goal.returns-then-is_empty-clause-list
returns-then-is_empty-clause-list c = sym (all_still c.args.gone (c.is_empty.ensures.empty c.if-is_empty.true) c.args.listed.now.items)

pub returns-clause-list : goal.returns-clause-list
returns-clause-list c = filter_same _ (λ k. not (has c.args.gone k)) _ (λ x b f' k. search rules) _ _ c.retain.ensures.filtered
