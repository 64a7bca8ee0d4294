use Rattle.std.proofs.Common.{◌∙◌, sym, ap, subst}
use Rattle.far_word.specs.declared.sizes.TheConstants.{MOST_COPIERS}
use Rattle.far_core.specs.state.CoreState.{core_state}
use Rattle.far_table.specs.First.{first_copier, first_owner}
use Rattle.far_table.specs.Stands.{CopierSeats, Seats, Starts, book_of}
use Rattle.far_table.proofs.Seating.{first_copier_there, first_there, rule_stands, rule_starts}
use Rattle.far_table.proofs.start.seats_of.Goals as goal

pub deal_copiers-requires-clause-dealer : goal.deal_copiers-requires-clause-dealer
deal_copiers-requires-clause-dealer g c = c.in_ok-table.ensures.dealer

pub deal_copiers-requires-clause-first : goal.deal_copiers-requires-clause-first
deal_copiers-requires-clause-first g c = c.in_ok-table.ensures.first

pub deal_copiers-requires-clause-there : goal.deal_copiers-requires-clause-there
deal_copiers-requires-clause-there g c = let s = core_state c.args.plan.now.core in let h = g.D.Device.honest c.args.plan.now.device.value in
    first_copier_there s h c.keeps_law.ensures.law c.nothing_is_past.ensures.past c.requires.copiers c.requires.honest

pub deal_all-requires-clause-dealer : goal.deal_all-requires-clause-dealer
deal_all-requires-clause-dealer g c = c.in_ok-copiers.ensures.dealer

pub deal_all-requires-clause-first : goal.deal_all-requires-clause-first
deal_all-requires-clause-first g c = c.in_ok-copiers.ensures.left

pub deal_all-requires-clause-there : goal.deal_all-requires-clause-there
deal_all-requires-clause-there g c = let s = core_state c.args.plan.now.core in let h = g.D.Device.honest c.args.plan.now.device.value in
    first_there s h c.keeps_law.ensures.law c.nothing_is_past.ensures.past c.requires.copiers c.requires.honest

pub new-requires-clause-dealer : goal.new-requires-clause-dealer
new-requires-clause-dealer g c = c.in_ok-owners.ensures.dealer

pub new-requires-clause-view : goal.new-requires-clause-view
new-requires-clause-view g c = (g.D.Device.honest c.args.plan.now.device.value, ap book_of c.in_ok-owners.ensures.left)

pub new-requires-clause-stands : goal.new-requires-clause-stands
new-requires-clause-stands g c = let s = core_state c.args.plan.now.core in let h = g.D.Device.honest c.args.plan.now.device.value in
    rule_stands s h c.keeps_law.ensures.law c.nothing_is_past.ensures.past c.requires.copiers c.requires.honest _ (ap book_of c.in_ok-owners.ensures.left)

pub returns-clause-book : goal.returns-clause-book
returns-clause-book g c = c.new.ensures.book ∙ ap book_of c.in_ok-owners.ensures.left

pub returns-clause-owners : goal.returns-clause-owners
returns-clause-owners g c = let s = core_state c.args.plan.now.core in let h = g.D.Device.honest c.args.plan.now.device.value in
    c.in_ok-owners.ensures.dealt ∙ ap (λ t. Seats t (first_owner s h) s.mutators) (sym (c.new.ensures.table ∙ c.in_ok-owners.ensures.dealer.0))

pub returns-clause-copiers : goal.returns-clause-copiers
returns-clause-copiers g c = let s = core_state c.args.plan.now.core in
    c.in_ok-copiers.ensures.dealt ∙ ap (λ t. CopierSeats t (first_copier s) MOST_COPIERS) (sym (c.new.ensures.table ∙ c.in_ok-owners.ensures.dealer.0))

pub returns-clause-starts : goal.returns-clause-starts
returns-clause-starts g c = let s = core_state c.args.plan.now.core in let h = g.D.Device.honest c.args.plan.now.device.value in
    subst (Starts s h) (sym (c.new.ensures.book ∙ ap book_of c.in_ok-owners.ensures.left)) (rule_starts s h c.keeps_law.ensures.law c.nothing_is_past.ensures.past c.requires.copiers c.requires.honest)
