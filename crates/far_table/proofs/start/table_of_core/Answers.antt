use Rattle.std.proofs.Common.{◌∙◌, [], length, sym, ap, subst}
use Rattle.far_core.specs.state.CoreState.{core_state}
use Rattle.far_table.specs.View.{Book}
use Rattle.far_table.specs.First.{first_book}
use Rattle.far_table.specs.Rule.{Running}
use Rattle.far_table.specs.Stands.{book_of}
use Rattle.atomic_table.specs.Table.{opening}
use Rattle.far_table.proofs.Begins.{opens}
use Rattle.far_table.proofs.Tables.{is_table, table}
use Rattle.far_table.proofs.start.table_of_core.Goals as goal

pub of_words-requires : goal.of_words-requires
of_words-requires g c = let s = core_state c.args.plan.now.core in let h = g.D.Device.honest c.args.plan.now.device.value in
    subst (λ l. Running (opening l [] (Book (first_book s h)))) (sym (c.as_slice.ensures.value ∙ c.in_ok-words.ensures))
    (opens s h (table s) c.keeps_law.ensures.law c.nothing_is_past.ensures.past c.requires.copiers (is_table s) c.requires.honest)

pub returns-clause-dealer : goal.returns-clause-dealer
returns-clause-dealer g c =
    let e = c.in_ok-table.ensures in
    let h = ap (λ t. t.shared.table_id) c.in_ok-table-2.ensures.ok in
    let long = ap length (c.as_slice.ensures.value ∙ c.in_ok-words.ensures) ∙ (is_table (core_state c.args.plan.now.core)).wide in
    let is = ap (λ z. z.0) e.4 in
    (e.2 ∙ sym h, ap (λ z. z.words) h ∙ (e.0 ∙ long), is ∙ ap Book (sym (ap book_of is)))

pub returns-clause-first : goal.returns-clause-first
returns-clause-first g c = ap (λ z. z.0) c.in_ok-table.ensures.4
