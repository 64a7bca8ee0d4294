use Rattle.std.proofs.Common.{◌≡◌, ◌∙◌, ap, map, arith}
use Rattle.std.specs.List.{range_with_len}
use Rattle.far_core.specs.state.CoreState.{core_state}
use Rattle.far_table.specs.Layout.{table_words}
use Rattle.far_table.specs.Tabled.{table_word}
use Rattle.far_table.proofs.Tables.{filled_more}
use Rattle.far_table.proofs.start.words_of.Goals as goal

pub loop-i-init : goal.loop-i-init
loop-i-init c = let w = c.in_ok-words.ensures in (w.items, w.len, w.capacity)

pub word_of-requires : goal.word_of-requires
word_of-requires c = let many = c.logs-logs.ensures in let few = c.keeps_law.ensures.law.shape.few_logs in let l = c.loop-i-test.true in omega arith

pub push_reserved-requires : goal.push_reserved-requires
push_reserved-requires c = let i = c.loop-i.invariant in let l = c.loop-i-test.true in let a = i.1 in let b = i.2 in omega arith

pub loop-i-preserved : goal.loop-i-preserved
loop-i-preserved c =
    let i = c.loop-i.invariant in
    let p = c.push_reserved.ensures in
    let len = p.len in let cap = p.capacity in let a = i.1 in let b = i.2 in
    (p.items ∙ filled_more (table_word (core_state c.args.core.now)) c.loop-i.i _ _ i.0 c.word_of.ensures, omega arith, omega arith)

pub returns : goal.returns
returns c =
    let a = c.loop-i-test.false in let b = c.loop-i.auto.i-end in
    let many = c.logs-logs.ensures in
    let all : c.loop-i.i ≡ table_words (core_state c.args.core.now).logs = omega arith in c.loop-i.invariant.0 ∙ ap (λ n. map (table_word (core_state c.args.core.now)) (range_with_len 0 n)) all
