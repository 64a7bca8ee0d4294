use Rattle.std.proofs.Common.{◌∙◌, ◌*◌, ◌/◌, ap, arith, inl, inr, length, slice_set, sym}
use Rattle.std.proofs.lemmas.Bool.{cases_eq}
use Rattle.std.proofs.lemmas.Grind.{get_or-set_at}
use Rattle.std.proofs.lemmas.List.{get_or-set_other, length-set}
use Rattle.std.proofs.lemmas.List.FromFn.{fill_by_all}
use Rattle.far_word.specs.Bytes.{packed_word, words_of}
use Rattle.far_word.specs.Sizes.{words_for}
use Rattle.far_word.proofs.WordBytes.{length-rest, read_whole}
use Rattle.far_word.proofs.bytes.pack_bytes.Goals as goal

pub loop-i-init : goal.loop-i-init
loop-i-init c = λ k below. absurd (omega arith)

pub loop-i-preserved : goal.loop-i-preserved
loop-i-preserved c =
    let bytes = c.args.bytes.now in
    λ k below. elim (cases_eq k c.loop-i.i) [
      | inl e ↦ get_or-set_at c.loop-i.words c.loop-i.i k c.read_u64.result 0 e (omega arith) ∙ c.read_u64.ensures ∙ read_whole bytes c.loop-i.i (omega arith) ∙ ap (packed_word bytes) (sym e)
      | inr ne ↦ get_or-set_other c.loop-i.words c.loop-i.i k c.read_u64.result 0 ne ∙ c.loop-i.invariant k (omega arith)
    ]

pub read_u64-requires : goal.read_u64-requires
read_u64-requires c = omega (arith, length-rest c.args.bytes.now (8 * c.loop-i.i))

pub bounds-words-i : goal.bounds-words-i
bounds-words-i c = omega arith

pub last_word-requires-clause-some : goal.last_word-requires-clause-some
last_word-requires-clause-some c = omega arith

pub last_word-requires-clause-few : goal.last_word-requires-clause-few
last_word-requires-clause-few c = omega arith

pub bounds-words-whole : goal.bounds-words-whole
bounds-words-whole c = omega arith

pub returns-then-whole-words : goal.returns-then-whole-words
unfolding words_of
returns-then-whole-words c =
    let bytes = c.args.bytes.now in
    let whole = length bytes / 8 in
    fill_by_all (packed_word bytes) (slice_set c.loop-i.words whole c.last_word.result) (words_for (length bytes)) 0 (omega (arith, length-set c.loop-i.words whole c.last_word.result)) (λ k lt. elim (cases_eq k whole) [
      | inl e ↦ get_or-set_at c.loop-i.words whole k c.last_word.result 0 e (omega arith) ∙ c.last_word.ensures ∙ ap (packed_word bytes) (sym e)
      | inr ne ↦ get_or-set_other c.loop-i.words whole k c.last_word.result 0 ne ∙ c.loop-i.invariant k (omega arith)
    ])

pub returns-else-whole-words : goal.returns-else-whole-words
unfolding words_of
returns-else-whole-words c = fill_by_all (packed_word c.args.bytes.now) c.loop-i.words (words_for (length c.args.bytes.now)) 0 (omega arith) (λ k lt. c.loop-i.invariant k (omega arith))
