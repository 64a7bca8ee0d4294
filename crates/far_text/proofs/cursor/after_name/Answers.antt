use Rattle.std.proofs.Common.{◌≡◌, ◌+◌, ◌-◌, ◌∷◌, ℕ, List, length, take, drop, get_or, sym, ap, ◌∙◌, arith, below_more, length-drop}
use Rattle.std.proofs.Math.Seq.{take-length}
use Rattle.far_text.specs.Cursor.{words_in, lines_after_first}
use Rattle.far_text.proofs.Cuts.{name_at, name_before}
use Rattle.far_text.proofs.cursor.after_name.Goals.{then-text-len-via-then-text-len, then-text-len-via-else-text-len+then-text-len-ne32}
use Rattle.far_text.proofs.cursor.after_name.Goals as goal

behind : (text : List ℕ) (n : ℕ) → drop n text ≡ take (length text - n) (drop n text)
behind text n = sym (ap (λ m. take m (drop n text)) (sym (length-drop n text)) ∙ take-length (drop n text))

pub loop-at-preserved : goal.loop-at-preserved
loop-at-preserved c = record {
  inside = omega arith;
  same = below_more (λ k. get_or c.args.text.now k 0 ≡ get_or c.args.name.now k 0) c.loop-at.at c.loop-at.invariant.same c.if-text-at.false;
}

pub returns-clause-words : goal.returns-clause-words
returns-clause-words c =
    let text = c.args.text.now in
    let name = c.args.name.now in
    (name_at text name c.if-text-len.false (λ k less. c.loop-at.invariant.same k (omega arith)) c.if-text-len-ne32.false c.requires).0 ∙ ap (λ rest. name ∷ words_in rest) (behind text (length name + 1))

pub returns-clause-lines : goal.returns-clause-lines
returns-clause-lines c =
    let text = c.args.text.now in
    let name = c.args.name.now in
    (name_at text name c.if-text-len.false (λ k less. c.loop-at.invariant.same k (omega arith)) c.if-text-len-ne32.false c.requires).1 ∙ ap lines_after_first (behind text (length name + 1))

pub returns-then-text-len-clause-none : goal.returns-then-text-len-clause-none
returns-then-text-len-clause-none c rest e =
    let before = name_before c.args.text.now c.args.name.now rest e in
    elim c.then-text-len.branch [
      | then-text-len-via-then-text-len w ↦ absurd (omega (arith, w.if-text-len.true, before.0))
      | then-text-len-via-else-text-len+then-text-len-ne32 w ↦ w.if-text-len-ne32.true before.1
    ]

pub returns-then-text-at-clause-none : goal.returns-then-text-at-clause-none
returns-then-text-at-clause-none c rest e =
    c.if-text-at.true ((name_before c.args.text.now c.args.name.now rest e).2 c.loop-at.at c.loop-at-test.true)
