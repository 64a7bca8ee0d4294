use Rattle.std.proofs.Common.{ap, arith, sym, ◌≡◌, ◌∙◌, get_or, ◌<◌}
use Rattle.std.specs.Option.{option_map}
use Rattle.far_text.specs.Cursor.{words_left}
use Rattle.far_text.proofs.Numbers.{other_tells}
use Rattle.far_text.proofs.Cuts.{word_at}
use Rattle.far_text.proofs.WordLemmas.{other_at, none_at, zero_at, number_at, no_ends}
use Rattle.far_text.proofs.cursor.printed_number.Goals.{else-len-gt1-via-then-len-gt1+else-text-eq48, else-len-gt1-via-else-len-gt1}
use Rattle.far_text.proofs.cursor.printed_number.Goals as goal

pub returns-in_err-rest-clause-number : goal.returns-in_err-rest-clause-number
returns-in_err-rest-clause-number c =
    let longer = c.in_err-rest.ensures.longer in
    ap (option_map (λ found. (found.0, words_left found.1))) c.from_residual.ensures
    ∙ sym (other_at c.args.text.now c.args.len longer.0 c.requires.digits (other_tells (get_or c.args.text.now c.args.len 0) (c.requires.stops longer.0)) longer.1)

pub returns-then-len-eq0-clause-number : goal.returns-then-len-eq0-clause-number
returns-then-len-eq0-clause-number c =
    let stops = rw c.if-len-eq0.true at c.requires.stops in
    sym (none_at c.args.text.now (λ some. other_tells (get_or c.args.text.now 0 0) (stops some)))

pub returns-then-text-eq48-clause-number : goal.returns-then-text-eq48-clause-number
returns-then-text-eq48-clause-number c =
    sym (zero_at c.args.text.now c.args.len c.requires.fits c.requires.digits c.if-text-eq48.true c.if-len-gt1.true)

pub returns-clause-number : goal.returns-clause-number
returns-clause-number c =
    let some : 0 < c.args.len = omega arith in
    let lead : get_or c.args.text.now 0 0 ≡ 48 → c.args.len ≡ 1 = λ zero.
    elim c.else-len-gt1.branch [
      | else-len-gt1-via-then-len-gt1+else-text-eq48 w ↦ absurd (omega (arith, w.if-text-eq48.false))
      | else-len-gt1-via-else-len-gt1 w ↦ omega (arith, w.if-len-gt1.false)
    ] in
    sym (number_at c.args.text.now c.args.len c.args.n (words_left c.in_ok-rest.rest) c.requires.fits c.requires.digits c.in_ok-rest.ensures.words some lead c.requires.value c.ranges.n.fits)

pub returns-clause-lines : goal.returns-clause-lines
returns-clause-lines c =
    (word_at c.args.text.now c.args.len c.requires.fits (no_ends c.args.text.now c.args.len c.requires.digits)).1 ∙ c.in_ok-rest.ensures.lines
