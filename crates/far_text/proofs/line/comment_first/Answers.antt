use Rattle.far_text.proofs.LineLemmas.{other_line}
use Rattle.far_text.proofs.line.comment_first.Goals as goal

pub returns-in_err-len-clause-bad : goal.returns-in_err-len-clause-bad
returns-in_err-len-clause-bad c =
    let other = c.in_err-len.ensures.other in
    rw c.from_residual.ensures (other_line c.args.text.now other.0 other.1 other.2 other.3)
