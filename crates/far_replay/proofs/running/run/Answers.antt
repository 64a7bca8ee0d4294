use Rattle.std.proofs.Common.{sym, IfSome, subst, ◌≡◌, take, ◌+◌}
use Rattle.far_text.specs.declared.text.TheConstants.{LONGEST_TEXT}
use Rattle.far_replay.proofs.Runs.{answered_through, end_through, fault_through}
use Rattle.far_replay.proofs.running.run.Goals as goal

pub returns : goal.returns
returns g c =
    let read = c.deref.result.now in
    let known : IfSome (g.R.Read.remaining c.args.reader.now) (λ text. read ≡ take (LONGEST_TEXT + 1) text) = subst (λ r. IfSome (g.R.Read.remaining c.args.reader.now) (λ text. r ≡ take (LONGEST_TEXT + 1) text)) (sym c.deref.ensures.value) c.in_ok-text.ensures.read in
    record {
      answered = answered_through (g.R.Read.remaining c.args.reader.now) _ _ read c.answer_text.result known c.answer_text.ensures.answered;
      end = end_through (g.R.Read.remaining c.args.reader.now) read c.answer_text.result known c.answer_text.ensures.end;
      fault = fault_through (g.R.Read.remaining c.args.reader.now) _ _ read c.answer_text.result known c.answer_text.ensures.fault;
    }
