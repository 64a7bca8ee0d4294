use Rattle.std.proofs.Common.{◌≡◌, ◌++◌, ◌∙◌, ap}
use Rattle.far_firsts.specs.Lines.{stamp_by}
use Rattle.far_firsts.specs.Tallies.{entry}
use Rattle.far_firsts.specs.Tallying.{line_for}
use Rattle.far_firsts.proofs.Showing.{stamp_back}
use Rattle.far_firsts.proofs.show.show.Goals as goal

pub returns-in-Ok-print_entry-clause-shown : goal.returns-in-Ok-print_entry-clause-shown
returns-in-Ok-print_entry-clause-shown g c =
    let end = c.args.end in
    let key = c.read.new.out.items in
    let line = c.line_of_key-line.result.now in
    let is : line ≡ line_for end key = c.line_of_key-line.ensures ∙ ap (line_for end) c.as_slice.ensures.value in
    record {
      line = line;
      out = c.in-Ok-print_entry.ensures.printed ∙ ap (λ n. c.args.midst.now.out.items ++ entry end (line, n)) c.in-Ok.ensures.count;
      stamp = ap (stamp_by c.args.tally.now.seed end) is ∙ stamp_back c.args.tally.now.seed end key c.in-Ok.ensures.some ∙ c.in-Ok.ensures.stamp;
      exact = λ h. is ∙ ap (line_for end) (c.in-Ok.ensures.line h);
    }
