use Rattle.std.proofs.Common.{◌∙◌, length, sym, ℕ, arith}
use Rattle.far_text.specs.Command.{Command, as_command}
use Rattle.far_text.specs.Threads.{as_thread}
use Rattle.far_text.proofs.PlaceLemmas.{one_found, one_passed, one_below_more}
use Rattle.far_text.proofs.split_text.SplitText.lines_of.Goals as goal
use Rattle.far_text.proofs.split_text.SplitText.lines_of.Goals.{then-runs+in_ok-push, else-runs}

pub loop-place-preserved : goal.loop-place-preserved
loop-place-preserved c =
    let text = c.args.self.now in
    let thread = as_thread c.args.thread in
    let place = c.loop-place.place in
    let places = c.loop-place.places.items in
    let line : ℕ × Command = (c.at.result.0, as_command c.at.result.1) in
    let here = c.at.ensures.value in
    let found = c.loop-place.invariant.found in
    elim c.if-runs.branch [
      | then-runs+in_ok-push w ↦ (
          let own = sym c.runs.ensures ∙ w.if-runs.true in
          rw (w.places-is, w.in_ok-push.ensures.items) (record {
            found = one_found thread text places place line here found own;
            inside = one_below_more (length text) places place c.loop-place.invariant.inside (omega arith);
          }))
      | else-runs w ↦ (
          let other = sym c.runs.ensures ∙ w.if-runs.false in
          rw w.places-is (record {
            found = one_passed thread text places place line here found other;
            inside = c.loop-place.invariant.inside;
          }))
    ]
