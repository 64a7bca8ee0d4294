use Rattle.std.proofs.Common.{ℕ, arith}
use Rattle.std.specs.Prelude.{slice_index}
use Rattle.far_word.specs.Header.{version_of}
use Rattle.far_log.proofs.WalkLaws.{end_low, walk_more}
use Rattle.far_log.proofs.walking.walk.Goals as goal

pub loop-at-preserved : goal.loop-at-preserved
loop-at-preserved c =
    let word : ℕ → ℕ = λ i. slice_index c.args.words.now i in
    let found = c.in_ok-span.ensures.span in
    let known = c.loop-at.invariant in
    let ends = end_low (version_of (word 0)) c.args.tail in
    record {
      room = omega (arith, c.push_reserved.ensures.capacity, known.room);
      count = omega (arith, c.push_reserved.ensures.len, c.size_of-at.ensures, found.2.header.layout.some, known.count);
      below = omega (arith, c.size_of-at.ensures, found.1, ends.0);
      walk = rw (c.push_reserved.ensures.items, c.size_of-at.ensures) (walk_more word c.loop-at.at c.loop-at.spans.items c.in_ok-span.span known.walk found.0 found.2 (omega (arith, found.1, ends.1)));
    }
