use Rattle.std.proofs.Common.{ℕ, [], ◌∷◌, ◌++◌, arith}
use Rattle.std.specs.Prelude.{slice_index}
use Rattle.far_word.specs.Header.{version_of}
use Rattle.far_log.proofs.WalkLaws.{end_low, walk_more}
use Rattle.far_log.proofs.converting.check.Goals as goal

pub loop-at-preserved : goal.loop-at-preserved
loop-at-preserved c =
    let word : ℕ → ℕ = λ i. slice_index c.args.words.now i in
    let x = c.in_ok-span.span in
    let found = c.in_ok-span.ensures.span in
    let known = c.loop-at.invariant in
    let ends = end_low (version_of (word 0)) c.args.tail in
    record {
      below = omega (arith, c.size_of-at.ensures, found.1, ends.0);
      walk = (known.walk.0 ++ x ∷ [], rw (c.size_of-at.ensures) (walk_more word c.loop-at.at known.walk.0 x known.walk.1 found.0 found.2 (omega (arith, found.1, ends.1))));
    }
