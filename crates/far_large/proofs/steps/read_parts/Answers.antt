use Rattle.std.proofs.Common.{◌≡◌, ℕ, ◌+◌, ◌-◌, ◌/◌, ◌%◌, ◌≤◌, List, length, take, drop, sym, ◌∙◌, ap, subst, arith}
use borrow.Rule.Slice.PartMut.{put_mid}
use Rattle.far_objects.specs.Far.{Far, barred}
use Rattle.far_large.specs.Parts.{HasParts, IsWhyMissed, Parts, number_of}
use Rattle.far_large.proofs.Reading.{joins, long_mid, long_range, not_read, piece_is}
use Rattle.far_large.proofs.steps.read_parts.Goals as goal

pub loop-done-preserved : goal.loop-done-preserved
loop-done-preserved g c =
    let done : ℕ = c.loop-done.done in
    let count : ℕ = c.min-count.result in
    let out : List ℕ = c.loop-done.out in
    let piece : List ℕ = c.read_part.new.out in
    let far : Far = g.O.Objects.far c.loop-done.worker in
    let was : Far = g.O.Objects.far c.args.worker.now in
    let same : far ≡ was = c.loop-done.invariant.same in
    let inside : done + count ≤ length out = omega arith in
    let back : done + count - done ≡ count = omega arith in
    let range : length (take (done + count - done) (drop done out)) ≡ count = long_range done count out inside in
    let long : length piece ≡ count = c.in-Ok.ensures.long ∙ range in
    let mid : length (put_mid done (done + count - done) out piece) ≡ length out = long_mid done (done + count - done) out piece (omega arith) (long ∙ sym back) in
    record {
      same = c.in-Ok.ensures.same ∙ same;
      within = omega arith;
      long = mid ∙ c.loop-done.invariant.long;
      read = λ bytes honest parts. joins done (done + count - done) count c.args.from out piece bytes (omega arith) long (c.loop-done.invariant.read bytes honest parts)
          (piece_is far c.args.numbers.now bytes piece (c.args.from + done) count (length (take (done + count - done) (drop done out)))
          (ap (λ f. f.honest) same ∙ honest) (subst (λ f. HasParts f c.args.numbers.now bytes) (sym same) parts) (omega arith) (omega arith) c.in-Ok.ensures.read range);
    }

pub returns-in-Err-clause-why : goal.returns-in-Err-clause-why
returns-in-Err-clause-why g c =
    let done : ℕ = c.loop-done.done in
    let count : ℕ = c.min-count.result in
    let at : ℕ = c.args.from + done in
    let inside : done + count ≤ length c.loop-done.out = omega arith in
    let large : Parts = record { len = c.args.len; numbers = c.args.numbers.now } in
    not_read g.O.Objects.unreached (g.O.Objects.far c.args.worker.now) large at count c.in-Err.why (omega arith) (omega arith) (omega arith) (omega arith)
    (subst (λ f. IsWhyMissed g.O.Objects.unreached f.honest (barred (f.sizes (number_of c.args.numbers.now (at / 4088))) (at % 4088) count) c.in-Err.why) c.loop-done.invariant.same
    (subst (λ n. IsWhyMissed g.O.Objects.unreached (g.O.Objects.far c.loop-done.worker).honest (barred ((g.O.Objects.far c.loop-done.worker).sizes (number_of c.args.numbers.now (at / 4088))) (at % 4088) n) c.in-Err.why)
    (long_range done count c.loop-done.out inside) c.in-Err.ensures.why))
