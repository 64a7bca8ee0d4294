use Rattle.std.proofs.Common.{◌≡◌, ap, arith, sym, ◌∙◌}
use Rattle.far_events.specs.events.NewSpans.{with_span}
use Rattle.far_events.specs.state.Memory.{state_of}
use Rattle.far_events.proofs.MadeNamings.{comes_near, in_heap, in_log, taken}
use Rattle.far_events.proofs.memory.Memory.make_naming.Goals as goal

pub starts-requires : goal.starts-requires
starts-requires c =
    let s = state_of c.args.self.now in
    let came = comes_near s c.requires.law c.args.pointer c.args.old c.args.new c.ranges.new.fits c.requires.cell c.requires.legal c.in-Some.place (λ v e. sym c.in-Some.is ∙ c.resting_place.ensures v e) in
    omega (arith, c.first_word.ensures, in_heap s c.requires.law c.args.pointer c.args.new c.ranges.new.fits c.in-Some.place _ came)

pub take-requires-clause-log : goal.take-requires-clause-log
take-requires-clause-log c =
    let s = state_of c.args.self.now in
    let came = comes_near s c.requires.law c.args.pointer c.args.old c.args.new c.ranges.new.fits c.requires.cell c.requires.legal c.in-Some.place (λ v e. sym c.in-Some.is ∙ c.resting_place.ensures v e) in
    (in_log s c.requires.law c.args.pointer c.args.new c.ranges.new.fits c.in-Some.place _ came).0

pub take-requires-clause-fits : goal.take-requires-clause-fits
take-requires-clause-fits c =
    let s = state_of c.args.self.now in
    let came = comes_near s c.requires.law c.args.pointer c.args.old c.args.new c.ranges.new.fits c.requires.cell c.requires.legal c.in-Some.place (λ v e. sym c.in-Some.is ∙ c.resting_place.ensures v e) in
    let long : c.pointer_len.result ≡ came.len = c.pointer_len.ensures _ came.near in
    omega (arith, long, (in_log s c.requires.law c.args.pointer c.args.new c.ranges.new.fits c.in-Some.place _ came).1)

pub name_placed-requires-clause-near : goal.name_placed-requires-clause-near
name_placed-requires-clause-near c = λ v e. sym c.in-Some.is ∙ c.resting_place.ensures v e

pub name_placed-requires-clause-begun : goal.name_placed-requires-clause-begun
name_placed-requires-clause-begun c = let s = state_of c.args.self.now in sym (c.starts.ensures ∙ ap s.starts c.first_word.ensures) ∙ c.if-starts.true

pub returns-else-starts : goal.returns-else-starts
returns-else-starts c =
    let s = state_of c.args.self.now in
    let came = comes_near s c.requires.law c.args.pointer c.args.old c.args.new c.ranges.new.fits c.requires.cell c.requires.legal c.in-Some.place (λ v e. sym c.in-Some.is ∙ c.resting_place.ensures v e) in
    let long : c.pointer_len.result ≡ came.len = c.pointer_len.ensures _ came.near in
    c.take.ensures ∙ ap (λ len. with_span s c.args.pointer c.args.new len c.in-Some.place) long
    ∙ sym (taken s c.requires.law c.args.pointer c.args.new c.ranges.new.fits c.in-Some.place _ came (sym (c.starts.ensures ∙ ap s.starts c.first_word.ensures) ∙ c.if-starts.false))
