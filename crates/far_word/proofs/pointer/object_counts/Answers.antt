use Rattle.std.proofs.Common.{ℕ, ◌*◌, ◌/◌, ◌^◌, ◌∙◌, ap, nat_eq}
use mir.Val.{bool_byte}
use Rattle.far_word.proofs.CountLaws.{kept_read, near_read}
use Rattle.far_word.proofs.pointer.object_counts.Goals as goal

pub returns-clause-kept : goal.returns-clause-kept
returns-clause-kept c = λ v e. c.from-kept.ensures ∙ ap (λ (x : ℕ). bool_byte (nat_eq x 1)) c.field.ensures ∙ kept_read c.args.word v c.ranges.word.fits e

pub returns-clause-near : goal.returns-clause-near
returns-clause-near c = λ v e. ap (λ (x : ℕ). x * (c.args.word / 2 ^ 63)) (returns-clause-kept c v e) ∙ near_read c.args.word v c.ranges.word.fits e
