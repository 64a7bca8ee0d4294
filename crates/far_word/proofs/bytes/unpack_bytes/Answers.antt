use Rattle.std.proofs.Common.{ℕ, ◌∙◌, ◌*◌, ◌/◌, ap, arith, get_or, length}
use Rattle.std.proofs.lemmas.List.FromFn.{fill_by_all}
use Rattle.far_word.specs.Bytes.{byte_at, bytes_of}
use Rattle.far_word.proofs.ByteLaws.{length-with_word}
use Rattle.far_word.proofs.WordBytes.{length-rest, unpack_step, write_whole}
use Rattle.far_word.proofs.bytes.unpack_bytes.Goals as goal

pub loop-i-init : goal.loop-i-init
loop-i-init c = λ k below. absurd (omega arith)

pub write_u64-requires : goal.write_u64-requires
write_u64-requires c = omega (arith, length-rest c.loop-i.bytes (8 * c.loop-i.i))

pub loop-i-preserved : goal.loop-i-preserved
loop-i-preserved c =
    let f : ℕ → ℕ = λ q. get_or c.args.words.now q 0 in
    unpack_step f c.loop-i.bytes _ c.loop-i.i (write_whole c.loop-i.bytes c.write_u64.new.buf c.loop-i.i (f c.loop-i.i) (omega arith) (omega (arith, length-rest c.loop-i.bytes (8 * c.loop-i.i))) c.write_u64.ensures) c.loop-i.invariant

pub returns-then-whole-words : goal.returns-then-whole-words
unfolding bytes_of
returns-then-whole-words c =
    let f : ℕ → ℕ = λ q. get_or c.args.words.now q 0 in
    let whole = length c.args.bytes.now / 8 in
    fill_by_all (byte_at f) c.overwrite_last.new.bytes (length c.args.bytes.now) 0 (ap length c.overwrite_last.ensures ∙ length-with_word c.loop-i.bytes whole (f whole) ∙ omega arith)
    (λ k lt. unpack_step f c.loop-i.bytes c.overwrite_last.new.bytes whole c.overwrite_last.ensures (λ q low below. c.loop-i.invariant q (omega arith) below) k (omega arith) (omega arith))

pub returns-else-whole-words : goal.returns-else-whole-words
unfolding bytes_of
returns-else-whole-words c =
    fill_by_all (byte_at (λ q. get_or c.args.words.now q 0)) c.loop-i.bytes (length c.args.bytes.now) 0 (omega arith) (λ k lt. c.loop-i.invariant k (omega arith) (omega arith))
