use Rattle.std.proofs.Common.{◌≡◌, ℕ, ◌+◌, ◌-◌, ◌*◌, ◌^◌, ◌<◌, sym, subst}
use Rattle.far_word.specs.Bytes.{bytes_of, packed_word}
use Rattle.far_word.proofs.ByteLaws.{packs_back}
use Rattle.far_word.proofs.HeaderLaws.{header_says}
use Rattle.far_log.specs.Spans.{header_of}
use Rattle.far_log.proofs.Padding.{packed_small}
use Rattle.far_log.proofs.SpanLaws.{reads_as}
use Rattle.far_log.proofs.laws.spans_hold_bytes.Goals as goal

pub returns : goal.returns
returns c v word span fits =
    let words : ℕ → ℕ = λ k. word (span.at + 1 + k) in (
      λ stands. (reads_as word span stands.header, λ i lt. packs_back words span.len i (fits (span.at + 1 + i)) (stands.padding i lt)),
      λ holds. let says = header_says v (word span.at) (header_of span) (fits span.at) holds.0 in record {
        header = record { layout = says.0; header = sym says.1 };
        padding = λ i lt. let same : packed_word (bytes_of words span.len) i ≡ words i = holds.1 i lt in
            subst (λ w. w < 2 ^ (8 * (span.len - 8 * i))) same (packed_small words span.len i (subst (λ w. w < 2 ^ 64) (sym same) (fits (span.at + 1 + i))));
      },
    )
