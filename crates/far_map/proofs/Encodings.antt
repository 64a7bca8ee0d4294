-- An entry is read as it was written.
use Rattle.std.proofs.Common.{◌≡◌, ℕ, ◌+◌, ◌*◌, ◌/◌, ◌%◌, nat_lt, nat_le, true, Some, List, length, ap, ◌∙◌, arith, length-append}
use Rattle.std.proofs.lemmas.Bool.{and_from, lt-ltb}
use Rattle.std.proofs.lemmas.List.{take_at, drop_at}
use Rattle.far_objects.specs.declared.objects.TheConstants.{MOST}
use Rattle.far_objects.specs.Far.{is_length}
use Rattle.far_map.specs.Causes.{is_entry}
use Rattle.far_map.specs.Entries.{encoded, decoded}

pub decoded-encoded : (key value : List ℕ) → decoded (encoded key value) ≡ Some (key, value)
unfolding decoded encoded
decoded-encoded key value =
    let n = length key % 256 + 256 * (length key / 256) in
    let e : length key ≡ n = omega arith in
    λ i. Some (take_at key value n e i, drop_at key value n e i)

pub encoded_length : (key value : List ℕ) → length (encoded key value) ≡ 2 + length key + length value
unfolding encoded
encoded_length key value = omega (arith, length-append key value)

pub entry_fits : (key value : List ℕ) → is_entry key value ≡ true → is_length (length (encoded key value)) ≡ true
entry_fits key value fits =
    let n = encoded_length key value in
    and_from (nat_lt 0 (length (encoded key value))) (nat_le (length (encoded key value)) MOST) (lt-ltb 0 (length (encoded key value)) (omega (arith, n))) (ap (λ k. nat_le k MOST) n ∙ fits)
