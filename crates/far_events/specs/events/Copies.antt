-- What stands behind the header of a new span, where it is a copy of words that stand elsewhere.
use Rattle.std.specs.Prelude.{◌≡◌, ◌+◌, ◌-◌, ◌*◌, ◌^◌, ◌<◌, ◌==◌, ◌&&◌, ℕ, Bool, true, nat_lt, suc, zero}
use Rattle.far_word.specs.declared.pointer.Place.{Place}
use Rattle.far_word.specs.Sizes.{words_for}
use Rattle.far_events.specs.state.State.{addr}

-- the data words of an object at a place
abbrev pub data_at : (ℕ → ℕ) → Place → ℕ → ℕ
data_at word place i = word (addr place + 1 + i)

-- the first n words of both are the same
abbrev pub Alike : (ℕ → ℕ) → (ℕ → ℕ) → ℕ → Type 0
Alike f g n = (i : ℕ) → i < n → f i ≡ g i

-- the same as a test
abbrev pub alike : (ℕ → ℕ) → (ℕ → ℕ) → ℕ → Bool
alike f g zero = true
alike f g (suc n) = alike f g n && (f n == g n)

-- the last data word has zeros after the last byte; no other word has room for more
abbrev pub EndsPadded : (ℕ → ℕ) → ℕ → Place → Type 0
EndsPadded word len place = data_at word place (words_for len - 1) < 2 ^ (8 * (len - 8 * (words_for len - 1)))

abbrev pub ends_padded : (ℕ → ℕ) → ℕ → Place → Bool
ends_padded word len place = nat_lt (data_at word place (words_for len - 1)) (2 ^ (8 * (len - 8 * (words_for len - 1))))
