-- A row that becomes longer by a key without bytes says of each key what it said.
use Rattle.std.proofs.Common.{◌≡◌, ◌∙◌, ◌≤◌, ap, ℕ, zero, suc, Bool, true, false, ◌||◌, List, [], ◌∷◌, ◌++◌, length, replicate, take, None, slice_index, refl}
use Rattle.std.specs.Prelude.{if◌then◌else◌}
use Rattle.std.proofs.lemmas.List.{take_all}
use Rattle.far_file.specs.Row.{entry_in, known}
use Rattle.far_file.specs.declared.held.Held.{Held}
use Rattle.far_file.specs.declared.seal.Seal.{Ghosts}

pub longer : {L : Type 0} {l : Ghosts L} (row : List (Held L l)) (held : Held L l) (k : ℕ) → known held ≡ None → entry_in (row ++ held ∷ []) k ≡ entry_in row k
longer [] held zero none = none
longer [] held (suc k) none = refl
longer (y ∷ row) held zero none = refl
longer (y ∷ row) held (suc k) none = longer row held k none

-- bytes that become longer by zeros read as before
zeros_read : (n k : ℕ) → slice_index (replicate n 0) k ≡ 0
zeros_read zero k = refl
zeros_read (suc n) zero = refl
zeros_read (suc n) (suc k) = zeros_read n k

zeros_after : (bytes : List ℕ) (n k : ℕ) → slice_index (bytes ++ replicate n 0) k ≡ slice_index bytes k
zeros_after [] n k = zeros_read n k
zeros_after (y ∷ bytes) n zero = refl
zeros_after (y ∷ bytes) n (suc k) = zeros_after bytes n k

pub filled_up : (filled : Bool) (end n : ℕ) (old new : List ℕ) → length old ≤ end → new ≡ (if filled then take end old ++ replicate n 0 else old) → (k : ℕ) → slice_index new k ≡ slice_index old k
filled_up true end n old new long is k = ap (λ bytes. slice_index bytes k) (is ∙ ap (λ bytes. bytes ++ replicate n 0) (take_all end old long)) ∙ zeros_after old n k
filled_up false end n old new long is k = ap (λ bytes. slice_index bytes k) is

-- what follows from each of two follows from either
pub either : (a b : Bool) (P : Type 0) → (a ≡ true → P) → (b ≡ true → P) → (a || b) ≡ true → P
either true b P f g h = f refl
either false b P f g h = g h
