-- Rows of words as events: what one that is loaded or stored adds, and what some at a time add.
use Rattle.std.proofs.Common.{◌≡◌, ◌≢◌, ℕ, zero, suc, ◌+◌, ◌-◌, ◌*◌, ◌/◌, ◌%◌, ◌^◌, ◌<◌, ◌≤◌, cond, arith, ap, sym, refl, subst, ◌∙◌, List, ◌++◌, length, get_or, take, drop, inl, inr}
use Rattle.std.specs.Int.{bytes_low_first}
use Rattle.std.proofs.lemmas.Bool.{cases_eq, cases_lt, eq-eqb}
use Rattle.std.proofs.lemmas.List.{get_or-take, get_or-drop}
use borrow.Rule.Slice.PartMut.{put_mid}
use Rattle.byteorder.specs.Endian.{little_number}
use Rattle.far_word.specs.Bytes.{bytes_of, packed_word, with_word}
use Rattle.far_word.proofs.ByteLaws.{bytes_of-get, packs_back, read_other, with_word-get}
use Rattle.far_word.proofs.WordBytes.{length-rest, read_word, write_whole}
use Rattle.far_events.specs.declared.event.Event.TheVariants.{Load, Store}
use Rattle.far_events.specs.declared.event.Reply.TheVariants.{Done, Word}
use Rattle.far_table.specs.View.{OwnerView}
use Rattle.far_table.specs.RowTells.{LoadedEach, StoredEach, row_view}
use Rattle.far_table.specs.Tells.{OwnerMade}
use Rattle.far_table.specs.Views.{stored_view}
use Rattle.far_table.proofs.WholeWords.{whole_padding}

-- ---- words of bytes
-- equal bytes are equal words
same_word : (xs ys : List ℕ) (i j : ℕ) → ((k : ℕ) → k < 8 → get_or xs (8 * i + k) 0 ≡ get_or ys (8 * j + k) 0) → packed_word xs i ≡ packed_word ys j
same_word xs ys i j h =
    let here : 8 * i + 0 ≡ 8 * i = omega arith in
    let there : 8 * j + 0 ≡ 8 * j = omega arith in
    let first : get_or xs (8 * i) 0 ≡ get_or ys (8 * j) 0 = ap (λ k. get_or xs k 0) (sym here) ∙ h 0 (omega arith) ∙ ap (λ k. get_or ys k 0) there in
    omega (arith, first, h 1 (omega arith), h 2 (omega arith), h 3 (omega arith), h 4 (omega arith), h 5 (omega arith), h 6 (omega arith), h 7 (omega arith))

-- a word that is read of a list
pub read_packed : (bs xs : List ℕ) (i w : ℕ) → 8 * i + 8 ≤ length bs → xs ≡ take (length bs - 8 * i) (drop (8 * i) bs) → w ≡ little_number 8 xs → w ≡ packed_word bs i
read_packed bs xs i w fits part read =
    read ∙ read_word bs xs i (λ q few. ap (λ ys. get_or ys q 0) part ∙ get_or-take (length bs - 8 * i) (drop (8 * i) bs) q 0 (omega arith) ∙ get_or-drop (8 * i) bs q 0)

-- those of a list in which one word is written over
module _ (bs buf : List ℕ) (i w : ℕ) (wide : w < 2 ^ 64) (fits : 8 * i + 8 ≤ length bs) (is : buf ≡ bytes_low_first 0 8 w ++ drop 8 (take (length bs - 8 * i) (drop (8 * i) bs))) where
  written : put_mid (8 * i) (length bs - 8 * i) bs buf ≡ with_word bs i w
  written = write_whole bs buf i w (omega arith) (omega (arith, length-rest bs (8 * i))) is

  written_other : (j : ℕ) → j ≢ i → packed_word (put_mid (8 * i) (length bs - 8 * i) bs buf) j ≡ packed_word bs j
  written_other j ne = ap (λ xs. packed_word xs j) written ∙ read_other bs i w j ne

  written_byte : (k : ℕ) → k < 8 → get_or (with_word bs i w) (8 * i + k) 0 ≡ get_or (bytes_of (λ _. w) (8 * i + 8)) (8 * i + k) 0
  written_byte k lt =
      let here : (8 * i + k) / 8 ≡ i = omega arith in
      with_word-get bs i w (8 * i + k) (omega arith)
      ∙ ap (λ b. cond b (w / 2 ^ (8 * ((8 * i + k) % 8)) % 256) (get_or bs (8 * i + k) 0)) (eq-eqb ((8 * i + k) / 8) i here)
      ∙ sym (bytes_of-get (λ _. w) (8 * i + 8) (8 * i + k) (omega arith))

  written_word : packed_word (put_mid (8 * i) (length bs - 8 * i) bs buf) i ≡ w
  written_word = ap (λ xs. packed_word xs i) written ∙ same_word (with_word bs i w) (bytes_of (λ _. w) (8 * i + 8)) i i written_byte
      ∙ packs_back (λ _. w) (8 * i + 8) i wide (whole_padding w (8 * i + 8) i wide (omega arith))

-- ---- loads
-- one word more
pub loaded_more : (p first i w : ℕ) (bs buf : List ℕ) (o : OwnerView) → w < 2 ^ 64 → 8 * i + 8 ≤ length bs →
    buf ≡ bytes_low_first 0 8 w ++ drop 8 (take (length bs - 8 * i) (drop (8 * i) bs)) → LoadedEach p first (packed_word bs) i o → OwnerMade (Load o.number p (first + i)) o (Word w) o →
    LoadedEach p first (packed_word (put_mid (8 * i) (length bs - 8 * i) bs buf)) (i + 1) o
loaded_more p first i w bs buf o wide fits is before made j lt =
    let new : List ℕ = put_mid (8 * i) (length bs - 8 * i) bs buf in
    elim (cases_eq j i) [
      | inl e ↦ subst (λ (z : ℕ × ℕ). OwnerMade (Load o.number p (first + z.0)) o (Word z.1) o) (λ k. (sym e k, sym (ap (packed_word new) e ∙ written_word bs buf i w wide fits is) k)) made
      | inr ne ↦ subst (λ z. OwnerMade (Load o.number p (first + j)) o (Word z) o) (sym (written_other bs buf i w wide fits is j ne)) (before j (omega arith))
    ]

-- ---- stores
row_number : (p first : ℕ) (row : ℕ → ℕ) (n : ℕ) (o : OwnerView) → (row_view p first row n o).number ≡ o.number
row_number p first row zero o = refl
row_number p first row (suc n) o = row_number p first row n o

-- a row that goes on where one ended
row_on : (p first next a : ℕ) (row more : ℕ → ℕ) (n : ℕ) (o : OwnerView) → next ≡ first + a → ((k : ℕ) → k < n → more k ≡ row (a + k)) →
    row_view p next more n (row_view p first row a o) ≡ row_view p first row (a + n) o
row_on p first next a row more zero o there same = let e : a ≡ a + 0 = omega arith in ap (λ z. row_view p first row z o) e
row_on p first next a row more (suc n) o there same =
    let at : next + n ≡ first + (a + n) = omega arith in
    let e : suc (a + n) ≡ a + suc n = omega arith in
    ap (λ z. stored_view p z (more n) (row_view p next more n (row_view p first row a o))) at
    ∙ ap (λ z. stored_view p (first + (a + n)) z (row_view p next more n (row_view p first row a o))) (same n (omega arith))
    ∙ ap (stored_view p (first + (a + n)) (row (a + n))) (row_on p first next a row more n o there (λ k lt. same k (omega arith)))
    ∙ ap (λ z. row_view p first row z o) e

-- some words more
pub stored_part : (p first next a n all : ℕ) (row more : ℕ → ℕ) (o u v : OwnerView) → next ≡ first + a → all ≡ a + n → ((k : ℕ) → k < n → more k ≡ row (a + k)) → StoredEach p first row a o u → StoredEach p next more n u v →
    StoredEach p first row all o v
stored_part p first next a n all row more o u v there sum same before after =
    let on : (k : ℕ) → k ≤ n → row_view p next more k u ≡ row_view p first row (a + k) o = (λ k le. ap (row_view p next more k) before.last ∙ row_on p first next a row more k o there (λ q lt. same q (omega arith))) in
    let number : u.number ≡ o.number = ap (λ (z : OwnerView). z.number) before.last ∙ row_number p first row a o in record {
      each = λ i lt. elim (cases_lt i a) [
        | inl low ↦ before.each i low
        | inr high ↦ (let at : next + (i - a) ≡ first + i = omega arith in
            let here : a + (i - a) ≡ i = omega arith in
            let then : a + suc (i - a) ≡ suc i = omega arith in
            let word : more (i - a) ≡ row i = same (i - a) (omega arith) ∙ ap row here in
            let old : row_view p next more (i - a) u ≡ row_view p first row i o = on (i - a) (omega arith) ∙ ap (λ z. row_view p first row z o) here in
            let new : row_view p next more (suc (i - a)) u ≡ row_view p first row (suc i) o = on (suc (i - a)) (omega arith) ∙ ap (λ z. row_view p first row z o) then in
            subst (λ (z : ℕ × ℕ × ℕ × OwnerView × OwnerView). OwnerMade (Store z.0 p z.1 z.2) z.3 Done z.4) (λ k. (number k, at k, word k, old k, new k)) (after.each (i - a) (omega arith)))
      ];
      last = after.last ∙ on n (omega arith) ∙ (let e : a + n ≡ all = omega arith in ap (λ z. row_view p first row z o) e);
    }

-- none yet
pub stored_none : (p first : ℕ) (row : ℕ → ℕ) (o : OwnerView) → StoredEach p first row 0 o o
stored_none p first row o = record { each = λ i none. absurd (omega arith); last = refl }

-- one word more
stored_one : (p at w : ℕ) (u v : OwnerView) → OwnerMade (Store u.number p at w) u Done v → v ≡ stored_view p at w u → StoredEach p at (λ _. w) 1 u v
stored_one p at w u v made view =
    let e : at ≡ at + 0 = omega arith in
    let new : v ≡ stored_view p (at + 0) w u = view ∙ ap (λ z. stored_view p z w u) e in record {
      each = λ i lt. let none : 0 ≡ i = omega arith in
          subst (λ z. OwnerMade (Store u.number p (at + z) w) (row_view p at (λ _. w) z u) Done (row_view p at (λ _. w) (suc z) u)) none
          (subst (λ (z : ℕ × OwnerView). OwnerMade (Store u.number p z.0 w) u Done z.1) (λ k. (e k, new k)) made);
      last = new;
    }

pub stored_more : (p first n w all : ℕ) (row : ℕ → ℕ) (o u v : OwnerView) → all ≡ n + 1 → w ≡ row n → StoredEach p first row n o u → OwnerMade (Store u.number p (first + n) w) u Done v →
    v ≡ stored_view p (first + n) w u → StoredEach p first row all o v
stored_more p first n w all row o u v sum is before made view =
    stored_part p first (first + n) n 1 all row (λ _. w) o u v refl sum (λ k lt. let e : n ≡ n + k = omega arith in is ∙ ap row e) before (stored_one p (first + n) w u v made view)
