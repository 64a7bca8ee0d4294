-- Words in a row: what each step keeps, they all keep; and what is asked of each.
use Rattle.std.proofs.Common.{◌≡◌, ℕ, zero, suc, ◌+◌, ◌*◌, ◌<◌, arith, refl, sym, ap, ◌∙◌, subst, false, List, ◌++◌, take}
use Rattle.far_word.specs.declared.pointer.Place.{Place}
use Rattle.far_word.specs.declared.sizes.TheConstants.{LOG_WORDS}
use Rattle.far_word.specs.Bytes.{bytes_of}
use Rattle.far_events.specs.declared.event.Event.{Event}
use Rattle.far_events.specs.declared.event.Event.TheVariants.{Get, Put}
use Rattle.far_events.specs.declared.event.Reply.{Reply}
use Rattle.far_events.specs.events.Legal.{Legal}
use Rattle.far_events.specs.state.State.{State, put}
use Rattle.far_events.proofs.Put.{put_other, put_same}
use Rattle.far_hand.specs.Came.{Came}
use Rattle.far_hand.specs.Ranges.{CopiesRow, CopiesWord, HasRead, InTurn, IsPast, IsWithin, ReadsRow, ReadsWord, WritesRow, WritesWord}
use Rattle.far_hand.proofs.ByteRows.{bytes_none, row_unpacked}
use Rattle.far_hand.proofs.Closure.{no_call, then_came}

module _ {S : Type 0} (step : ℕ → S → S → Type 0) where
  -- what each step keeps
  pub turns_keep : (P : S → Type 0) → ((i : ℕ) (u v : S) → step i u v → P u → P v) → (i n : ℕ) (s t : S) → InTurn step i n s t → P s → P t
  turns_keep P f i zero s t same p = subst P (sym same) p
  turns_keep P f i (suc n) s t (u, before, last) p = f (i + n) u t last (turns_keep P f i n s u before p)

  -- what steps come to, by how many there were
  pub turns_lead : (P : ℕ → S → Type 0) (i n : ℕ) → ((k : ℕ) (u v : S) → k < n → step (i + k) u v → P k u → P (k + 1) v) → (s t : S) → InTurn step i n s t → P 0 s → P n t
  turns_lead P i zero f s t same p = subst (P 0) (sym same) p
  turns_lead P i (suc n) f s t (u, before, last) p =
      let e : n + 1 ≡ suc n = omega arith in
      subst (λ m. P m t) e (f n u t (omega arith) last (turns_lead P i n (λ k x y lt. f k x y (omega arith)) s u before p))

  -- steps after steps
  pub turns_then : (i n j k : ℕ) (s t u : S) → j ≡ i + n → InTurn step i n s t → InTurn step j k t u → InTurn step i (n + k) s u
  turns_then i n j zero s t u next a same = let e : n ≡ n + 0 = omega arith in subst (λ m. InTurn step i m s u) e (subst (InTurn step i n s) (sym same) a)
  turns_then i n j (suc k) s t u next a (v, before, last) =
      let e : suc (n + k) ≡ n + suc k = omega arith in
      let at : j + k ≡ i + (n + k) = omega arith in
      subst (λ m. InTurn step i m s u) e (v, turns_then i n j k s t v next a before, subst (λ m. step m v u) at last)

  -- one step more
  pub turn_more : (i n m j : ℕ) (s u t : S) → m ≡ n + 1 → j ≡ i + n → InTurn step i n s u → step j u t → InTurn step i m s t
  turn_more i n m j s u t many here before last = let e : suc n ≡ m = omega (arith, many) in subst (λ q. InTurn step i q s t) e (u, before, subst (λ q. step q u t) here last)

  -- they are calls
  pub turns_came : {makes : S → Event → Reply → S → Type 0} → ((i : ℕ) (u v : S) → step i u v → Came makes u v) → (i n : ℕ) (s t : S) → InTurn step i n s t → Came makes s t
  turns_came f i zero s t same = no_call (sym same)
  turns_came f i (suc n) s t (u, before, last) = then_came (turns_came f i n s u before) (f (i + n) u t last)

-- other steps in the place of each
pub turns_as : {S : Type 0} (step other : ℕ → S → S → Type 0) (i n : ℕ) → ((k : ℕ) (u v : S) → k < n → step (i + k) u v → other (i + k) u v) → (s t : S) → InTurn step i n s t → InTurn other i n s t
turns_as step other i zero f s t same = same
turns_as step other i (suc n) f s t (u, before, last) = (u, turns_as step other i n (λ k x y lt. f k x y (omega arith)) s u before, f n u t (omega arith) last)

-- ---- the guards: of the state t, which is s but for words
module _ (s t : State) (is : t ≡ record s { word = t.word }) where
  pub may_get : (l at count i : ℕ) → IsWithin s l at count → i < count → Legal t (Get l (at + i) false)
  may_get l at count i within lt = (subst (λ (x : State). l < x.logs) (sym is) within.0, omega (arith, within.1, lt), tt)

  pub may_put : (l at count i w : ℕ) → IsPast s l at count → i < count → Legal t (Put l (at + i) w)
  may_put l at count i w past lt =
      let tails : t.tail l ≡ s.tail l = ap (λ (x : State). x.tail l) is in
      (subst (λ (x : State). l < x.logs) (sym is) past.0, λ e. past.1 (ap (λ (x : State). x.kind l) (sym is) ∙ e), omega (arith, past.2, tails), omega (arith, past.3, lt))

-- words alone have changed, and change again
pub words_again : (s t u : State) → t ≡ record s { word = t.word } → u ≡ record t { word = u.word } → u ≡ record s { word = u.word }
words_again s t u is more = more ∙ ap (λ (x : State). record x { word = u.word }) is

-- as where one is written
pub word_rest : (s t : State) (a w : ℕ) → t ≡ record s { word = put s.word a w } → t ≡ record s { word = t.word }
word_rest s t a w is = let word : t.word ≡ put s.word a w = ap (λ (x : State). x.word) is in is ∙ (λ i. record s { word = sym word i })

-- ---- over any hand
module _ {S : Type 0} (still : Type 0) (view : S → State) (makes : S → Event → Reply → S → Type 0) where
  read_rest : (l at w : ℕ) (s : State) (u v : S) → ReadsWord still view makes l at w u v → view u ≡ record s { word = (view u).word } → view v ≡ record s { word = (view v).word }
  read_rest l at w s u v h is = words_again s (view u) (view v) is h.gets.rest

  write_rest : (l at w : ℕ) (s : State) (u v : S) → WritesWord still view makes l at w u v → view u ≡ record s { word = (view u).word } → view v ≡ record s { word = (view v).word }
  write_rest l at w s u v h is = words_again s (view u) (view v) is (word_rest (view u) (view v) (l * LOG_WORDS + at) w h.set)

  -- words alone change
  pub rows_rest : (step : ℕ → S → S → Type 0) → ((i : ℕ) (s : State) (u v : S) → step i u v → view u ≡ record s { word = (view u).word } → view v ≡ record s { word = (view v).word }) →
      (i n : ℕ) (u v : S) → InTurn step i n u v → view v ≡ record (view u) { word = (view v).word }
  rows_rest step f i n u v row = turns_keep step (λ x. view x ≡ record (view u) { word = (view x).word }) (λ j x y h is. f j (view u) x y h is) i n u v row refl

  pub one_read_rest : (l at w : ℕ) (u v : S) → ReadsWord still view makes l at w u v → view v ≡ record (view u) { word = (view v).word }
  one_read_rest l at w u v h = read_rest l at w (view u) u v h refl

  pub reads_rest : (l at : ℕ) (row : ℕ → ℕ) (i n : ℕ) (u v : S) → ReadsRow still view makes l at row i n u v → view v ≡ record (view u) { word = (view v).word }
  reads_rest l at row i n u v = rows_rest (λ j. ReadsWord still view makes l (at + j) (row j)) (λ j s x y. read_rest l (at + j) (row j) s x y) i n u v

  pub writes_rest : (l at : ℕ) (row : ℕ → ℕ) (i n : ℕ) (u v : S) → WritesRow still view makes l at row i n u v → view v ≡ record (view u) { word = (view v).word }
  writes_rest l at row i n u v = rows_rest (λ j. WritesWord still view makes l (at + j) (row j)) (λ j s x y. write_rest l (at + j) (row j) s x y) i n u v

  pub copies_rest : (from to : Place) (i n : ℕ) (u v : S) → CopiesRow still view makes from to i n u v → view v ≡ record (view u) { word = (view v).word }
  copies_rest from to i n u v = rows_rest (CopiesWord still view makes from to)
      (λ j s x y h is. write_rest to.log (to.at + 1 + j) h.word s h.middle y h.wrote (read_rest from.log (from.at + 1 + j) h.word s x h.middle h.read is)) i n u v

  -- one word more
  pub copies_more : (from to : Place) (i n at : ℕ) (s u t : S) → at ≡ i + n → CopiesRow still view makes from to i n s u → CopiesWord still view makes from to at u t → CopiesRow still view makes from to i (n + 1) s t
  copies_more from to i n at s u t here row last = turn_more (CopiesWord still view makes from to) i n (n + 1) at s u t refl here row last

  pub writes_more : (l at : ℕ) (row : ℕ → ℕ) (i n j w : ℕ) (s u t : S) → j ≡ i + n → w ≡ row j → WritesRow still view makes l at row i n s u → WritesWord still view makes l (at + j) w u t →
      WritesRow still view makes l at row i (n + 1) s t
  writes_more l at row i n j w s u t here is before last =
      turn_more (λ k. WritesWord still view makes l (at + k) (row k)) i n (n + 1) j s u t refl here before (subst (λ x. WritesWord still view makes l (at + j) x u t) is last)

  pub has_none : (l at : ℕ) (s : S) (row : List ℕ) → HasRead still view makes l at s s 0 row
  has_none l at s row = ((λ _. 0), refl, bytes_none (λ _. 0))

  pub has_more : (l at n w : ℕ) (s u t : S) (old new : List ℕ) → HasRead still view makes l at s u n old → ReadsWord still view makes l (at + n) w u t →
      take (8 * n + 8) new ≡ take (8 * n) old ++ bytes_of (λ _. w) 8 → HasRead still view makes l at s t (n + 1) new
  has_more l at n w s u t old new (word, row, front) read more =
      let here : n ≡ 0 + n = omega arith in
      let before : ReadsRow still view makes l at (put word n w) 0 n s u = turns_as (λ k. ReadsWord still view makes l (at + k) (word k)) (λ k. ReadsWord still view makes l (at + k) (put word n w k)) 0 n
      (λ k x y lt. subst (λ z. ReadsWord still view makes l (at + (0 + k)) z x y) (sym (put_other word n w (0 + k) (λ e. omega arith)))) s u row in (
        put word n w,
        turn_more (λ k. ReadsWord still view makes l (at + k) (put word n w k)) 0 n (n + 1) n s u t refl here before (subst (λ z. ReadsWord still view makes l (at + n) z u t) (sym (put_same word n w n refl)) read),
        row_unpacked word n w old new front more,
      )
