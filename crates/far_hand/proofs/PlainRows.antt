-- Rows of words over a plain hand: a call of its core is as many events, one after the other, and between any two there is a hand.
use Rattle.std.proofs.Common.{◌≡◌, ℕ, zero, suc, ◌+◌, ◌*◌, ◌<◌, ◌≤◌, ◌^◌, arith, refl, sym, ap, ◌∙◌, subst, false, ◌-◌}
use Rattle.std.specs.Prelude.{◌≢◌}
use Rattle.far_log.specs.Spans.{head_len}
use Rattle.std.proofs.lemmas.Bool.{false≢true}
use Rattle.far_word.specs.declared.pointer.Place.{Place}
use Rattle.far_word.specs.declared.sizes.TheConstants.{LOG_WORDS}
use Rattle.far_events.specs.declared.event.Event.{Event}
use Rattle.far_events.specs.declared.event.Event.TheVariants.{Get, Put}
use Rattle.far_events.specs.declared.event.Reply.{Reply}
use Rattle.far_events.specs.declared.event.Reply.TheVariants.{Done, Word}
use Rattle.far_events.specs.events.Legal.{Legal}
use Rattle.far_events.specs.events.Ranges.{with_copy, with_row}
use Rattle.far_events.specs.events.Step.{after}
use Rattle.far_core.specs.state.CoreState.{core_state}
use Rattle.far_events.specs.state.State.{State, put}
use Rattle.far_events.proofs.Put.{put_both}
use Rattle.far_core.proofs.Ranges.{core_put}
use Rattle.far_events.proofs.Rows.{row_last, row_none}
use mathlib.Core.Path.{fun_ext}
use Rattle.far_hand.specs.declared.plain.Plain.{Plain}
use Rattle.far_hand.specs.MayBe.{Made}
use Rattle.far_hand.specs.Ranges.{CopiesRow, CopiesWord, InTurn, IsPast, IsWithin, ReadsRow, ReadsWord, WritesRow, WritesWord}
use Rattle.far_hand.proofs.Making.{legal_made}
use Rattle.far_hand.proofs.Ranges.{may_get, may_put}

abbrev pub plain_view : Plain → State
plain_view h = core_state h.core

abbrev pub plain_makes : Plain → Event → Reply → Plain → Type 0
plain_makes s e r t = Made (core_state s.core) e r (core_state t.core)

-- ---- one word
-- a word that is read stays, and so does all else
itself : (s : State) (a : ℕ) → s ≡ record s { word = put s.word a (s.word a) }
itself s a = ap (λ (f : ℕ → ℕ). record s { word = f }) (fun_ext (λ q. put_both (λ x. s.word q ≡ x) s.word a (s.word a) q (λ e. ap s.word e) (λ _. refl)))

pub read_word : (h : Plain) (l at : ℕ) → Legal (plain_view h) (Get l at false) → ReadsWord (Unit {0}) plain_view plain_makes l at ((plain_view h).word (l * LOG_WORDS + at)) h h
read_word h l at legal =
    let s = plain_view h in
    let a : ℕ = l * LOG_WORDS + at in
    record {
      fits = h.core.law.spans.word_fits a;
      gets = record {
        known = λ _. refl;
        padding = λ b i starts lt here. subst (λ x. s.word x < 2 ^ (8 * (head_len (s.word b) - 8 * i))) (sym here) (h.core.law.spans.span_padding b starts i lt);
        read = λ _ _. itself s a;
        kept = λ _ _. refl;
        unread = λ _ _. refl;
        here = λ _ _. refl;
        others = λ _ b _. refl;
        forgot = λ free. absurd (false≢true free);
        rest = refl;
      };
      exact = λ _. refl;
      same = λ _. refl;
      made = legal_made s s (Get l at false) (Word (s.word a)) legal refl refl;
    }

wrote_word : (h t : Plain) (l at w : ℕ) → Legal (plain_view h) (Put l at w) → plain_view t ≡ after (plain_view h) (Put l at w) → WritesWord (Unit {0}) plain_view plain_makes l at w h t
wrote_word h t l at w legal is = record { set = is; made = legal_made (plain_view h) (plain_view t) (Put l at w) Done legal is refl }

-- ---- words that are read: the hand stays the same
pub read_row : (h : Plain) (l at count : ℕ) → IsWithin (plain_view h) l at count → (n : ℕ) → n ≤ count →
    ReadsRow (Unit {0}) plain_view plain_makes l at (λ k. (plain_view h).word (l * LOG_WORDS + (at + k))) 0 n h h
read_row h l at count within zero le = refl
read_row h l at count within (suc n) le =
    (h, read_row h l at count within n (omega arith), read_word h l (at + (0 + n)) (may_get (plain_view h) (plain_view h) refl l at count (0 + n) within (omega arith)))

-- ---- words that are written: step k puts this word at this one of a log, and after k steps these words stand
module _ (h : Plain) (l at count : ℕ) (past : IsPast (plain_view h) l at count) (w : ℕ → ℕ) (f : ℕ → ℕ → ℕ) (wide : (k : ℕ) → k < count → w k < 2 ^ 64)
    (first : f 0 ≡ (plain_view h).word) (next : (k : ℕ) → k < count → f (suc k) ≡ put (f k) (l * LOG_WORDS + (at + k)) (w k)) where
  -- a hand after k steps
  pub record IsAfter (k : ℕ) (u : Plain) : Type 0 where
    pub is : plain_view u ≡ record (plain_view h) { word = f k }
    pub none : k ≡ 0 → u ≡ h

  may_write : (k : ℕ) → k < count → (u : Plain) → IsAfter k u → Legal (plain_view u) (Put l (at + k) (w k))
  may_write k lt u good = may_put (plain_view h) (plain_view u) (good.is ∙ ap (λ (g : ℕ → ℕ). record (plain_view h) { word = g }) (ap (λ (x : State). x.word) (sym good.is))) l at count k (w k) past lt

  written : (k : ℕ) → k < count → (u : Plain) → IsAfter k u → after (plain_view u) (Put l (at + k) (w k)) ≡ record (plain_view h) { word = f (suc k) }
  written k lt u good =
      ap (λ (x : State). record x { word = put x.word (l * LOG_WORDS + (at + k)) (w k) }) good.is
      ∙ ap (λ (g : ℕ → ℕ). record (plain_view h) { word = g }) (sym (next k lt))

  pub one_after : (k : ℕ) → k ≤ count → (u : Plain) × IsAfter k u
  one_after zero le = (h, record { is = ap (λ (g : ℕ → ℕ). record (plain_view h) { word = g }) (sym first); none = λ _. refl })
  one_after (suc k) le =
      let lt : k < count = omega arith in
      let before = one_after k (omega arith) in
      let made = core_put before.0.core l (at + k) (w k) (wide k lt) (may_write k lt before.0 before.1) in
      (record { core = made.0 }, record { is = made.1 ∙ written k lt before.0 before.1; none = λ e. absurd (omega arith) })

  -- the step from there to a hand with the next word
  pub put_one : (k : ℕ) → k < count → (u t : Plain) → IsAfter k u → plain_view t ≡ record (plain_view h) { word = f (suc k) } → WritesWord (Unit {0}) plain_view plain_makes l (at + k) (w k) u t
  put_one k lt u t good is = wrote_word u t l (at + k) (w k) (may_write k lt u good) (is ∙ sym (written k lt u good))

  -- all of them, where each is such a step
  pub steps_to : (step : ℕ → Plain → Plain → Type 0) → ((k : ℕ) → k < count → (u t : Plain) → IsAfter k u → plain_view t ≡ record (plain_view h) { word = f (suc k) } → step k u t) →
      (n : ℕ) → n ≤ count → (t : Plain) → IsAfter n t → InTurn step 0 n h t
  steps_to step makes zero le t good = good.none refl
  steps_to step makes (suc n) le t good =
      let before = one_after n (omega arith) in
      let here : n ≡ 0 + n = omega arith in
      (before.0, steps_to step makes n (omega arith) before.0 before.1, subst (λ j. step j before.0 t) here (makes n (omega arith) before.0 t before.1 good.is))

-- a row of words
module _ (h t : Plain) (l at count : ℕ) (some : count ≢ 0) (past : IsPast (plain_view h) l at count) (row : ℕ → ℕ) (wide : (k : ℕ) → k < count → row k < 2 ^ 64)
    (is : plain_view t ≡ record (plain_view h) { word = with_row (plain_view h).word (l * LOG_WORDS + at) count row }) where
  abbrev to : ℕ
  to = l * LOG_WORDS + at

  abbrev rows : ℕ → ℕ → ℕ
  rows k = with_row (plain_view h).word to k row

  next_row : (k : ℕ) → k < count → rows (suc k) ≡ put (rows k) (l * LOG_WORDS + (at + k)) (row k)
  next_row k lt =
      let more : k + 1 ≡ suc k = omega arith in
      sym (row_last (plain_view h).word to k row (l * LOG_WORDS + (at + k)) (row k) (omega arith) refl ∙ ap rows more)

  pub writes_row : WritesRow (Unit {0}) plain_view plain_makes l at row 0 count h t
  writes_row =
      let first : rows 0 ≡ (plain_view h).word = sym (row_none (plain_view h).word to row) in
      steps_to h l at count past row rows wide first next_row (λ k. WritesWord (Unit {0}) plain_view plain_makes l (at + k) (row k))
      (put_one h l at count past row rows wide first next_row) count (omega arith) t record { is = is; none = λ e. absurd (some e) }

-- words that are copied
module _ (h t : Plain) (from to : Place) (count : ℕ) (some : count ≢ 0) (within : IsWithin (plain_view h) from.log (from.at + 1) count) (past : IsPast (plain_view h) to.log (to.at + 1) count)
    (is : plain_view t ≡ record (plain_view h) { word = with_copy (plain_view h).word (from.log * LOG_WORDS + (from.at + 1)) (to.log * LOG_WORDS + (to.at + 1)) count }) where
  abbrev source : ℕ
  source = from.log * LOG_WORDS + (from.at + 1)

  abbrev target : ℕ
  target = to.log * LOG_WORDS + (to.at + 1)

  abbrev copies : ℕ → ℕ → ℕ
  copies k = with_copy (plain_view h).word source target k

  abbrev word : ℕ → ℕ
  word k = copies k (source + k)

  -- each is a word that stood there before
  copy_fits : (k a : ℕ) → copies k a < 2 ^ 64
  copy_fits zero a = h.core.law.spans.word_fits a
  copy_fits (suc k) a = put_both (λ x. x < 2 ^ 64) (copies k) (target + k) (word k) a (λ _. copy_fits k (source + k)) (λ _. copy_fits k a)

  next_copy : (k : ℕ) → k < count → copies (suc k) ≡ put (copies k) (to.log * LOG_WORDS + (to.at + 1 + k)) (word k)
  next_copy k lt = let same : target + k ≡ to.log * LOG_WORDS + (to.at + 1 + k) = omega arith in ap (λ a. put (copies k) a (word k)) same

  abbrev After : ℕ → Plain → Type 0
  After = IsAfter h to.log (to.at + 1) count past word copies (λ k _. copy_fits k (source + k)) refl next_copy

  copy_one : (k : ℕ) → k < count → (u v : Plain) → After k u → plain_view v ≡ record (plain_view h) { word = copies (suc k) } → CopiesWord (Unit {0}) plain_view plain_makes from to k u v
  copy_one k lt u v good made =
      let at : from.log * LOG_WORDS + (from.at + 1 + k) ≡ source + k = omega arith in
      let here : (plain_view u).word (from.log * LOG_WORDS + (from.at + 1 + k)) ≡ word k = ap (λ (x : State). x.word (from.log * LOG_WORDS + (from.at + 1 + k))) good.is ∙ ap (copies k) at in
      let rest : plain_view u ≡ record (plain_view h) { word = (plain_view u).word } = good.is ∙ ap (λ (g : ℕ → ℕ). record (plain_view h) { word = g }) (ap (λ (x : State). x.word) (sym good.is)) in
      record {
        middle = u;
        word = word k;
        read = subst (λ w. ReadsWord (Unit {0}) plain_view plain_makes from.log (from.at + 1 + k) w u u) here
            (read_word u from.log (from.at + 1 + k) (may_get (plain_view h) (plain_view u) rest from.log (from.at + 1) count k within lt));
        wrote = put_one h to.log (to.at + 1) count past word copies (λ k _. copy_fits k (source + k)) refl next_copy k lt u v good made;
      }

  pub copies_row : CopiesRow (Unit {0}) plain_view plain_makes from to 0 count h t
  copies_row =
      steps_to h to.log (to.at + 1) count past word copies (λ k _. copy_fits k (source + k)) refl next_copy (CopiesWord (Unit {0}) plain_view plain_makes from to) copy_one count (omega arith) t
      record { is = is; none = λ e. absurd (some e) }
