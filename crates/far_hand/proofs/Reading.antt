-- What a beset hand knows after it has read a word or written one.
use Rattle.std.proofs.Common.{◌≡◌, ℕ, ◌+◌, ◌-◌, ◌*◌, ◌/◌, ◌^◌, ◌<◌, Bool, true, false, cond, nat_eq, refl, sym, ap, ◌∙◌, subst, arith}
use Rattle.std.specs.Prelude.{◌||◌}
use Rattle.std.proofs.lemmas.Bool.{false≢true, true≢false, cond_both}
use mathlib.Core.Path.{fun_ext}
use Rattle.far_word.specs.declared.sizes.TheConstants.{LOG_WORDS}
use Rattle.far_word.specs.Sizes.{words_for}
use Rattle.far_log.specs.Spans.{head_len}
use Rattle.far_events.specs.events.Get.{after_get, with_free_log, IsVacant, MayFree}
use Rattle.far_events.specs.state.Law.{Law}
use Rattle.far_events.specs.state.State.{State, put}
use Rattle.far_events.proofs.Put.{put_both, put_same, put_other, put_old}
use Rattle.far_hand.specs.Beside.{uncopied}
use Rattle.far_hand.specs.Known.{unknown, IsKnown, IsPaddedAt, Forgets}
use Rattle.far_hand.specs.Masked.{masked, masked_word, AllFind, AllFindJobs, recounted}
use Rattle.far_hand.specs.Quiet.{IsQuietAt}
use Rattle.far_hand.specs.Ranges.{Gets}
use Rattle.far_hand.proofs.Finding.{near_known}
use Rattle.far_hand.proofs.JobsFound.{uncopied_found}

-- ---- words that are known
-- a word of a view that is known is the word itself
pub known_word : (b : Bool) (w a : ℕ) → IsKnown (cond b w (unknown a)) → cond b w (unknown a) ≡ w
known_word true w a h = refl
known_word false w a h = absurd (omega arith)

pub known_here : (b : Bool) (w a : ℕ) → b ≡ true → cond b w (unknown a) ≡ w
known_here true w a h = refl
known_here false w a h = absurd (false≢true h)

either_left : (a b : Bool) → a ≡ true → (a || b) ≡ true
either_left true b h = refl
either_left false b h = absurd (false≢true h)

either_right : (a b : Bool) → b ≡ true → (a || b) ≡ true
either_right true b h = refl
either_right false b h = h

-- a header is known
pub header_known : (word : ℕ → ℕ) (starts counted : ℕ → Bool) (a : ℕ) → starts a ≡ true → masked_word word starts counted a ≡ word a
header_known word starts counted a h = known_here (starts a || counted a) (word a) a (either_left (starts a) (counted a) h)

-- one word more is counted on, and is w
pub count_word : (word : ℕ → ℕ) (starts counted : ℕ → Bool) (a w : ℕ) → masked_word (put word a w) starts (put counted a true) ≡ put (masked_word word starts counted) a w
count_word word starts counted a w = fun_ext (λ q. put_both
    (λ x. cond (starts q || put counted a true q) (put word a w q) (unknown q) ≡ x) (masked_word word starts counted) a w q
    (λ e. known_here (starts q || put counted a true q) (put word a w q) q (either_right (starts q) (put counted a true q) (put_same counted a true q e)) ∙ put_same word a w q e)
    (λ ne. ap (λ b. cond (starts q || b) (put word a w q) (unknown q)) (put_other counted a true q ne)
    ∙ ap (λ v. cond (starts q || counted q) v (unknown q)) (put_other word a w q ne)))

-- a word that is read and counted on
pub count_read : (word : ℕ → ℕ) (starts counted : ℕ → Bool) (a : ℕ) → masked_word word starts (put counted a true) ≡ put (masked_word word starts counted) a (word a)
count_read word starts counted a =
    ap (λ f. masked_word f starts (put counted a true)) (sym (put_old word a (word a) refl)) ∙ count_word word starts counted a (word a)

-- ---- a log is given back
-- what is vacant in the view is vacant
pub vacant : (s : State) (found : ℕ → ℕ) (l : ℕ) → AllFind found s.cell → IsVacant (record s { cell = found }) l → IsVacant s l
vacant s found l finds empty p len ds place m near =
    let x = near_known (found p) (s.cell p) (finds p) len ds place m near in empty p len ds place x.marks x.near

pub may_free : (s : State) (found : ℕ → ℕ) (counted : ℕ → Bool) (jobs : ℕ → ℕ) (l : ℕ) (free : Bool) → AllFind found s.cell → AllFindJobs jobs s.copying.word →
    MayFree (masked s found counted jobs) l free → MayFree s l free
may_free s found counted jobs l false finds going h = tt
may_free s found counted jobs l true finds going h = (h.0, vacant s found l finds h.1, uncopied_found (uncopied s.copying jobs) s.copying going l h.2)

-- a header that is left was one
left_header : (starts : ℕ → Bool) (l a : ℕ) → cond (nat_eq (a / LOG_WORDS) l) false (starts a) ≡ true → starts a ≡ true
left_header starts l a = cond_both (nat_eq (a / LOG_WORDS) l) false (starts a) (λ b. b ≡ true → starts a ≡ true) (λ _ h. absurd (false≢true h)) (λ _ h. h)

-- where nothing but headers is counted on, and each was one, words are forgotten
pub forgets : (o v : State) (starts : ℕ → Bool) → v.starts ≡ starts → (word : ℕ → ℕ) → v.word ≡ masked_word word starts (λ _. false) →
    ((a : ℕ) → starts a ≡ true → word a ≡ o.word a) → Forgets o v
forgets o v starts es word ew same = record {
  known = λ a h. ap (λ f. f a) ew ∙ elim_known (starts a) (word a) a (subst IsKnown (ap (λ f. f a) ew) h) (same a);
  headers = λ a h. let st : starts a ≡ true = ap (λ f. f a) (sym es) ∙ h in ap (λ f. f a) ew ∙ (header_known word starts (λ _. false) a st ∙ same a st);
}
  where
    elim_known : (b : Bool) (w a : ℕ) → IsKnown (cond (b || false) w (unknown a)) → (b ≡ true → w ≡ o.word a) → cond (b || false) w (unknown a) ≡ o.word a
    elim_known true w a h e = e refl
    elim_known false w a h e = absurd (omega arith)

-- ---- what a read tells
module _ (s : State) (law : Law s) (found : ℕ → ℕ) (counted : ℕ → Bool) (jobs : ℕ → ℕ) (l at : ℕ) where
  abbrev a : ℕ
  a = l * LOG_WORDS + at

  abbrev o : State
  o = masked s found counted jobs

  padding : IsPaddedAt o a (s.word a)
  padding b i st lt e =
      let head : o.word b ≡ s.word b = header_known s.word s.starts counted b st in
      let len : head_len (o.word b) ≡ head_len (s.word b) = ap head_len head in
      let inside : i < words_for (head_len (s.word b)) = subst (λ n. i < words_for n) len lt in
      let pad : s.word (b + 1 + i) < 2 ^ (8 * (head_len (s.word b) - 8 * i)) = law.spans.span_padding b st i inside in
      subst (λ n. s.word a < 2 ^ (8 * (n - 8 * i))) (sym len) (subst (λ q. s.word q < 2 ^ (8 * (head_len (s.word b) - 8 * i))) (sym e) pad)

  known : IsKnown (o.word a) → s.word a ≡ o.word a
  known h = sym (known_word (s.starts a || counted a) (s.word a) a h)

  -- the word is known from then on
  counted_view : masked s found (put counted a true) jobs ≡ record o { word = put o.word a (s.word a) }
  counted_view = ap (λ w. record o { word = w }) (count_read s.word s.starts counted a)

  pub gets : (free quiet : Bool) → (free ≡ false → quiet ≡ true → IsQuietAt o a) → (quiet ≡ false → ¬ IsQuietAt o a) → Gets o (masked (after_get s l free) found (recounted counted free quiet a) jobs) l at free (s.word a)
  gets true quiet some none = record {
    known = known;
    padding = padding;
    read = λ e. absurd (true≢false e);
    kept = λ e. absurd (true≢false e);
    unread = λ e. absurd (true≢false e);
    here = λ e. absurd (true≢false e);
    others = λ e. absurd (true≢false e);
    forgot = λ _. forgets o (masked (with_free_log s l) found (λ _. false) jobs) (λ q. cond (nat_eq (q / LOG_WORDS) l) false (s.starts q)) refl s.word refl
        (λ q h. sym (header_known s.word s.starts counted q (left_header s.starts l q h)));
    rest = refl;
  }
  gets false true some none = record {
    known = known;
    padding = padding;
    read = λ _ _. counted_view;
    kept = λ _ h. counted_view ∙ ap (λ w. record o { word = w }) (put_old o.word a (s.word a) (sym (known h)));
    unread = λ _ loud. absurd (loud (some refl refl));
    here = λ _ _. ap (λ (u : State). u.word a) counted_view ∙ put_same o.word a (s.word a) a refl;
    others = λ _ q ne. ap (λ (u : State). u.word q) counted_view ∙ put_other o.word a (s.word a) q ne;
    forgot = λ e. absurd (false≢true e);
    rest = refl;
  }
  gets false false some none = record {
    known = known;
    padding = padding;
    read = λ _ h. absurd (none refl h);
    kept = λ _ _. refl;
    unread = λ _ _. refl;
    here = λ _ h. sym (known h);
    others = λ _ q ne. refl;
    forgot = λ e. absurd (false≢true e);
    rest = refl;
  }

-- what a log given back leaves
pub stays_after : (s : State) (l : ℕ) (free : Bool) → ((after_get s l free).mutators ≡ s.mutators) × ((after_get s l free).logs ≡ s.logs) × ((after_get s l free).cell ≡ s.cell) × ((after_get s l free).copying.word ≡ s.copying.word)
stays_after s l false = (refl, refl, refl, refl)
stays_after s l true = (refl, refl, refl, refl)

-- ---- a word is written
pub put_view : (s : State) (found : ℕ → ℕ) (counted : ℕ → Bool) (jobs : ℕ → ℕ) (a w : ℕ) →
    masked (record s { word = put s.word a w }) found (put counted a true) jobs ≡ record (masked s found counted jobs) { word = put (masked s found counted jobs).word a w }
put_view s found counted jobs a w = ap (λ f. record (masked s found counted jobs) { word = f }) (count_word s.word s.starts counted a w)
