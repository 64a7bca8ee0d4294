-- What the book's view knows of words once one is put or read, or once words are forgotten.
use Rattle.std.proofs.Common.{◌≡◌, ◌/◌, ◌<◌, ◌≤◌, ◌^◌, ℕ, true, false, cond, List, [], ◌∷◌, Option, Some, None, sym, refl, ap, ◌∙◌, subst, arith}
use Rattle.std.specs.Prelude.{is_some, ◌==◌, ◌||◌}
use Rattle.std.proofs.lemmas.Bool.{false≢true, cond_both, eqb-true, eqb-false}
use mathlib.Core.Path.{fun_ext}
use Rattle.far_word.specs.declared.sizes.TheConstants.{LOG_WORDS}
use Rattle.far_events.specs.state.State.{put}
use Rattle.far_events.proofs.Put.{put_both, put_two, put_other}
use Rattle.far_hand.specs.Known.{Forgets, IsKnown, unknown}
use Rattle.far_hand.specs.Masked.{masked_word}
use Rattle.far_table.specs.View.{BookView}
use Rattle.far_table.specs.BookViews.{put_view, rows_elsewhere}
use Rattle.far_table.specs.Rows.{over}
use Rattle.far_table.specs.Stands.{IsPlain}
use Rattle.far_table.specs.StateOf.{book_state, head_at, head_or, known_word}

-- ---- a word more
pub put_known : (b : BookView) (a w : ℕ) → head_at b a ≡ None → known_word (put_view a w b) ≡ put (known_word b) a w
put_known b a w none = fun_ext (λ q. put_two (λ x y. head_or (head_at b q) x ≡ y) (over b.known unknown) (known_word b) a w w q
    (λ e. ap (λ h. head_or h w) (ap (head_at b) e ∙ none)) (λ _. refl))

pub plain_more : (b : BookView) (a w : ℕ) → IsPlain b → w < 2 ^ 64 → IsPlain (put_view a w b)
plain_more b a w plain fits q = put_both (λ v. 2 ^ 64 ≤ v → v ≡ unknown q) (over b.known unknown) a w q (λ _ h. absurd (omega arith)) (λ _. plain q)

pub no_head : (h : Option ℕ) → is_some h ≡ false → h ≡ None
no_head None e = refl
no_head (Some x) e = absurd (false≢true (sym e))

-- ---- all words but headers are forgotten
head_here : (h : Option ℕ) (w a : ℕ) → (is_some h ≡ true → w ≡ head_or h (unknown a)) → head_or h (unknown a) ≡ cond (is_some h || false) w (unknown a)
head_here None w a k = refl
head_here (Some x) w a k = sym (k refl)

-- a header is known, whatever is known of other words
pub head_same : (h : Option ℕ) (k j : ℕ) → is_some h ≡ true → head_or h k ≡ head_or h j
head_same None k j e = absurd (false≢true e)
head_same (Some x) k j e = refl

pub forgotten : (b : BookView) (word : ℕ → ℕ) → ((a : ℕ) → is_some (head_at b a) ≡ true → word a ≡ head_or (head_at b a) (unknown a)) →
    (λ a. head_or (head_at b a) (unknown a)) ≡ masked_word word (λ a. is_some (head_at b a)) (λ _. false)
forgotten b word heads = fun_ext (λ a. head_here (head_at b a) (word a) a (heads a))

head_known : (h : Option ℕ) (a w : ℕ) → IsKnown (head_or h (unknown a)) → (is_some h ≡ true → head_or h (unknown a) ≡ w) → head_or h (unknown a) ≡ w
head_known None a w known k = absurd (omega arith)
head_known (Some x) a w known k = k refl

-- of the words of b it knows headers at most, and they are as they were
pub forgets : (b b' : BookView) → (known_word b' ≡ (λ a. head_or (head_at b' a) (unknown a))) → ((a : ℕ) → is_some (head_at b' a) ≡ true → head_or (head_at b' a) (unknown a) ≡ known_word b a) →
    Forgets (book_state b) (book_state b')
forgets b b' none heads = record {
  known = λ a known. ap (λ f. f a) none ∙ head_known (head_at b' a) a (known_word b a) (subst IsKnown (ap (λ f. f a) none) known) (heads a);
  headers = λ a st. ap (λ f. f a) none ∙ heads a st;
}

-- ---- rows of other logs
pub elsewhere : {X : Type 0} (l : ℕ) (rows : List (ℕ × X)) (f : ℕ → X) (a : ℕ) → over (rows_elsewhere l rows) f a ≡ cond (a / LOG_WORDS == l) (f a) (over rows f a)
elsewhere l [] f a = sym (cond_both (a / LOG_WORDS == l) (f a) (f a) (λ x. x ≡ f a) (λ _. refl) (λ _. refl))
elsewhere l (row ∷ rows) f a = cond_both (row.0 / LOG_WORDS == l) (rows_elsewhere l rows) (row ∷ rows_elsewhere l rows)
    (λ x. over x f a ≡ cond (a / LOG_WORDS == l) (f a) (put (over rows f) row.0 row.1 a))
    (λ there. elsewhere l rows f a ∙ cond_both (a / LOG_WORDS == l) (f a) (put (over rows f) row.0 row.1 a)
    (λ x. cond (a / LOG_WORDS == l) (f a) (over rows f a) ≡ x)
    (λ t. ap (λ c. cond c (f a) (over rows f a)) t)
    (λ t. ap (λ c. cond c (f a) (over rows f a)) t ∙ sym (put_other (over rows f) row.0 row.1 a
    (λ e. let same : a / LOG_WORDS ≡ row.0 / LOG_WORDS = ap (λ z. z / LOG_WORDS) e in eqb-false (a / LOG_WORDS) l t (same ∙ eqb-true (row.0 / LOG_WORDS) l there)))))
    (λ other. put_two (λ x y. x ≡ cond (a / LOG_WORDS == l) (f a) y) (over (rows_elsewhere l rows) f) (over rows f) row.0 row.1 row.1 a
    (λ e. sym (cond_both (a / LOG_WORDS == l) (f a) row.1 (λ x. x ≡ row.1)
    (λ t. let same : row.0 / LOG_WORDS ≡ a / LOG_WORDS = ap (λ z. z / LOG_WORDS) (sym e) in absurd (eqb-false (row.0 / LOG_WORDS) l other (same ∙ eqb-true (a / LOG_WORDS) l t)))
    (λ _. refl)))
    (λ _. elsewhere l rows f a))
