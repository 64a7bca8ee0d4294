-- What a mutator knows by itself makes its law.
use Rattle.std.proofs.Common.{◌≡◌, ℕ, ◌/◌, ◌<◌, ◌≤◌, Bool, true, false, Option, Some, None, is_some, List, length, get_or, refl, sym, subst, ◌∙◌, inl, inr, arith}
use Rattle.std.specs.Prelude.{if◌then◌else◌}
use Rattle.std.proofs.lemmas.Bool.{cases_Bool, cases_eq, false≢true, ltb-true, ne_eqb}
use Rattle.atomic_table.specs.Seated.{TableId}
use Rattle.far_word.specs.declared.refused.Refused.{Refused}
use Rattle.far_word.specs.declared.refused.Refused.TheVariants.{Held, NotHeld}
use Rattle.far_word.specs.declared.sizes.TheConstants.{CELLS, LONGEST}
use Rattle.far_word.specs.Bytes.{bytes_of}
use Rattle.far_word.proofs.ByteLaws.{bytes_of-small, length-bytes_of}
use Rattle.far_table.specs.View.{ObjectView}
use Rattle.far_table.specs.Seats.{Seated}
use Rattle.far_table.specs.Tells.{HasState}
use Rattle.far_table.specs.Views.{asked_at, held_at, len_of as seat_len, object_at, soiled_at, word_of}
use Rattle.far_heap.specs.Mine.{Mine, Object, OwnOk, bytes_in, drop_refusal, known_bytes, len_in, len_of, mine_of, seen, uses, views}
use Rattle.far_heap.specs.declared.rows.Rows.{Rows}
use Rattle.far_heap.specs.MineLaw.{MineLaw}
use Rattle.far_heap.proofs.Mines.{bytes_own, len_own, object_own, uses_so, views_so}
use Rattle.far_heap.proofs.OwnRows.{length-own_row}
use Rattle.far_heap.proofs.OwnSteps.{viewed_used}
use Rattle.far_heap.proofs.Soiling.{soiled_viewed}

-- an object's bytes, as many as it has
abbrev HasBytes : Option Object → Type 0
HasBytes o = (bytes : List ℕ) × (known_bytes o ≡ Some bytes) × (length bytes ≡ len_of o) × ((k : ℕ) → get_or bytes k 0 < 256)

seen_known : (h : Bool) (x : Option ObjectView) → h ≡ true → is_some x ≡ true → HasBytes (seen h x)
seen_known h None honest some = absurd (false≢true some)
seen_known true (Some x) honest some = (bytes_of (word_of x) x.len, refl, length-bytes_of (word_of x) x.len, bytes_of-small (word_of x) x.len)
seen_known false (Some x) honest some = absurd (false≢true honest)

seen_unknown : (h : Bool) (x : Option ObjectView) → h ≡ false → known_bytes (seen h x) ≡ None
seen_unknown h None honest = refl
seen_unknown true (Some x) honest = absurd (false≢true (sym honest))
seen_unknown false (Some x) honest = refl

module _ (s : Seated) (name : TableId) (number : ℕ) (rows : Rows) (ok : OwnOk s name number rows) where
  len_some : (p : ℕ) → uses (mine_of s) p ≡ true → 0 < len_in (mine_of s) p
  len_some p h =
      let so = uses_so s p h in
      let long : 0 < seat_len (object_at s.view p) = ltb-true 0 (seat_len (object_at s.view p)) (sym (ok.used_are p (so.0 ∙ ok.number_is)) ∙ so.1) in
      omega (arith, len_own s p so.0, long)

  len_most : (p : ℕ) → uses (mine_of s) p ≡ true → len_in (mine_of s) p ≤ LONGEST
  len_most p h = let so = uses_so s p h in omega (arith, len_own s p so.0, ok.short p (so.0 ∙ ok.number_is))

  all_known : s.view.honest ≡ true → (p : ℕ) → uses (mine_of s) p ≡ true → HasBytes (seen s.view.honest (object_at s.view p))
  all_known honest p h = let so = uses_so s p h in seen_known s.view.honest (object_at s.view p) honest so.1

  none_known : s.view.honest ≡ false → (p : ℕ) → bytes_in (mine_of s) p ≡ None
  none_known honest p = elim (cases_eq (p / CELLS) s.view.number) [
    | inl own ↦ bytes_own s p own ∙ seen_unknown s.view.honest (object_at s.view p) honest
    | inr ne ↦ rw (ne_eqb (p / CELLS) s.view.number ne) refl
  ]

  none_viewed : is_some s.view.open_at ≡ false → (p : ℕ) → views (mine_of s) p ≡ false
  none_viewed shut p = elim (cases_Bool (views (mine_of s) p)) [
    | inl h ↦ (let so = views_so s p h in absurd (false≢true (sym shut ∙ ok.held_open p (so.0 ∙ ok.number_is) so.1)))
    | inr h ↦ h
  ]

  pub mine_law : HasState s.view → MineLaw (mine_of s)
  mine_law there = record {
    few = omega (arith, ok.number_is, ok.few);
    many = (length-own_row (λ p. seen s.view.honest (object_at s.view p)) s.view.number, length-own_row (λ p. is_some (held_at s.view p)) s.view.number, length-own_row (λ p. soiled_at s.view p) s.view.number, length-own_row (λ p. asked_at s.view p) s.view.number);
    used = viewed_used s name number rows ok;
    closed = none_viewed;
    soiled = soiled_viewed s there;
    some = len_some;
    most = len_most;
    known = λ honest p h. subst HasBytes (sym (object_own s p (uses_so s p h).0)) (all_known honest p h);
    unknown = none_known;
  }

-- ---- a drop by a mutator that views nothing
abbrev refusal_by : Bool → Bool → Option Refused
refusal_by true true = Some Held
refusal_by true false = None
refusal_by false v = Some NotHeld

refusal_is : (u v : Bool) → (if u then (if v then Some Held else None) else Some NotHeld) ≡ refusal_by u v
refusal_is true true = refl
refusal_is true false = refl
refusal_is false v = refl

unheld : (u v : Bool) (why : Refused) → v ≡ false → refusal_by u v ≡ Some why → (why ≡ NotHeld) × (u ≡ false)
unheld true true why e h = absurd (false≢true (sym e))
unheld true false why e h = absurd (cc)
unheld false v why e h = (cc, refl)

taken : (u v : Bool) → refusal_by u v ≡ None → u ≡ true
taken true v h = refl
taken false v h = absurd (cc)

pub drop_unheld : (m : Mine) (p : ℕ) (why : Refused) → views m p ≡ false → drop_refusal m p ≡ Some why → (why ≡ NotHeld) × (uses m p ≡ false)
drop_unheld m p why unviewed h = unheld (uses m p) (views m p) why unviewed (sym (refusal_is (uses m p) (views m p)) ∙ h)

pub drop_used : (m : Mine) (p : ℕ) → drop_refusal m p ≡ None → uses m p ≡ true
drop_used m p h = taken (uses m p) (views m p) (sym (refusal_is (uses m p) (views m p)) ∙ h)
