-- A log without live objects is given back: a book stays in order.
use Rattle.std.proofs.Common.{◌≡◌, ◌≢◌, ℕ, ◌/◌, ◌<◌, Bool, true, false, cond, arith, nat_lt, refl, sym, ap, ◌∙◌, subst, inl, inr, Option, List, [], ◌∷◌}
use Rattle.std.specs.Prelude.{◌==◌, ◌&&◌, ◌||◌, not, eqb, Contains}
use Rattle.std.specs.List.{AllByRecursion, IsDistinct, filter, list_any}
use Rattle.std.specs.Vec.{vec_len}
use Rattle.std.proofs.lemmas.Bool.{cases_eq, cond_both, eq-eqb, eqb-true, ne_eqb, lt-ltb, false_from_ne_true}
use Rattle.std.proofs.lemmas.Map.Views.{any-filter_same}
use mathlib.Core.Path.{fun_ext}
use Rattle.far_word.specs.declared.sizes.TheConstants.{LOG_WORDS}
use Rattle.far_word.specs.Pointer.{read_of}
use Rattle.far_word.specs.Sizes.{bytes_taken}
use Rattle.far_log.specs.declared.span.Span.{Span}
use Rattle.far_log.specs.Spans.{spans_in, taken_by}
use Rattle.far_log.proofs.Members.{here, there}
use Rattle.far_events.specs.declared.event.Event.TheVariants.{Get}
use Rattle.far_events.specs.declared.event.Kind.TheVariants.{Free, Sealed}
use Rattle.far_events.specs.events.Get.{IsUncopied, IsVacant, with_free_log}
use Rattle.far_events.specs.events.Mark.{is_sealed}
use Rattle.far_core.specs.laws.Observed.{live_bytes}
use Rattle.far_events.specs.state.Law.{Law}
use Rattle.far_core.specs.state.Room.{is_free}
use Rattle.far_events.specs.state.Spans.{is_live, spans_of, word_in}
use Rattle.far_events.specs.state.State.{State}
use Rattle.far_events.proofs.Cells.{live_names}
use Rattle.far_core.proofs.Owing.{keeps}
use Rattle.far_events.proofs.Put.{put_same, put_other}
use Rattle.far_book.specs.declared.ledger.Filled.{Filled}
use Rattle.far_book.specs.declared.ledger.Ledger.{Ledger}
use Rattle.far_hand.specs.Known.{Forgets}
use Rattle.far_book.specs.book.FarSide.{InOrder}
use Rattle.far_book.specs.book.Ledger.{Notes, filled_of, is_noted_free}
use Rattle.far_book.specs.book.Jobs.{NotesJobs}
use Rattle.far_book.specs.book.NumberSet.{has}
use Rattle.far_book.specs.book.Own.{own_part, unread}
use Rattle.far_book.specs.book.Releasing.{GivesBack, released}
use Rattle.far_book.proofs.region.InOrders.{headers_keep}
use Rattle.far_book.proofs.region.JobNotes as jobs
use Rattle.far_book.proofs.region.Owns.{own_law, own_live}
use Rattle.far_book.proofs.region.Retires as retires
use Rattle.far_book.proofs.region.Untaken.{uncopied_own, unread_twice}

-- ---- a log is vacant exactly where its live bytes are 0
none_taken : (f : Span → Bool) (xs : List Span) → ((x : Span) → Contains xs x → f x ≡ false) → taken_by f xs ≡ 0
none_taken f [] none = refl
none_taken f (x ∷ xs) none =
    let first : cond (f x) (bytes_taken x.len) 0 ≡ 0 = ap (λ b. cond b (bytes_taken x.len) 0) (none x (here x xs)) in
    let rest : taken_by f xs ≡ 0 = none_taken f xs (λ y h. none y (there y x xs h)) in
    omega arith

module _ (s : State) (law : Law s) (l : ℕ) where
  pub vacant_fact : live_bytes s l ≡ 0 → IsVacant s l
  vacant_fact none p len ds place m near is =
      let more = retires.live_here s law p len ds place m near in
      let here : live_bytes s place.log ≡ 0 = ap (live_bytes s) is ∙ none in
      omega (arith, more, here)

  pub vacant_test : IsVacant s l → live_bytes s l ≡ 0
  vacant_test vacant = none_taken (is_live s l) (spans_of s l) (λ x member. false_from_ne_true _ (λ live.
      let n = live_names (read_of (s.cell x.p)) l x.at live in vacant x.p n.0 n.1 n.2 n.3 n.4 n.5))

-- ---- the order without a log
keeps_all : (P : ℕ → Type 0) (p : ℕ → Bool) (xs : List ℕ) → AllByRecursion P xs → AllByRecursion P (filter p xs)
keeps_all P p [] all = tt
keeps_all P p (x ∷ xs) all = cond_both (p x) (x ∷ filter p xs) (filter p xs) (AllByRecursion P) (λ _. (all.0, keeps_all P p xs all.1)) (λ _. keeps_all P p xs all.1)

distinct_still : (p : ℕ → Bool) (xs : List ℕ) → IsDistinct eqb xs → IsDistinct eqb (filter p xs)
unfolding IsDistinct
distinct_still p [] once = tt
distinct_still p (x ∷ xs) once = cond_both (p x) (x ∷ filter p xs) (filter p xs) (IsDistinct eqb)
    (λ _. (keeps_all (λ y. eqb x y ≡ false) p xs once.0, distinct_still p xs once.1)) (λ _. distinct_still p xs once.1)

-- ---- the state after it
-- the header of a span that is left was one
nested : (b c : Bool) (w : ℕ) → cond (cond b false c) (cond c w 0) 0 ≡ cond (cond b false c) w 0
nested true c w = refl
nested false true w = refl
nested false false w = refl

module _ (s : State) (law : Law (own_part s)) (l : ℕ) (shut : s.kind l ≡ Sealed) (vacant : IsVacant s l) (uncopied : IsUncopied s.copying l) where
  abbrev o : State
  o = own_part s

  abbrev then : State
  then = with_free_log s l

  pub inside : l < s.logs
  inside = law.logs.log_range l (λ f. let odd : Sealed ≡ Free = sym shut ∙ f in cc)

  law_bare : Law (with_free_log o l)
  law_bare = keeps o (Get l 0 true) law tt (inside, omega arith, (shut, vacant, uncopied_own s.copying l uncopied))

  own_is : own_part (with_free_log o l) ≡ own_part then
  own_is = λ i. record (own_part then) { word = fun_ext (λ a. nested (a / LOG_WORDS == l) (s.starts a) (s.word a)) i; copying = unread_twice s.copying i }

  law_then : Law (own_part then)
  law_then = subst Law own_is (own_law (with_free_log o l) law_bare)

  spans_other : (k : ℕ) → k ≢ l → spans_of (with_free_log o l) k ≡ spans_of o k
  unfolding spans_of
  spans_other k ne = ap (spans_in (word_in o k)) (put_other s.tail l 0 k ne)

  live_other : (k : ℕ) → k ≢ l → live_bytes (own_part then) k ≡ live_bytes o k
  live_other k ne = ap (λ (u : State). live_bytes u k) (sym own_is) ∙ sym (own_live (with_free_log o l) (own_law (with_free_log o l) law_bare) k)
      ∙ ap (taken_by (is_live o k)) (spans_other k ne)

  live_none : live_bytes (own_part then) l ≡ 0
  unfolding spans_of spans_in
  live_none = ap (λ t. taken_by (is_live (own_part then) l) (spans_in (word_in (own_part then) l) t)) (put_same s.tail l 0 l refl)

  module _ (old new : Ledger) (notes : Notes o old) (b : GivesBack old new l) where
    notes_released : Notes (own_part then) new
    notes_released = record {
      law = law_then;
      current = ap (λ (n : Ledger). n.current) b.rest ∙ notes.current;
      free = λ k few. b.free k ∙ elim (cases_eq k l) [
        | inl e ↦ ap (λ x. x || has old.free_logs k) (eq-eqb k l e) ∙ sym (rw (lt-ltb k s.logs (omega (arith, inside)), put_same s.kind l Free k e) refl)
        | inr ne ↦ ap (λ x. x || has old.free_logs k) (ne_eqb k l ne) ∙ notes.free k few ∙ ap (λ x. nat_lt k s.logs && is_free x) (sym (put_other s.kind l Free k ne))
      ];
      logs = b.logs ∙ notes.logs;
      tails = λ k lt. elim (cases_eq k l) [
        | inl e ↦ ap (λ j. (filled_of new j).tail) e ∙ ap (λ (f : Filled). f.tail) b.here ∙ sym (put_same s.tail l 0 k e)
        | inr ne ↦ ap (λ (f : Filled). f.tail) (b.there k ne) ∙ notes.tails k lt ∙ sym (put_other s.tail l 0 k ne)
      ];
      lives = λ k lt. elim (cases_eq k l) [
        | inl e ↦ ap (λ j. (filled_of new j).live) e ∙ ap (λ (f : Filled). f.live) b.here ∙ sym (ap (live_bytes (own_part then)) e ∙ live_none)
        | inr ne ↦ ap (λ (f : Filled). f.live) (b.there k ne) ∙ notes.lives k lt ∙ sym (live_other k ne)
      ];
      sealed = λ k. ap (list_any (eqb k)) b.order ∙ elim (cases_eq k l) [
        | inl e ↦ any-filter_same (eqb k) (λ j. not (j == l)) false (λ j h. ap not (eq-eqb j l (sym (eqb-true k j h) ∙ e))) old.order ∙ ap is_sealed (sym (put_same s.kind l Free k e))
        | inr ne ↦ any-filter_same (eqb k) (λ j. not (j == l)) true (λ j h. ap not (ne_eqb j l (λ is. ne (eqb-true k j h ∙ is)))) old.order ∙ notes.sealed k ∙ ap is_sealed (sym (put_other s.kind l Free k ne))
      ];
      once = subst (IsDistinct eqb) (sym b.order) (distinct_still (λ j. not (j == l)) old.order notes.once);
      cells = ap (λ (n : Ledger). vec_len n.free_cells) b.rest ∙ notes.cells;
      cell = λ p lt. ap (λ (n : Ledger). is_noted_free n p) b.rest ∙ notes.cell p lt;
      jobs = subst (λ (n : Ledger). NotesJobs s.round_epoch then.round (unread s.copying) n.jobs) (sym b.rest) (jobs.notes_released s.round_epoch s.round (unread s.copying) old.jobs notes.jobs l (uncopied_own s.copying l uncopied));
    }

  pub released_keeps : (t : State) (old new : Ledger) (held : ℕ → Option (List ℕ)) (is_honest : Bool) → InOrder s old held is_honest → GivesBack old new l →
      t ≡ record (released s l) { word = t.word } → Forgets s t → InOrder t new held is_honest
  released_keeps t old new held is_honest h b is forgot = headers_keep then new held is_honest (record { notes = notes_released old new h.notes b; far = record { long = h.far.long; same = h.far.same }; honest = h.honest }) t is
      (λ a start. forgot.headers a (ap (λ (u : State). u.starts a) is ∙ start))
