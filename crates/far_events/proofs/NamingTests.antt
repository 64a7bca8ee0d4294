-- What the test of a naming says, by its form.
use Rattle.std.proofs.Common.{◌≡◌, ◌∙◌, ℕ, ◌+◌, ◌*◌, ◌<◌, Bool, true, false, nat_lt, arith, inl, inr, ap, refl, Option, Some, None}
use Rattle.std.specs.Prelude.{◌⊎◌, ◌||◌, ◌&&◌, is_some, not}
use Rattle.std.proofs.lemmas.Bool.{eq-eqb, false≢true}
use Rattle.std.proofs.lemmas.Bool.Decides.{nat_tests}
use Rattle.far_word.specs.declared.pointer.Place.{Place}
use Rattle.far_word.specs.declared.sizes.TheConstants.{CELLS}
use Rattle.far_word.specs.Pointer.{read_of}
use Rattle.far_word.specs.Sizes.{words_for}
use Rattle.far_events.specs.declared.event.Event.TheVariants.{Name}
use Rattle.far_events.specs.declared.naming.Naming.{Naming}
use Rattle.far_events.specs.declared.naming.Naming.TheVariants.{Places, Retires, Evicts, Stays, Moves, Fetches}
use Rattle.far_events.specs.events.Copied.{WasCopied, copied_job}
use Rattle.far_events.specs.events.Copies.{alike, data_at, ends_padded}
use Rattle.far_events.specs.events.Legal.{Legal}
use Rattle.far_events.specs.events.Name.{IsLegalNaming, may_name}
use Rattle.far_events.specs.events.Naming.{naming_of, naming_row}
use Rattle.far_events.specs.events.NewSpans.{is_new_span}
use Rattle.far_events.specs.events.Quiet.{is_quiet_cell}
use Rattle.far_events.specs.events.Step.{is_legal}
use Rattle.far_events.specs.events.namings.Fetches.{MayFetch, IsStoredAt, is_stored_at, words_stored}
use Rattle.far_events.specs.events.namings.Moves.{MayMove, may_move}
use Rattle.far_events.specs.state.State.{State, addr}
use Rattle.far_events.proofs.Copied.{copied_fact, copied_test}
use Rattle.far_events.proofs.Copies.{alike_fact, alike_test}
use Rattle.far_events.proofs.Namings.{naming_only, naming_says}
use Rattle.far_events.proofs.NewSpans.{new_span_fact, new_span_test}
use Rattle.far_events.proofs.Quieting.{quiet_fact, quiet_test}
use Rattle.far_events.proofs.Zeros.{zeros_all, zeros_below}

-- ---- the test on stored words
stored_fact : (s : State) (p len : ℕ) (place : Place) → is_stored_at s p len place ≡ true → IsStoredAt s p len place
stored_fact s p len place h = record { all = grind (arith, nat_tests); same = alike_fact _ _ (words_for len) (grind (arith, nat_tests)) }

stored_test : (s : State) (p len : ℕ) (place : Place) → IsStoredAt s p len place → is_stored_at s p len place ≡ true
stored_test s p len place h = rw (eq-eqb (words_stored (read_of (s.cell p))) (words_for len) h.all, alike_test _ _ (words_for len) h.same) refl

where_honest : (b x : Bool) → (not b || x) ≡ true → b ≡ true → x ≡ true
where_honest true x h e = h
where_honest false x h e = absurd (false≢true e)

honest_test : (b x : Bool) → (b ≡ true → x ≡ true) → (not b || x) ≡ true
honest_test true x h = h refl
honest_test false x h = refl

fetch_fact : (s : State) (p len ds : ℕ) (place : Place) → is_new_span s p len ds place ≡ true → ends_padded s.word len place ≡ true → (not s.honest || is_stored_at s p len place) ≡ true → MayFetch s p len ds place
fetch_fact s p len ds place a b c = record {
  span = new_span_fact s p len ds place a;
  padded = grind (arith, nat_tests);
  stored = λ honest. stored_fact s p len place (where_honest s.honest _ c honest);
}

fetch_test : (s : State) (p len ds : ℕ) (place : Place) → MayFetch s p len ds place → (is_new_span s p len ds place && ends_padded s.word len place && (not s.honest || is_stored_at s p len place)) ≡ true
fetch_test s p len ds place h =
    let padded : ends_padded s.word len place ≡ true = (let x = h.padded in grind (arith, nat_tests)) in
    rw (new_span_test s p len ds place h.span, padded) (honest_test s.honest _ (λ honest. stored_test s p len place (h.stored honest)))

-- ---- an object moves, or a copy is named
module _ (p len ds : ℕ) (from to : Place) where
  move_fact : (s : State) → (is_new_span s p len ds to ≡ true) → ends_padded s.word len to ≡ true → is_quiet_cell s p (read_of (s.cell p)) ≡ true → nat_lt from.log s.logs ≡ true →
      alike (data_at s.word to) (data_at s.word from) (words_for len) ≡ true → MayMove s p len ds from to
  move_fact s a b c d e = record {
    span = new_span_fact s p len ds to a;
    padded = grind (arith, nat_tests);
    quiet = quiet_fact s p c;
    log = grind (arith, nat_tests);
    same = alike_fact _ _ (words_for len) e;
  }

  may_fact : (s : State) → may_move s p len ds from to ≡ true → MayMove s p len ds from to
  may_fact s h = move_fact s (grind (arith, nat_tests)) (grind (arith, nat_tests)) (grind (arith, nat_tests)) (grind (arith, nat_tests)) (grind (arith, nat_tests))

  may_test : (s : State) → MayMove s p len ds from to → may_move s p len ds from to ≡ true
  may_test s h =
      let low : from.log < s.logs = h.log in
      let a : nat_lt from.log s.logs ≡ true = grind (arith, nat_tests) in
      let padded : ends_padded s.word len to ≡ true = (let x = h.padded in grind (arith, nat_tests)) in
      rw (new_span_test s p len ds to h.span, padded, quiet_test s p h.quiet, a, alike_test _ _ (words_for len) h.same) refl

  move_or_copy : (s : State) → (may_move s p len ds from to || is_some (copied_job s p from to)) ≡ true → MayMove s p len ds from to ⊎ WasCopied s p from to
  move_or_copy s h = at_move (may_move s p len ds from to) refl h where
    at_copy : (o : Option ℕ) → copied_job s p from to ≡ o → is_some o ≡ true → WasCopied s p from to
    at_copy None e h = absurd (false≢true h)
    at_copy (Some j) e h = let x = copied_fact s p from to j e in (j, x.0, x.1)

    at_move : (b : Bool) → may_move s p len ds from to ≡ b → (b || is_some (copied_job s p from to)) ≡ true → MayMove s p len ds from to ⊎ WasCopied s p from to
    at_move true e h = inl (may_fact s e)
    at_move false e h = inr (at_copy (copied_job s p from to) refl h)

  or_copied : (s : State) → MayMove s p len ds from to ⊎ WasCopied s p from to → (may_move s p len ds from to || is_some (copied_job s p from to)) ≡ true
  or_copied s h = elim h [
    | inl legal ↦ rw (may_test s legal) refl
    | inr has ↦ either (may_move s p len ds from to) _ (copied_test s p from to has)
  ] where
    either : (a b : Bool) → b ≡ true → (a || b) ≡ true
    either true b h = refl
    either false b h = h

-- ---- each form: a new one has its row here
pub naming_fact : (s : State) (p new : ℕ) (form : Naming) → (naming_row s p new form).test ≡ true → (naming_row s p new form).Legal
naming_fact s p new (Places len ds place) h = (new_span_fact s p len ds place (grind (arith, nat_tests)), λ i lt. zeros_below s.word (addr place + 1) (words_for len) i (grind (arith, nat_tests)) lt)
naming_fact s p new Retires h = tt
naming_fact s p new (Evicts len place) h = quiet_fact s p h
naming_fact s p new Stays h = tt
naming_fact s p new (Moves len ds from to) h = move_or_copy p len ds from to s h
naming_fact s p new (Fetches len ds place) h = fetch_fact s p len ds place (grind (arith, nat_tests)) (grind (arith, nat_tests)) (grind (arith, nat_tests))

pub naming_test : (s : State) (p new : ℕ) (form : Naming) → (naming_row s p new form).Legal → (naming_row s p new form).test ≡ true
naming_test s p new (Places len ds place) h = rw (new_span_test s p len ds place h.0, zeros_all s.word (addr place + 1) (words_for len) h.1) refl
naming_test s p new Retires h = refl
naming_test s p new (Evicts len place) h = quiet_test s p h
naming_test s p new Stays h = refl
naming_test s p new (Moves len ds from to) h = or_copied p len ds from to s h
naming_test s p new (Fetches len ds place) h = fetch_test s p len ds place h

-- ---- the event
form_fact : (s : State) (p old new : ℕ) (o : Option Naming) → naming_of (read_of old) (read_of new) ≡ o → may_name s p new o ≡ true → IsLegalNaming s p old new
form_fact s p old new None e h = absurd (false≢true h)
form_fact s p old new (Some f) e h = (f, naming_says (read_of old) (read_of new) f e, naming_fact s p new f h)

-- the form that is legal is that of the words
form_test : (s : State) (p old new : ℕ) → IsLegalNaming s p old new → may_name s p new (naming_of (read_of old) (read_of new)) ≡ true
form_test s p old new (f, says, legal) = ap (may_name s p new) (naming_only f _ _ says) ∙ naming_test s p new f legal

pub name_fact : (s : State) (p old new : ℕ) → is_legal s (Name p old new) ≡ true → Legal s (Name p old new)
name_fact s p old new h = (grind (arith, nat_tests), form_fact s p old new (naming_of (read_of old) (read_of new)) refl (grind (arith, nat_tests)))

pub name_test : (s : State) (p old new : ℕ) → Legal s (Name p old new) → is_legal s (Name p old new) ≡ true
name_test s p old new h = let low : p < CELLS * s.mutators = h.0 in let a : nat_lt p (CELLS * s.mutators) ≡ true = grind (arith, nat_tests) in rw (a, form_test s p old new h.1) refl
