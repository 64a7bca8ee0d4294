-- What the test of the event Offer says, and where what is offered lies.
use Rattle.std.proofs.Common.{◌≡◌, ◌≢◌, ℕ, ◌+◌, ◌-◌, ◌*◌, ◌/◌, ◌<◌, ◌≤◌, ◌∙◌, true, false, nat_eq, nat_le, nat_lt, arith, refl, subst, sym, Option, Some, None}
use Rattle.std.specs.Prelude.{◌&&◌}
use Rattle.std.proofs.lemmas.Bool.{eqb-true, false≢true}
use Rattle.std.proofs.lemmas.Bool.Decides.{nat_tests}
use Rattle.far_word.specs.declared.mark.Marks.{Marks}
use Rattle.far_word.specs.declared.pointer.Place.{Place}
use Rattle.far_word.specs.declared.pointer.PtrWord.{PtrWord}
use Rattle.far_word.specs.declared.pointer.PtrWord.TheVariants.{Free, Near, Far}
use Rattle.far_word.specs.declared.sizes.TheConstants.{CELLS, JOBS, LOG_WORDS}
use Rattle.far_word.specs.Job.{IsJob}
use Rattle.far_word.specs.Pointer.{IsPtr, read_of}
use Rattle.far_word.specs.Sizes.{size_of}
use Rattle.far_word.proofs.PointerLaws.{read_says}
use Rattle.far_events.specs.declared.event.Event.TheVariants.{Offer}
use Rattle.far_events.specs.events.NewSpans.{is_new_span}
use Rattle.far_events.specs.events.Offer.{MayOffer, ends_blank, is_clear_near, is_within, may_offer, offered, takes_copy}
use Rattle.far_events.specs.events.Legal.{Legal}
use Rattle.far_events.specs.events.Step.{is_legal}
use Rattle.far_events.specs.state.Law.{Law}
use Rattle.far_events.specs.state.State.{State}
use Rattle.far_events.proofs.Guards.{parts}
use Rattle.far_events.proofs.NewSpans.{new_span_fact, new_span_test}

-- ---- the guard
pub offer_fact : (s : State) (p : ℕ) (to : Place) (o : Option PtrWord) → read_of (s.cell p) ≡ o → may_offer s p to o ≡ true → (len ds : ℕ) × (from : Place) × (m : Marks) × MayOffer s p len ds from to m
offer_fact s p to None e h = absurd (false≢true h)
offer_fact s p to (Some Free) e h = absurd (false≢true h)
offer_fact s p to (Some (Near len ds from m)) e h =
    let a = parts (is_clear_near s p from m) (takes_copy s p len ds to) h in
    let b = parts (m.evac && s.round from.log) (s.clear (p / CELLS)) a.0 in
    let c = parts m.evac (s.round from.log) b.0 in
    let d = parts (is_within s len to && is_new_span s p len ds to) (ends_blank s len to) a.1 in
    let f = parts (is_within s len to) (is_new_span s p len ds to) d.0 in
    let within = f.0 in
    (len, ds, from, m, record { near = e; marked = c.0; chosen = c.1; seen = b.1; fits = grind (arith, nat_tests); span = new_span_fact s p len ds to f.1; ends = eqb-true _ 0 d.1 })
offer_fact s p to (Some (Far len ds m)) e h = absurd (false≢true h)

pub offer_test : (s : State) (p len ds : ℕ) (from to : Place) (m : Marks) → MayOffer s p len ds from to m → may_offer s p to (read_of (s.cell p)) ≡ true
offer_test s p len ds from to m h =
    let room : to.at + size_of len ≤ LOG_WORDS = h.fits in
    let low : to.log < s.logs = h.span.next.0 in
    let a : nat_lt to.log s.logs ≡ true = grind (arith, nat_tests) in
    let b : nat_le (to.at + size_of len) LOG_WORDS ≡ true = grind (arith, nat_tests) in
    rw (h.near, h.marked, h.chosen, h.seen, new_span_test s p len ds to h.span, a, b, h.ends) refl

pub legal_offer : (s : State) (j p : ℕ) (to : Place) → is_legal s (Offer j p to) ≡ true → Legal s (Offer j p to)
legal_offer s j p to h =
    let a = parts (nat_lt j JOBS && nat_lt p (CELLS * s.mutators) && nat_eq (s.copying.word j) 0) (may_offer s p to (read_of (s.cell p))) h in
    let b = parts (nat_lt j JOBS && nat_lt p (CELLS * s.mutators)) (nat_eq (s.copying.word j) 0) a.0 in
    let c = parts (nat_lt j JOBS) (nat_lt p (CELLS * s.mutators)) b.0 in
    (grind (arith, nat_tests), grind (arith, nat_tests), eqb-true _ 0 b.1, offer_fact s p to (read_of (s.cell p)) refl a.1)

-- what is offered lies on the layout
pub job_lies : (s : State) → Law s → (p len ds : ℕ) (from to : Place) (m : Marks) → p < CELLS * s.mutators → MayOffer s p len ds from to m → IsJob (record { pointer = p; from = from; to = to })
job_lies s law p len ds from to m cell h =
    let ptr : IsPtr (Near len ds from m) = (read_says (s.cell p) (Near len ds from m) (law.cells.cell_read p).0 h.near).0 in
    record { cell = omega (arith, cell, law.shape.few_mutators); from = (omega (arith, ptr), omega (arith, ptr)); to = (omega (arith, h.span.next.0, law.shape.few_logs), omega (arith, h.fits, ptr)) }

pub offer_layout : (s : State) → Law s → (j p : ℕ) (to : Place) → Legal s (Offer j p to) → (len ds : ℕ) (from : Place) (m : Marks) → read_of (s.cell p) ≡ Some (Near len ds from m) →
    IsJob (record { pointer = p; from = from; to = to })
offer_layout s law j p to (low, cell, empty, (n, d, at, k, h)) len ds from m is =
    let same : Some (Near n d at k) ≡ Some (Near len ds from m) = sym h.near ∙ is in
    let there : at ≡ from = cc in
    subst (λ (f : Place). IsJob (record { pointer = p; from = f; to = to })) there (job_lies s law p n d at to k cell h)
