use Rattle.std.proofs.Common.{◌≡◌, ℕ, ◌/◌, true, false, refl, ap, subst, sym, ◌∙◌, arith}
use Rattle.far_word.specs.declared.sizes.TheConstants.{CELLS}
use Rattle.far_events.specs.declared.event.Event.TheVariants.{Adopt}
use Rattle.far_events.specs.declared.event.Reply.TheVariants.{Word}
use Rattle.far_table.specs.Seats.{Seated}
use Rattle.far_table.specs.Tells.{OwnerMade, OwnerRefused}
use Rattle.std.proofs.lemmas.Bool.{eqb-true}
use Rattle.far_table.specs.Views.{object_at}
use Rattle.far_table.specs.View.{OwnerView}
use Rattle.far_heap.specs.Mine.{Mine, OwnOk, StructuresOk, adopting, mine_of, owns, uses}
use Rattle.far_heap.proofs.Adopting.{adopted_fits, adopted_len, adopted_mine, adopted_ok, adopted_structures, adopted_used}
use Rattle.far_heap.proofs.Mines.{none_there, uses_own}
use Rattle.far_heap.proofs.OwnSteps.{noted_ok, own_below, seated_is, structures_stay}
use Rattle.far_heap.proofs.own.Own.adopt.Goals as goal

pub adopt-requires-clause-unused : goal.adopt-requires-clause-unused
adopt-requires-clause-unused g c =
    let s = c.self.inside in
    let p : ℕ = c.args.p in
    let own = eqb-true (p / CELLS) s.seat.view.number (subst (λ (m : Mine). owns m p ≡ true) (sym c.self.view_is) c.requires.own) in
    none_there (object_at s.seat.view p) (sym (uses_own s.seat p own) ∙ subst (λ (m : Mine). uses m p ≡ false) (sym c.self.view_is) c.requires.unused)

pub note_used-requires : goal.note_used-requires
note_used-requires g c =
    let s = c.self.inside in
    let own = eqb-true (c.args.p / CELLS) s.seat.view.number (subst (λ (m : Mine). owns m c.args.p ≡ true) (sym c.self.view_is) c.requires.own) in
    omega (arith, own_below c.args.p s.number (own ∙ c.self.invariant.0.number_is) c.self.invariant.0.few, c.self.invariant.0.rows_ok.many)

pub invariant_of-self : goal.invariant_of-self
invariant_of-self g c =
    let s = c.self.inside in
    let refused = c.in_default.ensures.refused refl in (
      subst (λ (t : Seated). OwnOk t _ s.number s.rows) (sym (seated_is c.adopt.new.self s.seat.table _ c.adopt.ensures.table refused.1))
          (noted_ok s.seat _ s.number s.rows c.self.invariant.0 c.args.p refused.0),
      structures_stay s.number s.rows s.seat.view c.adopt.new.self.view _ c.self.invariant.1 refused.1 (λ q. refl),
    )

pub invariant_of-self-2 : goal.invariant_of-self-2
invariant_of-self-2 g c =
    let s = c.self.inside in
    let p : ℕ = c.args.p in
    let n : ℕ = c.said-len.result.0 in
    let own = eqb-true (p / CELLS) s.seat.view.number (subst (λ (m : Mine). owns m p ≡ true) (sym c.self.view_is) c.requires.own) in
    let made = c.in-Some.ensures.adopted in
    let is = adopted_len c.in-Some.word n (adopted_fits _ _ p c.in-Some.word made.1) (adopted_used _ _ p c.in-Some.word made.1) c.said-len.ensures.len in (
      subst (λ (t : Seated). OwnOk t _ s.number c.note_used.new.self) (sym (seated_is c.adopt.new.self s.seat.table _ c.adopt.ensures.table made.0))
          (adopted_ok s.seat _ s.number s.rows c.self.invariant.0 p (own ∙ c.self.invariant.0.number_is) c.in-Some.word n c.said-len.result.1 c.note_used.new.self is c.note_used.ensures),
      subst (λ (o : OwnerView). StructuresOk o s.number c.note_used.new.self) (sym made.0)
          (adopted_structures s.seat.view s.number s.rows c.note_used.new.self c.self.invariant.1 p c.in-Some.word n c.said-len.result.1 c.said-len.ensures.ds c.note_used.ensures),
    )

pub returns-clause-adopted : goal.returns-clause-adopted
returns-clause-adopted g c =
    let s = c.self.inside in
    let p : ℕ = c.args.p in
    let n : ℕ = c.said-len.result.0 in
    let own = eqb-true (p / CELLS) s.seat.view.number (subst (λ (m : Mine). owns m p ≡ true) (sym c.self.view_is) c.requires.own) in
    let made = c.in-Some.ensures.adopted in
    let is = adopted_len c.in-Some.word n (adopted_fits _ _ p c.in-Some.word made.1) (adopted_used _ _ p c.in-Some.word made.1) c.said-len.ensures.len in (
      is.1,
      is.2,
      ap mine_of (seated_is c.adopt.new.self s.seat.table _ c.adopt.ensures.table made.0)
          ∙ adopted_mine s.seat _ s.number s.rows c.self.invariant.0 p (own ∙ c.self.invariant.0.number_is) c.in-Some.word n c.said-len.result.1 is.0 c.said-len.ensures.ds ∙ ap (adopting p n c.said-len.result.1) c.self.view_is,
    )

pub returns-in_default-clause-kept : goal.returns-in_default-clause-kept
returns-in_default-clause-kept g c _ =
    let s = c.self.inside in
    ap mine_of (seated_is c.adopt.new.self s.seat.table _ c.adopt.ensures.table (c.in_default.ensures.refused refl).1) ∙ c.self.view_is

pub returns-clause-found : goal.returns-clause-found
returns-clause-found g c =
    let s = c.self.inside in
    let p : ℕ = c.args.p in
    let number = ap (λ (m : Mine). m.number) c.self.view_is in
    let made = subst (λ (n : ℕ). OwnerMade (Adopt n p) s.seat.view (Word c.in-Some.word) c.adopt.new.self.view) number c.in-Some.ensures.adopted.1 in
    (c.in-Some.word, record { seat = s.seat; later = c.adopt.new.self; before = c.self.view_is; after = refl; made = made }, c.said-len.ensures.len, c.said-len.ensures.ds)

pub returns-in_default-clause-refused : goal.returns-in_default-clause-refused
returns-in_default-clause-refused g c = λ _.
    let s = c.self.inside in
    let number = ap (λ (m : Mine). m.number) c.self.view_is in record {
      seat = s.seat;
      before = c.self.view_is;
      refused = subst (λ (n : ℕ). OwnerRefused (Adopt n c.args.p) s.seat.view) number (c.in_default.ensures.refused refl).2;
    }
