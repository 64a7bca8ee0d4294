-- What a caller of the book needs to begin a round of log 0, and to ask for an object's job.
use Rattle.std.proofs.Common.{◌≡◌, ◌∙◌, ℕ, ◌*◌, ◌<◌, true, arith, ap, inl, inr, sym, subst, Option, Some, None}
use Rattle.std.specs.Prelude.{nat_eq, not}
use Rattle.std.proofs.lemmas.Bool.{cases_lt, eqb-true, false≢true}
use Rattle.far_word.specs.declared.mark.Marks.{Marks}
use Rattle.far_word.specs.declared.pointer.Place.{Place}
use Rattle.far_word.specs.declared.pointer.PtrWord.{PtrWord}
use Rattle.far_word.specs.declared.pointer.PtrWord.TheVariants.{Free, Near, Far}
use Rattle.far_word.specs.declared.sizes.TheConstants.{CELLS}
use Rattle.far_word.specs.Pointer.{read_of}
use Rattle.far_events.specs.declared.event.Kind.TheVariants.{Sealed}
use Rattle.far_events.specs.events.Advance.{is_among}
use Rattle.far_events.specs.state.Jobs.{near_place}
use Rattle.far_events.specs.state.Law.{HasEvac, Law}
use Rattle.far_events.specs.state.State.{State}
use Rattle.far_events.proofs.Cells.{unused}
use Rattle.far_core.proofs.RoundFacts.{one_log_is_a_bit}
use Rattle.far_hand.specs.Rounds.{MayChoose}
use Rattle.far_book.specs.declared.home.Home.TheVariants as homes
use Rattle.far_book.specs.book.Home.{home_of}
use Rattle.far_book.specs.book.Own.{own_part}

-- the set of log 0 alone
pub only_first : (l : ℕ) → is_among 1 l ≡ true → l ≡ 0
only_first l is = eqb-true l 0 (sym (one_log_is_a_bit 0 l (omega arith)) ∙ is)

-- an object of another log isn't asked for EVAC
pub elsewhere : (cell : Option PtrWord) (len ds : ℕ) (place : Place) (m : Marks) → cell ≡ Some (Near len ds place m) → not (nat_eq place.log 0) ≡ true → HasEvac (is_among 1) cell
elsewhere cell len ds place m is ne n d at k e among = let same : at ≡ place = let both = sym e ∙ is in cc in
    absurd (false≢true (subst (λ l. not (nat_eq l 0) ≡ true) (ap (λ (x : Place). x.log) (sym same) ∙ only_first at.log among) ne))

-- an object's place, as it is seen
pub near_home : (o : Option PtrWord) (place : Place) (marks : Marks) → Some (homes.Near place marks) ≡ home_of o → near_place o ≡ Some place
near_home None place marks e = absurd cc
near_home (Some Free) place marks e = absurd cc
near_home (Some (Near len ds at m)) place marks e = let same : place ≡ at = cc in ap (λ x. Some x) (sym same)
near_home (Some (Far len ds m)) place marks e = absurd cc

-- log 0, which is sealed, may be a round's if each object there has EVAC
pub may_begin : (s : State) → Law (own_part s) → s.kind 0 ≡ Sealed → 0 < s.logs → s.mutators ≡ 1 → ((p : ℕ) → p < CELLS → HasEvac (is_among 1) (read_of (s.cell p))) → MayChoose s 1
may_begin s law sealed low one all = record {
  shut = λ l is. (let e = only_first l is in (subst (λ k. k < s.logs) (sym e) low, ap s.kind e ∙ sealed));
  marked = λ p. elim (cases_lt p CELLS) [
    | inl lt ↦ all p lt
    | inr past ↦ λ len ds place m near is. (let used = law.cells.cell_range p (λ z. let odd : Some Free ≡ Some (Near len ds place m) = sym unused ∙ ap read_of (sym z) ∙ near in absurd cc) in
        absurd (omega (arith, past, subst (λ n. p < CELLS * n) one used)))
  ];
}
