-- A census lists each pointer where its cell says, by rising numbers, and each log in order.
use Rattle.std.proofs.Common.{◌≡◌, ◌≢◌, ℕ, zero, suc, ◌+◌, ◌*◌, ◌<◌, Bool, true, false, Option, Some, None, List, [], ◌∷◌, ◌++◌, map, arith, ap, sym, refl, ◌∙◌, subst}
use Rattle.std.specs.List.{AllByRecursion, flat_map, range_with_len}
use Rattle.std.proofs.lemmas.Bool.{cond_both}
use Rattle.far_word.specs.declared.pointer.PtrWord.{PtrWord}
use Rattle.far_word.specs.declared.pointer.PtrWord.TheVariants as pointer
use Rattle.far_word.specs.declared.sizes.TheConstants.{CELLS}
use Rattle.far_word.specs.Pointer.{read_of}
use Rattle.far_events.specs.declared.event.Kind.{Kind}
use Rattle.far_events.specs.declared.event.Kind.TheVariants as kinds
use Rattle.far_events.specs.events.Naming.{is_dropped}
use Rattle.far_events.specs.state.Law.{Law}
use Rattle.far_events.specs.state.State.{State}
use Rattle.far_book.specs.book.Home.{home_of}
use Rattle.far_book.specs.book.Own.{own_part}
use Rattle.far_book.specs.book.Rows.{row_of}
use Rattle.far_book.specs.declared.home.Home.{Home}
use Rattle.far_book.specs.declared.home.Home.TheVariants.{Near, Far}
use Rattle.far_evac.specs.declared.census.Housed.{Housed}
use Rattle.far_evac.specs.declared.census.LogState.{LogState}
use Rattle.far_evac.specs.Census.{homes_of, housed_at, housed_in, kind_in, kind_named, logs_of}
use Rattle.far_evac.specs.Listing.{CensusListsEach, IsAt, IsNamed, ListsEach, TellsState, listed_pointers}
use Rattle.far_evac.specs.LiveLaws.{IsInTurn}
use Rattle.far_evac.specs.Moment.{Moment}
use Rattle.far_evac.specs.RoundSteps.{among}
use Rattle.far_evac.proofs.Censuses.{census_is}

-- ---- one pointer
-- it is listed once, or not
joined : (P : List ℕ → Type 0) (q : ℕ) (cell : Option PtrWord) (rest : List Housed) → P (listed_pointers rest) → P (q ∷ listed_pointers rest) → P (listed_pointers (housed_in q cell ++ rest))
joined P q cell rest none one = cond_both (is_dropped cell) [] (housed_at q (home_of cell)) (λ (xs : List Housed). P (listed_pointers (xs ++ rest))) (λ _. none) (λ _. by_home (home_of cell)) where
  by_home : (home : Option Home) → P (listed_pointers (housed_at q home ++ rest))
  by_home None = none
  by_home (Some home) = one

-- where its cell says
at_home : (s : State) (p : ℕ) (home : Home) (cell : Option PtrWord) → read_of (s.cell p) ≡ cell → home_of cell ≡ Some home → is_dropped cell ≡ false → IsAt s p home
at_home s p home (Some (pointer.Near len ds place marks)) e is alive = let same : Near place marks ≡ home = cc in subst (IsAt s p) same (len, ds, e, alive)
at_home s p home (Some (pointer.Far len ds marks)) e is alive = let same : Far marks ≡ home = cc in subst (IsAt s p) same (len, ds, e, alive)
at_home s p home _ e is alive = absurd cc

says_home : (s : State) (p : ℕ) (home : Home) → IsAt s p home → (home_of (read_of (s.cell p)) ≡ Some home) × (is_dropped (read_of (s.cell p)) ≡ false)
says_home s p (Near place marks) (len, ds, e, alive) = (ap home_of e, ap is_dropped e ∙ alive)
says_home s p (Far marks) (len, ds, e, alive) = (ap home_of e, ap is_dropped e ∙ alive)

none_free : (home : Home) → home_of (read_of 0) ≡ Some home → ⊥
unfolding read_of
none_free home is = absurd cc

not_free : (s : State) (p : ℕ) (home : Home) → home_of (read_of (s.cell p)) ≡ Some home → s.cell p ≢ 0
not_free s p home is e = none_free home (ap (λ w. home_of (read_of w)) (sym e) ∙ is)

-- ---- all pointers
module _ (s : State) where
  abbrev given : ℕ → List Housed
  given q = housed_in q (read_of (s.cell q))

  all_above : (b a n : ℕ) → b < a → AllByRecursion (λ p. b < p) (listed_pointers (flat_map given (range_with_len a n)))
  all_above b a zero lt = tt
  all_above b a (suc n) lt =
      let more = all_above b (a + 1) n (omega (arith, lt)) in
      joined (AllByRecursion (λ p. b < p)) a (read_of (s.cell a)) (flat_map given (range_with_len (a + 1) n)) more (lt, more)

  rises_from : (a n : ℕ) → IsInTurn (λ p q. p < q) (listed_pointers (flat_map given (range_with_len a n)))
  rises_from a zero = tt
  rises_from a (suc n) =
      let more = rises_from (a + 1) n in
      joined (IsInTurn (λ p q. p < q)) a (read_of (s.cell a)) (flat_map given (range_with_len (a + 1) n)) more (all_above a (a + 1) n (omega arith), more)

-- ---- all logs
module _ (m : Moment) where
  abbrev state : ℕ → LogState
  state l = record { kind = kind_in m l; row = row_of m.core l }

  named : (l : ℕ) (kind : Kind) (held : Bool) → m.core.kind l ≡ kind → among m.collection l ≡ held → IsNamed m l (kind_named held kind)
  named l kinds.Sealed true e h = (e, h)
  named l kinds.Sealed false e h = (e, h)
  named l _ held e h = e

  in_order : (ls : List ℕ) → map (λ (log : LogState). log.row.log) (map state ls) ≡ ls
  in_order [] = refl
  in_order (l ∷ ls) = ap (λ xs. l ∷ xs) (in_order ls)

  told : (ls : List ℕ) → AllByRecursion (TellsState m) (map state ls)
  told [] = tt
  told (l ∷ ls) = (record { kind = named l (m.core.kind l) (among m.collection l) refl refl; live = refl; dead = refl; unused = refl }, told ls)

pub census_lists : CensusListsEach
census_lists m law = record {
  each = λ p home. (
    (λ listed. let x = (census_is m.core p home).0 listed in at_home m.core p home (read_of (m.core.cell p)) refl x.1 x.2),
    λ is. let x = says_home m.core p home is in (census_is m.core p home).1 (law.cells.cell_range p (not_free m.core p home x.0), x.0, x.1),
  );
  rises = rises_from m.core 0 (CELLS * m.core.mutators);
  order = in_order m (range_with_len 0 m.core.logs);
  tells = told m (range_with_len 0 m.core.logs);
}

-- so it is with what is equal to it
pub lists_each : (m : Moment) (homes : List Housed) (logs : List LogState) → Law (own_part m.core) → homes ≡ homes_of m.core → logs ≡ logs_of m → ListsEach m homes logs
lists_each m homes logs law are have = subst (λ xs. ListsEach m xs logs) (sym are) (subst (ListsEach m (homes_of m.core)) (sym have) (census_lists m law))
