-- How a census grows, pointer by pointer.
use Rattle.std.proofs.Common.{◌≡◌, ℕ, zero, suc, ◌+◌, ◌≤◌, Bool, true, false, Option, Some, None, List, [], ◌∷◌, ◌++◌, arith, ap, sym, refl, ◌∙◌, subst}
use Rattle.std.specs.List.{flat_map, range_with_len}
use Rattle.std.proofs.lemmas.List.{append-nil, append_assoc}
use Rattle.far_word.specs.declared.pointer.PtrWord.{PtrWord}
use Rattle.far_word.specs.declared.pointer.PtrWord.TheVariants.{Free, Near, Far}
use Rattle.far_word.specs.Pointer.{read_of}
use Rattle.far_events.specs.events.Naming.{is_dropped}
use Rattle.far_events.specs.state.State.{State, put}
use Rattle.far_events.proofs.Put.{put_other}
use Rattle.far_book.specs.declared.home.Home.{Home}
use Rattle.far_book.specs.book.Home.{home_of}
use Rattle.far_hand.specs.Finds.{Finds}
use Rattle.far_book.specs.book.Renaming.{seen}
use Rattle.far_evac.specs.AnyHand.{Knows}
use Rattle.far_evac.proofs.Hands.{knows_more, knows_seen}
use Rattle.far_evac.specs.EvacOf.{EvacOf}
use Rattle.far_evac.specs.declared.census.Housed.{Housed}
use Rattle.far_evac.specs.Census.{has_drop, housed_in}

-- ---- what one cell gives
pub none_housed : (p : ℕ) (cell : Option PtrWord) → home_of cell ≡ None → housed_in p cell ≡ []
none_housed p (Some (Near len ds place marks)) e = absurd cc
none_housed p (Some (Far len ds marks)) e = absurd cc
none_housed p _ e = refl

pub drop_at_home : (cell : Option PtrWord) (home : Home) → home_of cell ≡ Some home → is_dropped cell ≡ has_drop home
drop_at_home None home e = absurd cc
drop_at_home (Some Free) home e = absurd cc
drop_at_home (Some (Near len ds place marks)) home e = ap dropped_in e where
  dropped_in : Option Home → Bool
  dropped_in None = false
  dropped_in (Some h) = has_drop h
drop_at_home (Some (Far len ds marks)) home e = ap dropped_in e where
  dropped_in : Option Home → Bool
  dropped_in None = false
  dropped_in (Some h) = has_drop h

pub dropped_housed : (p : ℕ) (cell : Option PtrWord) (home : Home) → home_of cell ≡ Some home → has_drop home ≡ true → housed_in p cell ≡ []
dropped_housed p cell home e dropped = rw (drop_at_home cell home e, dropped) refl

pub one_housed : (p : ℕ) (cell : Option PtrWord) (home : Home) → home_of cell ≡ Some home → has_drop home ≡ false → housed_in p cell ≡ record { pointer = p; home = home } ∷ []
one_housed p cell home e alive = rw (drop_at_home cell home e, alive, e) refl

-- ---- so many cells
abbrev pub listed : (ℕ → ℕ) → ℕ → List Housed
listed cell n = flat_map (λ p. housed_in p (read_of (cell p))) (range_with_len 0 n)

module _ (f : ℕ → List Housed) where
  more_from : (a n : ℕ) → flat_map f (range_with_len a (suc n)) ≡ flat_map f (range_with_len a n) ++ f (a + n)
  more_from a zero = let same : a + 0 ≡ a = omega arith in append-nil (f a) ∙ ap f (sym same)
  more_from a (suc n) =
      let same : a + 1 + n ≡ a + suc n = omega arith in
      ap (λ xs. f a ++ xs) (more_from (a + 1) n) ∙ sym (append_assoc (f a) (flat_map f (range_with_len (a + 1) n)) (f (a + 1 + n))) ∙ ap (λ k. (f a ++ flat_map f (range_with_len (a + 1) n)) ++ f k) same

module _ (cell : ℕ → ℕ) (p word : ℕ) where
  same_from : (a n : ℕ) → a + n ≤ p → flat_map (λ q. housed_in q (read_of (put cell p word q))) (range_with_len a n) ≡ flat_map (λ q. housed_in q (read_of (cell q))) (range_with_len a n)
  same_from a zero le = refl
  same_from a (suc n) le =
      ap (λ w. housed_in a (read_of w) ++ flat_map (λ q. housed_in q (read_of (put cell p word q))) (range_with_len (a + 1) n)) (put_other cell p word a (λ e. omega (arith, e, le)))
      ∙ ap (λ xs. housed_in a (read_of (cell a)) ++ xs) (same_from (a + 1) n (omega (arith, le)))

-- one cell more was found
pub listed_more : (s t : State) (p word : ℕ) → t ≡ record s { cell = put s.cell p word } → t.cell p ≡ word → listed t.cell (p + 1) ≡ listed s.cell p ++ housed_in p (read_of word)
listed_more s t p word is here =
    let more : p + 1 ≡ suc p = omega arith in
    let cells : t.cell ≡ put s.cell p word = ap (λ (u : State). u.cell) is in
    let from : 0 + p ≡ p = omega arith in
    ap (listed t.cell) more ∙ more_from (λ q. housed_in q (read_of (t.cell q))) 0 p
    ∙ ap (λ k. listed t.cell p ++ housed_in k (read_of (t.cell k))) from
    ∙ ap (λ w. listed t.cell p ++ housed_in p (read_of w)) here
    ∙ ap (λ c. listed c p ++ housed_in p (read_of word)) cells
    ∙ ap (λ xs. xs ++ housed_in p (read_of word)) (same_from s.cell p word 0 p (omega arith))

-- ---- one step of the list, by what was found in the cell
module _ (s t : State) (p : ℕ) (items : List Housed) (is : t ≡ record s { cell = put s.cell p (t.cell p) }) (so_far : items ≡ listed s.cell p) where
  one_more : listed t.cell (p + 1) ≡ items ++ housed_in p (read_of (t.cell p))
  one_more = listed_more s t p (t.cell p) is refl ∙ ap (λ xs. xs ++ housed_in p (read_of (t.cell p))) (sym so_far)

  none_more : housed_in p (read_of (t.cell p)) ≡ [] → items ≡ listed t.cell (p + 1)
  none_more none = sym (one_more ∙ ap (λ xs. items ++ xs) none ∙ append-nil items)

  pub listed_none : home_of (read_of (t.cell p)) ≡ None → items ≡ listed t.cell (p + 1)
  listed_none free = none_more (none_housed p (read_of (t.cell p)) free)

  pub listed_dropped : (home : Home) → home_of (read_of (t.cell p)) ≡ Some home → has_drop home ≡ true → items ≡ listed t.cell (p + 1)
  listed_dropped home e dropped = none_more (dropped_housed p (read_of (t.cell p)) home e dropped)

  pub listed_one : (home : Home) (more : List Housed) → home_of (read_of (t.cell p)) ≡ Some home → has_drop home ≡ false → more ≡ items ++ record { pointer = p; home = home } ∷ [] → more ≡ listed t.cell (p + 1)
  listed_one home more e alive pushed = pushed ∙ ap (λ xs. items ++ xs) (sym (one_housed p (read_of (t.cell p)) home e alive)) ∙ sym one_more

  pub found_more : (first : State) → Finds (s.cell p) (t.cell p) → Knows first s → Knows first t
  found_more first finds known = subst (Knows first) (sym is) (knows_more first s (seen s p (t.cell p)) known (knows_seen s p (t.cell p) finds))

-- ---- words alone are known anew
pub same_but_near : {N D : Type 0} (first then last : EvacOf N D) → then ≡ record first { book = record first.book { near = then.book.near } } →
    last.book.order ≡ then.book.order → last.book.device ≡ then.book.device → (last.phase ≡ then.phase) × (last.collection ≡ then.collection) × (last.copying ≡ then.copying) → last ≡ record first { book = record first.book { near = last.book.near } }
same_but_near {N = N} {D = D} first then last is order device round =
    let orders : last.book.order ≡ first.book.order = order ∙ ap (λ (e : EvacOf N D). e.book.order) is in
    let devices : last.book.device ≡ first.book.device = device ∙ ap (λ (e : EvacOf N D). e.book.device) is in
    let phases : last.phase ≡ first.phase = round.0 ∙ ap (λ (e : EvacOf N D). e.phase) is in
    let helds : last.collection ≡ first.collection = round.1 ∙ ap (λ (e : EvacOf N D). e.collection) is in
    let copies : last.copying ≡ first.copying = round.2 ∙ ap (λ (e : EvacOf N D). e.copying) is in
    λ i. record { book = record { near = last.book.near; device = devices i; order = orders i }; phase = phases i; collection = helds i; copying = copies i }
