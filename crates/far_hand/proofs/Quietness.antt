-- Which words of the logs are those of a quiet object, by the words found in the cells.
use Rattle.std.proofs.Common.{◌≡◌, ℕ, ◌+◌, ◌-◌, ◌*◌, ◌<◌, ◌≤◌, Bool, true, false, Option, Some, None, refl, ap, ◌∙◌, arith}
use Rattle.std.specs.Prelude.{◌&&◌, ◌==◌, nat_le, nat_lt}
use Rattle.std.proofs.lemmas.Bool.{false≢true}
use Rattle.std.proofs.lemmas.Bool.Decides.{nat_tests}
use Rattle.far_word.specs.declared.mark.Marks.{Marks}
use Rattle.far_word.specs.declared.pointer.Place.{Place}
use Rattle.far_word.specs.declared.pointer.PtrWord.{PtrWord}
use Rattle.far_word.specs.declared.pointer.PtrWord.TheVariants.{Free, Near, Far}
use Rattle.far_word.specs.declared.sizes.TheConstants.{CELLS, LOG_WORDS}
use Rattle.far_word.specs.Pointer.{read_of}
use Rattle.far_word.specs.Sizes.{words_for}
use Rattle.far_word.proofs.PointerLaws.{read_says}
use Rattle.far_events.specs.state.Law.{Law}
use Rattle.far_events.specs.state.State.{State}
use Rattle.far_hand.specs.Masked.{AllFind}
use Rattle.far_hand.specs.Quiet.{IsQuietAt, is_quiet, is_quiet_word}
use Rattle.far_hand.proofs.Finding.{near_found}

-- what the test says
record QuietWord (round clear : ℕ → Bool) (p : ℕ) (o : Option PtrWord) (l at : ℕ) : Type 0 where
  len : ℕ
  ds : ℕ
  place : Place
  marks : Marks
  near : o ≡ Some (Near len ds place marks)
  quiet : is_quiet round clear p place marks ≡ true
  log : place.log ≡ l
  low : place.at < at
  high : at ≤ place.at + words_for len

parts : (a b : Bool) → (a && b) ≡ true → (a ≡ true) × (b ≡ true)
parts true b h = (refl, h)
parts false b h = absurd (false≢true h)

-- the word lies within the object
lies_in : (len l at : ℕ) (place : Place) → ((place.log == l) && nat_lt place.at at && nat_le at (place.at + words_for len)) ≡ true →
    (place.log ≡ l) × (place.at < at) × (at ≤ place.at + words_for len)
lies_in len l at place h = (grind (arith, nat_tests), grind (arith, nat_tests), grind (arith, nat_tests))

word_fact : (round clear : ℕ → Bool) (p : ℕ) (o : Option PtrWord) (l at : ℕ) → is_quiet_word round clear p o l at ≡ true → QuietWord round clear p o l at
word_fact round clear p None l at h = absurd (false≢true h)
word_fact round clear p (Some Free) l at h = absurd (false≢true h)
word_fact round clear p (Some (Near n d place m)) l at h =
    let x = parts (is_quiet round clear p place m) _ h in
    let within = lies_in n l at place x.1 in
    record { len = n; ds = d; place = place; marks = m; near = refl; quiet = x.0; log = within.0; low = within.1; high = within.2 }
word_fact round clear p (Some (Far n d m)) l at h = absurd (false≢true h)

word_test : (round clear : ℕ → Bool) (p : ℕ) (o : Option PtrWord) (l at len ds : ℕ) (place : Place) (m : Marks) → o ≡ Some (Near len ds place m) → is_quiet round clear p place m ≡ true →
    place.log ≡ l → place.at < at → at ≤ place.at + words_for len → is_quiet_word round clear p o l at ≡ true
word_test round clear p o l at len ds place m e quiet log low high =
    ap (λ x. is_quiet_word round clear p x l at) e ∙ ap (λ b. b && ((place.log == l) && nat_lt place.at at && nat_le at (place.at + words_for len))) quiet ∙ within where
      within : ((place.log == l) && nat_lt place.at at && nat_le at (place.at + words_for len)) ≡ true
      within = grind (arith, nat_tests)

module _ (s : State) (law : Law s) (found : ℕ → ℕ) (finds : AllFind found s.cell) (l at : ℕ) where
  pub quiet_fact : (p : ℕ) → p < CELLS * s.mutators → is_quiet_word s.round s.clear p (read_of (found p)) l at ≡ true → IsQuietAt (record s { cell = found }) (l * LOG_WORDS + at)
  quiet_fact p small h = let x = word_fact s.round s.clear p (read_of (found p)) l at h in record {
    p = p;
    len = x.len;
    ds = x.ds;
    place = x.place;
    marks = x.marks;
    index = at - x.place.at - 1;
    pointer = small;
    near = x.near;
    quiet = x.quiet;
    inside = omega (arith, x.low, x.high);
    here = (let log : x.place.log * LOG_WORDS ≡ l * LOG_WORDS = ap (λ k. k * LOG_WORDS) x.log in omega (arith, x.low, x.high));
  }

  pub quiet_test : at < LOG_WORDS → (x : IsQuietAt (record s { cell = found }) (l * LOG_WORDS + at)) → is_quiet_word s.round s.clear x.p (read_of (found x.p)) l at ≡ true
  quiet_test low x =
      let cell = near_found (found x.p) (s.cell x.p) (finds x.p) x.len x.ds x.place x.marks x.near in
      let says = read_says (s.cell x.p) (Near x.len x.ds x.place cell.marks) (law.cells.cell_read x.p).0 cell.near in
      let log : x.place.log ≡ l = omega (arith, says.0, x.here, x.inside) in
      let same : x.place.log * LOG_WORDS ≡ l * LOG_WORDS = ap (λ k. k * LOG_WORDS) log in
      word_test s.round s.clear x.p (read_of (found x.p)) l at x.len x.ds x.place x.marks x.near x.quiet log (omega (arith, x.here)) (omega (arith, x.here, x.inside))
