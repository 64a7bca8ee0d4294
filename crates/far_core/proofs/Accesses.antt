-- What a scope that is opened for one access leaves, once it is closed.
use Rattle.std.proofs.Common.{◌≡◌, ◌≢◌, ℕ, ◌+◌, ◌-◌, ◌*◌, ◌/◌, ◌^◌, ◌<◌, ◌≤◌, Bool, true, false, cond, arith, List, [], ◌∷◌, ◌++◌, Option, Some, None, ap, refl, sym, subst, ◌∙◌, length, bit_or}
use Rattle.std.specs.Prelude.{IsSome, ◌==◌, ◌||◌, is_some, slice_index}
use Rattle.std.proofs.lemmas.Bool.Decides.{nat_tests}
use Rattle.std.proofs.lemmas.Bool.{cond_both, eqb-true, eqb-false, eq-eqb, false≢true}
use mathlib.Core.Path.{fun_ext}
use Rattle.far_word.specs.declared.mark.Mark.TheVariants.{Dirty, Dropped, Evac, Hot, Moved}
use Rattle.far_word.specs.declared.mark.Mark.{Mark}
use Rattle.far_word.specs.declared.mark.Marks.{Marks}
use Rattle.far_word.specs.declared.pointer.Place.{Place}
use Rattle.far_word.specs.declared.pointer.PtrWord.{PtrWord}
use Rattle.far_word.specs.declared.pointer.PtrWord.TheVariants.{Far, Free, Near}
use Rattle.far_word.specs.declared.sizes.TheConstants.{CELLS}
use Rattle.far_word.specs.Mark.{position}
use Rattle.far_word.specs.Bytes.{bytes_of}
use Rattle.far_word.specs.Pointer.{IsPtr, read_of, without_owner_marks, word_of}
use Rattle.far_word.proofs.MaskLaws.{IsPtr-without_owner_marks}
use Rattle.far_word.proofs.PointerLaws.{read_back, read_says, word_fits}
use Rattle.far_word.specs.Sizes.{words_for}
use Rattle.far_events.specs.declared.event.Event.{Event}
use Rattle.far_events.specs.declared.event.Event.TheVariants.{Ask, Close, Name, Open, Pin, ReadEpoch, Soil}
use Rattle.far_events.specs.declared.naming.Naming.TheVariants.{Stays}
use Rattle.far_events.specs.events.Accesses.{IsAtRest, cools, heats, hot_word, moved_word, overwrites, overwritten, with_cell, written_word}
use Rattle.far_events.specs.events.Legal.{Legal}
use Rattle.far_events.specs.events.Name.{after_naming}
use Rattle.far_events.specs.events.Naming.{naming_of, unmarked}
use Rattle.far_events.specs.events.Open.{scope_word_of}
use Rattle.far_events.specs.events.Pin.{place_to_view, with_hold}
use Rattle.far_events.specs.events.Ranges.{AllLegal, after_events, stores, with_row}
use Rattle.far_events.specs.events.Step.{after, data_len, data_word, near_data, near_len, step_of}
use Rattle.far_events.specs.events.Written.{spliced, written_words}
use Rattle.far_events.specs.state.Law.{Law}
use Rattle.far_events.specs.state.State.{State, put}
use Rattle.far_events.proofs.Cells.{map_mark}
use Rattle.far_core.proofs.DataBytes.{bytes_after, written_inside, written_pad}
use Rattle.far_events.proofs.Splices.{written_fit}
use Rattle.far_core.proofs.events.Ask.{reads as ask_reads}
use Rattle.far_core.proofs.events.Soil.{reads as soil_reads}
use Rattle.far_core.proofs.KeepOwner.{hot_read, keeps_hot, nonzero}
use Rattle.far_events.proofs.Namings.{naming_only}
use Rattle.far_core.proofs.Owing.{keeps}
use Rattle.far_events.proofs.Put.{put_both, put_other, put_same}
use Rattle.far_core.proofs.Ranges.{one_made, stores_end, stores_keep, stores_legal}
use Rattle.far_events.proofs.Rests.{rest_is}

-- ---- lists of events
pub made_first : (s : State) (e : Event) (es : List Event) → Legal s e → after_events s (e ∷ es) ≡ after_events (after s e) es
made_first s e es legal = ap (λ u. after_events u es) (one_made s e legal)

pub legal_first : (s : State) (e : Event) (es : List Event) → Legal s e → AllLegal (after s e) es → AllLegal s (e ∷ es)
legal_first s e es legal rest = (legal, subst (λ u. AllLegal u es) (sym (one_made s e legal)) rest)

pub made_all : (s : State) (es fs : List Event) → after_events s (es ++ fs) ≡ after_events (after_events s es) fs
made_all s [] fs = refl
made_all s (e ∷ es) fs = made_all (step_of s e).0 es fs

pub legal_all : (s : State) (es fs : List Event) → AllLegal s es → AllLegal (after_events s es) fs → AllLegal s (es ++ fs)
legal_all s [] fs a b = b
legal_all s (e ∷ es) fs a b = (a.0, legal_all (step_of s e).0 es fs a.1 b)

-- ---- what is put back
put_back : {X : Type 0} (f : ℕ → X) (k : ℕ) (x v : X) → f k ≡ v → put (put f k x) k v ≡ f
put_back f k x v h = fun_ext (λ q. put_both (λ y. y ≡ f q) (put f k x) k v q (λ e. sym h ∙ ap f (sym e)) (λ ne. put_other f k x q ne))

put_again : {X : Type 0} (f : ℕ → X) (k : ℕ) (x v : X) → put (put f k x) k v ≡ put f k v
put_again f k x v = fun_ext (λ q. put_both (λ y. y ≡ put f k v q) (put f k x) k v q (λ e. sym (put_same f k v q e)) (λ ne. put_other f k x q ne ∙ sym (put_other f k v q ne)))

held_beside : (held : ℕ → Option Place) (p : ℕ) (o : Option Place) (q : ℕ) → q ≢ p → with_hold held p o q ≡ held q
held_beside held p None q ne = refl
held_beside held p (Some place) q ne = put_other held p (Some place) q ne

-- marks move nothing
pub data_marked : (k : Mark) (o : Option PtrWord) → (near_data (map_mark k o) ≡ near_data o) × (near_len (map_mark k o) ≡ near_len o)
data_marked k None = (refl, refl)
data_marked k (Some Free) = (refl, refl)
data_marked k (Some (Near len ds place m)) = (refl, refl)
data_marked k (Some (Far len ds m)) = (refl, refl)

-- HOT and DIRTY bar no view
abbrev bars_none : Mark → Bool
bars_none Hot = true
bars_none Evac = false
bars_none Moved = false
bars_none Dropped = false
bars_none Dirty = true

rests_marked : (k : Mark) (o : Option PtrWord) → bars_none k ≡ true → place_to_view (map_mark k o) ≡ place_to_view o
rests_marked k None h = refl
rests_marked k (Some Free) h = refl
rests_marked Hot (Some (Near len ds place m)) h = refl
rests_marked Evac (Some (Near len ds place m)) h = absurd (false≢true h)
rests_marked Moved (Some (Near len ds place m)) h = absurd (false≢true h)
rests_marked Dropped (Some (Near len ds place m)) h = absurd (false≢true h)
rests_marked Dirty (Some (Near len ds place m)) h = refl
rests_marked k (Some (Far len ds m)) h = refl

module _ (s : State) (law : Law s) (m p : ℕ) (rest : IsAtRest s m p) where
  -- its owner holds and has soiled nothing
  pub unheld : (q : ℕ) → q / CELLS ≡ m → s.held q ≡ None
  unheld q own = by (s.held q) refl where
    by : (o : Option Place) → s.held q ≡ o → s.held q ≡ None
    by None e = e
    by (Some place) e = absurd (law.views.held_open q (rw e refl) (ap s.scope own ∙ rest.closed.1))

  unsoiled : (q : ℕ) → q / CELLS ≡ m → s.soiled q ≡ false
  unsoiled q own = by (s.soiled q) refl where
    by : (b : Bool) → s.soiled q ≡ b → s.soiled q ≡ false
    by false e = e
    by true e = absurd (false≢true (sym (ap is_some (unheld q own)) ∙ law.soils.soiled_held q e))

  pub let_go : (o : Option Place) → (λ (q : ℕ). cond (q / CELLS == m) None (with_hold s.held p o q)) ≡ s.held
  let_go o = fun_ext (λ q. cond_both (q / CELLS == m) None (with_hold s.held p o q) (λ y. y ≡ s.held q)
      (λ e. sym (unheld q (eqb-true (q / CELLS) m e)))
      (λ e. held_beside s.held p o q (λ same. eqb-false (q / CELLS) m e (ap (λ x. x / CELLS) same ∙ rest.own))))

  forgets : (soiled : ℕ → Bool) → ((q : ℕ) → q ≢ p → soiled q ≡ s.soiled q) → (λ (q : ℕ). cond (q / CELLS == m) false (soiled q)) ≡ s.soiled
  forgets soiled beside = fun_ext (λ q. cond_both (q / CELLS == m) false (soiled q) (λ y. y ≡ s.soiled q)
      (λ e. sym (unsoiled q (eqb-true (q / CELLS) m e)))
      (λ e. beside q (λ same. eqb-false (q / CELLS) m e (ap (λ x. x / CELLS) same ∙ rest.own))))

  -- ---- the scope is opened, and the object pinned
  abbrev one : State
  one = after s (ReadEpoch m)

  abbrev two : State
  two = after one (Open m)

  abbrev pub three : State
  three = after two (Pin m p)

  remembers : one.remembered m ≡ Some s.epoch
  remembers = put_same s.remembered m (Some s.epoch) m refl

  opened : two.scope m ≢ 0
  opened z = let is : two.scope m ≡ scope_word_of (Some s.epoch) = put_same s.scope m (scope_word_of (one.remembered m)) m refl ∙ ap scope_word_of remembers in omega (arith, sym is ∙ z)

  legal_one : Legal s (ReadEpoch m)
  legal_one = rest.closed

  legal_two : Legal one (Open m)
  legal_two = (rest.closed, rw remembers refl)

  legal_three : Legal two (Pin m p)
  legal_three = ((rest.closed.0, opened), rest.own, rest.used, unheld p rest.own)

  pub law_three : Law three
  law_three = keeps two (Pin m p) (keeps one (Open m) (keeps s (ReadEpoch m) law tt legal_one) tt legal_two) tt legal_three

  pub made_three : (es : List Event) → after_events s (ReadEpoch m ∷ Open m ∷ Pin m p ∷ es) ≡ after_events three es
  made_three es = made_first s (ReadEpoch m) (Open m ∷ Pin m p ∷ es) legal_one ∙ made_first one (Open m) (Pin m p ∷ es) legal_two ∙ made_first two (Pin m p) es legal_three

  pub legal_up : (es : List Event) → AllLegal three es → AllLegal s (ReadEpoch m ∷ Open m ∷ Pin m p ∷ es)
  legal_up es rest_legal = legal_first s (ReadEpoch m) (Open m ∷ Pin m p ∷ es) legal_one (legal_first one (Open m) (Pin m p ∷ es) legal_two (legal_first two (Pin m p) es legal_three rest_legal))

  -- ---- and closed again
  pub heats_legal : AllLegal s (heats m p)
  heats_legal = legal_up (Close m ∷ []) ((rest.closed.0, opened), tt)

  shut_scope : put two.scope m 0 ≡ s.scope
  shut_scope = put_back s.scope m (scope_word_of (one.remembered m)) 0 rest.closed.1

  forgot : put one.remembered m None ≡ s.remembered
  forgot = put_back s.remembered m (Some s.epoch) None rest.fresh

  pub heats_end : after_events s (heats m p) ≡ with_cell s p (hot_word (s.cell p))
  heats_end = made_three (Close m ∷ []) ∙ made_first three (Close m) [] (rest.closed.0, opened)
      ∙ (λ i. record s { scope = shut_scope i; remembered = forgot i; held = let_go (place_to_view (read_of (s.cell p))) i; soiled = forgets s.soiled (λ q ne. refl) i; cell = put s.cell p (hot_word (s.cell p)) })

  pub heats_keep : Law (with_cell s p (hot_word (s.cell p)))
  heats_keep = keeps_hot s law p rest.used

  -- ---- bytes are stored meanwhile, where a view may rest
  module _ (place : Place) (rests : place_to_view (read_of (s.cell p)) ≡ Some place) where
    pub holds : three.held p ≡ Some place
    holds = ap (λ o. with_hold s.held p o p) rests ∙ put_same s.held p (Some place) p refl

    abbrev pub four : State
    four = after three (Soil m p)

    legal_four : Legal three (Soil m p)
    legal_four = (rest.own, rw holds refl)

    pub law_four : Law four
    law_four = keeps three (Soil m p) law_three tt legal_four

    pub soiled : four.soiled p ≡ true
    soiled = put_same s.soiled p true p refl

    hot : three.cell p ≡ hot_word (s.cell p)
    hot = put_same s.cell p (hot_word (s.cell p)) p refl

    pub marked : four.cell ≡ put s.cell p (written_word (s.cell p))
    marked = (λ i. put (put s.cell p (hot_word (s.cell p))) p (bit_or (hot i) (2 ^ position Dirty))) ∙ put_again s.cell p (hot_word (s.cell p)) (written_word (s.cell p))

    pub reads : read_of (four.cell p) ≡ map_mark Dirty (map_mark Hot (read_of (s.cell p)))
    reads = ap read_of (put_same three.cell p (bit_or (three.cell p) (2 ^ position Dirty)) p refl) ∙ (soil_reads three law_three p (rw holds refl)).0
        ∙ ap (λ w. map_mark Dirty (read_of w)) hot ∙ ap (map_mark Dirty) (hot_read s law p rest.used)

    pub data_there : near_data (read_of (four.cell p)) ≡ near_data (read_of (s.cell p))
    data_there = ap near_data reads ∙ (data_marked Dirty (map_mark Hot (read_of (s.cell p)))).0 ∙ (data_marked Hot (read_of (s.cell p))).0

    pub as_long : data_len four p ≡ data_len s p
    as_long = ap near_len reads ∙ (data_marked Dirty (map_mark Hot (read_of (s.cell p)))).1 ∙ (data_marked Hot (read_of (s.cell p))).1

    -- a view may rest there still
    pub still_rests : (w : ℕ) → w ≡ written_word (s.cell p) → IsSome (place_to_view (read_of w))
    still_rests w is =
        let there : read_of w ≡ read_of (four.cell p) = ap read_of (is ∙ sym (ap (λ (f : ℕ → ℕ). f p) marked ∙ put_same s.cell p (written_word (s.cell p)) p refl)) in
        let same : place_to_view (read_of w) ≡ Some place = ap place_to_view (there ∙ reads) ∙ rests_marked Dirty (map_mark Hot (read_of (s.cell p))) refl ∙ rests_marked Hot (read_of (s.cell p)) refl ∙ rests in
        rw same refl

    module _ (first : ℕ) (words : List ℕ) (inside : first + length words ≤ words_for (data_len four p))
        (pad : (k : ℕ) → k < length words → slice_index words k < 2 ^ (8 * (data_len four p - 8 * (first + k))))
        (wide : (k : ℕ) → slice_index words k < 2 ^ 64) where
      abbrev five : State
      five = record four { word = with_row four.word (data_word four p first) (length words) (λ k. slice_index words k) }

      stored : after_events four (stores m p first words) ≡ five
      stored = stores_end four law_four m p first words rest.own soiled inside pad wide

      last : Legal five (Close m)
      last = (rest.closed.0, opened)

      pub overwrites_legal : AllLegal s (overwrites m p first words)
      overwrites_legal = legal_up (Soil m p ∷ (stores m p first words ++ (Close m ∷ []))) (legal_first three (Soil m p) (stores m p first words ++ (Close m ∷ [])) legal_four
          (legal_all four (stores m p first words) (Close m ∷ []) (stores_legal four law_four m p first words rest.own soiled inside pad wide)
          (subst (λ t. AllLegal t (Close m ∷ [])) (sym stored) (last, tt))))

      closed_again : after five (Close m) ≡ record (with_cell s p (written_word (s.cell p))) { word = with_row s.word (data_word s p first) (length words) (λ k. slice_index words k) }
      closed_again = λ i. record s {
        scope = shut_scope i;
        remembered = forgot i;
        held = let_go (place_to_view (read_of (s.cell p))) i;
        soiled = forgets (put s.soiled p true) (λ q ne. put_other s.soiled p true q ne) i;
        cell = marked i;
        word = with_row s.word (data_there i + first) (length words) (λ k. slice_index words k);
      }

      pub overwrites_end : after_events s (overwrites m p first words) ≡ record (with_cell s p (written_word (s.cell p))) { word = with_row s.word (data_word s p first) (length words) (λ k. slice_index words k) }
      overwrites_end = made_three (Soil m p ∷ (stores m p first words ++ (Close m ∷ []))) ∙ made_first three (Soil m p) (stores m p first words ++ (Close m ∷ [])) legal_four
          ∙ made_all four (stores m p first words) (Close m ∷ []) ∙ ap (λ t. after_events t (Close m ∷ [])) stored ∙ made_first five (Close m) [] last ∙ closed_again

      pub overwrites_keep : Law record (with_cell s p (written_word (s.cell p))) { word = with_row s.word (data_word s p first) (length words) (λ k. slice_index words k) }
      overwrites_keep = subst Law closed_again (keeps five (Close m) (stores_keep four law_four m p first words rest.own soiled inside pad wide) tt last)

    -- ---- the words that bytes are written into
    module _ (from : ℕ) (bytes : List ℕ) (inside : from + length bytes ≤ data_len s p) (small : (k : ℕ) → slice_index bytes k < 256) where
      abbrev row_at : ℕ → List ℕ
      row_at a = written_words (λ i. s.word (a + i)) from bytes

      fits : from + length bytes ≤ data_len four p
      fits = subst (λ n. from + length bytes ≤ n) (sym as_long) inside

      row_inside : from / 8 + length (row_at (near_data (read_of (s.cell p)))) ≤ words_for (data_len four p)
      row_inside = subst (λ a. from / 8 + length (row_at a) ≤ words_for (data_len four p)) data_there (written_inside four law_four p (rw holds refl) from bytes fits)

      row_pad : (k : ℕ) → k < length (row_at (near_data (read_of (s.cell p)))) → slice_index (row_at (near_data (read_of (s.cell p)))) k < 2 ^ (8 * (data_len four p - 8 * (from / 8 + k)))
      row_pad = subst (λ a. (k : ℕ) → k < length (row_at a) → slice_index (row_at a) k < 2 ^ (8 * (data_len four p - 8 * (from / 8 + k)))) data_there
          (written_pad four law_four p (rw holds refl) from bytes fits small)

      row_wide : (k : ℕ) → slice_index (row_at (near_data (read_of (s.cell p)))) k < 2 ^ 64
      row_wide = written_fit (λ i. s.word (data_word s p i)) from bytes small

      pub over_legal : AllLegal s (overwrites m p (from / 8) (row_at (near_data (read_of (s.cell p)))))
      over_legal = overwrites_legal (from / 8) (row_at (near_data (read_of (s.cell p)))) row_inside row_pad row_wide

      pub over_end : after_events s (overwrites m p (from / 8) (row_at (near_data (read_of (s.cell p))))) ≡ record (with_cell s p (written_word (s.cell p))) {
        word = with_row s.word (data_word s p (from / 8)) (length (row_at (near_data (read_of (s.cell p))))) (λ k. slice_index (row_at (near_data (read_of (s.cell p)))) k);
      }
      over_end = overwrites_end (from / 8) (row_at (near_data (read_of (s.cell p)))) row_inside row_pad row_wide

      pub over_keep : Law record (with_cell s p (written_word (s.cell p))) {
        word = with_row s.word (data_word s p (from / 8)) (length (row_at (near_data (read_of (s.cell p))))) (λ k. slice_index (row_at (near_data (read_of (s.cell p)))) k);
      }
      over_keep = overwrites_keep (from / 8) (row_at (near_data (read_of (s.cell p)))) row_inside row_pad row_wide

      -- the stores by the words as they stand when they are made, and the scope closed after them
      pub four_legal : AllLegal four (stores m p (from / 8) (row_at (near_data (read_of (four.cell p)))))
      four_legal = stores_legal four law_four m p (from / 8) (row_at (near_data (read_of (four.cell p)))) rest.own soiled (written_inside four law_four p (rw holds refl) from bytes fits)
          (written_pad four law_four p (rw holds refl) from bytes fits small) (written_fit (λ i. four.word (data_word four p i)) from bytes small)

      pub four_closed : after (after_events four (stores m p (from / 8) (row_at (near_data (read_of (four.cell p)))))) (Close m) ≡ overwritten s p from bytes
      four_closed = ap (λ a. after (after_events four (stores m p (from / 8) (row_at a))) (Close m)) data_there
          ∙ ap (λ t. after t (Close m)) (stored (from / 8) (row_at (near_data (read_of (s.cell p)))) row_inside row_pad row_wide)
          ∙ closed_again (from / 8) (row_at (near_data (read_of (s.cell p)))) row_inside row_pad row_wide

      abbrev Spliced : ℕ → ℕ → Type 0
      Spliced a n = bytes_of (λ i. with_row s.word (a + from / 8) (length (row_at a)) (λ k. slice_index (row_at a) k) (a + i)) n ≡ spliced (bytes_of (λ i. s.word (a + i)) n) from bytes

      four_bytes : Spliced (near_data (read_of (four.cell p))) (data_len four p)
      four_bytes = bytes_after four law_four p (rw holds refl) from bytes fits small _ refl

      pub over_bytes : (t : State) → t ≡ record (with_cell s p (written_word (s.cell p))) {
        word = with_row s.word (data_word s p (from / 8)) (length (row_at (near_data (read_of (s.cell p))))) (λ k. slice_index (row_at (near_data (read_of (s.cell p)))) k);
      } → bytes_of (λ i. t.word (data_word s p i)) (data_len s p) ≡ spliced (bytes_of (λ i. s.word (data_word s p i)) (data_len s p)) from bytes
      over_bytes t is = ap (λ (u : State). bytes_of (λ i. u.word (data_word s p i)) (data_len s p)) is
          ∙ subst (λ n. Spliced (near_data (read_of (s.cell p))) n) as_long (subst (λ a. Spliced a (data_len four p)) data_there four_bytes)

-- ---- HOT is taken away: the owner asks, and the object stays
module _ (s : State) (law : Law s) (m p : ℕ) (rest : IsAtRest s m p) (len ds : ℕ) (place : Place) (k : Marks) (near : read_of (s.cell p) ≡ Some (Near len ds place k))
    (loud : (k.evac || k.moved || k.dropped) ≡ false) (new : ℕ) (fits : new < 2 ^ 64) (says : read_of new ≡ Some (Near len ds place (unmarked k.dirty))) where
  unheld_now : s.held p ≡ None
  unheld_now = unheld s law m p rest p rest.own

  abbrev asked : State
  asked = after s (Ask m p Moved)

  legal_ask : Legal s (Ask m p Moved)
  legal_ask = (refl, rest.closed.0, rest.own, rest.used, unheld_now)

  asked_reads : read_of (moved_word (s.cell p)) ≡ Some (Near len ds place record k { moved = true })
  asked_reads = (ask_reads s law p rest.used unheld_now Moved refl).0 ∙ ap (map_mark Moved) near

  unevac : k.evac ≡ false
  unevac = grind (arith, nat_tests)

  undropped : k.dropped ≡ false
  undropped = grind (arith, nat_tests)

  legal_name : Legal asked (Name p (moved_word (s.cell p)) new)
  legal_name = (law.cells.cell_range p (nonzero s law p rest.used), (Stays, (len, ds, place, record k { moved = true }, asked_reads, undropped, refl, unevac, says), tt))

  pub cools_legal : AllLegal s (cools m p (moved_word (s.cell p)) new)
  cools_legal = legal_first s (Ask m p Moved) (Name p (moved_word (s.cell p)) new ∷ []) legal_ask (legal_name, tt)

  here : asked.cell p ≡ moved_word (s.cell p)
  here = put_same s.cell p (moved_word (s.cell p)) p refl

  stays : naming_of (read_of (moved_word (s.cell p))) (read_of new) ≡ Some Stays
  stays = naming_only Stays (read_of (moved_word (s.cell p))) (read_of new) (len, ds, place, record k { moved = true }, asked_reads, undropped, refl, unevac, says)

  named : after asked (Name p (moved_word (s.cell p)) new) ≡ with_cell s p new
  named = ap (λ b. cond b (after_naming asked p new (naming_of (read_of (moved_word (s.cell p))) (read_of new))) asked) (eq-eqb (asked.cell p) (moved_word (s.cell p)) here)
      ∙ ap (after_naming asked p new) stays ∙ ap (λ (f : ℕ → ℕ). record s { cell = f }) (put_again s.cell p (moved_word (s.cell p)) new)

  pub cools_end : after_events s (cools m p (moved_word (s.cell p)) new) ≡ with_cell s p new
  cools_end = made_first s (Ask m p Moved) (Name p (moved_word (s.cell p)) new ∷ []) legal_ask ∙ made_first asked (Name p (moved_word (s.cell p)) new) [] legal_name ∙ named

  pub cools_keep : Law (with_cell s p new)
  cools_keep = subst Law named (keeps asked (Name p (moved_word (s.cell p)) new) (keeps s (Ask m p Moved) law tt legal_ask) ((ask_reads s law p rest.used unheld_now Moved refl).1, fits) legal_name)

-- a word without its owner's marks is that of the object unmarked
module _ (s : State) (law : Law s) (m p : ℕ) (rest : IsAtRest s m p) (place : Place) (rests : place_to_view (read_of (s.cell p)) ≡ Some place) (t : State)
    (is : (v : PtrWord) → IsPtr v → word_of v ≡ s.cell p → t ≡ with_cell s p (word_of (without_owner_marks v))) where
  abbrev marks : Marks
  marks = (rest_is (read_of (s.cell p)) place rests).2

  abbrev says_now : PtrWord
  says_now = Near (rest_is (read_of (s.cell p)) place rests).0 (rest_is (read_of (s.cell p)) place rests).1 place marks

  near_now : read_of (s.cell p) ≡ Some says_now
  near_now = (rest_is (read_of (s.cell p)) place rests).3

  loud_now : (marks.evac || marks.moved || marks.dropped) ≡ false
  loud_now = (rest_is (read_of (s.cell p)) place rests).4

  on_layout : IsPtr says_now × (word_of says_now ≡ s.cell p)
  on_layout = read_says (s.cell p) says_now (law.cells.cell_read p).0 near_now

  abbrev cold_word : ℕ
  cold_word = word_of (without_owner_marks says_now)

  ptr : IsPtr (without_owner_marks says_now)
  ptr = IsPtr-without_owner_marks says_now on_layout.0

  unwanted : marks.evac ≡ false
  unwanted = let loud : (marks.evac || marks.moved || marks.dropped) ≡ false = loud_now in grind (arith, nat_tests)

  cold_reads : read_of cold_word ≡ Some (Near (rest_is (read_of (s.cell p)) place rests).0 (rest_is (read_of (s.cell p)) place rests).1 place (unmarked marks.dirty))
  cold_reads = read_back (without_owner_marks says_now) ptr
      ∙ ap (λ b. Some (Near (rest_is (read_of (s.cell p)) place rests).0 (rest_is (read_of (s.cell p)) place rests).1 place record { hot = false; evac = b; moved = false; dropped = false; dirty = marks.dirty })) unwanted

  cold_is : t ≡ with_cell s p cold_word
  cold_is = is says_now on_layout.0 on_layout.1

  cold_there : t.cell p ≡ cold_word
  cold_there = ap (λ (u : State). u.cell p) cold_is ∙ put_same s.cell p cold_word p refl

  pub cold_state : (v : PtrWord) → read_of (s.cell p) ≡ Some v → t ≡ with_cell s p (word_of (without_owner_marks v))
  cold_state v e = let x = read_says (s.cell p) v (law.cells.cell_read p).0 e in is v x.0 x.1

  pub cold_end : t ≡ after_events s (cools m p (moved_word (s.cell p)) (t.cell p))
  cold_end = cold_is ∙ sym (cools_end s law m p rest _ _ place marks near_now loud_now cold_word (word_fits (without_owner_marks says_now) ptr) cold_reads)
      ∙ ap (λ w. after_events s (cools m p (moved_word (s.cell p)) w)) (sym cold_there)

  pub cold_legal : AllLegal s (cools m p (moved_word (s.cell p)) (t.cell p))
  cold_legal = subst (λ w. AllLegal s (cools m p (moved_word (s.cell p)) w)) (sym cold_there)
      (cools_legal s law m p rest _ _ place marks near_now loud_now cold_word (word_fits (without_owner_marks says_now) ptr) cold_reads)

  pub cold_keep : Law t
  cold_keep = subst Law (sym cold_is) (cools_keep s law m p rest _ _ place marks near_now loud_now cold_word (word_fits (without_owner_marks says_now) ptr) cold_reads)

  pub cold_same : (t.stored ≡ s.stored) × (t.mutators ≡ s.mutators)
  cold_same = (ap (λ (u : State). u.stored) cold_is, ap (λ (u : State). u.mutators) cold_is)
