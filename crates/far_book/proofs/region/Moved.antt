-- A near object's cell names another place, or the same without marks, by the word that was found last.
use Rattle.std.proofs.Common.{◌≡◌, ℕ, ◌*◌, ◌/◌, ◌%◌, ◌^◌, ◌<◌, ◌≤◌, Bool, true, false, cond, arith, inl, sym, refl, ap, subst, ◌∙◌, Option, Some}
use Rattle.std.specs.Prelude.{◌==◌, ◌&&◌, ◌||◌, not}
use Rattle.std.proofs.lemmas.Bool.{eq-eqb, false≢true}
use Rattle.far_word.specs.declared.mark.Marks.{Marks}
use Rattle.far_word.specs.declared.pointer.Place.{Place}
use Rattle.far_word.specs.declared.pointer.PtrWord.{PtrWord}
use Rattle.far_word.specs.declared.pointer.PtrWord.TheVariants.{Near, Far}
use Rattle.far_word.specs.declared.sizes.TheConstants.{CELLS, LOG_WORDS}
use Rattle.far_word.specs.Pointer.{IsPtr, read_of}
use Rattle.far_word.specs.Sizes.{size_of}
use Rattle.far_word.proofs.PointerLaws.{read_back, read_says}
use Rattle.far_events.specs.declared.event.Event.TheVariants as events
use Rattle.far_events.specs.declared.naming.Naming.TheVariants.{Evicts, Moves, Stays}
use Rattle.far_events.specs.events.Copies.{data_at}
use Rattle.far_events.specs.events.Legal.{IsNext}
use Rattle.far_events.specs.events.Name.{after_naming}
use Rattle.far_events.specs.events.Naming.{IsNaming, is_dropped, is_stay, no_marks, unmarked}
use Rattle.far_events.specs.events.NewSpans.{with_span}
use Rattle.far_events.specs.events.namings.Moves.{after_move}
use Rattle.far_events.specs.events.Quiet.{is_quiet_cell}
use Rattle.far_events.specs.events.Step.{after}
use Rattle.far_core.specs.laws.Rooms.{IsRoom, RoomIs}
use Rattle.far_events.specs.state.Law.{Law, is_dirty}
use Rattle.far_core.specs.state.Room.{room}
use Rattle.far_events.specs.state.State.{State, put, addr}
use Rattle.far_events.proofs.Copied.{NoCopy, no_copy_there, none_copied}
use Rattle.far_events.proofs.MadeNamings.{unbegun}
use Rattle.far_events.proofs.Namings.{naming_only}
use Rattle.far_events.proofs.Put.{put_same, put_both}
use Rattle.far_events.proofs.Quieting.{quiet_fact}
use Rattle.far_core.proofs.RoomLaws.{room_right}
use Rattle.far_hand.specs.Finds.{Finds, marks_in}
use Rattle.far_hand.specs.Known.{IsKnown}
use Rattle.far_hand.specs.Quiet.{is_quiet, IsQuietNear}
use Rattle.far_book.specs.book.Dealing.{FindsDrop, Leaves, MovedBy, goal, goal_of, has_evac}
use Rattle.far_book.specs.book.Effects.{moved, moved_of, near_word, stayed, stayed_of, with_written_span}
use Rattle.far_book.specs.book.Moving.{MayCopy, MayStay, Copied}
use Rattle.far_book.specs.book.Own.{own_part}
use Rattle.far_book.specs.book.Renaming.{MayRenameNear, Renamed, RenamedNear, seen, stops}
use Rattle.far_hand.proofs.Finding.{finds_more, near_found}
use Rattle.far_book.proofs.region.Calls.{put_put}
use Rattle.far_book.proofs.region.Copying.{below_outside, first, from_inside, layout_there, outside, start_outside}
use Rattle.far_book.proofs.region.Dirt.{not_dropped, same_dirt}
use Rattle.far_book.proofs.region.Untaken.{no_copy_all}

-- ---- the forms
pub no_stay : (from to : Place) (m : Marks) → m.evac ≡ true → is_stay from to m ≡ false
no_stay from to m wanted = ap (λ b. (from.log == to.log) && (from.at == to.at) && m.moved && not b) wanted ∙ and_false ((from.log == to.log) && (from.at == to.at) && m.moved) where
  and_false : (b : Bool) → (b && false) ≡ false
  and_false true = refl
  and_false false = refl

-- what names a place sends nothing far
pub not_to_near : (dirty : Bool) (old len ds n : ℕ) (to place : Place) → IsPtr (Near len ds to no_marks) → IsNaming (Evicts n place) (read_of old) (read_of (near_word dirty len ds to)) → ⊥
not_to_near dirty old len ds n to place layout x = let odd : Some (Near len ds to (unmarked dirty)) ≡ Some (Far n x.0 no_marks) = sym (read_back (Near len ds to (unmarked dirty)) layout) ∙ x.5 in absurd cc

-- so what is stored is what its event stores
pub near_leads : (s t : State) (p : ℕ) (dirty : Bool) (len ds : ℕ) (to : Place) → IsPtr (Near len ds to no_marks) → (r : Renamed s t p (near_word dirty len ds to)) →
    t ≡ record (after (seen s p r.word) (events.Name p r.word (near_word dirty len ds to))) { word = t.word }
near_leads s t p dirty len ds to layout r =
    let stores : t.stored ≡ (after (seen s p r.word) (events.Name p r.word (near_word dirty len ds to))).stored = r.stored.kept (λ n place x. absurd (not_to_near dirty r.word len ds n to place layout x)) in
    r.leads ∙ (λ i. record (after (seen s p r.word) (events.Name p r.word (near_word dirty len ds to))) { word = t.word; stored = stores i })

module _ (s : State) (p old len ds : ℕ) (from to : Place) (m : Marks) (is : s.cell p ≡ old) (near : read_of old ≡ Some (Near len ds from m)) (alive : m.dropped ≡ false) (layout : IsPtr (Near len ds to no_marks)) where
  -- a cell that names another place takes the span there, where no job has copied the object
  pub named_moves : m.evac ≡ true → NoCopy s.copying p from to → after s (events.Name p old (near_word m.dirty len ds to)) ≡ with_span s p (near_word m.dirty len ds to) len to
  named_moves wanted uncopied = rw (eq-eqb (s.cell p) old is)
      (ap (after_naming s p (near_word m.dirty len ds to)) (naming_only (Moves len ds from to) (read_of old) (read_of (near_word m.dirty len ds to)) ((m, near, alive, no_stay from to m wanted), read_back (Near len ds to (unmarked m.dirty)) layout))
      ∙ ap (after_move s p (near_word m.dirty len ds to) len to) (none_copied s p from to uncopied))

module _ (s : State) (p old len ds : ℕ) (place : Place) (m : Marks) (is : s.cell p ≡ old) (near : read_of old ≡ Some (Near len ds place m)) (alive : m.dropped ≡ false) (layout : IsPtr (Near len ds place no_marks)) where
  -- one that names the same place loses its marks but DIRTY
  pub named_stays : m.moved ≡ true → m.evac ≡ false → after s (events.Name p old (near_word m.dirty len ds place)) ≡ record s { cell = put s.cell p (near_word m.dirty len ds place) }
  named_stays asked unwanted = rw (eq-eqb (s.cell p) old is)
      (ap (after_naming s p (near_word m.dirty len ds place)) (naming_only Stays (read_of old) (read_of (near_word m.dirty len ds place)) (len, ds, place, m, near, alive, asked, unwanted, read_back (Near len ds place (unmarked m.dirty)) layout)))

-- where the next span of a log may stand no job has copied anything
pub no_copy : (s : State) → Law (own_part s) → (p : ℕ) (from to : Place) → IsNext s to → to.at < LOG_WORDS → NoCopy s.copying p from to
no_copy s law p from to next low = no_copy_all s.copying p from to (no_copy_there (own_part s) law p from to (unbegun (own_part s) law to next low))

pub no_copy_in_room : (s : State) → Law (own_part s) → (p size : ℕ) (from to : Place) (reserve : Bool) → 0 < size → size ≤ LOG_WORDS → room s size reserve ≡ Some to → NoCopy s.copying p from to
no_copy_in_room s law p size from to reserve some most found =
    let is_room : IsRoom (own_part s) size reserve to = subst (RoomIs (own_part s) size reserve) found (room_right (own_part s) law size reserve most) in
    no_copy s law p from to is_room.next (omega (arith, is_room.fits, some))

pub moved_is : (s : State) (p len ds : ℕ) (from to : Place) (m : Marks) → read_of (s.cell p) ≡ Some (Near len ds from m) → m.dropped ≡ false → m.evac ≡ true → IsPtr (Near len ds to no_marks) → NoCopy s.copying p from to →
    moved s p to ≡ with_span (with_written_span s p len ds to (data_at s.word from)) p (near_word m.dirty len ds to) len to
moved_is s p len ds from to m near alive wanted layout uncopied = ap (moved_of s p to) near ∙ named_moves (with_written_span s p len ds to (data_at s.word from)) p (s.cell p) len ds from to m refl near alive layout wanted uncopied

pub stayed_is : (s : State) (p len ds : ℕ) (place : Place) (m : Marks) → read_of (s.cell p) ≡ Some (Near len ds place m) → m.dropped ≡ false → m.moved ≡ true → m.evac ≡ false → IsPtr (Near len ds place no_marks) →
    stayed s p ≡ record s { cell = put s.cell p (near_word m.dirty len ds place) }
stayed_is s p len ds place m near alive asked unwanted layout = ap (stayed_of s p) near ∙ named_stays s p (s.cell p) len ds place m refl near alive layout asked unwanted

-- MOVE stays where it was, so what was quiet is
pub quiet_grows : (m k e r c : Bool) → (m ≡ true → k ≡ true) → (m || (e && r && c)) ≡ true → (k || (e && r && c)) ≡ true
quiet_grows true k e r c grows h = rw (grows refl) refl
quiet_grows false true e r c grows h = refl
quiet_grows false false e r c grows h = h

pub drop_of : (o : Option PtrWord) (len ds : ℕ) (place : Place) (m : Marks) → o ≡ Some (Near len ds place m) → is_dropped o ≡ false → m.dropped ≡ false
drop_of o len ds place m e alive = sym (ap is_dropped e) ∙ alive

pub evac_of : (o : Option PtrWord) (b : Bool) (len ds : ℕ) (place : Place) (m : Marks) → o ≡ Some (Near len ds place m) → has_evac o ≡ b → m.evac ≡ b
evac_of o b len ds place m e is = sym (ap has_evac e) ∙ is

-- ---- what is asked of a quiet near object
module _ (s : State) (p : ℕ) (q : IsQuietNear s p) (len ds : ℕ) (place : Place) (m : Marks) (near : read_of (s.cell p) ≡ Some (Near len ds place m)) where
  pub quiet_here : is_quiet s.round s.clear p place m ≡ true
  quiet_here =
      let both : Some (Near q.len q.ds q.place q.marks) ≡ Some (Near len ds place m) = sym q.near ∙ near in
      let places : q.place ≡ place = cc in
      let marks : q.marks ≡ m = cc in
      subst (λ k. is_quiet s.round s.clear p place k ≡ true) marks (subst (λ at. is_quiet s.round s.clear p at q.marks ≡ true) places q.quiet)

  -- it has MOVE, unless the book wants its log
  pub has_moved : m.evac ≡ false → m.moved ≡ true
  has_moved unwanted = moved_by m.moved m.evac (s.round place.log) (s.clear (p / CELLS)) unwanted quiet_here where
    moved_by : (a e r c : Bool) → e ≡ false → (a || (e && r && c)) ≡ true → a ≡ true
    moved_by true e r c none h = refl
    moved_by false true r c none h = absurd (false≢true (sym none))
    moved_by false false r c none h = absurd (false≢true h)

  pub may_stay : p < CELLS * s.mutators → m.evac ≡ false → MayStay s p len ds place
  may_stay pointer unwanted = record { pointer = pointer; marks = m; near = near; moved = has_moved unwanted; unwanted = unwanted }

  pub goal_there : m.evac ≡ true → goal s p ≡ room s (size_of len) false
  goal_there wanted = ap (goal_of s) near ∙ ap (λ b. cond b (room s (size_of len) false) (Some place)) wanted

-- ---- a word with DROP was found, and nothing was written but words past the tails
pub drop_found : (s t u : State) (p w : ℕ) → t ≡ record s { word = t.word } → ((a : ℕ) → a % LOG_WORDS < s.tail (a / LOG_WORDS) → IsKnown (s.word a) → IsKnown (t.word a) → t.word a ≡ s.word a) →
    ((a : ℕ) → s.starts a ≡ true → t.word a ≡ s.word a) → w < 2 ^ 64 → Finds (t.cell p) w → is_dropped (read_of w) ≡ true → u ≡ seen t p w → FindsDrop s u p
drop_found s t u p w is known headers fits finds dropped seen_is =
    let cell : u.cell p ≡ w = ap (λ (x : State). x.cell p) seen_is ∙ put_same t.cell p w p refl in
    let word : u.word ≡ t.word = ap (λ (x : State). x.word) seen_is in
    let old : t.cell p ≡ s.cell p = ap (λ (x : State). x.cell p) is in
    record {
      fits = subst (λ v. v < 2 ^ 64) (sym cell) fits;
      found = subst (λ v. Finds v (u.cell p)) old (subst (Finds (t.cell p)) (sym cell) finds);
      dropped = ap (λ v. is_dropped (read_of v)) cell ∙ dropped;
      leaves = record {
        is = seen_is ∙ ap (λ (x : State). seen x p w) is ∙ (λ i. record (seen s p (sym cell i)) { word = sym word i });
        known = λ a inside k now. ap (λ f. f a) word ∙ known a inside k (subst (λ (f : ℕ → ℕ). IsKnown (f a)) word now);
        headers = λ a begun. ap (λ f. f a) word ∙ headers a begun;
      };
    }

-- ---- an object that was copied
module _ (s t : State) (p len ds : ℕ) (from to : Place) (h : MayCopy s p len ds from to) (c : Copied s t p len ds from to) (wanted : has_evac (read_of (s.cell p)) ≡ true) (alive : is_dropped (read_of (s.cell p)) ≡ false) where
  layout : IsPtr (Near len ds to no_marks)
  layout = layout_there s p len ds from to h

  evac : h.marks.evac ≡ true
  evac = evac_of (read_of (s.cell p)) true len ds from h.marks h.near wanted

  uncopied : NoCopy s.copying p from to
  uncopied = no_copy s h.law p from to h.next (omega (arith, h.fits))

  cell_same : t.cell ≡ s.cell
  cell_same = ap (λ (x : State). x.cell) c.is

  near_then : read_of (t.cell p) ≡ Some (Near len ds from h.marks)
  near_then = ap (λ f. read_of (f p)) cell_same ∙ h.near

  quiet_then : is_quiet t.round t.clear p from h.marks ≡ true
  quiet_then = ap (λ (x : State). is_quiet x.round x.clear p from h.marks) c.is ∙ h.quiet

  -- whatever is found, the cell may name the copy
  pub may_rename : MayRenameNear t p len ds to
  may_rename w fits f kept =
      let x = near_found (t.cell p) w f len ds from h.marks near_then in
      let here : (seen t p w).cell p ≡ w = put_same t.cell p w p refl in
      let grows : h.marks.moved ≡ true → x.marks.moved ≡ true = (λ e. sym (ap (λ o. (marks_in o).moved) x.near) ∙ f.moved (ap (λ o. (marks_in o).moved) near_then ∙ e)) in
      let quiet : is_quiet t.round t.clear p from x.marks ≡ true = ap (λ b. x.marks.moved || (b && t.round from.log && t.clear (p / CELLS))) x.same
      ∙ quiet_grows h.marks.moved x.marks.moved h.marks.evac (t.round from.log) (t.clear (p / CELLS)) grows quiet_then in
      let is_quiet_now : is_quiet_cell (seen t p w) p (read_of ((seen t p w).cell p)) ≡ true = ap (λ v. is_quiet_cell (seen t p w) p (read_of v)) here ∙ ap (is_quiet_cell (seen t p w) p) x.near ∙ quiet in (
        (
          subst (λ (y : State). p < CELLS * y.mutators) (sym c.is) h.pointer,
          (
            Moves len ds from to,
            ((x.marks, x.near, drop_of (read_of w) len ds from x.marks x.near kept, no_stay from to x.marks (x.same ∙ evac)), read_back (Near len ds to (unmarked (is_dirty (read_of w)))) layout ∙ ap (λ b. Some (Near len ds to (unmarked b))) (ap is_dirty x.near)),
            inl (record {
              span = record { next = subst (λ (y : State). IsNext y to) (sym c.is) h.next; head = c.header };
              padded = c.padded;
              quiet = quiet_fact (seen t p w) p is_quiet_now;
              log = subst (λ (y : State). from.log < y.logs) (sym c.is) (from_inside s p len ds from to h);
              same = c.same;
            }),
          ),
        ),
        λ n place x none i lt. absurd (not_to_near (is_dirty (read_of w)) w len ds n to place layout x),
      )

  abbrev written : State
  written = with_written_span s p len ds to (data_at s.word from)

  -- it has moved by the word that the naming was told of, whose DIRTY the word has that was found last
  module _ (u : State) (r : RenamedNear t u p len ds to) where
    f : Finds (s.cell p) r.from
    f = subst (λ (g : ℕ → ℕ). Finds (g p) r.from) cell_same r.finds

    abbrev n : Renamed (seen t p r.from) u p (near_word (is_dirty (read_of r.from)) len ds to)
    n = r.named

    -- what the word says that the naming was told of, and what the one says that was found last
    first_says : (k : Marks) × (read_of r.from ≡ Some (Near len ds from k)) × (k.evac ≡ true) × (k.dropped ≡ false)
    first_says = let y = near_found (t.cell p) r.from r.finds len ds from h.marks near_then in (y.marks, y.near, y.same ∙ evac, drop_of (read_of r.from) len ds from y.marks y.near r.alive)

    abbrev k : Marks
    k = first_says.0

    abbrev new : ℕ
    new = near_word k.dirty len ds to

    here : (seen t p r.from).cell p ≡ r.from
    here = put_same t.cell p r.from p refl

    known_word : Finds r.from n.word
    known_word = subst (λ v. Finds v n.word) here n.found

    on : stops (read_of r.from) (read_of n.word) ≡ false
    on = subst (λ v. stops (read_of v) (read_of n.word) ≡ false) here n.alive

    last_says : (j : Marks) × (read_of n.word ≡ Some (Near len ds from j)) × (j.evac ≡ true) × (j.dropped ≡ false) × (j.dirty ≡ k.dirty)
    last_says =
        let y = near_found r.from n.word known_word len ds from k first_says.1 in (
          y.marks,
          y.near,
          y.same ∙ first_says.2,
          drop_of (read_of n.word) len ds from y.marks y.near (not_dropped r.from n.word on),
          sym (ap is_dirty y.near) ∙ same_dirt r.from n.word known_word on ∙ ap is_dirty first_says.1,
        )

    abbrev from_state : State
    from_state = seen s p r.from

    is_moved : moved from_state p to ≡ with_span (with_written_span from_state p len ds to (data_at s.word from)) p new len to
    is_moved = moved_is from_state p len ds from to k (ap read_of (put_same s.cell p r.from p refl) ∙ first_says.1) first_says.3 first_says.2 layout uncopied

    -- the word that the naming gave
    given : near_word (is_dirty (read_of r.from)) len ds to ≡ near_word last_says.0.dirty len ds to
    given = ap (λ b. near_word b len ds to) (ap is_dirty first_says.1 ∙ sym last_says.4)

    leads : u ≡ record (moved from_state p to) { word = u.word }
    leads = near_leads (seen t p r.from) u p (is_dirty (read_of r.from)) len ds to layout n
        ∙ ap (λ v. record (after (seen (seen t p r.from) p n.word) (events.Name p n.word v)) { word = u.word }) given
        ∙ ap (λ (y : State). record y { word = u.word }) (named_moves (seen (seen t p r.from) p n.word) p n.word len ds from to last_says.0 (put_same (put t.cell p r.from) p n.word p refl) last_says.1 last_says.3 layout last_says.2 (subst (λ (y : State). NoCopy y.copying p from to) (sym c.is) uncopied))
        ∙ ap (λ b. record (with_span (seen (seen t p r.from) p n.word) p (near_word b len ds to) len to) { word = u.word }) last_says.4
        ∙ ap (λ (y : State). record (with_span (seen (seen y p r.from) p n.word) p new len to) { word = u.word }) c.is
        ∙ (λ i. record (with_span from_state p new len to) { cell = put_put (put s.cell p r.from) p n.word new i; word = u.word })
        ∙ ap (λ (y : State). record y { word = u.word }) (sym is_moved)

    known : (a : ℕ) → IsKnown ((moved from_state p to).word a) → IsKnown (u.word a) → u.word a ≡ (moved from_state p to).word a
    known a k now =
        let same : (moved from_state p to).word a ≡ written.word a = ap (λ (y : State). y.word a) is_moved in
        let old : u.word a ≡ t.word a = n.forgot.known a now in
        old ∙ c.keeps.known a (subst IsKnown same k) (subst IsKnown old now) ∙ sym same

    headers : (a : ℕ) → u.starts a ≡ true → u.word a ≡ (moved from_state p to).word a
    headers a begun =
        let same : (moved from_state p to).word a ≡ written.word a = ap (λ (y : State). y.word a) is_moved in
        let starts : u.starts a ≡ put s.starts (addr to) true a = ap (λ (y : State). y.starts a) (leads ∙ ap (λ (y : State). record y { word = u.word }) is_moved) in
        n.forgot.headers a begun ∙ put_both (λ b. b ≡ true → t.word a ≡ written.word a) s.starts (addr to) true a
        (λ e _. ap t.word e ∙ c.header ∙ sym (first s p len ds from to h) ∙ ap written.word (sym e))
        (λ _ old. c.keeps.headers a (ap (λ (y : State). y.starts a) c.is ∙ old)) (sym starts ∙ begun) ∙ sym same

    pub moved_by : MovedBy s u p to
    moved_by = record {
      word = r.from;
      fits = r.fits;
      found = f;
      alive = r.alive;
      leaves = subst (λ (y : State). Leaves y u) (ap (λ b. cond b (moved from_state p to) (stayed from_state p)) (sym (ap has_evac (ap read_of (put_same s.cell p r.from p refl) ∙ first_says.1) ∙ first_says.2))) (leads, record { known = known; headers = headers });
    }

  pub moved_dropped : (u : State) (w : ℕ) → w < 2 ^ 64 → Finds (t.cell p) w → is_dropped (read_of w) ≡ true → u ≡ seen t p w → FindsDrop s u p
  moved_dropped u w fits finds dropped is = drop_found s t u p w c.is
      (λ a inside k now. let out = below_outside s p len ds from to h a inside in
      let same = outside s p len ds from to h a out in c.keeps.known a (subst IsKnown (sym same) k) now ∙ same)
      (λ a begun. c.keeps.headers a (ap (λ (y : State). y.starts a) c.is ∙ begun) ∙ outside s p len ds from to h a (start_outside s p len ds from to h a begun))
      fits finds dropped is

-- ---- an object that stays
module _ (s : State) (p len ds : ℕ) (place : Place) (h : MayStay s p len ds place) (fits : s.cell p < 2 ^ 64) (alive : is_dropped (read_of (s.cell p)) ≡ false) where
  pub layout_here : IsPtr (Near len ds place no_marks)
  layout_here = let says = read_says (s.cell p) (Near len ds place h.marks) fits h.near in (omega (arith, says.0), omega (arith, says.0), omega (arith, says.0), omega (arith, says.0), omega (arith, says.0))

  found_stays : (w : ℕ) → Finds (s.cell p) w → is_dropped (read_of w) ≡ false → (k : Marks) × (read_of w ≡ Some (Near len ds place k)) × (k.dropped ≡ false) × (k.moved ≡ true) × (k.evac ≡ false)
  found_stays w f kept =
      let x = near_found (s.cell p) w f len ds place h.marks h.near in
      (x.marks, x.near, drop_of (read_of w) len ds place x.marks x.near kept, sym (ap (λ o. (marks_in o).moved) x.near) ∙ f.moved (ap (λ o. (marks_in o).moved) h.near ∙ h.moved), x.same ∙ h.unwanted)

  pub may_unmark : MayRenameNear s p len ds place
  may_unmark w wide f kept =
      let x = found_stays w f kept in (
        (h.pointer, (Stays, (len, ds, place, x.0, x.1, x.2, x.3, x.4, read_back (Near len ds place (unmarked (is_dirty (read_of w)))) layout_here ∙ ap (λ b. Some (Near len ds place (unmarked b))) (ap is_dirty x.1)), tt)),
        λ n there y none i lt. absurd (not_to_near (is_dirty (read_of w)) w len ds n place there layout_here y),
      )

  pub is_stayed : stayed s p ≡ record s { cell = put s.cell p (near_word h.marks.dirty len ds place) }
  is_stayed = stayed_is s p len ds place h.marks h.near (drop_of (read_of (s.cell p)) len ds place h.marks h.near alive) h.moved h.unwanted layout_here

  -- it has stayed by the word that the naming was told of, whose DIRTY the word has that was found last
  module _ (u : State) (r : RenamedNear s u p len ds place) where
    abbrev naming : Renamed (seen s p r.from) u p (near_word (is_dirty (read_of r.from)) len ds place)
    naming = r.named

    stay_says : (k : Marks) × (read_of r.from ≡ Some (Near len ds place k)) × (k.dropped ≡ false) × (k.moved ≡ true) × (k.evac ≡ false)
    stay_says = found_stays r.from r.finds r.alive

    abbrev stay_word : ℕ
    stay_word = near_word stay_says.0.dirty len ds place

    stay_here : (seen s p r.from).cell p ≡ r.from
    stay_here = put_same s.cell p r.from p refl

    stay_known : Finds r.from naming.word
    stay_known = subst (λ v. Finds v naming.word) stay_here naming.found

    stay_on : stops (read_of r.from) (read_of naming.word) ≡ false
    stay_on = subst (λ v. stops (read_of v) (read_of naming.word) ≡ false) stay_here naming.alive

    stay_last : (j : Marks) × (read_of naming.word ≡ Some (Near len ds place j)) × (j.dropped ≡ false) × (j.moved ≡ true) × (j.evac ≡ false)
    stay_last = found_stays naming.word (finds_more (s.cell p) r.from naming.word r.finds stay_known) (not_dropped r.from naming.word stay_on)

    stay_dirt : stay_last.0.dirty ≡ stay_says.0.dirty
    stay_dirt = sym (ap is_dirty stay_last.1) ∙ same_dirt r.from naming.word stay_known stay_on ∙ ap is_dirty stay_says.1

    abbrev stay_state : State
    stay_state = seen s p r.from

    is_stayed_then : stayed stay_state p ≡ record s { cell = put (put s.cell p r.from) p stay_word }
    is_stayed_then = stayed_is stay_state p len ds place stay_says.0 (ap read_of stay_here ∙ stay_says.1) stay_says.2 stay_says.3 stay_says.4 layout_here

    stay_given : near_word (is_dirty (read_of r.from)) len ds place ≡ near_word stay_last.0.dirty len ds place
    stay_given = ap (λ b. near_word b len ds place) (ap is_dirty stay_says.1 ∙ sym stay_dirt)

    stay_leads : u ≡ record (stayed stay_state p) { word = u.word }
    stay_leads = near_leads (seen s p r.from) u p (is_dirty (read_of r.from)) len ds place layout_here naming
        ∙ ap (λ v. record (after (seen (seen s p r.from) p naming.word) (events.Name p naming.word v)) { word = u.word }) stay_given
        ∙ ap (λ (y : State). record y { word = u.word }) (named_stays (seen (seen s p r.from) p naming.word) p naming.word len ds place stay_last.0 (put_same (put s.cell p r.from) p naming.word p refl) stay_last.1 stay_last.2 layout_here stay_last.3 stay_last.4)
        ∙ (λ i. record s { cell = put_put (put s.cell p r.from) p naming.word (near_word (stay_dirt i) len ds place) i; word = u.word })
        ∙ ap (λ (y : State). record y { word = u.word }) (sym is_stayed_then)

    pub stayed_by : MovedBy s u p place
    stayed_by = record {
      word = r.from;
      fits = r.fits;
      found = r.finds;
      alive = r.alive;
      leaves = subst (λ (y : State). Leaves y u) (ap (λ b. cond b (moved stay_state p place) (stayed stay_state p)) (sym (ap has_evac (ap read_of stay_here ∙ stay_says.1) ∙ stay_says.4))) (
        stay_leads,
        record {
          known = λ a k now. naming.forgot.known a now ∙ sym (ap (λ (y : State). y.word a) is_stayed_then);
          headers = λ a begun. naming.forgot.headers a begun ∙ sym (ap (λ (y : State). y.word a) is_stayed_then);
        },
      );
    }
