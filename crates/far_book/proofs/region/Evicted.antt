-- What an eviction leaves, from its steps: the cell is seen, words are read, the cell is named.
use Rattle.std.proofs.Common.{◌≡◌, ℕ, ◌+◌, ◌/◌, ◌<◌, ◌&&◌, ◌||◌, Bool, true, false, arith, sym, refl, ap, subst, ◌∙◌, Some}
use Rattle.std.proofs.lemmas.Bool.{false≢true, false_from_ne_true}
use Rattle.far_word.specs.declared.mark.Marks.{Marks}
use Rattle.far_word.specs.declared.pointer.Place.{Place}
use Rattle.far_word.specs.declared.pointer.PtrWord.TheVariants.{Near, Far}
use Rattle.far_word.specs.Bytes.{bytes_of}
use Rattle.far_word.specs.Pointer.{IsPtr, read_of}
use Rattle.far_word.specs.Sizes.{words_for}
use Rattle.far_word.proofs.PointerLaws.{read_back}
use Rattle.far_events.specs.events.Copies.{data_at}
use Rattle.far_events.specs.declared.naming.Naming.TheVariants.{Evicts}
use Rattle.far_events.specs.events.Naming.{IsNaming, is_dropped, no_marks}
use Rattle.far_events.specs.events.namings.Evicts.{with_kept}
use Rattle.far_events.specs.state.Law.{IsStored}
use Rattle.far_events.specs.state.State.{State, put, addr}
use Rattle.far_events.proofs.Put.{put_same}
use Rattle.far_hand.specs.Finds.{Finds, marks_in}
use Rattle.far_hand.specs.Quiet.{IsQuietNear, is_quiet}
use Rattle.far_word.specs.declared.sizes.TheConstants.{CELLS}
use Rattle.far_hand.specs.Known.{Forgets, IsKnown, KeepsKnown}
use Rattle.far_book.specs.book.Asking.{HasBytes}
use Rattle.far_book.specs.book.Dealing.{IsRetired, Leaves, LeavesSpans, has_evac}
use Rattle.far_book.specs.book.Effects.{evicted, far_word, retired}
use Rattle.far_book.specs.book.Evicting.{GoesFar, IsQuietIn}
use Rattle.far_book.specs.book.Renaming.{Renamed, seen}
use Rattle.far_hand.proofs.Finding.{IsNearTo, finds_more, near_found, near_known}
use Rattle.far_book.proofs.region.Calls.{put_put}
use Rattle.far_book.proofs.region.Dirt.{not_dropped}
use Rattle.far_book.proofs.region.Dropping.{free_is, retired_by, spans_left}
use Rattle.far_book.proofs.region.Evictions.{evicted_is, far_says, sent}
use Rattle.far_book.proofs.region.Founds.{drop_found}
use Rattle.far_book.proofs.region.Moved.{quiet_grows, quiet_here}

-- what is known after two steps
keeps_then : (s u v : State) → KeepsKnown s u → Forgets u v → v.starts ≡ u.starts → KeepsKnown s v
keeps_then s u v k f same = record {
  known = λ a old new. let is = f.known a new in is ∙ k.known a old (subst IsKnown is new);
  headers = λ a begun. f.headers a begun ∙ k.headers a (sym (ap (λ (x : ℕ → Bool). x a) same) ∙ begun);
}

-- ---- its object is quiet
pub quiet_known : (s : State) (p w : ℕ) → IsQuietNear s p → Finds (s.cell p) w → (len ds : ℕ) (place : Place) (m : Marks) → read_of w ≡ Some (Near len ds place m) → IsQuietIn s p len ds place
quiet_known s p w q finds len ds place m near =
    let x = near_known (s.cell p) w finds len ds place m near in record { marks = x.marks; near = x.near; quiet = quiet_here s p q len ds place x.marks x.near }

-- by a word that is found, and once words were read
pub quiet_seen : (s t : State) (p w : ℕ) → t ≡ seen s p w → Finds (s.cell p) w → (len ds : ℕ) (place : Place) → IsQuietIn s p len ds place → IsQuietIn t p len ds place
quiet_seen s t p w is f len ds place h =
    let x = near_found (s.cell p) w f len ds place h.marks h.near in
    let up : h.marks.moved ≡ true → x.marks.moved ≡ true = (λ e. sym (ap (λ o. (marks_in o).moved) x.near) ∙ f.moved (ap (λ o. (marks_in o).moved) h.near ∙ e)) in
    let still = ap (λ b. x.marks.moved || (b && s.round place.log && s.clear (p / CELLS))) x.same
    ∙ quiet_grows h.marks.moved x.marks.moved h.marks.evac (s.round place.log) (s.clear (p / CELLS)) up h.quiet in
    subst (λ (y : State). IsQuietIn y p len ds place) (sym is) (record { marks = x.marks; near = ap read_of (put_same s.cell p w p refl) ∙ x.near; quiet = still })

pub quiet_read : (t u : State) (p len ds : ℕ) (place : Place) → Leaves t u → IsQuietIn t p len ds place → IsQuietIn u p len ds place
quiet_read t u p len ds place leaves h = record {
  marks = h.marks;
  near = ap (λ (y : State). read_of (y.cell p)) leaves.0 ∙ h.near;
  quiet = subst (λ (y : State). is_quiet y.round y.clear p place h.marks ≡ true) (sym leaves.0) h.quiet;
}

-- s is the state at the call; in t the word w was found in p's cell; in u words were read
module _ (s t u : State) (p w : ℕ) (seen_is : t ≡ seen s p w) (leaves : Leaves t u) where
  pub read_is : u ≡ record (seen s p w) { word = u.word }
  read_is = leaves.0 ∙ ap (λ (x : State). record x { word = u.word }) seen_is

  pub keeps_read : KeepsKnown s u
  keeps_read = record {
    known = λ a old now. (let same : t.word a ≡ s.word a = ap (λ (x : State). x.word a) seen_is in leaves.1.known a (subst IsKnown (sym same) old) now ∙ same);
    headers = λ a begun. leaves.1.headers a begun ∙ ap (λ (x : State). x.word a) seen_is;
  }

  -- the bytes of the words that were read are the object's
  pub has_bytes : (len ds : ℕ) (place : Place) (m : Marks) → Finds (s.cell p) w → read_of w ≡ Some (Near len ds place m) → IsStored (data_at u.word place) len →
      HasBytes s p (bytes_of (data_at u.word place) len)
  has_bytes len ds place m finds near words = let x = near_known (s.cell p) w finds len ds place m near in record {
    len = len;
    ds = ds;
    place = place;
    marks = x.marks;
    near = x.near;
    row = data_at u.word place;
    stored = words;
    own = λ i lt old. keeps_read.known (addr place + 1 + i) old (words i lt).0;
    are = refl;
  }

  -- it wasn't known to be dropped, if it isn't
  pub was_alive : (len ds : ℕ) (place : Place) (m : Marks) → Finds (s.cell p) w → read_of w ≡ Some (Near len ds place m) → m.dropped ≡ false → is_dropped (read_of (s.cell p)) ≡ false
  was_alive len ds place m finds near alive =
      false_from_ne_true (is_dropped (read_of (s.cell p))) (λ e. false≢true (sym alive ∙ (sym (ap is_dropped near) ∙ drop_found (s.cell p) w finds e)))

  -- in v the object is far
  module _ (v : State) (len ds : ℕ) (place : Place) (m : Marks) (finds : Finds (s.cell p) w) (near : read_of w ≡ Some (Near len ds place m)) (alive : m.dropped ≡ false)
      (evac : has_evac (read_of (s.cell p)) ≡ true) (layout : IsPtr (Far len ds no_marks)) where
    known_near : (k : Marks) × (read_of (s.cell p) ≡ Some (Near len ds place k)) × (k.dropped ≡ false) × (k.evac ≡ true)
    known_near = let x = near_known (s.cell p) w finds len ds place m near in (
      x.marks,
      x.near,
      false_from_ne_true x.marks.dropped (λ e. false≢true (sym alive ∙ (sym (ap is_dropped near) ∙ drop_found (s.cell p) w finds (ap is_dropped x.near ∙ e)))),
      sym (ap has_evac x.near) ∙ evac,
    )

    found_evac : m.evac ≡ true
    found_evac = let x = near_known (s.cell p) w finds len ds place m near in sym x.same ∙ (sym (ap has_evac x.near) ∙ evac)

    far_from : evicted u p ≡ record s { cell = put s.cell p (far_word len ds); word = u.word; stored = put s.stored p (with_kept u.word s.stored p (addr place + 1) (words_for len)) }
    far_from =
        let cell : u.cell p ≡ w = ap (λ (x : State). x.cell p) read_is ∙ put_same s.cell p w p refl in
        evicted_is u p len ds place layout m (ap read_of cell ∙ near) alive found_evac
        ∙ ap (λ (x : State). sent x p len ds place) read_is
        ∙ (λ i. record s { cell = put_put s.cell p w (far_word len ds) i; word = u.word; stored = put s.stored p (with_kept u.word s.stored p (addr place + 1) (words_for len)) })

    -- what was known of its words is known where the cell was named
    module _ (far : v ≡ record (evicted u p) { word = v.word; stored = v.stored }) (r : Renamed u v p (far_word len ds)) (words : (i : ℕ) → i < words_for len → IsKnown (s.word (addr place + 1 + i)) → IsKnown (u.word (addr place + 1 + i))) where
      far_is : v ≡ record s { cell = put s.cell p (far_word len ds); word = v.word; stored = v.stored }
      far_is = far ∙ ap (λ (x : State). record x { word = v.word; stored = v.stored }) far_from

      -- the word found last is near too
      last : IsNearTo (read_of r.word) len ds place m.evac
      last = near_found (u.cell p) r.word r.found len ds place m (ap read_of (ap (λ (x : State). x.cell p) read_is ∙ put_same s.cell p w p refl) ∙ near)

      goes : IsNaming (Evicts len place) (read_of r.word) (read_of (far_word len ds))
      goes = (ds, last.marks, last.near, sym (ap is_dropped last.near) ∙ not_dropped (u.cell p) r.word r.alive, last.same ∙ found_evac, far_says len ds layout)

      starts_same : v.starts ≡ u.starts
      starts_same = ap (λ (x : State). x.starts) far_is ∙ sym (ap (λ (x : State). x.starts) read_is)

      pub goes_far : GoesFar s v p
      goes_far = record {
        alive = ap is_dropped known_near.1 ∙ known_near.2;
        far = (len, ds, ap read_of (ap (λ (x : State). x.cell p) far_is ∙ put_same s.cell p (far_word len ds) p refl) ∙ read_back (Far len ds no_marks) layout);
        leads = far_is ∙ ap (λ (x : State). record x { word = v.word; stored = v.stored }) (sym (evicted_is s p len ds place layout known_near.0 known_near.1 known_near.2 known_near.3));
        stored = λ n d at k is i lt.
            let both : Some (Near len ds place known_near.0) ≡ Some (Near n d at k) = sym known_near.1 ∙ is in
            let lens : n ≡ len = cc in
            let ats : place ≡ at = cc in
            let low : i < words_for len = omega arith in (
              (r.stored.fits len place goes i low).0,
              subst (λ (q : Place). IsKnown (s.word (addr q + 1 + i)) → v.stored p i ≡ s.word (addr q + 1 + i)) ats (λ old. let now = words i low old in r.stored.own len place goes i low now ∙ keeps_read.known (addr place + 1 + i) old now),
            );
        others = λ q ne. r.stored.others q ne ∙ ap (λ (x : State). x.stored q) read_is;
        keeps = keeps_then s u v keeps_read (record { known = r.forgot.known; headers = r.forgot.headers }) starts_same;
      }

  -- in v the cell is free, since in r another word was found in it
  module _ (r v : State) (x : ℕ) (first : Finds (s.cell p) w) (then : Finds w x) (dropped : is_dropped (read_of x) ≡ true) (is : r ≡ seen u p x) (freed : v ≡ record (retired r p) { word = v.word }) (forgets : Forgets r v) where
    kept : v ≡ record (retired (seen u p x) p) { word = v.word }
    kept = freed ∙ ap (λ (y : State). record (retired y p) { word = v.word }) is

    forgot : Forgets (seen u p x) v
    forgot = subst (λ (y : State). Forgets y v) is forgets

    left : LeavesSpans (seen s p x) (seen u p x)
    left = spans_left (seen s p x) (seen u p x) (ap (λ (y : State). seen y p x) read_is ∙ (λ i. record s { cell = put_put s.cell p w x i; word = u.word }))
        (record { known = keeps_read.known; headers = keeps_read.headers })

    pub is_gone : (still : Type 0) → (still → is_dropped (read_of (s.cell p)) ≡ true) → (still → v ≡ retired s p) → IsRetired still s v p
    is_gone still = retired_by still s (seen u p x) v p x (finds_more (s.cell p) w x first then) dropped left kept forgot

    pub gone_keeps : KeepsKnown s v
    gone_keeps = keeps_then s u v keeps_read (record { known = forgot.known; headers = forgot.headers })
        (ap (λ (y : State). y.starts) (free_is ⊥ s (seen u p x) v p x (finds_more (s.cell p) w x first then) dropped left kept forgot) ∙ sym (ap (λ (y : State). y.starts) read_is))
