-- What the word found in a cell shares with the word that was known.
use Rattle.std.proofs.Common.{◌≡◌, ℕ, Bool, true, false, Option, Some, None, refl, sym, ap, ◌∙◌, subst}
use Rattle.std.specs.Prelude.{IsSome, is_some}
use Rattle.std.proofs.lemmas.Bool.{false≢true}
use Rattle.far_word.specs.declared.mark.Mark.{Mark}
use Rattle.far_word.specs.declared.mark.Mark.TheVariants.{Hot, Evac, Moved, Dropped, Dirty}
use Rattle.far_word.specs.declared.mark.Marks.{Marks}
use Rattle.far_word.specs.declared.pointer.Place.{Place}
use Rattle.far_word.specs.declared.pointer.PtrWord.{PtrWord}
use Rattle.far_word.specs.declared.pointer.PtrWord.TheVariants.{Free, Near, Far}
use Rattle.far_word.specs.Mark.{marks_with}
use Rattle.far_word.specs.Pointer.{read_of}
use Rattle.far_events.specs.state.Jobs.{near_place}
use Rattle.far_events.proofs.Cells.{map_mark}
use Rattle.far_core.proofs.Marking.{is_owners}
use Rattle.far_hand.specs.Finds.{Finds, body_of, marks_in}

pub finds_same : (v : ℕ) → Finds v v
finds_same v = record { body = refl; hot = λ h. h; moved = λ h. h; dropped = λ h. h; dirty = λ h. h }

pub finds_is : (v w : ℕ) → w ≡ v → Finds v w
finds_is v w e = record {
  body = ap (λ x. body_of (read_of x)) e;
  hot = λ h. ap (λ x. (marks_in (read_of x)).hot) e ∙ h;
  moved = λ h. ap (λ x. (marks_in (read_of x)).moved) e ∙ h;
  dropped = λ h. ap (λ x. (marks_in (read_of x)).dropped) e ∙ h;
  dirty = λ h. ap (λ x. (marks_in (read_of x)).dirty) e ∙ h;
}

pub finds_more : (u v w : ℕ) → Finds u v → Finds v w → Finds u w
finds_more u v w f g = record {
  body = g.body ∙ f.body;
  hot = λ h. g.hot (f.hot h);
  moved = λ h. g.moved (f.moved h);
  dropped = λ h. g.dropped (f.dropped h);
  dirty = λ h. g.dirty (f.dirty h);
}

-- ---- a mark that an owner adds
body_mark : (k : Mark) (o : Option PtrWord) → is_owners k ≡ true → body_of (map_mark k o) ≡ body_of o
body_mark k None h = refl
body_mark k (Some Free) h = refl
body_mark Hot (Some (Near len ds place m)) h = refl
body_mark Evac (Some (Near len ds place m)) h = absurd (false≢true h)
body_mark Moved (Some (Near len ds place m)) h = refl
body_mark Dropped (Some (Near len ds place m)) h = refl
body_mark Dirty (Some (Near len ds place m)) h = absurd (false≢true h)
body_mark Hot (Some (Far len ds m)) h = refl
body_mark Evac (Some (Far len ds m)) h = absurd (false≢true h)
body_mark Moved (Some (Far len ds m)) h = refl
body_mark Dropped (Some (Far len ds m)) h = refl
body_mark Dirty (Some (Far len ds m)) h = absurd (false≢true h)

record Grows (old new : Marks) : Type 0 where
  hot : old.hot ≡ true → new.hot ≡ true
  moved : old.moved ≡ true → new.moved ≡ true
  dropped : old.dropped ≡ true → new.dropped ≡ true
  dirty : old.dirty ≡ true → new.dirty ≡ true

with_more : (k : Mark) (m : Marks) → Grows m (marks_with k m)
with_more Hot m = record { hot = λ _. refl; moved = λ h. h; dropped = λ h. h; dirty = λ h. h }
with_more Evac m = record { hot = λ h. h; moved = λ h. h; dropped = λ h. h; dirty = λ h. h }
with_more Moved m = record { hot = λ h. h; moved = λ _. refl; dropped = λ h. h; dirty = λ h. h }
with_more Dropped m = record { hot = λ h. h; moved = λ h. h; dropped = λ _. refl; dirty = λ h. h }
with_more Dirty m = record { hot = λ h. h; moved = λ h. h; dropped = λ h. h; dirty = λ _. refl }

marks_more : (k : Mark) (o : Option PtrWord) → Grows (marks_in o) (marks_in (map_mark k o))
marks_more k None = record { hot = λ h. h; moved = λ h. h; dropped = λ h. h; dirty = λ h. h }
marks_more k (Some Free) = record { hot = λ h. h; moved = λ h. h; dropped = λ h. h; dirty = λ h. h }
marks_more k (Some (Near len ds place m)) = with_more k m
marks_more k (Some (Far len ds m)) = with_more k m

body_dirty : (o : Option PtrWord) → body_of (map_mark Dirty o) ≡ body_of o
body_dirty None = refl
body_dirty (Some Free) = refl
body_dirty (Some (Near len ds place m)) = refl
body_dirty (Some (Far len ds m)) = refl

-- a word with a mark more may be found, but for EVAC
finds_with : (k : Mark) (v w : ℕ) → body_of (map_mark k (read_of v)) ≡ body_of (read_of v) → read_of w ≡ map_mark k (read_of v) → Finds v w
finds_with k v w body e = let more = marks_more k (read_of v) in record {
  body = ap body_of e ∙ body;
  hot = λ h. ap (λ o. (marks_in o).hot) e ∙ more.hot h;
  moved = λ h. ap (λ o. (marks_in o).moved) e ∙ more.moved h;
  dropped = λ h. ap (λ o. (marks_in o).dropped) e ∙ more.dropped h;
  dirty = λ h. ap (λ o. (marks_in o).dirty) e ∙ more.dirty h;
}

-- so may one with an owner's mark more
pub finds_mark : (k : Mark) (v w : ℕ) → is_owners k ≡ true → read_of w ≡ map_mark k (read_of v) → Finds v w
finds_mark k v w own e = finds_with k v w (body_mark k (read_of v) own) e

pub finds_dirty : (v w : ℕ) → read_of w ≡ map_mark Dirty (read_of v) → Finds v w
finds_dirty v w e = finds_with Dirty v w (body_dirty (read_of v)) e

-- ---- a word on the layout is found so
some_body : (o : Option PtrWord) → is_some (body_of o) ≡ is_some o
some_body None = refl
some_body (Some v) = refl

pub some_found : (v w : ℕ) → Finds v w → IsSome (read_of v) → IsSome (read_of w)
some_found v w f some = sym (some_body (read_of w)) ∙ (ap is_some f.body ∙ (some_body (read_of v) ∙ some))

-- ---- a near object is found near, at the same place
place_body : (o : Option PtrWord) → near_place (body_of o) ≡ near_place o
place_body None = refl
place_body (Some Free) = refl
place_body (Some (Near len ds place m)) = refl
place_body (Some (Far len ds m)) = refl

-- what is found lies where what was known lay
pub place_found : (v w : ℕ) → Finds v w → near_place (read_of v) ≡ near_place (read_of w)
place_found v w f = sym (place_body (read_of v)) ∙ ap near_place (sym f.body) ∙ place_body (read_of w)

pub record IsNearTo (o : Option PtrWord) (len ds : ℕ) (place : Place) (evac : Bool) : Type 0 where
  pub marks : Marks
  pub near : o ≡ Some (Near len ds place marks)
  pub same : marks.evac ≡ evac

near_from : (o : Option PtrWord) (len ds : ℕ) (place : Place) (k : Marks) → body_of o ≡ Some (Near len ds place k) → IsNearTo o len ds place k.evac
near_from None len ds place k e = absurd cc
near_from (Some Free) len ds place k e = absurd cc
near_from (Some (Near n d at m)) len ds place k e =
    let ns : n ≡ len = cc in
    let dss : d ≡ ds = cc in
    let ats : at ≡ place = cc in
    let ks : record { hot = false; evac = m.evac; moved = false; dropped = false; dirty = false } ≡ k = cc in
    record { marks = m; near = cc; same = ap (λ (x : Marks). x.evac) ks }
near_from (Some (Far n d m)) len ds place k e = absurd cc

module _ (v w : ℕ) (f : Finds v w) (len ds : ℕ) (place : Place) (m : Marks) where
  pub near_found : read_of v ≡ Some (Near len ds place m) → IsNearTo (read_of w) len ds place m.evac
  near_found e = near_from (read_of w) len ds place (record { hot = false; evac = m.evac; moved = false; dropped = false; dirty = false }) (f.body ∙ ap body_of e)

  pub near_known : read_of w ≡ Some (Near len ds place m) → IsNearTo (read_of v) len ds place m.evac
  near_known e = near_from (read_of v) len ds place (record { hot = false; evac = m.evac; moved = false; dropped = false; dirty = false }) (sym f.body ∙ ap body_of e)

-- what a cell has may be found in it
pub finds_seen : (found cell : ℕ → ℕ) (p w : ℕ) → ((q : ℕ) → Finds (found q) (cell q)) → cell p ≡ w → Finds (found p) w
finds_seen found cell p w finds e = subst (Finds (found p)) e (finds p)
