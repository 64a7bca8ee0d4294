-- What a caller of the book needs: that a new core is at the start, and what follows from where an object was found.
use Rattle.std.proofs.Common.{◌≡◌, ℕ, Bool, true, false, sym, refl, ap, subst, ◌∙◌, Option, Some, None, ◌/◌}
use Rattle.far_word.specs.declared.mark.Marks.{Marks}
use Rattle.far_word.specs.declared.pointer.Place.{Place}
use Rattle.far_word.specs.declared.pointer.PtrWord.{PtrWord}
use Rattle.far_word.specs.declared.pointer.PtrWord.TheVariants as pointer
use Rattle.std.specs.Prelude.{◌||◌, ◌&&◌, ◌^◌, nat_lt, List, Contains}
use Rattle.std.proofs.Math.Nat.{zero-div}
use Rattle.std.proofs.lemmas.Bool.{false≢true}
use Rattle.far_word.specs.declared.sizes.TheConstants.{CELLS, MOST_LOGS}
use Rattle.far_word.specs.Pointer.{read_of}
use Rattle.far_log.specs.declared.span.Span.{Span}
use Rattle.far_events.specs.declared.shape.Shape.{Shape}
use Rattle.far_events.specs.events.Advance.{is_among}
use Rattle.far_events.specs.events.Naming.{is_dropped}
use Rattle.far_events.specs.state.Law.{Law}
use Rattle.far_events.specs.state.Opening.{opening}
use Rattle.far_events.specs.state.Spans.{spans_of}
use Rattle.far_events.specs.state.State.{State}
use Rattle.far_book.specs.declared.home.Home.TheVariants.{Near, Far}
use Rattle.far_hand.specs.Masked.{masked}
use Rattle.far_hand.specs.Rounds.{MayChoose}
use Rattle.far_book.specs.book.Dealing.{has_evac}
use Rattle.far_hand.specs.Quiet.{IsQuietNear}
use Rattle.far_book.specs.book.Fetching.{IsFar}
use Rattle.far_book.specs.book.Home.{home_of}
use Rattle.far_book.specs.book.NextLive.{IsBoundary, SpansAreBounded}
use Rattle.far_book.specs.book.Own.{IsAtStart, own_part}

pub at_start : (s : State) (shape : Shape) (honest : Bool) → s ≡ opening shape honest → IsAtStart s
at_start s shape honest e = subst IsAtStart (sym e) refl

pub beset_start : (s v : State) (shape : Shape) (honest : Bool) → s ≡ opening shape honest → v ≡ masked s s.cell (λ _. false) s.copying.word → IsAtStart v
beset_start s v shape honest e is = subst IsAtStart (sym (is ∙ ap (λ (t : State). masked t t.cell (λ _. false) t.copying.word) e)) refl

pub dropped_home : (o : Option PtrWord) (place : Place) (marks : Marks) → Some (Near place marks) ≡ home_of o → marks.dropped ≡ true → is_dropped o ≡ true
dropped_home None place marks e h = absurd cc
dropped_home (Some pointer.Free) place marks e h = absurd cc
dropped_home (Some (pointer.Near len ds at m)) place marks e h = let same : marks ≡ m = cc in ap (λ (x : Marks). x.dropped) (sym same) ∙ h
dropped_home (Some (pointer.Far len ds m)) place marks e h = absurd cc

pub evac_home : (o : Option PtrWord) (place : Place) (marks : Marks) → Some (Near place marks) ≡ home_of o → marks.evac ≡ true → has_evac o ≡ true
evac_home None place marks e h = absurd cc
evac_home (Some pointer.Free) place marks e h = absurd cc
evac_home (Some (pointer.Near len ds at m)) place marks e h = let same : marks ≡ m = cc in ap (λ (x : Marks). x.evac) (sym same) ∙ h
evac_home (Some (pointer.Far len ds m)) place marks e h = absurd cc

-- a near object that shows MOVE is quiet
quiet_cell : (s : State) (p : ℕ) (o : Option PtrWord) → read_of (s.cell p) ≡ o → (place : Place) (marks : Marks) → Some (Near place marks) ≡ home_of o → marks.moved ≡ true → IsQuietNear s p
quiet_cell s p None e place marks is h = absurd cc
quiet_cell s p (Some pointer.Free) e place marks is h = absurd cc
quiet_cell s p (Some (pointer.Near len ds at m)) e place marks is h =
    let same : marks ≡ m = cc in
    let moved : m.moved ≡ true = ap (λ (x : Marks). x.moved) (sym same) ∙ h in
    record { len = len; ds = ds; place = at; marks = m; near = e; quiet = ap (λ b. b || (m.evac && s.round at.log && s.clear (p / CELLS))) moved }
quiet_cell s p (Some (pointer.Far len ds m)) e place marks is h = absurd cc

pub quiet_home : (s : State) (p : ℕ) (place : Place) (marks : Marks) → Some (Near place marks) ≡ home_of (read_of (s.cell p)) → marks.moved ≡ true → IsQuietNear s p
quiet_home s p place marks is h = quiet_cell s p (read_of (s.cell p)) refl place marks is h

far_cell : (s : State) (p : ℕ) (o : Option PtrWord) → read_of (s.cell p) ≡ o → (marks : Marks) → Some (Far marks) ≡ home_of o → IsFar s p
far_cell s p None e marks is = absurd cc
far_cell s p (Some pointer.Free) e marks is = absurd cc
far_cell s p (Some (pointer.Near len ds at m)) e marks is = absurd cc
far_cell s p (Some (pointer.Far len ds m)) e marks is = record { len = len; ds = ds; marks = m; far = e }

pub far_home : (s : State) (p : ℕ) (marks : Marks) → Some (Far marks) ≡ home_of (read_of (s.cell p)) → IsFar s p
far_home s p marks is = far_cell s p (read_of (s.cell p)) refl marks is

-- no logs may always be a round's
none_among : (l : ℕ) → is_among 0 l ≡ false
none_among l = rw (zero-div (2 ^ l)) (none (nat_lt l MOST_LOGS)) where
  none : (b : Bool) → (b && false) ≡ false
  none true = refl
  none false = refl

pub none_chosen : (s : State) → MayChoose s 0
none_chosen s = record {
  shut = λ l e. absurd (false≢true (sym (none_among l) ∙ e));
  marked = λ p len ds place m near e. absurd (false≢true (sym (none_among place.log) ∙ e));
}

-- a span that is listed begins at a boundary
pub begins_there : (s t : State) → Law (own_part s) → SpansAreBounded → t ≡ record s { word = t.word } → (l : ℕ) (spans : List Span) → spans ≡ spans_of s l → (x : Span) → Contains spans x →
    IsBoundary t l x.at
begins_there s t law bounded kept l spans is x member =
    subst (λ (u : State). IsBoundary u l x.at) (sym kept) (bounded s law l x (subst (λ xs. Contains xs x) is member)).0
