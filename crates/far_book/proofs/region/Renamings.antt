-- A cell gets a new word once another was found in it than was known: as from the state that was known before.
use Rattle.std.proofs.Common.{◌≡◌, ℕ, ap, refl, subst, sym, ◌∙◌, Result, Ok, Err, Bool, Option, true, false}
use Rattle.std.proofs.lemmas.Bool.{false≢true}
use Rattle.std.specs.Prelude.{IfErr, IfOk, ◌^◌, ◌<◌, ◌&&◌, ◌||◌, not}
use Rattle.far_word.specs.declared.pointer.PtrWord.{PtrWord}
use Rattle.far_word.specs.Pointer.{read_of}
use Rattle.far_events.specs.declared.event.Event.{Event}
use Rattle.far_events.specs.declared.event.Event.TheVariants.{Name}
use Rattle.far_events.specs.declared.event.Reply.{Reply}
use Rattle.far_events.specs.events.Legal.{Legal}
use Rattle.far_events.specs.events.Naming.{is_dropped}
use Rattle.far_events.specs.events.Step.{after}
use Rattle.far_events.specs.state.Law.{is_dirty}
use Rattle.far_events.specs.state.State.{State}
use Rattle.far_events.proofs.Put.{put_old, put_same}
use Rattle.far_hand.specs.Finds.{Finds}
use Rattle.far_hand.specs.Known.{Forgets, KnowsLeaving, StoresLeaving}
use Rattle.far_book.specs.book.Renaming.{IsWonBy, MayRename, Renamed, seen, stops}
use Rattle.far_hand.proofs.Finding.{finds_is, finds_more}
use Rattle.far_book.proofs.region.Calls.{put_put}
use Rattle.far_book.proofs.region.Dirt.{no_more, up_by}

never : (b : Bool) → (b && not b) ≡ false
never true = refl
never false = refl

-- a word without DROP doesn't end a naming by itself
pub not_by_itself : (o : Option PtrWord) → is_dropped o ≡ false → stops o o ≡ false
not_by_itself o alive = ap (λ b. b || (is_dirty o && not (is_dirty o))) alive ∙ never (is_dirty o)

-- the word that is known there is found
module _ (s : State) (p w new : ℕ) (is : w ≡ s.cell p) where
  pub same_seen : seen s p w ≡ s
  same_seen = λ i. record s { cell = put_old s.cell p w (sym is) i }

  -- it has DIRTY as it was known
  runs_on : is_dropped (read_of w) ≡ false → stops (read_of (s.cell p)) (read_of w) ≡ false
  runs_on alive = subst (λ v. stops (read_of v) (read_of w) ≡ false) is (ap (λ b. b || (is_dirty (read_of w) && not (is_dirty (read_of w)))) alive ∙ never (is_dirty (read_of w)))

  pub may_now : w < 2 ^ 64 → is_dropped (read_of w) ≡ false → MayRename s p new → Legal s (Name p w new)
  may_now fits alive may = subst (λ (u : State). Legal u (Name p w new)) same_seen (may w fits (finds_is (s.cell p) w is) (runs_on alive)).0

  pub renamed_now : (t : State) → is_dropped (read_of w) ≡ false → t ≡ record (after s (Name p w new)) { word = t.word; stored = t.stored } → StoresLeaving s t p w new → Forgets s t → Renamed s t p new
  renamed_now t alive leads stored forgot = record {
    word = w;
    found = finds_is (s.cell p) w is;
    alive = runs_on alive;
    leads = leads ∙ (λ i. record (after (sym same_seen i) (Name p w new)) { word = t.word; stored = t.stored });
    stored = subst (λ (x : State). StoresLeaving x t p w new) (sym same_seen) stored;
    forgot = subst (λ (x : State). Forgets x t) (sym same_seen) forgot;
  }

-- what is found after another word was found may be found at first
pub found_after : {A : Type 0} (r : Result A ℕ) (w v : ℕ) → Finds w v → IfErr r (λ x. Finds v x) → IfErr r (λ x. Finds w x)
found_after (Ok x) w v f h = h
found_after (Err x) w v f h = finds_more w v x f h

on_by : (d a k m : Bool) → (k ≡ false → m ≡ false) → (d || (a && not m)) ≡ false → (d || (a && not k)) ≡ false
on_by true a k m up h = h
on_by false false k m up h = refl
on_by false true true m up h = refl
on_by false true false m up h = sym (ap not (up refl)) ∙ h

pub chain : (o m n : Option PtrWord) → stops o m ≡ false → stops m n ≡ false → stops o n ≡ false
chain o m n a b = on_by (is_dropped n) (is_dirty n) (is_dirty o) (is_dirty m) (no_more (is_dropped m) (is_dirty m) (is_dirty o) a) b

-- what won it after such a word, won it
pub won_after : {A N : Type 0} (makes : N → Event → Reply → N → Type 0) (next : N) (r : Result A ℕ) (p w v new : ℕ) → Finds w v → stops (read_of w) (read_of v) ≡ false → IfOk r (λ _. IsWonBy makes next p v new) → IfOk r (λ _. IsWonBy makes next p w new)
won_after makes next (Err x) p w v new found on h = h
won_after makes next (Ok x) p w v new found on h = record {
  before = h.before;
  word = h.word;
  found = finds_more w v h.word found h.found;
  goes_on = chain (read_of w) (read_of v) (read_of h.word) on h.goes_on;
  made = h.made;
}

-- what stops it after a word that doesn't, stops it at once: that word has DIRTY no more than the first
stops_by : (d a k m : Bool) → (k ≡ true → m ≡ true) → (d || (a && not m)) ≡ true → (d || (a && not k)) ≡ true
stops_by true a k m up h = h
stops_by false false k m up h = h
stops_by false true false m up h = refl
stops_by false true true m up h = absurd (false≢true (sym (ap not (up refl)) ∙ h))

pub stops_too : (o m n : Option PtrWord) → (is_dirty o ≡ true → is_dirty m ≡ true) → stops m n ≡ true → stops o n ≡ true
stops_too o m n up h = stops_by (is_dropped n) (is_dirty n) (is_dirty o) (is_dirty m) up h

-- another word was found there
module _ (s t : State) (p w : ℕ) (is : t ≡ seen s p w) (finds : Finds (s.cell p) w) where
  pub named : w ≡ t.cell p
  named = sym (put_same s.cell p w p refl) ∙ ap (λ (u : State). u.cell p) (sym is)

  pub twice : (v : ℕ) → seen t p v ≡ seen s p v
  twice v = ap (λ (u : State). seen u p v) is ∙ (λ i. record s { cell = put_put s.cell p w v i })

  -- what doesn't stop it after a word that doesn't, doesn't stop it
  on_after : stops (read_of (s.cell p)) (read_of w) ≡ false → (v : ℕ) → stops (read_of (t.cell p)) (read_of v) ≡ false → stops (read_of (s.cell p)) (read_of v) ≡ false
  on_after on v alive = chain (read_of (s.cell p)) (read_of w) (read_of v) on (subst (λ x. stops (read_of x) (read_of v) ≡ false) (sym named) alive)

  pub more : (v : ℕ) → Finds (t.cell p) v → Finds (s.cell p) v
  more v f = finds_more (s.cell p) w v finds (subst (λ x. Finds x v) (sym named) f)

  pub may_after : stops (read_of (s.cell p)) (read_of w) ≡ false → (new : ℕ) → MayRename s p new → MayRename t p new
  may_after on new may v lt f alive = subst (λ (u : State). Legal u (Name p v new) × KnowsLeaving u v new) (sym (twice v)) (may v lt (more v f) (on_after on v alive))

  pub renamed_after : stops (read_of (s.cell p)) (read_of w) ≡ false → (new : ℕ) (u : State) → Renamed t u p new → Renamed s u p new
  renamed_after on new u r = record {
    word = r.word;
    found = more r.word r.found;
    alive = on_after on r.word r.alive;
    leads = r.leads ∙ (λ i. record (after (twice r.word i) (Name p r.word new)) { word = u.word; stored = u.stored });
    stored = subst (λ (x : State). StoresLeaving x u p r.word new) (twice r.word) r.stored;
    forgot = subst (λ (x : State). Forgets x u) (twice r.word) r.forgot;
  }

  pub done_after : {A : Type 0} → stops (read_of (s.cell p)) (read_of w) ≡ false → (r : Result A ℕ) (new : ℕ) (u : State) → IfOk r (λ _. Renamed t u p new) → IfOk r (λ _. Renamed s u p new)
  done_after on (Ok x) new u h = renamed_after on new u h
  done_after on (Err v) new u h = h

  pub kept_after : {A : Type 0} (r : Result A ℕ) (u : State) → IfErr r (λ v. u ≡ seen t p v) → IfErr r (λ v. u ≡ seen s p v)
  kept_after (Ok x) u h = h
  kept_after (Err v) u h = h ∙ twice v

-- what stops it after another word was found, stops it by the first
pub stopped_after : {A : Type 0} (r : Result A ℕ) (w v : ℕ) → Finds w v → IfErr r (λ x. stops (read_of v) (read_of x) ≡ true) → IfErr r (λ x. stops (read_of w) (read_of x) ≡ true)
stopped_after (Ok x) w v f h = h
stopped_after (Err x) w v f h = stops_too (read_of w) (read_of v) (read_of x) (up_by (read_of w) (read_of v) f.body f.dirty) h
