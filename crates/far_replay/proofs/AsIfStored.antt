-- What stays so of a heap where other words are stored of an object.
use Rattle.std.proofs.Common.{◌≡◌, ◌≢◌, ℕ, Bool, true, false, cond, is_some, Option, Some, None, refl, sym, ap, subst, ◌∙◌, if◌then◌else◌}
use Rattle.std.proofs.lemmas.Bool.{cond_both, true≢false}
use mathlib.Core.Path.{fun_ext}
use Rattle.far_word.specs.declared.mark.Marks.{Marks}
use Rattle.far_word.specs.declared.pointer.Place.{Place}
use Rattle.far_word.specs.declared.pointer.PtrWord.{PtrWord}
use Rattle.far_word.specs.declared.pointer.PtrWord.TheVariants.{Free, Near, Far}
use Rattle.far_word.specs.Pointer.{read_of}
use Rattle.far_events.specs.events.Step.{after_pin}
use Rattle.far_events.specs.state.Law.{IsStored, Law, StoresBack}
use Rattle.far_events.specs.state.State.{State, put}
use Rattle.far_events.proofs.Cells.{unused}
use Rattle.far_events.proofs.Put.{put_both, put_old}
use Rattle.far_book.specs.book.FarSide.{kept_len}
use Rattle.far_evac.specs.MomentLaw.{MomentLaw}
use Rattle.far_alone.specs.Between.{Between}
use Rattle.far_replay.specs.Commanded.{LiesFar, Misled}
use Rattle.far_alone.specs.Dereference.{asked_for, says_near, sought_of}
use Rattle.far_alone.specs.Effects.{with_view}
use Rattle.far_alone.specs.Objects.{named_len}
use Rattle.far_replay.specs.Moment.{KeptBack, Moment, as_if_stored, with_stored}
use Rattle.far_reply.specs.Reply.{Reply}
use Rattle.far_text.specs.Command.{Command}

abbrev pub no_len : Option ℕ
no_len = None

some_len : {m n : ℕ} → Some m ≡ Some n → m ≡ n
some_len e = cc

-- a far object has words that are stored of it, and a near one without DIRTY
pub far_keeps : (row : ℕ → ℕ) (o : Option PtrWord) → says_near o ≡ false → StoresBack row o → KeptBack row o
far_keeps row None far fits len e = let odd : no_len ≡ Some len = e in absurd cc
far_keeps row (Some Free) far fits len e = let odd : no_len ≡ Some len = e in absurd cc
far_keeps row (Some (Near n ds place m)) far fits len e = absurd (true≢false far)
far_keeps row (Some (Far n ds m)) far fits len e = let same : n ≡ len = cc in subst (IsStored row) same (fits n ds m refl)

pub keeps_far : (row : ℕ → ℕ) (o : Option PtrWord) → KeptBack row o → StoresBack row o
keeps_far row o fits len ds m is = fits len (ap kept_len is)

keeps_clean : (row : ℕ → ℕ) (o : Option PtrWord) → KeptBack row o → (len ds : ℕ) (place : Place) (m : Marks) → o ≡ Some (Near len ds place m) → m.dirty ≡ false → IsStored row len
keeps_clean row o fits len ds place m is clean = fits len (ap kept_len is ∙ ap (λ b. cond b None (Some len)) clean)

-- the law reads stored words of these, and of those that nobody uses
pub law_as_if : (s : State) (p : ℕ) (row : ℕ → ℕ) → Law s → s.honest ≡ false → s.used p ≡ true → KeptBack row (read_of (s.cell p)) → Law (with_stored s p row)
law_as_if s p row law lies used fits = record {
  shape = law.shape;
  cells = record {
    cell_read = law.cells.cell_read;
    cell_range = law.cells.cell_range;
    cell_near = law.cells.cell_near;
    cell_far = λ q. put_both (λ (words : ℕ → ℕ). StoresBack words (read_of (s.cell q))) s.stored p row q (λ e. subst (λ k. StoresBack row (read_of (s.cell k))) (sym e) (keeps_far row (read_of (s.cell p)) fits)) (λ _. law.cells.cell_far q);
  };
  spans = law.spans;
  logs = law.logs;
  scopes = law.scopes;
  views = law.views;
  rounds = law.rounds;
  clears = law.clears;
  unadopted = λ honest q unused. absurd (true≢false (sym honest ∙ lies));
  copies = law.copies;
  soils = law.soils;
  cleans = λ q. record {
    back = put_both (λ (words : ℕ → ℕ). (len ds : ℕ) (place : Place) (m : Marks) → read_of (s.cell q) ≡ Some (Near len ds place m) → m.dirty ≡ false → IsStored words len) s.stored p row q
        (λ e. subst (λ k. (len ds : ℕ) (place : Place) (m : Marks) → read_of (s.cell k) ≡ Some (Near len ds place m) → m.dirty ≡ false → IsStored row len) (sym e) (keeps_clean row (read_of (s.cell p)) fits))
        (λ _. (law.cleans q).back);
    same = λ honest. absurd (true≢false (sym honest ∙ lies));
  };
}

pub round_as_if : (now : Moment) (p : ℕ) (row : ℕ → ℕ) → MomentLaw now → MomentLaw (as_if_stored now p row)
round_as_if now p row x = record {
  order = x.order;
  order_once = x.order_once;
  sealed = x.sealed;
  collection_once = x.collection_once;
  runs = x.runs;
  round = x.round;
  only = x.only;
  clear = x.clear;
  later = x.later;
  alone = x.alone;
  held = λ j job still. x.held j job record { says = still.says; good = still.good; lies = still.lies };
}

pub between_as_if : (s : State) (p : ℕ) (row : ℕ → ℕ) → Between s → Between (with_stored s p row)
between_as_if s p row x = record { named = x.named }

-- ---- the steps of a dereference read none of them
pub if_both : {X Y : Type 0} (f : X → Y) (b : Bool) (x y : X) → (if b then f x else f y) ≡ f (if b then x else y)
if_both f true x y = refl
if_both f false x y = refl

pub view_as_if : (s : State) (p : ℕ) (row : ℕ → ℕ) (q : ℕ) → with_view (with_stored s p row) q ≡ with_stored (with_view s q) p row
view_as_if s p row q = if_both (λ (t : State). with_stored t p row) (is_some (s.held q)) s (after_pin s q)

pub view_stores : (s : State) (q : ℕ) → (with_view s q).stored ≡ s.stored
view_stores s q = cond_both (is_some (s.held q)) s (after_pin s q) (λ (t : State). t.stored ≡ s.stored) (λ _. refl) (λ _. refl)

ask_stores_of : (s : State) (m q : ℕ) (o : Option PtrWord) → (sought_of s m q o).stored ≡ s.stored
ask_stores_of s m q (Some Free) = refl
ask_stores_of s m q _ = refl

pub ask_stores : (s : State) (m q : ℕ) → (asked_for s m q).stored ≡ s.stored
ask_stores s m q = ask_stores_of s m q (read_of (s.cell q))

-- ---- stored anew
-- what is stored may be stored anew
pub as_it_was : (s : State) (p : ℕ) (row : ℕ → ℕ) → row ≡ s.stored p → with_stored s p row ≡ s
as_it_was s p row e = ap (λ (words : ℕ → ℕ → ℕ). record s { stored = words }) (put_old s.stored p row (sym e))

-- and so in place of other words
put_twice : (f : ℕ → ℕ → ℕ) (k : ℕ) (v w : ℕ → ℕ) → w ≡ f k → put (put f k v) k w ≡ f
put_twice f k v w e = fun_ext (λ q. put_both (λ (x : ℕ → ℕ). x ≡ f q) (put f k v) k w q (λ h. e ∙ ap f (sym h)) (λ ne. put_both (λ (x : ℕ → ℕ). x ≡ f q) f k v q (λ h. absurd (ne h)) (λ _. refl)))

pub stored_again : (now : Moment) (p : ℕ) (row words : ℕ → ℕ) → words ≡ now.core.stored p → now ≡ as_if_stored (as_if_stored now p row) p words
stored_again now p row words e = sym (ap (λ (all : ℕ → ℕ → ℕ). record now { core = record now.core { stored = all } }) (put_twice now.core.stored p row words e))

-- a far object is in use between two commands
pub far_is_named : (s : State) (p : ℕ) → LiesFar s p → s.cell p ≢ 0
far_is_named s p (len, ds, marks, far) none = let odd : Some (Far len ds marks) ≡ Some Free = sym far ∙ (ap read_of none ∙ unused) in absurd cc

pub far_is_used : (s : State) (p : ℕ) → Between s → LiesFar s p → s.used p ≡ true
far_is_used s p between far = between.named p (far_is_named s p far)

-- of a far object words that are as many as it has may be stored
pub misled_fits : (row : ℕ → ℕ) (now : Moment) (c : Command) (p : ℕ) (r : Reply) (next : Moment) → Misled row now c p r next → KeptBack row (read_of (now.core.cell p))
misled_fits row now c p r next h len e = subst (IsStored row) (some_len (sym (ap kept_len h.far.3) ∙ e)) h.fits

-- what is kept of an object is as long as it
pub kept_long : (o : Option PtrWord) (len : ℕ) → kept_len o ≡ Some len → len ≡ named_len o
kept_long None len e = let odd : no_len ≡ Some len = e in absurd cc
kept_long (Some Free) len e = let odd : no_len ≡ Some len = e in absurd cc
kept_long (Some (Near n ds place m)) len e = clean m.dirty e where
  clean : (b : Bool) → cond b None (Some n) ≡ Some len → len ≡ n
  clean true h = let odd : no_len ≡ Some len = h in absurd cc
  clean false h = sym (some_len h)
kept_long (Some (Far n ds m)) len e = sym (some_len e)
