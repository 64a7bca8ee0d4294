-- What an event other than a naming does to what is stored: nothing. And a naming that sends nothing far.
use Rattle.std.proofs.Common.{◌≡◌, ◌≢◌, ◌<◌, ℕ, Bool, List, length, true, false, cond, Option, Some, None, refl, sym, ap, subst, ◌∙◌}
use Rattle.std.specs.Prelude.{◌*◌, ◌||◌, not}
use Rattle.std.proofs.lemmas.Bool.{cond_both, false≢true}
use Rattle.std.proofs.lemmas.List.Folds.{list_all_at}
use Rattle.std.proofs.Math.ListN.{get_or}
use Rattle.std.specs.List.{list_all}
use Rattle.std.specs.Option.{ForSome}
use Rattle.far_word.specs.declared.job.Job.{Job}
use Rattle.far_word.specs.declared.pointer.Place.{Place}
use Rattle.far_word.specs.declared.pointer.PtrWord.{PtrWord}
use Rattle.far_word.specs.declared.pointer.PtrWord.TheVariants.{Free, Near, Far}
use Rattle.far_word.specs.Pointer.{read_of}
use Rattle.far_events.specs.declared.event.Event.{Event}
use Rattle.far_events.specs.declared.event.Event.TheVariants.{ReadEpoch, Open, Pin, Load, Store, Soil, Close, Adopt, Put, Name, See, Mark, Ask, Get, Clear, Advance, Look, Offer, PeekJob, SeeJob, Claim, ReadLength, Read, Write, Finish, Collect}
use Rattle.far_events.specs.declared.event.Reply.{Reply}
use Rattle.far_events.specs.declared.event.Task.{Task}
use Rattle.far_core.specs.declared.machine.Core.{Core}
use Rattle.far_word.specs.declared.sizes.TheConstants.{CELLS}
use Rattle.far_events.specs.declared.memory.stored_rows.StoredRows.{StoredRows}
use Rattle.far_events.specs.events.Claim.{after_claim}
use Rattle.far_events.specs.events.Finish.{after_finish}
use Rattle.far_events.specs.events.Get.{after_get}
use Rattle.far_events.specs.events.Next.{next_state}
use Rattle.far_events.specs.events.Offer.{after_offer}
use Rattle.far_events.specs.events.Step.{after, is_legal, step_of}
use Rattle.far_events.specs.events.Name.{is_naming}
use Rattle.far_core.specs.state.Kept.{keeps_stored, tells, tells_all}
use Rattle.far_events.specs.state.State.{State}
use Rattle.far_events.specs.state.Stored.{RowsAre}
use Rattle.far_core.proofs.Owing.{owed}
use Rattle.far_events.proofs.Kept.{rows_stay}

either : (s t u : State) (b : Bool) → t.stored ≡ s.stored → u.stored ≡ s.stored → (cond b t u).stored ≡ s.stored
either s t u true e f = e
either s t u false e f = f

got : (s : State) (l : ℕ) (free : Bool) → (after_get s l free).stored ≡ s.stored
got s l true = refl
got s l false = refl

claimed_by : (s : State) (c j : ℕ) (o : Option Job) → (after_claim s c j o).stored ≡ s.stored
claimed_by s c j None = refl
claimed_by s c j (Some job) = refl

finished_by : (s : State) (c : ℕ) (o : Option Task) → (after_finish s c o).stored ≡ s.stored
finished_by s c None = refl
finished_by s c (Some t) = refl

offered_by : (s : State) (j p : ℕ) (to : Place) (o : Option PtrWord) → (after_offer s j p to o).stored ≡ s.stored
offered_by s j p to None = refl
offered_by s j p to (Some Free) = refl
offered_by s j p to (Some (Near len ds from m)) = refl
offered_by s j p to (Some (Far len ds m)) = refl

pub not_naming : (s : State) (e : Event) → is_naming e ≡ false → (after s e).stored ≡ s.stored
not_naming s (ReadEpoch m) h = refl
not_naming s (Open m) h = refl
not_naming s (Pin m p) h = refl
not_naming s (Load m p i) h = refl
not_naming s (Store m p i w) h = refl
not_naming s (Soil m p) h = refl
not_naming s (Close m) h = refl
not_naming s (Adopt m p) h = refl
not_naming s (Put l at w) h = refl
not_naming s (Name p old new) h = absurd cc
not_naming s (See p) h = refl
not_naming s (Mark p) h = refl
not_naming s (Ask m p k) h = refl
not_naming s (Get l at free) h = got s l free
not_naming s (Clear p) h = refl
not_naming s (Advance logs) h = refl
not_naming s (Look m) h = refl
not_naming s (Offer j p to) h = offered_by s j p to (read_of (s.cell p))
not_naming s (PeekJob c j) h = refl
not_naming s (SeeJob j) h = refl
not_naming s (Claim c j old) h = either s _ s _ (claimed_by s c j _) refl
not_naming s (ReadLength c) h = refl
not_naming s (Read c i) h = refl
not_naming s (Write c i) h = refl
not_naming s (Finish c) h = finished_by s c (s.copying.task c)
not_naming s (Collect j old) h = either s _ s _ refl refl

pub next_stored : (s : State) (e : Event) → is_naming e ≡ false → (next_state s e).stored ≡ s.stored
unfolding next_state
next_stored s e h = not_naming s e h

-- no event changes how many owners there are
pub next_mutators : (s : State) (e : Event) → (next_state s e).mutators ≡ s.mutators
unfolding next_state
next_mutators s e = ((owed e).within s).rest.0

-- ---- what rows are kept beside a state
abbrev AreOf : State → StoredRows → Type 0
AreOf s rows = RowsAre (CELLS * s.mutators) s.stored rows

-- they stay right where nothing is stored
pub rows_same : (o : Option StoredRows) (s t : State) → t.stored ≡ s.stored → t.mutators ≡ s.mutators → ForSome o (λ rows. AreOf s rows) → ForSome o (λ rows. AreOf t rows)
rows_same o s t stored mutators are =
    λ rows is. subst (λ (n : ℕ). RowsAre (CELLS * n) t.stored rows) (sym mutators) (rows_stay (CELLS * s.mutators) s.stored t.stored rows stored (are rows is))

pub rows_after : (o : Option StoredRows) (s t : State) (e : Event) → t ≡ next_state s e → is_naming e ≡ false → ForSome o (λ rows. AreOf s rows) → ForSome o (λ rows. AreOf t rows)
rows_after o s t e is other are = rows_same o s t (ap (λ (u : State). u.stored) is ∙ next_stored s e other) (ap (λ (u : State). u.mutators) is ∙ next_mutators s e) are

step_stored : (s : State) (e : Event) → is_naming e ≡ false → ((step_of s e).0.stored ≡ s.stored) × ((step_of s e).0.mutators ≡ s.mutators)
step_stored s e other = cond_both (is_legal s e) _ _ (λ (x : State × Reply). (x.0.stored ≡ s.stored) × (x.0.mutators ≡ s.mutators)) (λ _. (not_naming s e other, ((owed e).within s).rest.0)) (λ _. (refl, refl))

pub rows_stepped : (o : Option StoredRows) (s t : State) (r : Reply) (e : Event) → (t, r) ≡ step_of s e → is_naming e ≡ false → ForSome o (λ rows. AreOf s rows) → ForSome o (λ rows. AreOf t rows)
rows_stepped o s t r e is other are =
    let both = step_stored s e other in
    rows_same o s t (ap (λ (x : State × Reply). x.0.stored) is ∙ both.0) (ap (λ (x : State × Reply). x.0.mutators) is ∙ both.1) are

pub rows_named : (o : Option StoredRows) (s t : State) (e : Event) → t ≡ next_state s e → ForSome o (λ rows. RowsAre (CELLS * s.mutators) (next_state s e).stored rows) → ForSome o (λ rows. AreOf t rows)
rows_named o s t e is are =
    let n : t.mutators ≡ s.mutators = ap (λ (u : State). u.mutators) is ∙ next_mutators s e in
    λ rows same. subst (λ (m : ℕ). RowsAre (CELLS * m) t.stored rows) (sym n) (rows_stay (CELLS * s.mutators) (next_state s e).stored t.stored rows (ap (λ (u : State). u.stored) is) (are rows same))

-- ---- of which events a core tells
or_true : (b : Bool) → (b || true) ≡ true
or_true true = refl
or_true false = refl

or_false : (b : Bool) → (b || false) ≡ b
or_false true = refl
or_false false = refl

pub tells_other : (core : Core) (e : Event) → is_naming e ≡ false → tells core e ≡ true
tells_other core e other = ap (λ (b : Bool). keeps_stored core || not b) other ∙ or_true (keeps_stored core)

pub tells_naming : (core : Core) (e : Event) → is_naming e ≡ true → tells core e ≡ keeps_stored core
tells_naming core e naming = ap (λ (b : Bool). keeps_stored core || not b) naming ∙ or_false (keeps_stored core)

all_at : {all : Bool} (b : Bool) → (b ≡ false → all ≡ false) → all ≡ true → b ≡ true
all_at true f h = refl
all_at false f h = absurd (false≢true (sym (f refl) ∙ h))

-- a core that tells each event of a list tells the one of any place in it, as long as what it keeps is the same
told_at : (b : Bool) (es : List Event) (i : ℕ) → i < length es → (b || list_all (λ e. not (is_naming e)) es) ≡ true → (b || not (is_naming (get_or es i (ReadEpoch 0)))) ≡ true
told_at true es i lt h = refl
told_at false es i lt h = all_at (not (is_naming (get_or es i (ReadEpoch 0)))) (list_all_at (λ e. not (is_naming e)) es i (ReadEpoch 0) lt) h

pub told_in : (core now : Core) (es : List Event) (i : ℕ) → i < length es → tells_all core es ≡ true → keeps_stored now ≡ keeps_stored core → tells now (get_or es i (ReadEpoch 0)) ≡ true
told_in core now es i lt h kept = ap (λ (b : Bool). b || not (is_naming (get_or es i (ReadEpoch 0)))) kept ∙ told_at (keeps_stored core) es i lt h
