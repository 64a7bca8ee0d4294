-- What the worked caller relies on: a store puts a word, and rounds, fetches and a scope's events leave it.
use Rattle.std.proofs.Common.{◌≡◌, ℕ, ◌-◌, ◌*◌, ◌^◌, ◌<◌, Bool, true, false, List, [], ◌∷◌, length, map, Option, Some, None, IfSome, sym, refl, ap, subst, ◌∙◌, cond, not}
use Rattle.far_word.specs.declared.pointer.Place.{Place}
use Rattle.far_word.specs.declared.pointer.PtrWord.{PtrWord}
use Rattle.far_word.specs.declared.pointer.PtrWord.TheVariants.{Near}
use Rattle.far_word.specs.declared.mark.Marks.{Marks}
use Rattle.far_word.specs.declared.refused.Refused.{Refused}
use Rattle.far_word.specs.declared.refused.Refused.TheVariants as refused
use Rattle.far_policy.specs.Choice.{IsChoice}
use Rattle.far_policy.specs.Logs.{is_among, logs_of}
use Rattle.far_word.specs.Bytes.{packed_word, with_word}
use Rattle.far_word.specs.Laws.{WrittenIsRead}
use Rattle.far_word.specs.Pointer.{read_of}
use Rattle.far_word.specs.Sizes.{size_of, words_for}
use Rattle.far_events.specs.declared.event.Event.TheVariants.{Store}
use Rattle.far_events.specs.declared.event.Reply.{Reply}
use Rattle.far_events.specs.declared.event.Reply.TheVariants.{Done}
use Rattle.far_events.specs.events.Legal.{Legal}
use Rattle.far_events.specs.events.Naming.{is_dropped}
use Rattle.far_core.specs.laws.Agreement.{ObjectAgrees}
use Rattle.far_core.specs.laws.Worlds.{ChangesKeep, ObjectsStand}
use Rattle.far_events.specs.events.Copies.{Alike}
use Rattle.far_events.specs.state.Law.{IsStored, Law, in_use}
use Rattle.far_core.specs.state.Room.{room}
use Rattle.far_events.proofs.Put.{put_same}
use Rattle.far_events.specs.state.State.{State}
use Rattle.far_events.specs.events.Changes as change
use Rattle.far_core.specs.world.Changes.{Step}
use Rattle.far_core.specs.world.Happens.{Happens}
use Rattle.far_core.specs.world.Steps.{with_bytes, with_home}
use Rattle.far_core.specs.world.World.{World, Object, FarSide}
use Rattle.far_core.specs.world.WorldOf.{world_of}
use Rattle.far_book.specs.book.Actions.{DoesFetch}
use Rattle.far_book.specs.book.Fetching.{far_len}
use Rattle.far_book.specs.book.Laws.{FetchingIsLegal}
use Rattle.far_book.specs.book.Rows.{row_of}
use Rattle.far_evac.specs.declared.answers.RoundEnd.{RoundEnd}
use Rattle.far_evac.specs.Choosing.{is_spent}
use Rattle.far_evac.specs.Moment.{Moment}
use Rattle.far_evac.specs.MomentLaw.{MomentLaw, is_idle}
use Rattle.far_evac.specs.Owned.{KeepsObjects, RoundKeepsObjects, anywhere}
use Rattle.far_evac.specs.Refusals.{unselectable}
use Rattle.far_evac.specs.Turns.{IsRound}
use Rattle.tests_far_evac.specs.Kept.{HasWord, KeepsWords}

-- ---- a round
same_bytes : (found : Option Object) (o : Object) → anywhere found ≡ Some (with_home o FarSide) → (u : Object) × (found ≡ Some u) × (u.bytes ≡ o.bytes)
same_bytes None o e = absurd cc
same_bytes (Some u) o e = let same : with_home u FarSide ≡ with_home o FarSide = cc in (u, refl, ap (λ (x : Object). x.bytes) same)

pub round_keeps : (s t : State) → KeepsObjects s t → KeepsWords s t
unfolding world_of
round_keeps s t keeps = record {
  honest = keeps.honest;
  words = λ p i x has.
      let found = same_bytes ((world_of t).object p) has.0 (keeps.object p ∙ ap anywhere has.1) in
      (found.0, found.1, ap (λ bytes. packed_word bytes i) found.2 ∙ has.2);
}

-- ---- a fetch
pub fetch_keeps : (s t : State) (p : ℕ) (place : Place) → Law s → (world_of s).honest ≡ true → FetchingIsLegal → ChangesKeep → DoesFetch s p place t → KeepsWords s t
fetch_keeps s t p place law honest legal keep does =
    let far = does.far.far in
    let alive : does.far.marks.dropped ≡ false = sym (ap is_dropped far) ∙ does.alive in
    let found = subst (λ (o : Option PtrWord). room s (size_of (far_len o)) true ≡ Some place) far does.found in
    let padded = subst (λ (o : Option PtrWord). IsStored does.row (far_len o)) far does.padded in
    let stored = subst (λ (o : Option PtrWord). s.honest ≡ true → Alike does.row (s.stored p) (words_for (far_len o))) far does.stored in
    let led = legal s p does.far.len does.far.ds does.far.marks place does.row law far alive found padded stored in
    let step : Step (change.ComesNear p place.log) (world_of s) (world_of t) = subst (λ (u : State). Step (change.ComesNear p place.log) (world_of s) (world_of u)) (sym does.after) led.2 in
    let kept = keep (world_of s) (world_of t) (change.ComesNear p place.log) step in
    record {
      honest = kept.honesty;
      words = λ q i x has.
          let there = kept.unchanged q has.0 honest has.1 (λ h. let no = h.2 in absurd cc) (λ h. absurd cc) in
          (there.0, there.1, ap (λ bytes. packed_word bytes i) there.4 ∙ has.2);
    }

-- ---- a store
len_at : (s : State) (p len ds : ℕ) (place : Place) (marks : Marks) (o : Object) → read_of (s.cell p) ≡ Some (Near len ds place marks) → ObjectAgrees s p → (world_of s).object p ≡ Some o →
    (b : Bool) → marks.dropped ≡ b → length o.bytes ≡ len
len_at s p len ds place marks o near agrees e true dropped =
    let unused : in_use (read_of (s.cell p)) ≡ false = ap in_use near ∙ ap not dropped in
    let gone : None ≡ Some o = sym (agrees.none unused) ∙ e in
    absurd cc
len_at s p len ds place marks o near agrees e false alive =
    let found = agrees.near len ds place marks near alive in
    let same : found.0 ≡ o = let both : Some found.0 ≡ Some o = sym found.1 ∙ e in cc in
    ap (λ (x : Object). length x.bytes) (sym same) ∙ found.4

pub store_puts : (s t : State) (m p i w : ℕ) (r : Reply) → w < 2 ^ 64 → Legal s (Store m p i w) → r ≡ Done → Happens (world_of s) (Store m p i w) r (world_of t) →
    ObjectsStand (world_of s) → ((q : ℕ) → ObjectAgrees s q) → WrittenIsRead → HasWord t p i w
store_puts s t m p i w r fits legal done happens stand agrees written =
    let writes = subst (λ (x : Reply). Happens (world_of s) (Store m p i w) x (world_of t)) done happens in
    let changed = writes.changed in
    let o : Object = changed.0 in
    let holds = legal.1.1 in
    let len : length o.bytes ≡ legal.0 = len_at s p legal.0 holds.near.0 legal.1.0 holds.near.1 o holds.near.2 (agrees p) changed.1 holds.near.1.dropped refl in
    let small : w < 2 ^ (8 * (length o.bytes - 8 * i)) = subst (λ n. w < 2 ^ (8 * (n - 8 * i))) (sym len) legal.2 in
    let put_there : (world_of t).object p ≡ Some (with_bytes o (with_word o.bytes i w)) = ap (λ (v : World). v.object p) changed.3 ∙ put_same (world_of s).object p (Some (with_bytes o (with_word o.bytes i w))) p refl in
    (with_bytes o (with_word o.bytes i w), put_there, (written o.bytes i w (stand p o changed.1).small changed.2 fits small).0)

-- ---- a load
pub loads : (r : Option ℕ) (P : ℕ → Type 0) (x : ℕ) → P x → IfSome r (λ loaded. (y : ℕ) → P y → loaded ≡ y) → IfSome r (λ loaded. loaded ≡ x)
loads None P x here all = tt
loads (Some loaded) P x here all = all x here

-- ---- a whole round of a policy's choice
rows_are : (s : State) (logs : List ℕ) → logs_of (map (row_of s) logs) ≡ logs
rows_are s [] = refl
rows_are s (l ∷ ls) = ap (λ (rest : List ℕ). l ∷ rest) (rows_are s ls)

-- a round that was made wasn't barred
may_begin : (m : Moment) (idle spent : Bool) → is_idle m.phase ≡ idle → is_spent m.core ≡ spent → ((why : Refused) → unselectable m ≡ Some why → ⊥) → (is_idle m.phase ≡ true) × (is_spent m.core ≡ false)
may_begin m true false idle spent free = (idle, spent)
may_begin m true true idle spent free = absurd (free refused.EpochsSpent (ap (λ b. cond b (cond (is_spent m.core) (Some refused.EpochsSpent) None) (Some refused.Phase)) idle ∙ ap (λ b. cond b (Some refused.EpochsSpent) None) spent))
may_begin m false spent idle is free = absurd (free refused.Phase (ap (λ b. cond b (cond (is_spent m.core) (Some refused.EpochsSpent) None) (Some refused.Phase)) idle))

pub made_round_keeps : (m t : Moment) (logs : List ℕ) (most turns : ℕ) (end : RoundEnd) → Law m.core → MomentLaw m → m.copying ≡ false → ((why : Refused) → unselectable m ≡ Some why → ⊥) →
    IsChoice (map (row_of m.core) m.order) most logs → IsRound m logs turns end t → RoundKeepsObjects → KeepsObjects m.core t.core
made_round_keeps m t logs most turns end law moment alone free choice round keeps =
    let begins = may_begin m (is_idle m.phase) (is_spent m.core) refl refl free in
    keeps m logs turns end t law moment alone begins.0 begins.1 choice.once (λ l h. subst (λ ls. is_among ls l ≡ true) (rows_are m.core m.order) (choice.of_rows l h)) round
