-- What a device holds stays by a command of a mutator that is given no other words: each object that it is to hold afterwards it was to hold before, and its bytes are the same.
use Rattle.std.proofs.Common.{◌≡◌, ◌≢◌, ℕ, ◌/◌, ◌<◌, Bool, true, false, not, nat_lt, arith, cond, sym, refl, ap, subst, ◌∙◌, is_some, Option, Some, None, List, [], ◌∷◌, replicate, inl, inr}
use Rattle.std.specs.Bool.{MatchBool}
use Rattle.std.proofs.lemmas.Bool.{cases_eq, false≢true, ltb-true}
use Rattle.far_word.specs.declared.pointer.PtrWord.{PtrWord}
use Rattle.far_word.specs.declared.pointer.PtrWord.TheVariants.{Free, Near, Far}
use Rattle.far_word.specs.declared.refused.Refused.{Refused as Refusal}
use Rattle.far_word.specs.declared.refused.Refused.TheVariants.{NoRoom, NoPointer, Length, Closed, AlreadyOpen, NotHeld, Range, Held, Device, Damaged, Marked}
use Rattle.far_word.specs.declared.sizes.TheConstants.{CELLS}
use Rattle.far_word.specs.Pointer.{read_of}
use Rattle.far_book.specs.book.FarSide.{kept_len}
use Rattle.far_events.specs.state.Law.{Law, is_dirty}
use Rattle.far_events.specs.state.State.{State, put}
use Rattle.far_core.specs.world.WorldOf.{object_of, world_of}
use Rattle.far_events.proofs.Cells.{unused}
use Rattle.far_events.proofs.Put.{put_other, put_same}
use Rattle.far_text.specs.Command.{Command, New, Open, On, Use, Reads, Writes, Views, Close, Where, Drop, Try, Epoch, Mutator, Book, Evacuator}
use Rattle.far_text.specs.Written.{WritesBytes}
use Rattle.far_reply.specs.Reply.{Reply, Done, Pointer, Data, Lies, EpochRead, Refused}
use Rattle.far_replay.specs.Alone.{Knows, is_by, speaker}
use Rattle.far_alone.specs.Own.{Own, bytes_in_world, own_of}
use Rattle.far_replay.specs.Answers.{CommandedBy, IsMoment, Outside, Serves, Refuses, Gives, Lacks, Served}
use Rattle.far_alone.specs.Effects.{without_object}
use Rattle.far_replay.specs.Events.{IsNoStep}
use Rattle.far_replay.specs.Far.{FarBytes, HoldsBy}
use Rattle.far_replay.specs.Moment.{Moment}
use Rattle.far_alone.specs.Objects.{uses, with_range}
use Rattle.far_replay.specs.Turn.{first_cause, refusal, refused_effect, turn_effect, unless}
use Rattle.far_alone.proofs.AloneStates.{object_used}
use Rattle.far_alone.proofs.Drops.{drop_is, unheld_is}
use Rattle.far_replay.proofs.Lasting.{moment_lasts, next_is_moment}
use Rattle.far_replay_laws.specs.LeftBeside.{LeavesBeside}
use Rattle.far_replay_laws.specs.LeftMarks.{GainsDirty, GainsForRoom, GainsHot, LeavesHot, LeavesMarks, LeavesWritten, OthersStay, RefusedLeaves, TryLeaves}
use Rattle.far_replay_laws.specs.Lying.{KeepsHeld, bytes_in}
use Rattle.far_replay_laws.proofs.AloneLaw.{GivesNone, next_mutators, taught_by}
use Rattle.far_replay_laws.proofs.GivenBytes.{own_object}
use Rattle.far_replay_laws.proofs.LeavingMarks.{commands_leave}
use Rattle.far_replay_laws.proofs.LeftBeside.{commands_beside}

-- ---- what its mutator knows of the other objects
-- the object isn't the one that a command made, wrote or dropped; a drop is done or refused
abbrev pub Untouched : Command → Reply → ℕ → Type 0
Untouched (Mutator m (New len ds)) (Pointer p) x = x ≢ p
Untouched (Mutator m (On p (Writes from bytes))) Done x = x ≢ p
Untouched (Mutator m (Drop p)) Done x = x ≢ p
Untouched (Mutator m (Drop p)) (Refused why) x = Unit {0}
Untouched (Mutator m (Drop p)) r x = ⊥
Untouched c r x = Unit {0}

pub knows_objects : (m : ℕ) (o q : Own) (c : Command) (r : Reply) → Knows m o c r q → (x : ℕ) → Untouched c r x → q.object x ≡ o.object x
knows_objects m o q (Mutator k (New len ds)) (Pointer p) h x ne = ap (λ (y : Own). y.object x) h.5 ∙ put_other o.object p (Some (replicate len 0)) x ne
knows_objects m o q (Mutator k (New len ds)) (Refused Range) h x ne = ap (λ (y : Own). y.object x) h.1
knows_objects m o q (Mutator k (New len ds)) (Refused Length) h x ne = ap (λ (y : Own). y.object x) h.2
knows_objects m o q (Mutator k (New len ds)) (Refused NoPointer) h x ne = ap (λ (y : Own). y.object x) h.4
knows_objects m o q (Mutator k (New len ds)) (Refused NoRoom) h x ne = ap (λ (y : Own). y.object x) h.4
knows_objects m o q (Mutator k Open) Done h x ne = ap (λ (y : Own). y.object x) h.1
knows_objects m o q (Mutator k Open) (Refused AlreadyOpen) h x ne = ap (λ (y : Own). y.object x) h.1
knows_objects m o q (Mutator k Close) Done h x ne = ap (λ (y : Own). y.object x) h.1
knows_objects m o q (Mutator k Close) (Refused Closed) h x ne = ap (λ (y : Own). y.object x) h.1
knows_objects m o q (Mutator k (On p how)) (Refused Closed) h x ne = ap (λ (y : Own). y.object x) h.1
knows_objects m o q (Mutator k (On p how)) (Refused NotHeld) h x ne = ap (λ (y : Own). y.object x) h.2
knows_objects m o q (Mutator k (On p how)) (Refused Range) h x ne = ap (λ (y : Own). y.object x) h.1
knows_objects m o q (Mutator k (On p how)) (Refused NoRoom) h x ne = ap (λ (y : Own). y.object x) h.2
knows_objects m o q (Mutator k (On p how)) (Refused Device) h x ne = ap (λ (y : Own). y.object x) h.2
knows_objects m o q (Mutator k (On p how)) (Refused Damaged) h x ne = ap (λ (y : Own). y.object x) h.2
knows_objects m o q (Mutator k (On p (Reads from len))) (Data bytes) h x ne = ap (λ (y : Own). y.object x) h.1
knows_objects m o q (Mutator k (On p (Writes from new))) Done (opened, (all, is, inside, then)) x ne = ap (λ (y : Own). y.object x) then ∙ put_other o.object p (Some (with_range all from new)) x ne
knows_objects m o q (Mutator k (On p Views)) Done h x ne = ap (λ (y : Own). y.object x) h.1
knows_objects m o q (Mutator k (Where p)) (Lies home) h x ne = ap (λ (y : Own). y.object x) h.0
knows_objects m o q (Mutator k (Where p)) (Refused NotHeld) h x ne = ap (λ (y : Own). y.object x) h.1
knows_objects m o q (Mutator k (Drop p)) Done h x ne = ap (λ (y : Own). y.object x) h.1 ∙ put_other o.object p None x ne
knows_objects m o q (Mutator k (Drop p)) (Refused NotHeld) h x ne = ap (λ (y : Own). y.object x) h.1
knows_objects m o q (Mutator k (Drop p)) (Refused Held) h x ne = ap (λ (y : Own). y.object x) h.1
knows_objects m o q (Mutator k (Try p)) Done h x ne = ap (λ (y : Own). y.object x) h.1
knows_objects m o q (Mutator k (Try p)) (Refused Closed) h x ne = ap (λ (y : Own). y.object x) h.1
knows_objects m o q (Mutator k (Try p)) (Refused NotHeld) h x ne = ap (λ (y : Own). y.object x) h.2
knows_objects m o q (Mutator k (Try p)) (Refused (Marked word)) h x ne = ap (λ (y : Own). y.object x) h.2
knows_objects m o q (Mutator k Epoch) (EpochRead epoch) h x ne = ap (λ (y : Own). y.object x) h.1
knows_objects m o q (Mutator k Epoch) (Refused AlreadyOpen) h x ne = ap (λ (y : Own). y.object x) h.1
knows_objects m o q _ _ h x ne = absurd h

by_speaker : (b : Bool) (m : ℕ) (o q : Own) (c : Command) (r : Reply) (x : ℕ) → MatchBool b (Knows m o c r q) (q ≡ o) → Untouched c r x → q.object x ≡ o.object x
by_speaker true m o q c r x h apart = knows_objects m o q c r h x apart
by_speaker false m o q c r x h apart = ap (λ (y : Own). y.object x) h

-- ---- marks: what is kept has no DIRTY
abbrev Clean : State → ℕ → Type 0
Clean s p = is_dirty (read_of (s.cell p)) ≡ false

clean_bit : (b : Bool) (n len : ℕ) → cond b None (Some n) ≡ Some len → b ≡ false
clean_bit true n len e = absurd cc
clean_bit false n len e = refl

kept_clean : (o : Option PtrWord) (len : ℕ) → kept_len o ≡ Some len → is_dirty o ≡ false
kept_clean (Some (Near n ds place m)) len e = clean_bit m.dirty n len e
kept_clean (Some (Far n ds m)) len e = refl
kept_clean (Some Free) len e = refl
kept_clean None len e = refl

hot_dirt : (o n : Option PtrWord) → GainsHot o n → is_dirty n ≡ is_dirty o
hot_dirt (Some (Near len ds place m)) n e = ap is_dirty e
hot_dirt (Some (Far len ds m)) n e = ap is_dirty e
hot_dirt _ n e = absurd e

room_dirt : (o n : Option PtrWord) → GainsForRoom o n → is_dirty n ≡ is_dirty o
room_dirt (Some (Near len ds place m)) n e = ap is_dirty e.1
room_dirt (Some (Far len ds m)) n e = ap is_dirty e
room_dirt _ n e = absurd e

gains_dirt : (o n : Option PtrWord) → GainsDirty o n → is_dirty n ≡ true
gains_dirt (Some (Near len ds place m)) n e = ap is_dirty e
gains_dirt _ n e = absurd e

cells_clean : (s t : State) (p : ℕ) → t.cell p ≡ s.cell p → Clean t p → Clean s p
cells_clean s t p e clean = ap (λ w. is_dirty (read_of w)) (sym e) ∙ clean

apart_clean : (s t : State) (q : ℕ) → OthersStay s t q → (Clean t q → Clean s q) → (p : ℕ) → Clean t p → Clean s p
apart_clean s t q others own p clean = elim (cases_eq p q) [
  | inl e ↦ subst (Clean s) (sym e) (own (subst (Clean t) e clean))
  | inr ne ↦ cells_clean s t p (others p ne) clean
]

all_clean : (s t : State) → t.cell ≡ s.cell → (p : ℕ) → Clean t p → Clean s p
all_clean s t e p = cells_clean s t p (ap (λ (f : ℕ → ℕ). f p) e)

gained_clean : (s t : State) (q : ℕ) → GainsHot (read_of (s.cell q)) (read_of (t.cell q)) → OthersStay s t q → (p : ℕ) → Clean t p → Clean s p
gained_clean s t q gains others = apart_clean s t q others (λ clean. sym (hot_dirt (read_of (s.cell q)) (read_of (t.cell q)) gains) ∙ clean)

refused_clean : (s t : State) (q : ℕ) (why : Refusal) → RefusedLeaves s q why t → (p : ℕ) → Clean t p → Clean s p
refused_clean s t q Range h = all_clean s t h
refused_clean s t q Closed h = all_clean s t h
refused_clean s t q NotHeld h = all_clean s t h
refused_clean s t q NoRoom h = apart_clean s t q h.1 (λ clean. sym (room_dirt (read_of (s.cell q)) (read_of (t.cell q)) h.0) ∙ clean)
refused_clean s t q Device h = gained_clean s t q h.0 h.1
refused_clean s t q Damaged h = gained_clean s t q h.0 h.1
refused_clean s t q _ h = absurd h

try_clean : (s t : State) (q : ℕ) (why : Refusal) → TryLeaves s q why t → (p : ℕ) → Clean t p → Clean s p
try_clean s t q Range h = all_clean s t h
try_clean s t q Closed h = all_clean s t h
try_clean s t q NotHeld h = all_clean s t h
try_clean s t q (Marked word) h = gained_clean s t q h.1 h.2
try_clean s t q _ h = absurd h

hot_clean : (s t : State) (q : ℕ) → LeavesHot s t q → (p : ℕ) → Clean t p → Clean s p
hot_clean s t q h = apart_clean s t q h.others (by_view ((world_of s).viewed q) refl) where
  by_view : (b : Bool) → (world_of s).viewed q ≡ b → Clean t q → Clean s q
  by_view true e clean = cells_clean s t q (h.again e) clean
  by_view false e clean = sym (ap is_dirty (h.anew e).3) ∙ clean

written_dirty : (s t : State) (q : ℕ) → LeavesWritten s t q → is_dirty (read_of (t.cell q)) ≡ true
written_dirty s t q h = by_view ((world_of s).viewed q) refl where
  by_view : (b : Bool) → (world_of s).viewed q ≡ b → is_dirty (read_of (t.cell q)) ≡ true
  by_view true e = gains_dirt (read_of (s.cell q)) (read_of (t.cell q)) (h.again e)
  by_view false e = ap is_dirty (h.anew e).3

-- a cell with DIRTY is another
dirty_apart : (s t : State) (q : ℕ) → is_dirty (read_of (t.cell q)) ≡ true → ((x : ℕ) → x ≢ q → t.cell x ≡ s.cell x) → (p : ℕ) → Clean t p → Clean s p × (p ≢ q)
dirty_apart s t q dirty others p clean =
    let ne : p ≢ q = λ e. false≢true (sym clean ∙ ap (λ x. is_dirty (read_of (t.cell x))) e ∙ dirty) in
    (cells_clean s t p (others p ne) clean, ne)

-- ---- a drop
drop_tests : (a b c : Bool) → first_cause ((not a, Range) ∷ (not b, NotHeld) ∷ (c, Held) ∷ []) ≡ None → (a ≡ true) × (b ≡ true) × (c ≡ false)
drop_tests true true false e = (refl, refl, refl)
drop_tests true true true e = absurd cc
drop_tests true false c e = absurd cc
drop_tests false b c e = absurd cc

-- a cell of 0 isn't kept
free_unkept : (w len : ℕ) → kept_len (read_of w) ≡ Some len → w ≢ 0
free_unkept w len kept e = let odd : None ≡ Some len = sym (ap (λ x. kept_len (read_of x)) e ∙ ap kept_len unused) ∙ kept in absurd cc

drop_clean : (now : Moment) (m q : ℕ) (x : Option Refusal) → Law now.core → refusal now (Mutator m (Drop q)) ≡ x → (p len : ℕ) →
    kept_len (read_of ((unless x (refused_effect now (Mutator m (Drop q))) (turn_effect now (Mutator m (Drop q)))).core.cell p)) ≡ Some len →
    Clean now.core p × Untouched (Mutator m (Drop q)) (unless x Refused Done) p
drop_clean now m q (Some why) law e p len kept = (kept_clean (read_of (now.core.cell p)) len kept, tt)
drop_clean now m q None law e p len kept =
    let s : State = now.core in
    let tests = drop_tests (nat_lt m s.mutators) (uses s m q) (is_some (s.held q)) e in
    let is : (without_object s m q).cell p ≡ put s.cell q 0 p = ap (λ (t : State). t.cell p) (drop_is s m q law (ltb-true m s.mutators tests.0) tests.1 (unheld_is (s.held q) tests.2)) in
    let ne : p ≢ q = λ same. free_unkept ((without_object s m q).cell p) len kept (is ∙ put_same s.cell q 0 p same) in
    (ap (λ w. is_dirty (read_of w)) (sym (is ∙ put_other s.cell q 0 p ne)) ∙ kept_clean (read_of ((without_object s m q).cell p)) len kept, ne)

drop_served : (o : Outside) (now : Moment) (m q : ℕ) (r : Reply) (after : Moment) → CommandedBy o now (Mutator m (Drop q)) r after → Served now (Mutator m (Drop q)) r after
drop_served Serves now m q r after h = h
drop_served (Refuses why turns objects) now m q r after h = absurd h
drop_served (Lacks turns objects) now m q r after h = absurd h
drop_served (Gives row inverts) now m q r after h = absurd h

dropped_clean : (now : Moment) (m q : ℕ) (r : Reply) (after : Moment) → Law now.core → Served now (Mutator m (Drop q)) r after → (p len : ℕ) → kept_len (read_of (after.core.cell p)) ≡ Some len →
    Clean now.core p × Untouched (Mutator m (Drop q)) r p
dropped_clean now m q r after law h p len kept =
    subst (λ y. Clean now.core p × Untouched (Mutator m (Drop q)) y p) (sym h.reply)
    (drop_clean now m q (refusal now (Mutator m (Drop q))) law refl p len (ap (λ (x : Moment). kept_len (read_of (x.core.cell p))) (sym h.moment) ∙ kept))

-- ---- each command: what is kept after it had no DIRTY before, and isn't what it made, wrote or dropped
moments_clean : (now after : Moment) (p : ℕ) → after ≡ now → Clean after.core p → Clean now.core p
moments_clean now after p e clean = ap (λ (x : Moment). is_dirty (read_of (x.core.cell p))) (sym e) ∙ clean

new_clean : (now : Moment) (m len ds : ℕ) (r : Reply) (after : Moment) (p : ℕ) → LeavesBeside now (Mutator m (New len ds)) r after → Clean after.core p → Clean now.core p × Untouched (Mutator m (New len ds)) r p
new_clean now m len ds (Pointer q) after p (others, (place, is)) clean = dirty_apart now.core after.core q (ap is_dirty is) others.cells p clean
new_clean now m len ds (Refused why) after p h clean = (moments_clean now after p h clean, tt)
new_clean now m len ds _ after p h clean = absurd h

use_clean : (s t : State) (m q : ℕ) (how : Use) (r : Reply) (p : ℕ) → LeavesMarks s (Mutator m (On q how)) r t → Clean t p → Clean s p × Untouched (Mutator m (On q how)) r p
use_clean s t m q (Writes from bytes) Done p h clean = dirty_apart s t q (written_dirty s t q h) h.others p clean
use_clean s t m q (Reads from len) (Data bytes) p h clean = (hot_clean s t q h p clean, tt)
use_clean s t m q Views Done p h clean = (hot_clean s t q h p clean, tt)
use_clean s t m q how (Refused why) p h clean = (refused_clean s t q why h p clean, tt)
use_clean s t m q _ _ p h clean = absurd h

tried_clean : (s t : State) (m q : ℕ) (r : Reply) (p : ℕ) → LeavesMarks s (Mutator m (Try q)) r t → Clean t p → Clean s p
tried_clean s t m q Done p h clean = hot_clean s t q h p clean
tried_clean s t m q (Refused why) p h clean = try_clean s t q why h p clean
tried_clean s t m q _ p h clean = absurd h

module _ (o : Outside) (now : Moment) (r : Reply) (after : Moment) (is : IsMoment now) (p len : ℕ) (kept : kept_len (read_of (after.core.cell p)) ≡ Some len) where
  clean : Clean after.core p
  clean = kept_clean (read_of (after.core.cell p)) len kept

  marks : (c : Command) → CommandedBy o now c r after → LeavesMarks now.core c r after.core
  marks c h = commands_leave now c r after is (o, h)

  beside : (c : Command) → CommandedBy o now c r after → LeavesBeside now c r after
  beside c h = commands_beside now c r after is (o, h)

  clean_before : (c : Command) → IsNoStep c → CommandedBy o now c r after → Clean now.core p × Untouched c r p
  clean_before (Mutator m (New n ds)) told h = new_clean now m n ds r after p (beside (Mutator m (New n ds)) h) clean
  clean_before (Mutator m Open) told h = (cells_clean now.core after.core p ((beside (Mutator m Open) h).cells p) clean, tt)
  clean_before (Mutator m (On q how)) told h = use_clean now.core after.core m q how r p (marks (Mutator m (On q how)) h) clean
  clean_before (Mutator m Close) told h = (cells_clean now.core after.core p ((beside (Mutator m Close) h).cells p) clean, tt)
  clean_before (Mutator m (Where q)) told h = (moments_clean now after p (beside (Mutator m (Where q)) h) clean, tt)
  clean_before (Mutator m (Drop q)) told h = dropped_clean now m q r after (moment_lasts now is).law (drop_served o now m q r after h) p len kept
  clean_before (Mutator m (Try q)) told h = (tried_clean now.core after.core m q r p (marks (Mutator m (Try q)) h) clean, tt)
  clean_before (Mutator m Epoch) told h = (cells_clean now.core after.core p ((beside (Mutator m Epoch) h).cells p) clean, tt)
  clean_before (Book inquiry) told h = (moments_clean now after p (beside (Book inquiry) h) clean, tt)
  clean_before (Evacuator step) told h = absurd told

-- ---- an object without DIRTY is kept
object_kept : (word stored : ℕ → ℕ) (p : ℕ) (o : Option PtrWord) (all : List ℕ) → bytes_in_world (object_of word stored p o) ≡ Some all → is_dirty o ≡ false → (len : ℕ) × (kept_len o ≡ Some len)
object_kept word stored p (Some (Near len ds place m)) all has clean = (len, ap (λ b. cond b None (Some len)) clean)
object_kept word stored p (Some (Far len ds m)) all has clean = (len, refl)
object_kept word stored p (Some Free) all has clean = absurd cc
object_kept word stored p None all has clean = absurd cc

world_kept : (s : State) (p : ℕ) (all : List ℕ) → bytes_in_world ((world_of s).object p) ≡ Some all → Clean s p → (len : ℕ) × (kept_len (read_of (s.cell p)) ≡ Some len)
unfolding world_of
world_kept s p all has clean = object_kept s.word (s.stored p) p (read_of (s.cell p)) all has clean

-- ---- what the device holds
holds_key : (c : Command) (r : Reply) (s t : State) (held later : FarBytes) → IsNoStep c → HoldsBy c s t held later → (p len : ℕ) → kept_len (read_of (t.cell p)) ≡ Some len → later p ≡ held p
holds_key (Mutator m (Drop q)) r s t held later told h p n kept = h p n kept
holds_key (Evacuator step) r s t held later told h p n kept = absurd told
holds_key c r s t held later told h p n kept = h p

-- ---- all together
pub kept_beside : (o : Outside) → GivesNone o → (now : Moment) (c : Command) (r : Reply) (after : Moment) (held later : FarBytes) → IsMoment now → WritesBytes c → IsNoStep c → CommandedBy o now c r after →
    HoldsBy c now.core after.core held later → KeepsHeld now held after later
kept_beside o none now c r after held later is bytes told h holds p (len, kept) =
    let lasts = moment_lasts now is in
    let next = moment_lasts after (next_is_moment now c r after is bytes (o, h)) in
    let before = clean_before o now r after is p len kept c told h in
    let taken : after.core.cell p ≢ 0 = free_unkept (after.core.cell p) len kept in
    let there = object_used after.core next.law p (next.between.named p taken) in
    let mutators : after.core.mutators ≡ now.core.mutators = next_mutators now c r after lasts bytes (o, h) in
    let within : p / CELLS < now.core.mutators = omega (arith, next.law.cells.cell_range p taken, mutators) in
    let same : bytes_in after p ≡ bytes_in now p =
    sym (own_object (world_of after.core) p)
    ∙ by_speaker (is_by (p / CELLS) (speaker c)) (p / CELLS) (own_of (world_of now.core) (p / CELLS)) (own_of (world_of after.core) (p / CELLS)) c r p (taught_by o none now (p / CELLS) c r after lasts within bytes h) before.1
    ∙ own_object (world_of now.core) p in
    inl (holds_key c r now.core after.core held later told holds p len kept, world_kept now.core p there.object.bytes (sym same ∙ ap bytes_in_world there.there) before.0, same)
