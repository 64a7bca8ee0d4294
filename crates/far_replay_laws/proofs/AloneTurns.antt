-- What each command's reply tells its mutator, and that it changes nothing of what others know.
use Rattle.std.proofs.Common.{◌≡◌, ◌≢◌, ℕ, ◌+◌, ◌/◌, ◌<◌, ◌≤◌, Bool, true, false, cond, nat_eq, nat_lt, arith, sym, refl, ap, subst, ◌∙◌, Option, Some, None, List, [], ◌∷◌, length}
use Rattle.std.specs.Prelude.{not, ◌⊎◌, ◌&&◌, is_some}
use Rattle.std.proofs.lemmas.Bool.{and_parts, cond_both, eqb-true, eq-eqb, false≢true, ltb-true, not-true, not-false}
use Rattle.far_word.specs.declared.refused.Refused.{Refused as Refusal}
use Rattle.far_word.specs.declared.refused.Refused.TheVariants.{NoRoom, Closed, AlreadyOpen, NotHeld, Range, Held, Marked}
use Rattle.far_word.specs.declared.pointer.Place.{Place}
use Rattle.far_word.specs.declared.pointer.PtrWord.TheVariants.{Near, Far}
use Rattle.far_word.specs.declared.sizes.TheConstants.{CELLS}
use Rattle.far_word.specs.Pointer.{read_of}
use Rattle.far_word.specs.declared.pointer.PtrWord.{PtrWord}
use Rattle.far_book.specs.book.Home.{home_of}
use Rattle.far_events.specs.declared.event.Event.{Event}
use Rattle.far_events.specs.declared.event.Event.TheVariants.{ReadEpoch as ReadsEpoch, Open as Opens, Close as Closes}
use Rattle.far_events.specs.state.Law.{Law, held_place, in_use}
use Rattle.far_events.specs.state.State.{State, put}
use Rattle.far_core.proofs.events.Soil.{soil_stays}
use Rattle.far_events.specs.events.Soil.{after_soil}
use Rattle.far_events.specs.events.Step.{is_opened, step_of}
use Rattle.far_core.specs.world.World.{World, Object}
use Rattle.far_core.specs.world.WorldOf.{world_of}
use Rattle.far_core.specs.world.Steps.{with_bytes}
use Rattle.far_replay.specs.Moment.{moment_of}
use Rattle.far_text.specs.Written.{WritesBytes}
use Rattle.far_replay.specs.Alone.{Knows, IsOut, IsIn}
use Rattle.far_alone.specs.Own.{Own, own_of, bytes_in_world}
use Rattle.far_alone.specs.Between.{Between}
use Rattle.far_text.specs.Command.{Command, Open, On, Use, Reads, Writes, Views, Close, Where, Drop, Try, Epoch, Mutator}
use Rattle.far_events.specs.events.Ranges.{after_events}
use Rattle.far_alone.specs.EventRows.{AllSucceed}
use Rattle.far_reply.specs.Reply.{Reply, Done, Refused}
use Rattle.far_replay.specs.Events.{turn_events, refused_events}
use Rattle.far_alone.specs.Events.{open_events, view_events, sought_events, store_events, first_word, words_touched}
use Rattle.far_alone.specs.Objects.{uses, object_len, data_of, with_range, is_range}
use Rattle.far_replay.specs.Turn.{refusal, first_cause, unless, turn_reply, home_reply}
use Rattle.far_replay_laws.specs.Headline.{ViewsNothing}
use Rattle.far_replay_laws.proofs.AloneViews.{views_still, views_mine, views_others, views_gone, views_left}
use Rattle.far_replay_laws.proofs.ViewLaws.{close_views, opens, reads, row_stays}
use Rattle.far_alone.specs.Dereference.{comes_to, dereferenced, has_no_room, sought}
use Rattle.far_alone.specs.Effects.{is_slow, with_data, with_view, without_object}
use Rattle.far_alone.proofs.AloneBytes.{over_with_range}
use Rattle.far_alone.proofs.Drops.{drop_ends, drop_is, drop_world, own_gone, own_left, unheld_is}
use Rattle.far_replay.proofs.Dereferences.{Derefs, derefs, sought_bytes, sought_held, sought_leads, view_bytes, view_views}
use Rattle.far_alone.proofs.Leading.{Leads}
use Rattle.far_replay.proofs.Turns.{led, read_leads, stores_lead, write_leads}
use Rattle.far_replay.proofs.Ways.{Access}
use Rattle.far_alone.proofs.Views.{fast_seen, slow_parts, slow_view, view_is}
use Rattle.far_alone.proofs.Soiling.{soil_law}
use Rattle.far_alone.proofs.Spliced.{AreBytes, packed_wide, with_range_bytes}
use Rattle.far_alone.proofs.AloneRuns.{views_of, SameBytes, bytes_same, Scoped, own_same, own_other, own_here, own_scope, own_scope_other, quiet_run, over_all, stores_run, open_step, close_step}
use Rattle.far_alone.proofs.AloneStates.{not_outside, open_world, shut_world, range_in, range_out, object_viewed, own_used, own_unused, length-data, data_small}

-- the reply tells the mutator what it says, and no other mutator learns anything
abbrev pub Teaches : State → ℕ → Command → Reply → State → Type 0
Teaches s k c r t = (k < s.mutators → Knows k (own_of (world_of s) k) c r (own_of (world_of t) k)) × ((m : ℕ) → k ≢ m → own_of (world_of t) m ≡ own_of (world_of s) m)

-- so it is with the command turned down for this cause, or with none
abbrev pub Turns : State → ℕ → Command → Option Refusal → Type 0
Turns s k c o = AllSucceed s (unless o (refused_events (moment_of s) c) (turn_events (moment_of s) c)) → Teaches s k c (unless o Refused (turn_reply (moment_of s) c)) (after_events s (unless o (refused_events (moment_of s) c) (turn_events (moment_of s) c)))

-- ---- which cause comes first
pub two_causes : (P : Option Refusal → Type 0) (a b : Bool) (x y : Refusal) → (a ≡ true → P (Some x)) → (a ≡ false → b ≡ true → P (Some y)) → (a ≡ false → b ≡ false → P None) →
    P (first_cause ((a, x) ∷ (b, y) ∷ []))
two_causes P a b x y h k l = cond_both a (Some x) (first_cause ((b, y) ∷ [])) P h (λ first. cond_both b (Some y) None P (k first) (l first))

pub three_causes : (P : Option Refusal → Type 0) (a b c : Bool) (x y z : Refusal) → (a ≡ true → P (Some x)) → (a ≡ false → b ≡ true → P (Some y)) → (a ≡ false → b ≡ false → c ≡ true → P (Some z)) →
    (a ≡ false → b ≡ false → c ≡ false → P None) → P (first_cause ((a, x) ∷ (b, y) ∷ (c, z) ∷ []))
three_causes P a b c x y z h k l m = cond_both a (Some x) (first_cause ((b, y) ∷ (c, z) ∷ [])) P h (λ first. two_causes P b c y z (k first) (l first) (m first))

pub four_causes : (P : Option Refusal → Type 0) (a b c d : Bool) (x y z w : Refusal) → (a ≡ true → P (Some x)) → (a ≡ false → b ≡ true → P (Some y)) →
    (a ≡ false → b ≡ false → c ≡ true → P (Some z)) → (a ≡ false → b ≡ false → c ≡ false → d ≡ true → P (Some w)) → (a ≡ false → b ≡ false → c ≡ false → d ≡ false → P None) →
    P (first_cause ((a, x) ∷ (b, y) ∷ (c, z) ∷ (d, w) ∷ []))
four_causes P a b c d x y z w h k l m n = cond_both a (Some x) (first_cause ((b, y) ∷ (c, z) ∷ (d, w) ∷ [])) P h (λ first. three_causes P b c d y z w (k first) (l first) (m first) (n first))

pub five_causes : (P : Option Refusal → Type 0) (a b c d e : Bool) (x y z w v : Refusal) → (a ≡ true → P (Some x)) → (a ≡ false → b ≡ true → P (Some y)) →
    (a ≡ false → b ≡ false → c ≡ true → P (Some z)) → (a ≡ false → b ≡ false → c ≡ false → d ≡ true → P (Some w)) → (a ≡ false → b ≡ false → c ≡ false → d ≡ false → e ≡ true → P (Some v)) →
    (a ≡ false → b ≡ false → c ≡ false → d ≡ false → e ≡ false → P None) → P (first_cause ((a, x) ∷ (b, y) ∷ (c, z) ∷ (d, w) ∷ (e, v) ∷ []))
five_causes P a b c d e x y z w v h k l m n o = cond_both a (Some x) (first_cause ((b, y) ∷ (c, z) ∷ (d, w) ∷ (e, v) ∷ [])) P h (λ first. four_causes P b c d e y z w v (k first) (l first) (m first) (n first) (o first))

-- ---- scopes
open_run : (s : State) (k : ℕ) → Law s → AllSucceed s (open_events s k) → Scoped (world_of s) (world_of (after_events s (open_events s k))) k true
open_run s k law = cond_both (is_some (s.remembered k)) (Opens k ∷ []) (ReadsEpoch k ∷ Opens k ∷ []) (λ es. AllSucceed s es → Scoped (world_of s) (world_of (after_events s es)) k true)
    (λ _ ok. open_step s k law ok.0)
    (λ _ ok. let first = quiet_run s (ReadsEpoch k ∷ []) law (tt, tt) in
    let next = open_step (after_events s (ReadsEpoch k ∷ [])) k first.1 ok.1.0 in
    (next.0 ∙ first.0.0, next.1 ∙ ap (λ (f : ℕ → Bool). put f k true) first.0.1))

pub turns_open : (s : State) (k : ℕ) → Law s → Turns s k (Mutator k Open) (refusal (moment_of s) (Mutator k Open))
turns_open s k law = two_causes (Turns s k (Mutator k Open)) (not (nat_lt k s.mutators)) (is_opened s k) Range AlreadyOpen
    (λ off _. (λ within. absurd (not_outside k s.mutators within off), λ m ne. refl))
    (λ _ opened _. (λ within. (open_world s k opened, refl), λ m ne. refl))
    (λ _ shut ok. let run = open_run s k law ok in
    let u : State = after_events s (open_events s k) in
    let same : u.held ≡ s.held = row_stays s (open_events s k) (opens s k) in (
      λ within. (shut_world s k within shut, own_scope (world_of s) (world_of u) k true (views_of (world_of s) k) run.0 run.1 (views_still s u k same)),
      λ m ne. own_scope_other (world_of s) (world_of u) m k true run.0 run.1 ne (views_still s u m same),
    ))

pub turns_epoch : (s : State) (k : ℕ) → Law s → Turns s k (Mutator k Epoch) (refusal (moment_of s) (Mutator k Epoch))
turns_epoch s k law = two_causes (Turns s k (Mutator k Epoch)) (not (nat_lt k s.mutators)) (is_opened s k) Range AlreadyOpen
    (λ off _. (λ within. absurd (not_outside k s.mutators within off), λ m ne. refl))
    (λ _ opened _. (λ within. (open_world s k opened, refl), λ m ne. refl))
    (λ _ shut ok. let u : State = after_events s (ReadsEpoch k ∷ []) in
    let bytes = bytes_same (world_of s) (world_of u) (quiet_run s (ReadsEpoch k ∷ []) law (tt, tt)).0 in
    let same : u.held ≡ s.held = row_stays s (ReadsEpoch k ∷ []) (reads k) in (
      λ within. (shut_world s k within shut, own_same (world_of s) (world_of u) k (views_of (world_of s) k) bytes (views_still s u k same)),
      λ m ne. own_same (world_of s) (world_of u) m (views_of (world_of s) m) bytes (views_still s u m same),
    ))

pub turns_close : (s : State) (k : ℕ) → Law s → Turns s k (Mutator k Close) (refusal (moment_of s) (Mutator k Close))
turns_close s k law = two_causes (Turns s k (Mutator k Close)) (not (nat_lt k s.mutators)) (not (is_opened s k)) Range Closed
    (λ off _. (λ within. absurd (not_outside k s.mutators within off), λ m ne. refl))
    (λ _ shut _. (λ within. (shut_world s k within (not-true (is_opened s k) shut), refl), λ m ne. refl))
    (λ _ opened ok. let run = close_step s k law ok.0 in
    let u : State = (step_of s (Closes k)).0 in
    let gone : ViewsNothing s u k = close_views s k ok.0 in (
      λ within. (open_world s k (not-false (is_opened s k) opened), own_scope (world_of s) (world_of u) k false (λ _. false) run.0 run.1 (views_gone s u k gone)),
      λ m ne. own_scope_other (world_of s) (world_of u) m k false run.0 run.1 ne (views_left s u k m gone ne),
    ))

-- ---- dereferences
uses_owner : (s : State) (k p : ℕ) → uses s k p ≡ true → p / CELLS ≡ k
uses_owner s k p h = eqb-true (p / CELLS) k (and_parts (nat_eq (p / CELLS) k) (s.used p) h).0

-- what the mutator knows of a view
viewed_is_held : (s : State) (k p : ℕ) (b : Bool) → p / CELLS ≡ k → is_some (s.held p) ≡ b → (own_of (world_of s) k).viewed p ≡ b
unfolding world_of
viewed_is_held s k p b own e = ap (λ x. x && is_some (s.held p)) (eq-eqb (p / CELLS) k own) ∙ e

-- an object whose pin gives no view isn't viewed
unviewed : (s : State) (k p : ℕ) → uses s k p ≡ true → is_slow s p ≡ true → (own_of (world_of s) k).viewed p ≡ false
unviewed s k p used slow = viewed_is_held s k p false (uses_owner s k p used) (slow_parts s p slow).0

-- a range is in an object's bytes, or out of them
out_of : (all : List ℕ) (n from count : ℕ) → length all ≡ n → not (is_range n from count) ≡ true → IsOut all from count
out_of all n from count e h = subst (λ x. (count ≡ 0) ⊎ (x < from + count)) (sym e) (range_out n from count h)

in_of : (all : List ℕ) (n from count : ℕ) → length all ≡ n → not (is_range n from count) ≡ false → IsIn all from count
in_of all n from count e h = subst (λ x. (0 < count) × (from + count ≤ x)) (sym e) (range_in n from count h)

-- where all bytes, scopes and views stay, each mutator knows what it knew
nothing_new : (s t : State) (m : ℕ) → SameBytes (world_of s) (world_of t) → t.held ≡ s.held → own_of (world_of t) m ≡ own_of (world_of s) m
nothing_new s t m bytes held = own_same (world_of s) (world_of t) m (views_of (world_of s) m) bytes (views_still s t m held)

-- an object that finds no place
module _ (s : State) (k p : ℕ) (law : Law s) (opened : is_opened s k ≡ true) (used : uses s k p ≡ true) (full : has_no_room s k p ≡ true) where
  slow_then : is_slow s p ≡ true
  slow_then = (and_parts (is_slow s p) (not (is_some (comes_to (sought s k p) p))) full).0

  pub none_learns : (m : ℕ) → own_of (world_of (after_events s (sought_events s k p))) m ≡ own_of (world_of s) m
  none_learns m = ap (λ (t : State). own_of (world_of t) m) (sought_leads s k p law opened used slow_then).ends
      ∙ nothing_new s (sought s k p) m (sought_bytes s k p law opened used slow_then) (sought_held s k p law opened used slow_then)

  pub none_viewed : (own_of (world_of s) k).viewed p ≡ false
  none_viewed = unviewed s k p used slow_then

-- an object that is dereferenced
module _ (s : State) (k p : ℕ) (used : uses s k p ≡ true) (led : Derefs s k p) where
  abbrev there : State
  there = dereferenced s k p

  pub knows_view : own_of (world_of there) k ≡ record (own_of (world_of s) k) { viewed = put (views_of (world_of s) k) p true }
  knows_view = own_same (world_of s) (world_of there) k (put (views_of (world_of s) k) p true) led.bytes (views_mine s there k p led.views (uses_owner s k p used))

  pub others_know : (m : ℕ) → k ≢ m → own_of (world_of there) m ≡ own_of (world_of s) m
  others_know m ne = own_same (world_of s) (world_of there) m (views_of (world_of s) m) led.bytes (views_others s there k m p led.views (uses_owner s k p used) ne)

  -- the object that is viewed, with its bytes
  pub object_there : (o : Object) × ((world_of there).object p ≡ Some o) × (o.bytes ≡ data_of there p)
  object_there = object_viewed there led.law p led.view.place led.view.holds.rests

  -- they are those that it had
  pub knows_bytes : (own_of (world_of s) k).object p ≡ Some (data_of there p)
  knows_bytes = ap (λ b. cond b (bytes_in_world ((world_of s).object p)) None) (eq-eqb (p / CELLS) k (uses_owner s k p used))
      ∙ sym (led.bytes.0 p) ∙ ap bytes_in_world object_there.1 ∙ ap Some object_there.2

  pub knows_long : length (data_of there p) ≡ object_len s p
  knows_long = length-data there p ∙ led.long

-- ---- reads
turns_read : (s : State) (k p from len : ℕ) → Law s → Between s → Turns s k (Mutator k (On p (Reads from len))) (refusal (moment_of s) (Mutator k (On p (Reads from len))))
turns_read s k p from len law between =
    five_causes (Turns s k (Mutator k (On p (Reads from len)))) (not (nat_lt k s.mutators)) (not (is_opened s k)) (not (uses s k p)) (not (is_range (object_len s p) from len)) (has_no_room s k p) Range Closed NotHeld Range NoRoom
    (λ off _. (λ within. absurd (not_outside k s.mutators within off), λ m ne. refl))
    (λ _ shut _. (λ within. (shut_world s k within (not-true (is_opened s k) shut), refl), λ m ne. refl))
    (λ _ opened unused _. (λ within. (open_world s k (not-false (is_opened s k) opened), own_unused s between.named k p (not-true (uses s k p) unused), refl), λ m ne. refl))
    (λ _ opened used out _. let x = own_used s law k p (not-false (uses s k p) used) in
    (λ within. (open_world s k (not-false (is_opened s k) opened), refl, (x.0, x.1, out_of x.0 (object_len s p) from len x.2 out)), λ m ne. refl))
    (λ _ opened used inside full _.
    let ours = not-false (uses s k p) used in
    let open_now = not-false (is_opened s k) opened in
    let x = own_used s law k p ours in (
      λ within. (open_world s k open_now, none_viewed s k p law open_now ours full, none_learns s k p law open_now ours full k, (x.0, x.1, in_of x.0 (object_len s p) from len x.2 inside)),
      λ m ne. none_learns s k p law open_now ours full m,
    ))
    (λ _ opened used inside room _.
    let ours = not-false (uses s k p) used in
    let open_now = not-false (is_opened s k) opened in
    let range = range_in (object_len s p) from len inside in
    let access : Access s k p from len = record { opened = open_now; ours = ours; some = range.0; within = range.1; room = room } in
    let d = derefs s k p law open_now ours room in
    subst (λ (t : State). Teaches s k (Mutator k (On p (Reads from len))) (turn_reply (moment_of s) (Mutator k (On p (Reads from len)))) t) (sym (read_leads s k p from len law access).ends) (
      λ within. (
        open_world s k open_now,
        knows_view s k p ours d,
        (data_of (dereferenced s k p) p, knows_bytes s k p ours d, in_of (data_of (dereferenced s k p) p) (object_len s p) from len (knows_long s k p ours d) inside, refl),
      ),
      λ m ne. others_know s k p ours d m ne,
    ))

-- ---- views
turns_view : (s : State) (k p : ℕ) → Law s → Between s → Turns s k (Mutator k (On p Views)) (refusal (moment_of s) (Mutator k (On p Views)))
turns_view s k p law between = four_causes (Turns s k (Mutator k (On p Views))) (not (nat_lt k s.mutators)) (not (is_opened s k)) (not (uses s k p)) (has_no_room s k p) Range Closed NotHeld NoRoom
    (λ off _. (λ within. absurd (not_outside k s.mutators within off), λ m ne. refl))
    (λ _ shut _. (λ within. (shut_world s k within (not-true (is_opened s k) shut), refl), λ m ne. refl))
    (λ _ opened unused _. (λ within. (open_world s k (not-false (is_opened s k) opened), own_unused s between.named k p (not-true (uses s k p) unused), refl), λ m ne. refl))
    (λ _ opened used full _.
    let ours = not-false (uses s k p) used in
    let open_now = not-false (is_opened s k) opened in
    let x = own_used s law k p ours in (
      λ within. (open_world s k open_now, none_viewed s k p law open_now ours full, none_learns s k p law open_now ours full k, (x.0, x.1, tt)),
      λ m ne. none_learns s k p law open_now ours full m,
    ))
    (λ _ opened used room _.
    let ours = not-false (uses s k p) used in
    let open_now = not-false (is_opened s k) opened in
    let d = derefs s k p law open_now ours room in
    subst (λ (t : State). Teaches s k (Mutator k (On p Views)) Done t) (sym d.leads.ends) (
      λ within. (open_world s k open_now, knows_view s k p ours d, (data_of (dereferenced s k p) p, knows_bytes s k p ours d)),
      λ m ne. others_know s k p ours d m ne,
    ))

-- ---- tries
pub turns_try : (s : State) (k p : ℕ) → Law s → Between s → Turns s k (Mutator k (Try p)) (refusal (moment_of s) (Mutator k (Try p)))
turns_try s k p law between = four_causes (Turns s k (Mutator k (Try p))) (not (nat_lt k s.mutators)) (not (is_opened s k)) (not (uses s k p)) (is_slow s p) Range Closed NotHeld (Marked (s.cell p))
    (λ off _. (λ within. absurd (not_outside k s.mutators within off), λ m ne. refl))
    (λ _ shut _. (λ within. (shut_world s k within (not-true (is_opened s k) shut), refl), λ m ne. refl))
    (λ _ opened unused _. (λ within. (open_world s k (not-false (is_opened s k) opened), own_unused s between.named k p (not-true (uses s k p) unused), refl), λ m ne. refl))
    (λ _ opened used slow _.
    let ours = not-false (uses s k p) used in
    let open_now = not-false (is_opened s k) opened in
    let x = own_used s law k p ours in
    let still : (m : ℕ) → own_of (world_of (after_events s (view_events s k p))) m ≡ own_of (world_of s) m =
    (λ m. ap (λ (t : State). own_of (world_of t) m) (view_is s k p law open_now ours)
    ∙ nothing_new s (with_view s p) m (view_bytes s k p law open_now ours) (ap (λ (t : State). t.held) (slow_view s p slow))) in
    (λ within. (open_world s k open_now, unviewed s k p ours slow, still k, (x.0, x.1)), λ m ne. still m))
    (λ _ opened used fast _.
    let ours = not-false (uses s k p) used in
    let open_now = not-false (is_opened s k) opened in
    let own : p / CELLS ≡ k = uses_owner s k p ours in
    let t : State = with_view s p in
    let bytes = view_bytes s k p law open_now ours in
    let views = view_views s k p law open_now ours (fast_seen s p fast) in
    let x = own_used s law k p ours in
    subst (λ (u : State). Teaches s k (Mutator k (Try p)) Done u) (sym (view_is s k p law open_now ours)) (
      λ within. (open_world s k open_now, own_same (world_of s) (world_of t) k (put (views_of (world_of s) k) p true) bytes (views_mine s t k p views own), (x.0, x.1)),
      λ m ne. own_same (world_of s) (world_of t) m (views_of (world_of s) m) bytes (views_others s t k m p views own ne),
    ))

-- ---- inquiries
-- where an object is that the mutator uses: that it has one, and near where it is viewed
tells_home : (s : State) (k p : ℕ) (o : Option PtrWord) (all : List ℕ) → in_use o ≡ true → ((own_of (world_of s) k).viewed p ≡ true → (place : Place) × (held_place o ≡ Some place)) →
    (own_of (world_of s) k).object p ≡ Some all → Knows k (own_of (world_of s) k) (Mutator k (Where p)) (home_reply (home_of o)) (own_of (world_of s) k)
tells_home s k p (Some (Near len ds place marks)) all u viewed is = (refl, (λ _. tt), (all, is))
tells_home s k p (Some (Far len ds marks)) all u viewed is = (refl, (λ v. let odd : None ≡ Some (viewed v).0 = (viewed v).1 in absurd cc), (all, is))
tells_home s k p _ all u viewed is = absurd (false≢true u)

-- where it is viewed its cell names the place
rests_at : (s : State) (k p : ℕ) (o : Option Place) → Law s → uses s k p ≡ true → s.held p ≡ o → (own_of (world_of s) k).viewed p ≡ true → (place : Place) × (held_place (read_of (s.cell p)) ≡ Some place)
rests_at s k p None law used e v = absurd (false≢true (sym (viewed_is_held s k p false (uses_owner s k p used) (ap is_some e)) ∙ v))
rests_at s k p (Some place) law used e v = (place, law.views.held_names p place e)

pub turns_where : (s : State) (k p : ℕ) → Law s → Between s → Turns s k (Mutator k (Where p)) (refusal (moment_of s) (Mutator k (Where p)))
turns_where s k p law between = two_causes (Turns s k (Mutator k (Where p))) (not (nat_lt k s.mutators)) (not (uses s k p)) Range NotHeld
    (λ off _. (λ within. absurd (not_outside k s.mutators within off), λ m ne. refl))
    (λ _ unused _. (λ within. (own_unused s between.named k p (not-true (uses s k p) unused), refl), λ m ne. refl))
    (λ _ used _. let ours = not-false (uses s k p) used in
    let x = own_used s law k p ours in
    let live = law.views.used_cell p (and_parts (nat_eq (p / CELLS) k) (s.used p) ours).1 in
    (λ within. tells_home s k p (read_of (s.cell p)) x.0 live (rests_at s k p (s.held p) law ours refl) x.1, λ m ne. refl))

-- ---- drops
-- a drop that isn't turned down
drop_run : (s : State) (k p : ℕ) → Law s → k < s.mutators → uses s k p ≡ true → s.held p ≡ None → (t : State) → t ≡ without_object s k p →
    Teaches s k (Mutator k (Drop p)) Done t
drop_run s k p law inside used unheld t is =
    let mine : p / CELLS ≡ k = uses_owner s k p used in
    let world : world_of t ≡ record (world_of s) { object = put (world_of s).object p None; marked = put (world_of s).marked p false } = ap world_of is ∙ drop_world s k p law inside used unheld in
    let objects : (world_of t).object ≡ put (world_of s).object p None = ap (λ (w : World). w.object) world in
    let scopes : (world_of t).opened ≡ (world_of s).opened = ap (λ (w : World). w.opened) world in
    let held : t.held ≡ s.held = ap (λ (x : State). x.held) (is ∙ drop_is s k p law inside used unheld) in
    let x = own_used s law k p used in (
      λ within. (viewed_is_held s k p false mine (ap is_some unheld), own_gone (world_of s) (world_of t) k p objects scopes (views_still s t k held), (x.0, x.1)),
      λ m ne. own_left (world_of s) (world_of t) m p objects scopes (λ e. ne (sym mine ∙ e)) (views_still s t m held),
    )

-- the test of the first cause of a drop
is_below : (k n : ℕ) → not (nat_lt k n) ≡ false → k < n
is_below k n h = ltb-true k n (not-false (nat_lt k n) h)

pub turns_drop : (s : State) (k p : ℕ) → Law s → Between s → Turns s k (Mutator k (Drop p)) (refusal (moment_of s) (Mutator k (Drop p)))
turns_drop s k p law between = three_causes (Turns s k (Mutator k (Drop p))) (not (nat_lt k s.mutators)) (not (uses s k p)) (is_some (s.held p)) Range NotHeld Held
    (λ off _. (λ within. absurd (not_outside k s.mutators within off), λ m ne. refl))
    (λ _ unused _. (λ within. (own_unused s between.named k p (not-true (uses s k p) unused), refl), λ m ne. refl))
    (λ _ used viewed _. let ours = not-false (uses s k p) used in
    let x = own_used s law k p ours in
    (λ within. (viewed_is_held s k p true (uses_owner s k p ours) viewed, refl, (x.0, x.1)), λ m ne. refl))
    (λ inside used free ok. let within : k < s.mutators = is_below k s.mutators inside in
    let ours = not-false (uses s k p) used in
    let unheld : s.held p ≡ None = unheld_is (s.held p) free in
    drop_run s k p law within ours unheld (after_events s (turn_events (moment_of s) (Mutator k (Drop p)))) (drop_ends s k p law within ours unheld))

-- ---- writes
module _ (s : State) (k p from : ℕ) (bytes : List ℕ) (law : Law s) (small : AreBytes bytes) (access : Access s k p from (length bytes)) where
  led_there : Derefs s k p
  led_there = led s k p from (length bytes) law access

  abbrev here : State
  here = dereferenced s k p

  abbrev new : List ℕ
  new = with_range (data_of here p) from bytes

  abbrev stores : List Event
  stores = store_events k p (first_word from) (words_touched from (length bytes)) new

  abbrev then : State
  then = with_data here p from bytes

  abbrev ready : State
  ready = after_soil here p

  -- the object is soiled, which the world doesn't tell
  same_there : world_of ready ≡ world_of here
  same_there = soil_stays here led_there.law p (ap is_some led_there.view.holds.rests)

  ready_law : Law ready
  ready_law = soil_law here led_there.law k p led_there.view.len led_there.view.place led_there.view.holds

  stored : Leads ready stores then
  stored = stores_lead s k p from bytes law access small

  fits : from + length bytes ≤ length (data_of here p)
  fits = omega (arith, access.within, knows_long s k p access.ours led_there)

  -- the object has the new bytes after the write
  write_run : (o : Object) × ((world_of then).object ≡ put (world_of here).object p (Some o)) × ((world_of then).opened ≡ (world_of here).opened) × (o.bytes ≡ new)
  write_run =
      let x = object_there s k p access.ours led_there in
      let at : (world_of ready).object p ≡ Some x.0 = ap (λ (w : World). w.object p) same_there ∙ x.1 in
      let run = stores_run ready k p (first_word from) (words_touched from (length bytes)) new x.0 ready_law (packed_wide new (with_range_bytes (data_of here p) from bytes fits (data_small here p) small)) at stored.succeed in
      let over : List ℕ = over_all x.0.bytes (first_word from) (words_touched from (length bytes)) new in
      let ends : world_of then ≡ world_of (after_events ready stores) = ap world_of (sym stored.ends) in (
        with_bytes x.0 over,
        ap (λ (w : World). w.object) ends ∙ run.0 ∙ ap (λ (w : World). put w.object p (Some (with_bytes x.0 over))) same_there,
        ap (λ (w : World). w.opened) ends ∙ run.1 ∙ ap (λ (w : World). w.opened) same_there,
        ap (λ b. over_all b (first_word from) (words_touched from (length bytes)) new) x.2 ∙ over_with_range (data_of here p) from bytes fits (data_small here p) small access.some,
      )

  wrote : IsIn (data_of here p) from (length bytes) → Teaches s k (Mutator k (On p (Writes from bytes))) Done then
  wrote inside =
      let own : p / CELLS ≡ k = uses_owner s k p access.ours in
      let seen : ℕ → Bool = put (views_of (world_of s) k) p true in
      let run = write_run in
      let known = knows_view s k p access.ours led_there in
      let viewed : views_of (world_of then) k ≡ seen = views_still here then k refl ∙ ap (λ (o : Own). o.viewed) known in (
        λ within. (
          open_world s k access.opened,
          (
            data_of here p,
            knows_bytes s k p access.ours led_there,
            inside,
            own_here (world_of here) (world_of then) k p run.0 seen run.1 run.2 own viewed
                ∙ ap (λ (o : Own). record o { object = put o.object p (Some run.0.bytes); viewed = seen }) known
                ∙ ap (λ b. record (own_of (world_of s) k) { object = put (own_of (world_of s) k).object p (Some b); viewed = seen }) run.3,
          ),
        ),
        λ m ne. own_other (world_of here) (world_of then) m p run.0 run.1 run.2 (λ e. ne (sym own ∙ e)) (views_still here then m refl) ∙ others_know s k p access.ours led_there m ne,
      )

turns_write : (s : State) (k p from : ℕ) (bytes : List ℕ) → Law s → Between s → AreBytes bytes → Turns s k (Mutator k (On p (Writes from bytes))) (refusal (moment_of s) (Mutator k (On p (Writes from bytes))))
turns_write s k p from bytes law between small =
    five_causes (Turns s k (Mutator k (On p (Writes from bytes)))) (not (nat_lt k s.mutators)) (not (is_opened s k)) (not (uses s k p)) (not (is_range (object_len s p) from (length bytes))) (has_no_room s k p) Range Closed NotHeld Range NoRoom
    (λ off _. (λ within. absurd (not_outside k s.mutators within off), λ m ne. refl))
    (λ _ shut _. (λ within. (shut_world s k within (not-true (is_opened s k) shut), refl), λ m ne. refl))
    (λ _ opened unused _. (λ within. (open_world s k (not-false (is_opened s k) opened), own_unused s between.named k p (not-true (uses s k p) unused), refl), λ m ne. refl))
    (λ _ opened used out _. let x = own_used s law k p (not-false (uses s k p) used) in
    (λ within. (open_world s k (not-false (is_opened s k) opened), refl, (x.0, x.1, out_of x.0 (object_len s p) from (length bytes) x.2 out)), λ m ne. refl))
    (λ _ opened used inside full _.
    let ours = not-false (uses s k p) used in
    let open_now = not-false (is_opened s k) opened in
    let x = own_used s law k p ours in (
      λ within. (open_world s k open_now, none_viewed s k p law open_now ours full, none_learns s k p law open_now ours full k, (x.0, x.1, in_of x.0 (object_len s p) from (length bytes) x.2 inside)),
      λ m ne. none_learns s k p law open_now ours full m,
    ))
    (λ _ opened used inside room _.
    let ours = not-false (uses s k p) used in
    let open_now = not-false (is_opened s k) opened in
    let range = range_in (object_len s p) from (length bytes) inside in
    let access : Access s k p from (length bytes) = record { opened = open_now; ours = ours; some = range.0; within = range.1; room = room } in
    let d = derefs s k p law open_now ours room in
    subst (λ (t : State). Teaches s k (Mutator k (On p (Writes from bytes))) Done t) (sym (write_leads s k p from bytes law access small).ends)
    (wrote s k p from bytes law small access (in_of (data_of (dereferenced s k p) p) (object_len s p) from (length bytes) (knows_long s k p ours d) inside)))

-- ---- each use of an object
pub turns_use : (s : State) (k p : ℕ) (how : Use) → Law s → Between s → WritesBytes (Mutator k (On p how)) → Turns s k (Mutator k (On p how)) (refusal (moment_of s) (Mutator k (On p how)))
turns_use s k p (Reads from len) law between small = turns_read s k p from len law between
turns_use s k p (Writes from bytes) law between small = turns_write s k p from bytes law between small
turns_use s k p Views law between small = turns_view s k p law between
