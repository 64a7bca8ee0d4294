-- The bytes of an object: read, and written.
use Rattle.std.proofs.Common.{[], ◌∷◌, ◌≡◌, ℕ, zero, suc, ◌+◌, ◌/◌, ◌<◌, ◌≤◌, ◌^◌, Bool, true, false, refl, sym, ap, subst, ◌∙◌, arith, Option, Some, None, List, length}
use Rattle.std.specs.Prelude.{IfSome, IsSome, slice_range}
use Rattle.std.specs.Option.{option_map}
use Rattle.std.proofs.lemmas.Bool.{cond_both}
use mathlib.Core.Path.{fun_ext}
use Rattle.far_word.specs.declared.pointer.Place.{Place}
use Rattle.far_word.specs.declared.sizes.TheConstants.{CELLS, LONGEST}
use Rattle.far_word.specs.Bytes.{packed_word}
use Rattle.far_word.specs.Pointer.{read_of}
use Rattle.far_events.specs.declared.event.Event.{Event}
use Rattle.far_events.specs.declared.event.Event.TheVariants.{Soil, Store}
use Rattle.far_events.specs.declared.event.Reply.{Reply}
use Rattle.far_events.specs.events.Legal.{HoldsObject, Legal}
use Rattle.far_events.specs.events.Ranges.{AllLegal, after_events, stores}
use Rattle.far_events.specs.events.Soil.{after_soil}
use Rattle.far_events.specs.events.Step.{after, data_len, data_word, is_legal, step_of}
use Rattle.far_events.specs.events.Written.{written_words}
use Rattle.far_events.specs.state.Law.{Law}
use Rattle.far_events.specs.state.State.{State, put}
use Rattle.far_core.specs.world.Steps.{with_bytes}
use Rattle.far_core.specs.world.World.{Object as Thing}
use Rattle.far_core.specs.world.WorldOf.{world_of}
use Rattle.far_events.proofs.Bounds.{some_of}
use Rattle.far_events.proofs.Cells.{IsHeld, held_near}
use Rattle.far_core.proofs.Owing.{is_test}
use Rattle.far_events.proofs.Put.{put_both, put_other, put_same}
use Rattle.far_alone.specs.EventRows.{AllSucceed}
use Rattle.far_alone.specs.Events.{first_word, store_events, words_touched}
use Rattle.far_alone.specs.Objects.{data_of, object_len, with_range}
use Rattle.far_alone.proofs.AloneRuns.{Same, over_all, quiet_run, stores_run}
use Rattle.far_alone.proofs.AloneStates.{data_small, length-data, object_used, object_viewed}
use Rattle.far_alone.proofs.Leading.{legal_made}
use Rattle.far_alone.proofs.MadeLemmas.{legal_step}
use Rattle.far_alone.proofs.Soiling.{soil_bytes, soil_law, soil_len}
use Rattle.far_alone.proofs.Spliced.{AreBytes, length-with_range, packed_wide, with_range_bytes}
use Rattle.far_private.specs.Objects.{Object, known, len_in, len_of, objects_of, rewritten, seen, with_written}
use Rattle.far_alone.proofs.AloneBytes.{over_with_range}
use Rattle.far_alone.proofs.Storing.{stores_made}

-- ---- an object that is held
module _ (t : State) (law : Law t) (p : ℕ) (held : IsSome (t.held p)) where
  at : (place : Place) × (t.held p ≡ Some place)
  at = some_of (t.held p) held

  near : IsHeld (read_of (t.cell p)) at.0
  near = held_near (read_of (t.cell p)) at.0 (law.views.held_names p at.0 at.1)

  holds : HoldsObject t (p / CELLS) p near.len at.0
  holds = record { own = refl; rests = at.1; near = (near.ds, near.marks, near.near) }

  thing : (o : Thing) × ((world_of t).object p ≡ Some o) × (o.bytes ≡ data_of t p)
  thing = object_viewed t law p at.0 at.1

  pub held_len : len_in (objects_of t) p ≡ data_len t p
  held_len = ap (λ x. len_of (seen t.honest x)) thing.1 ∙ ap length thing.2 ∙ length-data t p

-- as many bytes as its cell says
pub used_len : (s : State) → Law s → (p : ℕ) → s.used p ≡ true → len_in (objects_of s) p ≡ object_len s p
used_len s law p used = let h = object_used s law p used in ap (λ x. len_of (seen s.honest x)) h.there ∙ h.long

-- ---- a read
pub by_known : (b : Bool) (whole out : List ℕ) (from to : ℕ) → out ≡ slice_range whole from to → IfSome (known b whole) (λ bytes. out ≡ slice_range bytes from to)
by_known true whole out from to e = e
by_known false whole out from to e = tt

-- ---- stores
-- a state in which stores were made
record Stored (s u : State) : Type 0 where
  mutators : u.mutators ≡ s.mutators
  used : u.used ≡ s.used
  cell : u.cell ≡ s.cell
  honest : u.honest ≡ s.honest
  logs : u.logs ≡ s.logs

stored_none : (s : State) → Stored s s
stored_none s = record { mutators = refl; used = refl; cell = refl; honest = refl; logs = refl }

stored_one : (s : State) (m p i w : ℕ) → Stored s (step_of s (Store m p i w)).0
stored_one s m p i w = cond_both (is_legal s (Store m p i w)) _ _ (λ (x : State × Reply). Stored s x.0) (λ _. record { mutators = refl; used = refl; cell = refl; honest = refl; logs = refl }) (λ _. stored_none s)

stored_all : (s : State) (m p first n : ℕ) (new : List ℕ) → Stored s (after_events s (store_events m p first n new))
stored_all s m p first zero new = stored_none s
stored_all s m p first (suc n) new =
    let a = stored_one s m p first (packed_word new first) in
    let b = stored_all (step_of s (Store m p first (packed_word new first))).0 m p (first + 1) n new in
    record { mutators = b.mutators ∙ a.mutators; used = b.used ∙ a.used; cell = b.cell ∙ a.cell; honest = b.honest ∙ a.honest; logs = b.logs ∙ a.logs }

-- a mark that its owner sets changes no object
soil_same : (s : State) (m p : ℕ) → Law s → Legal s (Soil m p) → (world_of (after s (Soil m p))).object ≡ (world_of s).object
soil_same s m p law legal = (subst (λ (t : State). Same (world_of s) (world_of t)) (ap (λ (x : State × Reply). x.0) (legal_step s (Soil m p) (is_test s (Soil m p) legal))) (quiet_run s (Soil m p ∷ []) law (tt, tt)).0).0

-- ---- a write
module _ (t : State) (law : Law t) (p from count : ℕ) (new : List ℕ) (held : IsSome (t.held p)) (some : 0 < count) (long : length new ≡ count) (inside : from + count ≤ data_len t p) (most : from + count ≤ LONGEST) (small : AreBytes new) where
  abbrev soiled : State
  soiled = after_soil t p

  h : HoldsObject t (p / CELLS) p (near t law p held).len (at t law p held).0
  h = holds t law p held

  pub ready_law : Law soiled
  ready_law = soil_law t law (p / CELLS) p (near t law p held).len (at t law p held).0 h

  pub ready_bytes : data_of soiled p ≡ data_of t p
  ready_bytes = soil_bytes t law (p / CELLS) p (near t law p held).len (at t law p held).0 h

  pub ready_len : data_len soiled p ≡ data_len t p
  ready_len = soil_len t law (p / CELLS) p (near t law p held).len (at t law p held).0 h

  abbrev changed : List ℕ
  changed = with_range (data_of t p) from new

  abbrev row : List Event
  row = store_events (p / CELLS) p (first_word from) (words_touched from count) changed

  -- the stores that the call makes, by the state that it began with
  rows_are : stores (p / CELLS) p (first_word from) (written_words (λ i. soiled.word (data_word soiled p i)) from new) ≡ row
  rows_are = stores_made soiled ready_law (p / CELLS) p from new (omega (arith, inside, ready_len, long))
      ∙ ap (λ n. store_events (p / CELLS) p (first_word from) (words_touched from n) (with_range (data_of soiled p) from new)) long
      ∙ ap (λ d. store_events (p / CELLS) p (first_word from) (words_touched from count) (with_range d from new)) ready_bytes

  -- as the calls answer it
  module _ (v : State) (e : v ≡ soiled) where
    abbrev made : State → List Event
    made x = stores (p / CELLS) p (first_word from) (written_words (λ i. x.word (data_word x p i)) from new)

    pub made_so : (u : State) → u ≡ after_events v (made v) → u ≡ after_events soiled row
    made_so u is = is ∙ ap (λ (x : State). after_events x (made x)) e ∙ ap (after_events soiled) rows_are

    pub legal_so : AllLegal v (made v) → AllSucceed soiled row
    legal_so all = legal_made soiled row (subst (AllLegal soiled) rows_are (subst (λ (x : State). AllLegal x (made x)) e all))

  -- what callers see of it
  within : from + length new ≤ length (data_of t p)
  within = omega (arith, inside, long, length-data t p)

  abbrev o : Thing
  o = (thing t law p held).0

  there : (world_of soiled).object p ≡ Some o
  there = ap (λ (f : ℕ → Option Thing). f p) (soil_same t (p / CELLS) p law (refl, held)) ∙ (thing t law p held).1

  bytes_then : over_all o.bytes (first_word from) (words_touched from count) changed ≡ changed
  bytes_then = ap (λ d. over_all d (first_word from) (words_touched from count) changed) (thing t law p held).2
      ∙ ap (λ n. over_all (data_of t p) (first_word from) (words_touched from n) changed) (sym long) ∙ over_with_range (data_of t p) from new within (data_small t p) small (omega (arith, long, some))

  wide : (i : ℕ) → packed_word changed i < 2 ^ 64
  wide = packed_wide changed (with_range_bytes (data_of t p) from new within (data_small t p) small)

  rewritten_seen : (b : Bool) (x : Thing) → x.bytes ≡ data_of t p → seen b (Some (with_bytes x changed)) ≡ option_map (rewritten from new) (seen b (Some x))
  rewritten_seen true x e = λ i. Some record { len = same_long i; ds = x.ds; bytes = Some (with_range (sym e i) from new) } where
    same_long : length changed ≡ length x.bytes
    same_long = length-with_range (data_of t p) from new within ∙ sym (ap length e)
  rewritten_seen false x e = λ i. Some record { len = same_long i; ds = x.ds; bytes = None } where
    same_long : length changed ≡ length x.bytes
    same_long = length-with_range (data_of t p) from new within ∙ sym (ap length e)

  module _ (ok : AllSucceed soiled row) where
    abbrev u : State
    u = after_events soiled row

    world_then : (world_of u).object ≡ put (world_of soiled).object p (Some (with_bytes o (over_all o.bytes (first_word from) (words_touched from count) changed)))
    world_then = (stores_run soiled (p / CELLS) p (first_word from) (words_touched from count) changed o ready_law wide there ok).0

    seen_then : (q : ℕ) → seen t.honest ((world_of u).object q) ≡ put (objects_of t).object p (option_map (rewritten from new) ((objects_of t).object p)) q
    seen_then q = ap (λ (f : ℕ → Option Thing). seen t.honest (f q)) world_then
        ∙ put_both (λ x. seen t.honest x ≡ put (objects_of t).object p (option_map (rewritten from new) ((objects_of t).object p)) q) (world_of soiled).object p _ q
        (λ at. ap (λ b. seen t.honest (Some (with_bytes o b))) bytes_then ∙ rewritten_seen t.honest o (thing t law p held).2
        ∙ ap (λ x. option_map (rewritten from new) (seen t.honest x)) (sym (thing t law p held).1)
        ∙ sym (put_same (objects_of t).object p (option_map (rewritten from new) ((objects_of t).object p)) q at))
        (λ ne. ap (λ (f : ℕ → Option Thing). seen t.honest (f q)) (soil_same t (p / CELLS) p law (refl, held))
        ∙ sym (put_other (objects_of t).object p (option_map (rewritten from new) ((objects_of t).object p)) q ne))

    pub written_objects : (v : State) → v ≡ u → objects_of v ≡ with_written p from new (objects_of t)
    written_objects v e = ap objects_of e
        ∙ ap (λ (b : Bool). record { honest = b; logs = u.logs; object = λ q. seen b ((world_of u).object q) }) (stored_all soiled (p / CELLS) p (first_word from) (words_touched from count) changed).honest
        ∙ ap (λ (n : ℕ). record { honest = t.honest; logs = n; object = λ q. seen t.honest ((world_of u).object q) }) (stored_all soiled (p / CELLS) p (first_word from) (words_touched from count) changed).logs
        ∙ ap (λ (f : ℕ → Option Object). record { honest = t.honest; logs = t.logs; object = f }) (fun_ext seen_then)
