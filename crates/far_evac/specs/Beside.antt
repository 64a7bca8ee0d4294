-- Evacuating where copies may be offered, over any hand: the jobs are collected, and then all chosen logs that are left are walked over from their starts.
use Rattle.std.specs.Prelude.{◌≡◌, ◌⊎◌, ◌==◌, ◌+◌, ◌&&◌, ℕ, zero, suc, Bool, false, cond, find, Option, Some, None, List, [], ◌∷◌, Result, Err}
use Rattle.std.specs.List.{range_with_len}
use Rattle.far_word.specs.declared.pointer.Place.{Place}
use Rattle.far_word.specs.declared.pointer.PtrWord.{PtrWord}
use Rattle.far_word.specs.declared.pointer.PtrWord.TheVariants.{Free, Near, Far}
use Rattle.far_word.specs.declared.refused.Refused.{Refused}
use Rattle.far_word.specs.declared.sizes.TheConstants.{JOBS}
use Rattle.far_word.specs.Pointer.{read_of}
use Rattle.far_word.specs.Sizes.{size_of}
use Rattle.far_events.specs.events.Get.{none_copied}
use Rattle.far_core.specs.state.Room.{room}
use Rattle.far_events.specs.state.State.{State}
use Rattle.far_device.specs.declared.fault.DeviceFault.{DeviceFault}
use Rattle.far_device.specs.Following.{other_than}
use Rattle.far_hand.specs.Finds.{Finds}
use Rattle.far_book.specs.book.Asking.{AsksToEvict}
use Rattle.far_book.specs.book.Collecting.{Collects}
use Rattle.far_book.specs.book.Jobs.{has_job}
use Rattle.far_book.specs.book.Offering.{offered}
use Rattle.far_evac.specs.AnyHand.{KnowsWalked}
use Rattle.far_evac.specs.Asked.{AsksSo}
use Rattle.far_evac.specs.Live.{is_empty, live_in}
use Rattle.far_evac.specs.Moment.{Moment, Tally, with_placed}
use Rattle.far_evac.specs.Walk.{Drops, Goes, Moves, Walked, Way, begun, dealt_so, ended, freed, is_done}

-- ---- one object
-- it leaves its log, or its copy is offered, by a job and to a place
pub data Dealing : Type 0 where
  Leaves : (way : Way) → Dealing
  Offers : (job : ℕ) (place : Place) → Dealing

-- the lowest empty job
abbrev pub lowest_empty : State → Option ℕ
lowest_empty s = find (λ j. s.copying.word j == 0) (range_with_len 0 JOBS)

-- a hot object's copy is offered, where a job is empty and there is room; else the object moves, if there is room, or goes far
abbrev pub hot_dealing : Option ℕ → Option Place → Dealing
hot_dealing (Some j) (Some place) = Offers j place
hot_dealing None (Some place) = Leaves (Moves place)
hot_dealing j None = Leaves Goes

-- one that its owner dropped is retired, and a cold one goes far, as where no copy may be offered
abbrev pub dealing_of : State → Option PtrWord → Dealing
dealing_of s None = Leaves Drops
dealing_of s (Some Free) = Leaves Drops
dealing_of s (Some (Near len ds place marks)) = cond marks.dropped (Leaves Drops) (cond marks.hot (hot_dealing (lowest_empty s) (room s (size_of len) false)) (Leaves Goes))
dealing_of s (Some (Far len ds marks)) = Leaves Drops

-- the object of an offer lies where it lay, and isn't counted yet
abbrev pub dealt_by : Walked → ℕ → Dealing → Walked
dealt_by w p (Leaves way) = dealt_so w p way
dealt_by w p (Offers j place) = record w { moment = with_placed w.moment place (offered w.moment.core j p place) }

-- from w to t an object was dealt with, as a word says that was found in its cell; and what was asked of a device for it
pub record DealsBeside (D : Type 0) (Asks : State → ℕ → Dealing → D → D → Type 0) (w : Walked) (p : ℕ) (t : Walked) (old new : D) : Type 0 where
  pub word : ℕ
  pub found : Finds (w.moment.core.cell p) word
  pub known : KnowsWalked (dealt_by w p (dealing_of w.moment.core (read_of word))) t
  pub asks : Asks w.moment.core p (dealing_of w.moment.core (read_of word)) old new

-- ---- one log
-- where a walk over objects ends: behind them all; before one, where as many as were asked for were dealt with; or at one that was refused so
pub data End : Type 0 where
  Behind : End
  Before : End
  At : (pointer : ℕ) (why : Refused) → End

-- what is asked of a device for an object, where it was dealt with so, and where it was refused so
module _ (D : Type 0) (Asks : State → ℕ → Dealing → D → D → Type 0) (Fails : State → ℕ → Refused → D → D → Type 0) where
  -- these objects are met in turn, while marks may be found, and n of them dealt with that have no job that isn't void, or all. So many may be dealt with yet.
  -- One that is refused is as before
  abbrev pub OverObjects : List ℕ → ℕ → Walked → Walked → ℕ → End → D → D → Type 0
  OverObjects [] n w t more end old new = KnowsWalked w t × (more ≡ n) × (end ≡ Behind) × (new ≡ old)
  OverObjects (p ∷ ps) zero w t more end old new = cond (has_job w.moment.core p) (OverObjects ps zero w t more end old new) (KnowsWalked w t × (more ≡ 0) × (end ≡ Before) × (new ≡ old))
  OverObjects (p ∷ ps) (suc n) w t more end old new = cond (has_job w.moment.core p) (OverObjects ps (suc n) w t more end old new)
      (((v u : Walked) × (between : D) × KnowsWalked w v × DealsBeside D Asks v p u old between × OverObjects ps n u t more end between new)
      ⊎ ((v : Walked) × (why : Refused) × KnowsWalked w v × KnowsWalked v t × Fails v.moment.core p why old new × (more ≡ suc n) × (end ≡ At p why)))

-- ---- all of them
-- nothing lies in a log, and no job reads or writes it
abbrev pub may_free : State → ℕ → Bool
may_free s l = is_empty (live_in s l) && none_copied s.copying l JOBS

-- a log is given back, where it may be; else it is kept
abbrev pub freed_if : Walked → ℕ → Walked
freed_if w l = cond (may_free w.moment.core l) (freed w l) w

abbrev pub kept_if : Walked → ℕ → List ℕ → List ℕ
kept_if w l kept = cond (may_free w.moment.core l) kept (l ∷ kept)

-- whether the walk has come to the end of a log
abbrev pub by_end : End → Type 0 → Type 0 → Type 0
by_end Behind goes stops = goes
by_end Before goes stops = stops
by_end (At p why) goes stops = stops

module _ (D : Type 0) (Asks : State → ℕ → Dealing → D → D → Type 0) (Fails : State → ℕ → Refused → D → D → Type 0) where
  -- these logs are walked over in turn, while marks may be found; at its end each is given back, where it may be. These are kept, in their order
  abbrev pub OverLogs : List ℕ → ℕ → Walked → Walked → List ℕ → End → D → D → Type 0
  OverLogs [] n w t kept end old new = KnowsWalked w t × (kept ≡ []) × (end ≡ Behind) × (new ≡ old)
  OverLogs (l ∷ ls) n w t kept end old new = (v u : Walked) × (more : ℕ) × (at : End) × (between : D) × KnowsWalked w v × OverObjects D Asks Fails (live_in v.moment.core l) n v u more at old between
      × by_end at ((rest : List ℕ) × OverLogs ls more (freed_if u l) t rest end between new × (kept ≡ kept_if u l rest)) ((t ≡ u) × (kept ≡ l ∷ ls) × (end ≡ at) × (new ≡ between))

-- ---- a call
-- the jobs are collected, and those that are named counted as moved
abbrev pub CollectsFirst : Walked → Walked → Type 0
CollectsFirst w u = (count : ℕ) × Collects w.moment.core JOBS u.moment.core count
    × (u ≡ record { moment = record w.moment { core = u.moment.core }; tally = record w.tally { moved = w.tally.moved + count } })

-- then the logs are walked over; those that are kept are the collection set
module _ (D : Type 0) (Asks : State → ℕ → Dealing → D → D → Type 0) (Fails : State → ℕ → Refused → D → D → Type 0) where
  abbrev pub WalksBeside : Moment → ℕ → Walked → End → D → D → Type 0
  WalksBeside m n w end old new = (u t : Walked) × (kept : List ℕ) × CollectsFirst (begun m) u × OverLogs D Asks Fails m.collection n u t kept end old new
      × (w ≡ record t { moment = record t.moment { collection = kept } })

abbrev pub WalksOver : Moment → ℕ → Walked → End → Type 0
WalksOver m n w end = WalksBeside (Unit {0}) (λ s p dealing old new. Unit {0}) (λ s p why old new. Unit {0}) m n w end tt tt

-- a walk over n objects or all is where it ends, and the tally is its own; done says whether each log was given back
pub record EvacuatesBeside (m : Moment) (n : ℕ) (t : Moment) (tally : Tally) (done : Bool) : Type 0 where
  pub stood : Walked
  pub end : End
  pub walks : WalksOver m n stood end
  pub whole : (p : ℕ) (why : Refused) → end ≡ At p why → ⊥
  pub ends : t ≡ ended stood
  pub counts : tally ≡ stood.tally
  pub over : done ≡ is_done stood

-- it was refused at an object, which is as before
pub record StopsBeside (m : Moment) (n : ℕ) (t : Moment) (tally : Tally) : Type 0 where
  pub stood : Walked
  pub next : ℕ
  pub why : Refused
  pub walks : WalksOver m n stood (At next why)
  pub stops : t ≡ stood.moment
  pub counts : tally ≡ stood.tally

-- ---- what is asked of a device
abbrev pub KeepsOthers : ℕ → (ℕ → Option (List ℕ)) → (ℕ → Option (List ℕ)) → Type 0
KeepsOthers p old new = (q : ℕ) → other_than p q → new q ≡ old q

module _ (D : Type 0) (writes : D → ℕ → List ℕ → Result (Unit {0}) DeviceFault → D → Type 0) (lets_go : D → ℕ → D → Type 0) where
  -- nothing for a copy that is offered
  abbrev pub AsksBeside : State → ℕ → Dealing → D → D → Type 0
  AsksBeside s p (Leaves way) old new = AsksSo D writes lets_go s p way old new
  AsksBeside s p (Offers j place) old new = new ≡ old

  -- one write of its bytes where it was refused, which was refused so
  abbrev pub AsksRefused : State → ℕ → Refused → D → D → Type 0
  AsksRefused s p why old new = AsksToEvict D writes lets_go s p (Err why) old new

  -- the same, and under every key but the object's is what was there
  module _ (contents : D → ℕ → Option (List ℕ)) where
    abbrev pub AsksOnly : State → ℕ → Dealing → D → D → Type 0
    AsksOnly s p dealing old new = AsksBeside s p dealing old new × KeepsOthers p (contents old) (contents new)

    abbrev pub RefusedOnly : State → ℕ → Refused → D → D → Type 0
    RefusedOnly s p why old new = AsksRefused s p why old new × KeepsOthers p (contents old) (contents new)
