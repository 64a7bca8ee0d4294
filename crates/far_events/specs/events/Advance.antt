-- The book raises the epoch and begins a round of sealed logs, in which every near pointer is marked.
use Rattle.std.specs.Prelude.{◌≡◌, ◌+◌, ◌*◌, ◌/◌, ◌%◌, ◌^◌, ◌<◌, ◌==◌, ◌&&◌, ◌||◌, ℕ, Bool, true, false, not, nat_lt, zero, suc, Option, Some, None}
use Rattle.far_word.specs.declared.pointer.PtrWord.{PtrWord}
use Rattle.far_word.specs.declared.pointer.PtrWord.TheVariants as pointer
use Rattle.far_word.specs.declared.pointer.PtrWord.TheVariants.{Near, Far}
use Rattle.far_word.specs.declared.sizes.TheConstants.{CELLS, EPOCH_END, MOST_LOGS}
use Rattle.far_word.specs.Pointer.{read_of}
use Rattle.far_events.specs.declared.event.Kind.TheVariants.{Sealed}
use Rattle.far_events.specs.declared.event.Reply.{Reply}
use Rattle.far_events.specs.declared.event.Reply.TheVariants.{Epoch}
use Rattle.far_events.specs.state.Law.{HasEvac}
use Rattle.far_events.specs.state.State.{State}
use Rattle.far_events.specs.events.Mark.{is_sealed}
use Rattle.far_events.specs.events.Rule.{Form, Rule}
use Rattle.far_events.specs.events.Touch.{EpochAt, BookView}
use Rattle.far_events.specs.events.Changes.{Change}
use Rattle.far_events.specs.events.Changes as change

-- a set of logs is a number of 64 bits: log l is in it where bit l is 1
abbrev pub is_among : ℕ → ℕ → Bool
is_among logs l = nat_lt l MOST_LOGS && ((logs / 2 ^ l % 2) == 1)

-- a log is sealed, if it is in the set
abbrev pub is_sealed_among : State → ℕ → ℕ → Bool
is_sealed_among s logs l = not (is_among logs l) || (nat_lt l s.logs && is_sealed (s.kind l))

-- the first n logs
abbrev pub all_sealed : State → ℕ → ℕ → Bool
all_sealed s logs zero = true
all_sealed s logs (suc n) = all_sealed s logs n && is_sealed_among s logs n

-- a cell that says near has EVAC, if its log is in the set
abbrev pub is_marked_among : ℕ → Option PtrWord → Bool
is_marked_among logs None = true
is_marked_among logs (Some pointer.Free) = true
is_marked_among logs (Some (Near len ds place m)) = not (is_among logs place.log) || m.evac
is_marked_among logs (Some (Far len ds m)) = true

-- the first n cells
abbrev pub all_marked : State → ℕ → ℕ → Bool
all_marked s logs zero = true
all_marked s logs (suc n) = all_marked s logs n && is_marked_among logs (read_of (s.cell n))

-- the epoch may rise; the logs are sealed; whatever lies there has EVAC, with DROP too
pub record MayAdvance (s : State) (logs : ℕ) : Type 0 where
  pub below : s.epoch + 1 < EPOCH_END
  pub shut : (l : ℕ) → is_among logs l ≡ true → (l < s.logs) × (s.kind l ≡ Sealed)
  pub marked : (p : ℕ) → HasEvac (is_among logs) (read_of (s.cell p))

-- the state with the epoch raised, in a round of these logs; nobody was seen clear in it
abbrev pub advanced : State → ℕ → State
advanced s logs = record s { epoch = s.epoch + 1; round = is_among logs; round_epoch = s.epoch + 1; clear = λ _. false }

-- the epoch is the one answered, one more than before, and the round's own; the round has these logs, and nobody is clear; all
-- else stays
pub record Advances (s : State) (logs e : ℕ) (t : State) : Type 0 where
  pub risen : (e ≡ s.epoch + 1) × (t.epoch ≡ e) × (t.round_epoch ≡ e)
  pub chosen : (l : ℕ) → t.round l ≡ is_among logs l
  pub unseen : (m : ℕ) → t.clear m ≡ false
  pub rest : t ≡ record s { epoch = t.epoch; round = t.round; round_epoch = t.round_epoch; clear = t.clear }

abbrev pub AdvanceReports : State → ℕ → Reply → State → Type 0
AdvanceReports s logs (Epoch e) t = Advances s logs e t
AdvanceReports s logs r t = ⊥

abbrev pub advance_rule : State → ℕ → Rule
advance_rule s logs = record {
  test = nat_lt (s.epoch + 1) EPOCH_END && all_sealed s logs MOST_LOGS && all_marked s logs (CELLS * s.mutators);
  after = advanced s logs;
  answer = Epoch (s.epoch + 1);
  Legal = MayAdvance s logs;
  Reports = AdvanceReports s logs;
  touches = record { word = Some EpochAt; part = BookView };
}

abbrev pub advance_change : Reply → Option Change
advance_change (Epoch e) = Some change.Stays
advance_change r = None

abbrev pub advance_form : Form
advance_form = record { Fits = Unit {0}; change = advance_change }
