-- What is known of an owner and one of its pointers when a test runs, and what it says of a seat's view.
use Rattle.std.specs.Prelude.{◌≡◌, ◌*◌, ◌/◌, ◌≤◌, ℕ, Bool, cond, is_some, List, length, map}
use Rattle.std.specs.List.{range_with_len}
use Rattle.atomic_table.specs.Seated.{TableId}
use Rattle.far_word.specs.declared.sizes.TheConstants.{CELLS}
use Rattle.far_word.specs.Pointer.{read_of}
use Rattle.far_word.specs.Scope.{scope_of}
use Rattle.far_events.specs.state.Law.{Law}
use Rattle.far_events.specs.state.State.{State}
use Rattle.far_table.specs.View.{OwnerView}
use Rattle.far_table.specs.First.{first_owner, open_epoch}
use Rattle.far_table.specs.Seats.{Seated}
use Rattle.far_table.specs.Stands.{Seats}
use Rattle.far_table.specs.Views.{held_at, len_of, object_at, said_len, soiled_at, uses}
use Rattle.tests_far_table.specs.declared.known.Known.{Known}

-- what is known is what the view says
pub record Fits (v : OwnerView) (p : ℕ) (k : Known) : Type 0 where
  pub own : p / CELLS ≡ v.number
  pub opened : is_some v.open_at ≡ k.opened
  pub read : is_some v.epoch ≡ k.read
  pub used : uses v p ≡ k.used
  pub held : is_some (held_at v p) ≡ k.held
  pub soiled : soiled_at v p ≡ k.soiled
  pub len : len_of (object_at v p) ≡ k.len

-- the length of the object of a pointer that is used
abbrev pub used_len : State → ℕ → ℕ
used_len s p = cond (s.used p) (said_len (read_of (s.cell p))) 0

-- what a core says of an owner and of the first of its pointers
abbrev pub known_of : State → ℕ → Known
known_of s m = record {
  opened = is_some (open_epoch (scope_of (s.scope m)));
  read = is_some (s.remembered m);
  used = s.used (CELLS * m);
  held = is_some (s.held (CELLS * m));
  soiled = s.soiled (CELLS * m);
  len = used_len s (CELLS * m);
}

-- the seats of the first owners of a core as it was shared, and what all its owners know
pub record Ready (seats : List Seated) (all : List Known) : Type 0 where
  pub core : State
  pub honest : Bool
  pub table : TableId
  pub law : Law core
  pub few : length seats ≤ core.mutators
  pub seats_are : seats ≡ Seats table (first_owner core honest) (length seats)
  pub all_are : all ≡ map (known_of core) (range_with_len 0 core.mutators)
