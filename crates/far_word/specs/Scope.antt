-- The scope word of a mutator: closed, or open at an epoch.
use Rattle.std.specs.Prelude.{ℕ, ◌+◌, ◌*◌, ◌/◌, ◌%◌, ◌<◌, ◌&&◌, ◌==◌, nat_lt, Option, Some, None, if◌then◌else◌}
use Rattle.far_word.specs.declared.scope.ScopeWord.{ScopeWord}
use Rattle.far_word.specs.declared.scope.ScopeWord.TheVariants.{Closed, Open}
use Rattle.far_word.specs.declared.sizes.TheConstants.{EPOCH_END}

-- a scope that lies on the layout
abbrev pub IsScope : ScopeWord → Type 0
IsScope Closed = Unit {0}
IsScope (Open epoch) = epoch < EPOCH_END

-- the one word of a scope
abbrev pub scope_word : ScopeWord → ℕ
scope_word Closed = 0
scope_word (Open epoch) = 2 * epoch + 1

-- what a word says; None off the layout
unfoldable pub scope_of : ℕ → Option ScopeWord
scope_of w = if w == 0 then Some Closed else (if (w % 2 == 1) && nat_lt w (2 * EPOCH_END) then Some (Open (w / 2)) else None)
