-- What others change of a state while a book works on it: one definition, which all that leaves it out or lets it change cites.
use Rattle.std.specs.Prelude.{◌≡◌, ℕ, false, None}
use Rattle.far_events.specs.state.State.{Copying, State}

-- what is copied, with what copiers alone have as others has it: what they copy, and what they have read and written of it
abbrev pub with_copiers : Copying → Copying → Copying
with_copiers k others = record k { task = others.task; length = others.length; read = others.read; written = others.written }

-- o, with what others alone have as s has it: the owners' scopes, and what they remember, use, hold and have soiled; and what copiers have
abbrev pub with_others : State → State → State
with_others o s = record o { scope = s.scope; remembered = s.remembered; used = s.used; held = s.held; soiled = s.soiled; copying = with_copiers o.copying s.copying }

-- o, with what others change as s has it: that, the cells, the words of the logs, and the words of the jobs
abbrev pub beside : State → State → State
beside o s = record (with_others o s) { cell = s.cell; word = s.word; copying = record (with_copiers o.copying s.copying) { word = s.copying.word } }

-- from s to t nothing else changed
abbrev pub IsBeside : State → State → Type 0
IsBeside s t = t ≡ beside s t

-- what is copied, with these words of the jobs, and of copiers as if they had done nothing
abbrev pub uncopied : Copying → (ℕ → ℕ) → Copying
uncopied k jobs = record k { word = jobs; task = λ _. None; length = λ _. None; read = λ _ _. None; written = λ _ _. false }

-- o, with these cells, words of the logs and words of the jobs, and of others as if they had done nothing
abbrev pub hidden : State → (ℕ → ℕ) → (ℕ → ℕ) → (ℕ → ℕ) → State
hidden o cell word jobs =
    record o { cell = cell; word = word; scope = λ _. 0; remembered = λ _. None; used = λ _. false; held = λ _. None; soiled = λ _. false; copying = uncopied o.copying jobs }
