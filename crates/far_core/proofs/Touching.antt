-- What changes where one word and one part of a view are touched.
use Rattle.std.proofs.Common.{◌≡◌, ◌≢◌, ℕ, Bool, ◌/◌, refl, sym, ap, ◌∙◌, Option, Some}
use Rattle.far_word.specs.declared.pointer.Place.{Place}
use Rattle.far_word.specs.declared.sizes.TheConstants.{CELLS}
use Rattle.far_events.specs.declared.event.Event.{Event}
use Rattle.far_events.specs.state.State.{Copying, State, put}
use Rattle.far_events.specs.events.Touch.{Spot, EpochAt, ScopeAt, CellAt, WordAt, JobAt, SameCopier, CopierAt, Remembers, Uses, Rests, Soils, LetsGo, Touch, Touches, shared_word, spot_word}
use Rattle.far_events.proofs.Put.{put_other}

-- one word changes
module _ (epoch : ℕ) (scope cell word job : ℕ → ℕ) (k w : ℕ) where
  pub one_scope : (a : Spot) → Some (ScopeAt k) ≢ Some a → spot_word epoch (put scope k w) cell word job a ≡ spot_word epoch scope cell word job a
  one_scope EpochAt ne = refl
  one_scope (ScopeAt m) ne = put_other scope k w m (λ e. ne (ap (λ x. Some (ScopeAt x)) (sym e)))
  one_scope (CellAt p) ne = refl
  one_scope (WordAt a) ne = refl
  one_scope (JobAt j) ne = refl

  pub one_cell : (a : Spot) → Some (CellAt k) ≢ Some a → spot_word epoch scope (put cell k w) word job a ≡ spot_word epoch scope cell word job a
  one_cell EpochAt ne = refl
  one_cell (ScopeAt m) ne = refl
  one_cell (CellAt p) ne = put_other cell k w p (λ e. ne (ap (λ x. Some (CellAt x)) (sym e)))
  one_cell (WordAt a) ne = refl
  one_cell (JobAt j) ne = refl

  pub one_word : (a : Spot) → Some (WordAt k) ≢ Some a → spot_word epoch scope cell (put word k w) job a ≡ spot_word epoch scope cell word job a
  one_word EpochAt ne = refl
  one_word (ScopeAt m) ne = refl
  one_word (CellAt p) ne = refl
  one_word (WordAt a) ne = put_other word k w a (λ e. ne (ap (λ x. Some (WordAt x)) (sym e)))
  one_word (JobAt j) ne = refl

module _ (epoch : ℕ) (scope cell word job : ℕ → ℕ) (k w : ℕ) where
  pub one_job : (a : Spot) → Some (JobAt k) ≢ Some a → spot_word epoch scope cell word (put job k w) a ≡ spot_word epoch scope cell word job a
  one_job EpochAt ne = refl
  one_job (ScopeAt m) ne = refl
  one_job (CellAt p) ne = refl
  one_job (WordAt a) ne = refl
  one_job (JobAt j) ne = put_other job k w j (λ e. ne (ap (λ x. Some (JobAt x)) (sym e)))

pub same_copier : {c : ℕ} {k : Copying} → SameCopier c k k
same_copier = record { task = refl; length = refl; read = refl; written = refl }

-- what an owner's event touches, function by function
module _ {s : State} {x : Touch} {scope cell word : ℕ → ℕ} {remembered : ℕ → Option ℕ} {used : ℕ → Bool} {held : ℕ → Option Place} where
  pub touched : ((a : Spot) → x.word ≢ Some a → spot_word s.epoch scope cell word s.copying.word a ≡ spot_word s.epoch s.scope s.cell s.word s.copying.word a)
      → ((m : ℕ) → x.part ≢ Remembers m → x.part ≢ LetsGo m → remembered m ≡ s.remembered m)
      → ((p : ℕ) → x.part ≢ Uses p → used p ≡ s.used p)
      → ((p : ℕ) → x.part ≢ Rests p → x.part ≢ LetsGo (p / CELLS) → held p ≡ s.held p)
      → Touches s x record s { scope = scope; cell = cell; word = word; remembered = remembered; used = used; held = held }
  touched a b c d = record { words = a; remembered = b; used = c; held = d; soiled = λ q a b. refl; book = λ ne. (refl, refl, refl, refl, refl, refl, refl, refl, refl, refl); copiers = λ c ne. same_copier; rest = (refl, refl, refl, refl) }

-- the same where what owners have soiled changes too
module _ {s : State} {x : Touch} {scope cell word : ℕ → ℕ} {remembered : ℕ → Option ℕ} {used : ℕ → Bool} {held : ℕ → Option Place} {soiled : ℕ → Bool} where
  pub touched_soiled : ((a : Spot) → x.word ≢ Some a → spot_word s.epoch scope cell word s.copying.word a ≡ spot_word s.epoch s.scope s.cell s.word s.copying.word a)
      → ((m : ℕ) → x.part ≢ Remembers m → x.part ≢ LetsGo m → remembered m ≡ s.remembered m)
      → ((p : ℕ) → x.part ≢ Uses p → used p ≡ s.used p)
      → ((p : ℕ) → x.part ≢ Rests p → x.part ≢ LetsGo (p / CELLS) → held p ≡ s.held p)
      → ((p : ℕ) → x.part ≢ Soils p → x.part ≢ LetsGo (p / CELLS) → soiled p ≡ s.soiled p)
      → Touches s x record s { scope = scope; cell = cell; word = word; remembered = remembered; used = used; held = held; soiled = soiled }
  touched_soiled a b c d f = record { words = a; remembered = b; used = c; held = d; soiled = f; book = λ ne. (refl, refl, refl, refl, refl, refl, refl, refl, refl, refl); copiers = λ c ne. same_copier; rest = (refl, refl, refl, refl) }

pub untouched : (s : State) (x : Touch) → Touches s x s
untouched s x = touched (λ a ne. refl) (λ k a b. refl) (λ q a. refl) (λ q a b. refl)

-- an event of a pointer is its owner's
pub by_owner : (event : ℕ → ℕ → Event) (m p q : ℕ) → p / CELLS ≡ m → q ≡ p → event m p ≡ event (q / CELLS) q
by_owner event m p q own e = ap (λ k. event k p) (sym own) ∙ ap (λ k. event (k / CELLS) k) (sym e)

-- what a copier's event touches: its own view, and a word
module _ {s : State} {spot : Option Spot} {word : ℕ → ℕ} {k : Copying} (c : ℕ) where
  pub copier_touched : ((a : Spot) → spot ≢ Some a → spot_word s.epoch s.scope s.cell word k.word a ≡ shared_word s a) → k.since ≡ s.copying.since → k.named ≡ s.copying.named → k.has_copiers ≡ s.copying.has_copiers →
      ((d : ℕ) → d ≢ c → SameCopier d s.copying k) → Touches s (record { word = spot; part = CopierAt c }) record s { word = word; copying = k }
  copier_touched words since named has others = record {
    words = words;
    remembered = λ m a b. refl;
    used = λ p a. refl;
    held = λ p a b. refl;
    soiled = λ p a b. refl;
    book = λ ne. (refl, refl, refl, refl, refl, refl, refl, refl, since, named);
    copiers = λ d ne. others d (λ e. ne (ap CopierAt (sym e)));
    rest = (refl, refl, refl, has);
  }
