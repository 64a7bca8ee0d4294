-- What a step of the book's seat tells.
use Rattle.std.specs.Prelude.{◌≡◌, ◌+◌, ◌==◌, ℕ, cond, List}
use Rattle.far_events.specs.declared.event.Event.{Event}
use Rattle.far_events.specs.declared.event.Event.TheVariants.{Name}
use Rattle.far_events.specs.declared.event.Reply.{Reply}
use Rattle.far_events.specs.declared.event.Reply.TheVariants.{Done}
use Rattle.far_events.specs.events.Legal.{Legal}
use Rattle.far_events.specs.events.Step.{after, answer}
use Rattle.far_hand.specs.MayBe.{Made}
use Rattle.far_table.specs.View.{BookView, OtherViews, View, Book}
use Rattle.far_table.specs.Rule.{Facts}
use Rattle.far_table.specs.Stands.{book_of}
use Rattle.far_table.specs.StateOf.{cleaned_at, cooled_at, retired_at, stained_at, state_of, taken_at}
use Rattle.far_table.specs.Views.{dirts, drops, hots, moves}

-- how often MOVE was taken away from p's cell, its object retired, and HOT taken away, once this event had this answer, by how often before it: once more where an
-- exchange won of a word of p's that has MOVE; of one that has DROP; and of one that has HOT
abbrev pub taken_by : Event → Reply → ℕ → ℕ → ℕ
taken_by (Name q old new) Done p n = cond (q == p) (n + moves old) n
taken_by e r p n = n

abbrev pub retired_by : Event → Reply → ℕ → ℕ → ℕ
retired_by (Name q old new) Done p n = cond (q == p) (n + drops old) n
retired_by e r p n = n

abbrev pub cooled_by : Event → Reply → ℕ → ℕ → ℕ
cooled_by (Name q old new) Done p n = cond (q == p) (n + hots old) n
cooled_by e r p n = n

-- how often DIRTY was left in p's cell by a naming, and how often one found it: once more where an exchange won of which the new word has it, or the old
abbrev pub stained_by : Event → Reply → ℕ → ℕ → ℕ
stained_by (Name q old new) Done p n = cond (q == p) (n + dirts new) n
stained_by e r p n = n

abbrev pub cleaned_by : Event → Reply → ℕ → ℕ → ℕ
cleaned_by (Name q old new) Done p n = cond (q == p) (n + dirts old) n
cleaned_by e r p n = n

-- the event was made: in some state that met the rule, with this view of the book, it was legal, and this was its answer; the words after and the view b'
-- are the state that the core's step makes, and meet the rule; the view counts what it took away, and where it left and found DIRTY
pub record BookMade (e : Event) (b : BookView) (r : Reply) (b' : BookView) : Type 0 where
  pub words : List ℕ
  pub others : OtherViews
  pub facts : Facts words b others
  pub legal : Legal (state_of words b others) e
  pub says : r ≡ answer (state_of words b others) e
  pub later : List ℕ
  pub becomes : after (state_of words b others) e ≡ state_of later b' others
  pub keeps : Facts later b' others
  pub taken : (p : ℕ) → taken_at b' p ≡ taken_by e r p (taken_at b p)
  pub retired : (p : ℕ) → retired_at b' p ≡ retired_by e r p (retired_at b p)
  pub cooled : (p : ℕ) → cooled_at b' p ≡ cooled_by e r p (cooled_at b p)
  pub stained : (p : ℕ) → stained_at b' p ≡ stained_by e r p (stained_at b p)
  pub cleaned : (p : ℕ) → cleaned_at b' p ≡ cleaned_by e r p (cleaned_at b p)
  pub call : Made (state_of words b others) e r (state_of later b' others)

-- the seat's view before and after the step: the event was made
pub record BookTells (before now : View) (e : Event) (r : Reply) (b' : BookView) : Type 0 where
  pub after_is : now ≡ Book b'
  pub made : BookMade e (book_of before) r b'
