use Rattle.far_book.proofs.book.Book.leave_clean.Goals as goal
use Rattle.std.proofs.Common.{◌≡◌, ◌∙◌, ◌⊎◌, ℕ, Bool, true, false, ap, inl, inr, refl, Some, None}
use Rattle.std.specs.Prelude.{◌&&◌, ◌||◌, is_some, not}
use Rattle.std.proofs.lemmas.Bool.{false≢true}
use Rattle.far_word.specs.Pointer.{read_of}
use Rattle.far_events.specs.events.Naming.{is_dropped}
use Rattle.far_events.specs.state.Law.{is_dirty}

-- a word is an answer, and no answer isn't
some_isnt : (w : ℕ) → Some w ≡ None → ⊥
some_isnt w e = cc

-- why a naming ended
ends_by : (d a k : Bool) → (d || (a && not k)) ≡ true → (d ≡ true) ⊎ (a ≡ true)
ends_by true a k h = inl refl
ends_by false true k h = inr refl
ends_by false false k h = absurd (false≢true h)

pub is_dirty-requires : goal.is_dirty-requires
is_dirty-requires g c = ap is_some (ap read_of c.requires.found ∙ c.requires.near.near)

pub name_far-requires-clause-pointer : goal.name_far-requires-clause-pointer
name_far-requires-clause-pointer g c = c.requires.pointer

pub name_far-requires-clause-found : goal.name_far-requires-clause-found
name_far-requires-clause-found g c = c.requires.found

pub name_far-requires-clause-near : goal.name_far-requires-clause-near
name_far-requires-clause-near g c = c.requires.near

pub name_far-requires-clause-evac : goal.name_far-requires-clause-evac
name_far-requires-clause-evac g c = c.requires.evac

pub name_far-requires-clause-alive : goal.name_far-requires-clause-alive
name_far-requires-clause-alive g c = c.requires.alive

pub returns-in-Ok-clause-left : goal.returns-in-Ok-clause-left
returns-in-Ok-clause-left g c _ = c.in-Ok.ensures.far

pub returns-in-Ok-clause-won_by : goal.returns-in-Ok-clause-won_by
returns-in-Ok-clause-won_by g c _ = c.in-Ok.ensures.won_by

pub returns-in-Ok-clause-away : goal.returns-in-Ok-clause-away
returns-in-Ok-clause-away g c still _ = c.in-Ok.ensures.set still

pub returns-in-Ok-clause-names : goal.returns-in-Ok-clause-names
returns-in-Ok-clause-names g c = c.name_far.ensures.names

pub returns-in-Ok-clause-order : goal.returns-in-Ok-clause-order
returns-in-Ok-clause-order g c = c.name_far.ensures.order

pub returns-in-Ok-clause-device : goal.returns-in-Ok-clause-device
returns-in-Ok-clause-device g c = c.name_far.ensures.device

pub returns-in-Err-clause-left : goal.returns-in-Err-clause-left
returns-in-Err-clause-left g c odd = absurd (some_isnt c.in-Err.word odd)

pub returns-in-Err-clause-far : goal.returns-in-Err-clause-far
returns-in-Err-clause-far g c odd = absurd (some_isnt c.in-Err.word odd)

pub returns-in-Err-clause-won_by : goal.returns-in-Err-clause-won_by
returns-in-Err-clause-won_by g c odd = absurd (some_isnt c.in-Err.word odd)

pub returns-in-Err-clause-away : goal.returns-in-Err-clause-away
returns-in-Err-clause-away g c still odd = absurd (some_isnt c.in-Err.word odd)

pub returns-in-Err-clause-found : goal.returns-in-Err-clause-found
returns-in-Err-clause-found g c = c.in-Err.ensures.found

pub returns-in-Err-clause-kept : goal.returns-in-Err-clause-kept
returns-in-Err-clause-kept g c = c.in-Err.ensures.kept

pub returns-in-Err-clause-marked : goal.returns-in-Err-clause-marked
returns-in-Err-clause-marked g c = ends_by (is_dropped (read_of c.in-Err.word)) (is_dirty (read_of c.in-Err.word)) (is_dirty (read_of c.args.found)) c.in-Err.ensures.stopped

pub returns-in-Err-clause-won : goal.returns-in-Err-clause-won
returns-in-Err-clause-won g c still = absurd (c.in-Err.ensures.won still)

pub returns-in-Err-clause-names : goal.returns-in-Err-clause-names
returns-in-Err-clause-names g c = c.name_far.ensures.names

pub returns-in-Err-clause-order : goal.returns-in-Err-clause-order
returns-in-Err-clause-order g c = c.name_far.ensures.order

pub returns-in-Err-clause-device : goal.returns-in-Err-clause-device
returns-in-Err-clause-device g c = c.name_far.ensures.device

-- ---- clauses that say nothing of this answer
pub returns-in-Ok-clause-found : goal.returns-in-Ok-clause-found
returns-in-Ok-clause-found g c = tt

pub returns-in-Ok-clause-kept : goal.returns-in-Ok-clause-kept
returns-in-Ok-clause-kept g c = tt

pub returns-in-Ok-clause-marked : goal.returns-in-Ok-clause-marked
returns-in-Ok-clause-marked g c = tt

pub returns-in-Ok-clause-won : goal.returns-in-Ok-clause-won
returns-in-Ok-clause-won g c still = tt
