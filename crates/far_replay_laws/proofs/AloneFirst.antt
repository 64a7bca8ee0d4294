-- A mutator by itself, from the first state of a heap on.
use Rattle.std.proofs.Common.{◌≡◌, ◌≢◌, ℕ, zero, suc, ◌/◌, ◌<◌, Bool, true, false, ◌&&◌, nat_eq, refl, ap, subst, ◌∙◌, Option, Some, None, List}
use Rattle.std.proofs.lemmas.Bool.{cond_both, eqb-false, eqb-true}
use mathlib.Core.Path.{fun_ext}
use Rattle.far_word.specs.declared.sizes.TheConstants.{CELLS}
use Rattle.far_core.specs.world.World.{start}
use Rattle.far_core.specs.world.WorldOf.{world_of}
use Rattle.far_core.proofs.WorldFacts.{opening_world}
use Rattle.far_replay.specs.Alone.{Alone}
use Rattle.far_alone.specs.Own.{nothing, own_of}
use Rattle.far_events.specs.state.Shape.{is_shape}
use Rattle.far_text.specs.Command.{Command, Device, Fail, Flawed, Flip, Short}
use Rattle.far_text.specs.Written.{AllWriteBytes}
use Rattle.far_replay.specs.Answers.{AnsweredBy, Outside, is_true, shape_of, first_moment}
use Rattle.far_replay.specs.Moment.{Moment}
use Rattle.far_reply.specs.Reply.{Reply}
use Rattle.far_replay.proofs.Answering.{answered_by}
use Rattle.far_replay_laws.specs.FromOutside.{LiesAsSaid, gives_stored, to_lie}
use Rattle.far_replay_laws.specs.Lying.{LiesOnce}
use Rattle.far_replay_laws.specs.Headline.{MutatorsAreAlone}
use Rattle.far_replay_laws.proofs.AloneLaw.{alone}
use Rattle.far_replay_laws.proofs.AloneOwn.{alone_own}
use Rattle.far_replay.proofs.Lasting.{first_lasts}
use Rattle.far_alone.proofs.AloneRuns.{Own-ext}

none_seen : (b : Bool) → (b && false) ≡ false
none_seen true = refl
none_seen false = refl

-- at the start a mutator knows of nothing
start_nothing : (honest : Bool) (m : ℕ) → own_of (start honest) m ≡ nothing
start_nothing honest m = Own-ext (own_of (start honest) m) nothing refl (fun_ext (λ p. cond_both (nat_eq (p / CELLS) m) None None (λ (x : Option (List ℕ)). x ≡ None) (λ _. refl) (λ _. refl)))
    (fun_ext (λ p. none_seen (nat_eq (p / CELLS) m)))

pub first_nothing : (logs mutators epoch : ℕ) (honest : Bool) (m : ℕ) → own_of (world_of (first_moment logs mutators epoch honest).core) m ≡ nothing
first_nothing logs mutators epoch honest m = ap (λ w. own_of w m) (opening_world true (shape_of logs mutators epoch) honest) ∙ start_nothing honest m

-- from the first moment on, the replies to a mutator's lines are what they say by themselves
pub alone_first : MutatorsAreAlone
alone_first logs mutators epoch m device cs rs moments shape within bytes h =
    let honest = is_true device in
    subst (λ o. Alone honest m o cs rs) (first_nothing logs mutators epoch honest m)
    (alone (first_moment logs mutators epoch honest) cs rs moments m (first_lasts logs mutators epoch honest shape) within bytes h)

-- so of a text, whose device may give too few bytes but no others, unless that is said
lies_true : (device : Option Device) → to_lie device ≢ 0 → is_true device ≡ false
lies_true None ne = absurd (ne refl)
lies_true (Some (Flawed Fail call)) ne = absurd (ne refl)
lies_true (Some (Flawed Short call)) ne = absurd (ne refl)
lies_true (Some (Flawed Flip zero)) ne = absurd (ne refl)
lies_true (Some (Flawed Flip (suc call))) ne = refl

pub alone_said : (logs mutators epoch m : ℕ) (device : Option Device) (os : List Outside) (cs : List Command) (rs : List Reply) (moments : List Moment) → is_shape (shape_of logs mutators epoch) ≡ true → m < mutators → AllWriteBytes cs →
    LiesAsSaid device os (first_moment logs mutators epoch (is_true device)) cs moments → AnsweredBy os (first_moment logs mutators epoch (is_true device)) cs rs moments → Alone (gives_stored device) m nothing cs rs
alone_said logs mutators epoch m device os cs rs moments shape within bytes said h = by_said (nat_eq (to_lie device) 0) refl where
  by_said : (b : Bool) → nat_eq (to_lie device) 0 ≡ b → Alone b m nothing cs rs
  by_said true e =
      let now = first_moment logs mutators epoch (is_true device) in
      subst (λ o. Alone true m o cs rs) (first_nothing logs mutators epoch (is_true device) m)
      (alone_own os now cs rs moments m (subst (λ n. LiesOnce n None now os cs moments) (eqb-true (to_lie device) 0 e) said.once) (first_lasts logs mutators epoch (is_true device) shape) within bytes h)
  by_said false e =
      subst (λ b. Alone b m nothing cs rs) (lies_true device (eqb-false (to_lie device) 0 e))
      (alone_first logs mutators epoch m device cs rs moments shape within bytes (answered_by os (first_moment logs mutators epoch (is_true device)) cs rs moments h))
