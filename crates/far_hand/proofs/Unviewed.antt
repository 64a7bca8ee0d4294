-- Who was seen clear views nothing.
use Rattle.std.proofs.Common.{◌≡◌, ◌∙◌, ℕ, ◌/◌, ◌<◌, true, ap}
use Rattle.std.specs.Prelude.{is_some}
use Rattle.far_word.specs.declared.sizes.TheConstants.{CELLS}
use Rattle.far_events.specs.state.Law.{Law}
use Rattle.far_events.specs.state.State.{State}
use Rattle.far_hand.specs.MayBe.{NoneViews, ViewsNone}

pub clear_views_none : (s : State) → Law s → (m : ℕ) → s.clear m ≡ true → ViewsNone s.round m s
clear_views_none s law m seen p place own views = law.clears.clear_unviewed p place views (ap s.clear own ∙ seen)

pub all_clear_unviewed : (s : State) → Law s → ((m : ℕ) → m < s.mutators → s.clear m ≡ true) → NoneViews s.round s
all_clear_unviewed s law seen p place views =
    law.clears.clear_unviewed p place views (seen (p / CELLS) (law.scopes.scope_range (p / CELLS) (law.views.held_open p (ap is_some views))))
