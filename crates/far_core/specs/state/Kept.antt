-- Whether a core keeps the words that are stored, so that it can tell of a naming that is given as data whether it is legal.
use Rattle.std.specs.Prelude.{Bool, not, ◌||◌, is_some, List}
use Rattle.std.specs.List.{list_all}
use Rattle.far_events.specs.declared.event.Event.{Event}
use Rattle.far_core.specs.declared.machine.Core.{Core}
use Rattle.far_events.specs.events.Name.{is_naming}

abbrev pub keeps_stored : Core → Bool
keeps_stored core = is_some core.rows

abbrev pub tells : Core → Event → Bool
tells core e = keeps_stored core || not (is_naming e)

-- each event of a list: stored words are kept, or none of it names
abbrev pub tells_all : Core → List Event → Bool
tells_all core es = keeps_stored core || list_all (λ e. not (is_naming e)) es
