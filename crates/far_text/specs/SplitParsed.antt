-- What a text was read as that is split among threads.
use Rattle.std.specs.Option.{option_map}
use Rattle.far_text.specs.Command.{as_device}
use Rattle.far_text.specs.Split.{SplitTrace, NothingSplit, SplitHeap}
use Rattle.far_text.specs.declared.split.SplitTrace.{SplitTrace as ParsedSplit}
use Rattle.far_text.specs.declared.split.SplitTrace.TheVariants.{Nothing as ParsedNothing, Heap as ParsedHeap}

abbrev pub as_split : ParsedSplit → SplitTrace
as_split ParsedNothing = NothingSplit
as_split (ParsedHeap logs mutators epoch device lines) = SplitHeap logs mutators epoch (option_map as_device device) lines
