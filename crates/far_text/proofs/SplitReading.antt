-- Commands read so far that are split among threads, in front of those that the rest of the text says.
use Rattle.std.proofs.Common.{◌≡◌, ℕ, ◌+◌, ◌≤◌, ◌==◌, suc, nat_lt, List, [], ◌∷◌, ◌++◌, length, length-append, Option, Some, None, Result, Ok, Err, false, sym, ◌∙◌, ap, refl, append_assoc, arith}
use Rattle.std.specs.Option.{option_map, option_and_then}
use Rattle.std.proofs.lemmas.Bool.{lt-leb}
use Rattle.std.proofs.lemmas.Option.{none-some, same_Some}
use Rattle.far_text.specs.declared.text.TheConstants.{LONGEST_TEXT}
use Rattle.far_text.specs.Command.{Command, CommandLine}
use Rattle.far_text.specs.Cursor.{first_line, lines_after_first}
use Rattle.far_text.specs.Grammar.{Line, saying, line_of, lines_of}
use Rattle.far_text.specs.HeapSought.{heap_sought}
use Rattle.far_text.specs.Split.{threaded, onto_lines, threaded_onto, split_command, split_commands, split_from, split_of}
use Rattle.far_text.specs.Spelled.{entry_spelled}
use Rattle.far_text.specs.declared.command.Command.{Command as SpelledCommand}
use Rattle.far_text.specs.declared.command.Entry.{Entry as SpelledEntry}
use Rattle.far_text.specs.declared.command.Entry.TheVariants.{Heap as SpelledHeapLine, Device as SpelledDeviceLine, Command as SpelledCommandLine}
use Rattle.far_text.proofs.Cuts.{split_some}

abbrev pub onto_all_lines : List (ℕ × Command) → Result (List (ℕ × Command)) ℕ → Result (List (ℕ × Command)) ℕ
onto_all_lines front (Ok lines) = Ok (front ++ lines)
onto_all_lines front (Err number) = Err number

pub onto_one_line : (front : List (ℕ × Command)) (line : ℕ × Command) (rest : Result (List (ℕ × Command)) ℕ) → onto_all_lines (front ++ line ∷ []) rest ≡ onto_all_lines front (onto_lines line rest)
onto_one_line front line (Ok lines) = ap Ok (append_assoc front (line ∷ []) lines)
onto_one_line front line (Err number) = refl

-- a text that is not too long is its lines
pub split_short : (text : List ℕ) → length text ≤ LONGEST_TEXT → split_of text ≡ split_from (heap_sought 1 (lines_of text))
split_short text h = rw (within LONGEST_TEXT (length text) h) refl
  where
    within : (most n : ℕ) → n ≤ most → nat_lt most n ≡ false
    within most n h = lt-leb (suc most) n (omega arith)

-- a text with a line of this kind first, after the heap
pub after_split : (mutators number : ℕ) (text : List ℕ) (line : Line) (lines : List (List ℕ)) → line ≡ line_of (first_line text) → lines ≡ lines_after_first text
    → split_commands mutators number (lines_of text) ≡ split_command mutators number line (split_commands mutators (number + 1) lines)
after_split mutators number text line lines is same = ap (split_commands mutators number) (split_some (λ b. b == 10) text) ∙ rw (is, same) refl

-- a line that says no command
pub other_split : (mutators number : ℕ) (entry : SpelledEntry) → ((command : SpelledCommand) → entry ≡ SpelledCommandLine command → ⊥) → (later : Result (List (ℕ × Command)) ℕ) →
    split_command mutators number (saying (entry_spelled entry)) later ≡ Err number
other_split mutators number (SpelledHeapLine logs others epoch) other later = refl
other_split mutators number (SpelledDeviceLine device) other later = refl
other_split mutators number (SpelledCommandLine command) other later = absurd (other command refl)

module _ (mutators number : ℕ) (old : List (ℕ × Command)) where
  abbrev more : Command → List (ℕ × Command)
  more c = old ++ (number, c) ∷ []

  one_threaded : (new : List (ℕ × Command)) (command : Option Command) → option_map more command ≡ Some new →
      (later : Result (List (ℕ × Command)) ℕ) → onto_all_lines new later ≡ onto_all_lines old (threaded_onto number command later)
  one_threaded new None e later = absurd (none-some new e)
  one_threaded new (Some c) e later = ap (λ ls. onto_all_lines ls later) (sym (same_Some (more c) new e)) ∙ onto_one_line old (number, c) later

  none_threaded : (command : Option Command) → option_map more command ≡ None → (later : Result (List (ℕ × Command)) ℕ) → threaded_onto number command later ≡ Err number
  none_threaded None e later = refl
  none_threaded (Some c) e later = absurd (none-some (more c) (sym e))

  -- a command that was kept
  pub one_split : (new : List (ℕ × Command)) (command : Option Command) → option_map more (option_and_then (threaded mutators) command) ≡ Some new →
      (later : Result (List (ℕ × Command)) ℕ) → onto_all_lines new later ≡ onto_all_lines old (split_command mutators number (saying (option_map CommandLine command)) later)
  one_split new None e later = absurd (none-some new e)
  one_split new (Some c) e later = one_threaded new (threaded mutators c) e later

  -- one that was not
  pub none_split : (command : Option Command) → option_map more (option_and_then (threaded mutators) command) ≡ None →
      (later : Result (List (ℕ × Command)) ℕ) → split_command mutators number (saying (option_map CommandLine command)) later ≡ Err number
  none_split None e later = refl
  none_split (Some c) e later = none_threaded (threaded mutators c) e later

  -- it is one more
  pub one_line_more : (new : List (ℕ × Command)) (command : Option Command) → option_map more command ≡ Some new → length new ≡ length old + 1
  one_line_more new None e = absurd (none-some new e)
  one_line_more new (Some c) e = let same = ap length (same_Some (more c) new e) in omega (arith, length-append old ((number, c) ∷ []))
