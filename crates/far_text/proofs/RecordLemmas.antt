-- Records of commands, and the bytes of their writes.
use Rattle.std.proofs.Common.{◌≡◌, ℕ, zero, suc, ◌+◌, ◌-◌, ◌<◌, ◌≤◌, List, [], ◌∷◌, ◌++◌, length, take, drop, get_or, map, Option, Some, sym, ap, ◌∙◌, refl, subst, arith, inl, inr, length-append}
use Rattle.std.specs.List.{slice_range}
use Rattle.std.specs.Option.{option_map}
use Rattle.std.proofs.lemmas.List.{take-append-drop, take-append-le, drop-append-le, length-drop, length-take, get_or_past, take_all, length-take-le, append_assoc}
use Rattle.std.proofs.lemmas.Bool.{cases_lt}
use Rattle.std.proofs.Math.Nat.{min-le_left}
use Rattle.hex.specs.Hex.{IsBytes}
use Rattle.far_text.proofs.Parts.{range_get}
use Rattle.far_text.specs.Command.{Command, Mutator, On, Writes, Evacuator, Select, Script}
use Rattle.far_text.specs.Records.{number_in, command_in, step_in, IsWithin, IsStepWithin, AreWithin}
use Rattle.far_text.specs.Written.{WritesBytes, ChoosesFew}
use Rattle.far_text.specs.declared.commands.Record.{Record}
use Rattle.far_text.specs.declared.commands.Record.TheVariants.{Write as WriteRecord, Evacuator as EvacuatorRecord}
use Rattle.far_text.specs.declared.steps.StepRecord.{StepRecord}
use Rattle.far_text.specs.declared.steps.StepRecord.TheVariants.{Script as ScriptRecord}
use Rattle.far_text.proofs.Reading.{map_append}

-- the front of a buffer that new bytes were put into
pub put_in_front : (buffer new rest : List ℕ) (len n : ℕ) → len ≤ length buffer → length new ≡ n → take (len + n) (take len buffer ++ (new ++ rest)) ≡ take len buffer ++ new
put_in_front buffer new rest len n fits long =
    let front : length (take len buffer) ≡ len = length-take-le len buffer fits in
    let whole : length (take len buffer ++ new) ≡ len + n = omega (arith, length-append (take len buffer) new) in
    ap (take (len + n)) (sym (append_assoc (take len buffer) new rest))
    ∙ take-append-le (len + n) (take len buffer ++ new) rest (omega arith)
    ∙ take_all (len + n) (take len buffer ++ new) (omega arith)

-- more bytes behind leave each record its command
module _ (old new : List ℕ) (kept : take (length old) new ≡ old) where
  abbrev more : List ℕ
  more = drop (length old) new

  joined : new ≡ old ++ more
  joined = sym (ap (λ l. l ++ more) (sym kept) ∙ take-append-drop (length old) new)

  pub longer : length old ≤ length new
  longer = omega (arith, ap length joined, length-append old more)

  part_stays : (start count : ℕ) → start + count ≤ length old → slice_range new start (start + count) ≡ slice_range old start (start + count)
  part_stays start count inside =
      ap (λ l. take (start + count - start) (drop start l)) joined
      ∙ ap (take (start + count - start)) (drop-append-le start old more (omega arith))
      ∙ take-append-le (start + count - start) (drop start old) more (omega (arith, length-drop start old))

  step_stays : (r : StepRecord) → IsStepWithin (length old) r → step_in new r ≡ step_in old r
  step_stays (ScriptRecord most start count) h = ap (λ b. Select (Script b) most) (part_stays start count h.0)
  step_stays r h = refl

  command_stays : (r : Record) → IsWithin (length old) r → command_in new r ≡ command_in old r
  command_stays (WriteRecord m p from start count) h = ap (λ b. Mutator (number_in m) (On (number_in p) (Writes (number_in from) b))) (part_stays start count h)
  command_stays (EvacuatorRecord step) h = ap Evacuator (step_stays step h)
  command_stays r h = refl

  pub commands_stay : (rs : List Record) → AreWithin (length old) rs → map (command_in new) rs ≡ map (command_in old) rs
  commands_stay [] h = refl
  commands_stay (r ∷ rs) h = rw (command_stays r h.0, commands_stay rs h.1) refl

  -- one record more is one command more
  pub one_command_more : (rs : List Record) (r : Record) (spelled : Option Command) → AreWithin (length old) rs → Some (command_in new r) ≡ spelled
      → option_map (λ c. map (command_in old) rs ++ c ∷ []) spelled ≡ Some (map (command_in new) (rs ++ r ∷ []))
  one_command_more rs r spelled within is =
      ap (option_map (λ c. map (command_in old) rs ++ c ∷ [])) (sym is)
      ∙ ap (λ cs. Some (cs ++ command_in new r ∷ [])) (sym (commands_stay rs within))
      ∙ ap Some (sym (map_append (command_in new) rs (r ∷ [])))

step_within_more : (a b : ℕ) → a ≤ b → (r : StepRecord) → IsStepWithin a r → IsStepWithin b r
step_within_more a b h (ScriptRecord most start count) i = (omega (arith, i.0), i.1)
step_within_more a b h r i = i

within_more : (a b : ℕ) → a ≤ b → (r : Record) → IsWithin a r → IsWithin b r
within_more a b h (WriteRecord m p from start count) i = omega arith
within_more a b h (EvacuatorRecord step) i = step_within_more a b h step i
within_more a b h r i = i

pub one_within_more : (a b : ℕ) → a ≤ b → (rs : List Record) (r : Record) → AreWithin a rs → IsWithin b r → AreWithin b (rs ++ r ∷ [])
one_within_more a b h [] r all one = (one, tt)
one_within_more a b h (x ∷ rs) r all one = (within_more a b h x all.0, one_within_more a b h rs r all.1 one)

pub within_at : (most : ℕ) (rs : List Record) (i : ℕ) (r : Record) → AreWithin most rs → i < length rs → r ≡ get_or rs i r → IsWithin most r
within_at most [] i r all lt e = absurd (omega arith)
within_at most (x ∷ rs) zero r all lt e = subst (IsWithin most) (sym e) all.0
within_at most (x ∷ rs) (suc i) r all lt e = within_at most rs i r all.1 (omega arith) e

part_bytes : (bytes : List ℕ) (start count : ℕ) → IsBytes bytes → IsBytes (slice_range bytes start (start + count))
part_bytes bytes start count small k = elim (cases_lt k count) [
  | inl lt ↦ omega (arith, range_get bytes start count k lt, small (start + k))
  | inr past ↦ (
      let most : length (slice_range bytes start (start + count)) ≤ start + count - start = subst (λ n. n ≤ start + count - start) (sym (length-take (start + count - start) (drop start bytes))) (min-le_left _ _) in
      omega (arith, get_or_past (slice_range bytes start (start + count)) k 0 (omega (arith, most))))
]

-- few logs are chosen, and those that a script names are bytes
step_chooses_few : (bytes : List ℕ) → IsBytes bytes → (r : StepRecord) → IsStepWithin (length bytes) r → ChoosesFew (step_in bytes r)
step_chooses_few bytes small (ScriptRecord most start count) h = (part_bytes bytes start count small, h.1)
step_chooses_few bytes small r h = h

-- what is written is bytes
pub record_writes_bytes : (bytes : List ℕ) → IsBytes bytes → (r : Record) → IsWithin (length bytes) r → WritesBytes (command_in bytes r)
record_writes_bytes bytes small (WriteRecord m p from start count) h = part_bytes bytes start count small
record_writes_bytes bytes small (EvacuatorRecord step) h = step_chooses_few bytes small step h
record_writes_bytes bytes small r h = tt
