-- Which words say the heap's line, which its device's, and which a command: its name, its numbers as they are printed, its bytes in hex, its policy by name.
use Rattle.std.specs.Prelude.{◌≡◌, ◌⊎◌, ℕ, ◌<◌, ◌≤◌, ◌^◌, List, [], ◌∷◌, length, map, codes, decimal, Ok}
use Rattle.hex.specs.Hex.{decode_of, IsBytes}
use Rattle.far_text.specs.declared.command.TheConstants.{MOST_CHOSEN}
use Rattle.far_text.specs.declared.hex_word.TheConstants.{LONGEST_LINE, LONGEST_BYTES}
use Rattle.far_text.specs.Command.{Entry, HeapLine, DeviceLine, Flawed, Flaw, Fail, Short, Flip, CommandLine, New, Open, On, Reads, Writes, Views, Close, Where, Drop, Try, Epoch, Logs, Log, Audit, Mutator, Book, Evacuator, Policy, Oldest, LeastLive, By, Script, Select, Mark, Wait, Evacuate, Abort, Round}

-- A word in hex stands for these bytes, one at least; a word is no longer than a line.
abbrev pub Spells : List ℕ → List ℕ → Type 0
Spells word bytes = (decode_of word ≡ Ok bytes) × (0 < length bytes) × (length word ≤ LONGEST_LINE)

-- The name of a policy.
abbrev pub policy_name : Policy → List ℕ
policy_name Oldest = codes "oldest"
policy_name LeastLive = codes "leastlive"

-- The name of what is wrong in a call of a device.
abbrev pub flaw_name : Flaw → List ℕ
flaw_name Fail = codes "fail"
flaw_name Short = codes "short"
flaw_name Flip = codes "flip"

-- Numbers that a script may name as logs: bytes, one at least, and no more than a line has room for.
abbrev pub AreLogs : List ℕ → Type 0
AreLogs logs = IsBytes logs × (0 < length logs) × (length logs ≤ LONGEST_BYTES)

-- These words say the entry. A heap's line needs no first epoch, which is 0 then.
abbrev pub Says : List (List ℕ) → Entry → Type 0
Says words (HeapLine logs mutators epoch) =
    ((words ≡ codes "heap" ∷ decimal logs ∷ decimal mutators ∷ decimal epoch ∷ []) ⊎ ((words ≡ codes "heap" ∷ decimal logs ∷ decimal mutators ∷ []) × (epoch ≡ 0)))
    × (logs < 2 ^ 64) × (mutators < 2 ^ 64) × (epoch < 2 ^ 64)
Says words (DeviceLine (Flawed flaw call)) = (words ≡ codes "device" ∷ flaw_name flaw ∷ decimal call ∷ []) × (call < 2 ^ 64)
Says words (CommandLine (Mutator mutator (New len structure))) =
    (words ≡ codes "new" ∷ decimal mutator ∷ decimal len ∷ decimal structure ∷ [])
    × (mutator < 2 ^ 64) × (len < 2 ^ 64) × (structure < 2 ^ 64)
Says words (CommandLine (Mutator mutator Open)) = (words ≡ codes "open" ∷ decimal mutator ∷ []) × (mutator < 2 ^ 64)
Says words (CommandLine (Mutator mutator (On pointer (Writes from bytes)))) = (word : List ℕ)
    × (words ≡ codes "write" ∷ decimal mutator ∷ decimal pointer ∷ decimal from ∷ word ∷ [])
    × (mutator < 2 ^ 64) × (pointer < 2 ^ 64) × (from < 2 ^ 64) × Spells word bytes
Says words (CommandLine (Mutator mutator (On pointer (Reads from len)))) =
    (words ≡ codes "read" ∷ decimal mutator ∷ decimal pointer ∷ decimal from ∷ decimal len ∷ [])
    × (mutator < 2 ^ 64) × (pointer < 2 ^ 64) × (from < 2 ^ 64) × (len < 2 ^ 64)
Says words (CommandLine (Mutator mutator Close)) = (words ≡ codes "close" ∷ decimal mutator ∷ []) × (mutator < 2 ^ 64)
Says words (CommandLine (Mutator mutator (Where pointer))) =
    (words ≡ codes "where" ∷ decimal mutator ∷ decimal pointer ∷ []) × (mutator < 2 ^ 64) × (pointer < 2 ^ 64)
Says words (CommandLine (Mutator mutator (Drop pointer))) =
    (words ≡ codes "drop" ∷ decimal mutator ∷ decimal pointer ∷ []) × (mutator < 2 ^ 64) × (pointer < 2 ^ 64)
Says words (CommandLine (Mutator mutator (On pointer Views))) =
    (words ≡ codes "view" ∷ decimal mutator ∷ decimal pointer ∷ []) × (mutator < 2 ^ 64) × (pointer < 2 ^ 64)
Says words (CommandLine (Mutator mutator (Try pointer))) =
    (words ≡ codes "try" ∷ decimal mutator ∷ decimal pointer ∷ []) × (mutator < 2 ^ 64) × (pointer < 2 ^ 64)
Says words (CommandLine (Mutator mutator Epoch)) = (words ≡ codes "epoch" ∷ decimal mutator ∷ []) × (mutator < 2 ^ 64)
Says words (CommandLine (Book Logs)) = words ≡ codes "logs" ∷ []
Says words (CommandLine (Book (Log log))) = (words ≡ codes "log" ∷ decimal log ∷ []) × (log < 2 ^ 64)
Says words (CommandLine (Book Audit)) = words ≡ codes "audit" ∷ []
Says words (CommandLine (Evacuator (Select (By policy) most))) = (words ≡ codes "select" ∷ policy_name policy ∷ decimal most ∷ []) × (most ≤ MOST_CHOSEN)
Says words (CommandLine (Evacuator (Select (Script logs) most))) =
    (words ≡ codes "select" ∷ codes "script" ∷ decimal most ∷ map decimal logs) × (most ≤ MOST_CHOSEN) × AreLogs logs
Says words (CommandLine (Evacuator (Mark count))) = (words ≡ codes "mark" ∷ decimal count ∷ []) × (count < 2 ^ 64)
Says words (CommandLine (Evacuator Wait)) = words ≡ codes "wait" ∷ []
Says words (CommandLine (Evacuator (Evacuate count))) = (words ≡ codes "evacuate" ∷ decimal count ∷ []) × (count < 2 ^ 64)
Says words (CommandLine (Evacuator Abort)) = words ≡ codes "abort" ∷ []
Says words (CommandLine (Evacuator (Round policy most turns))) =
    (words ≡ codes "round" ∷ policy_name policy ∷ decimal most ∷ decimal turns ∷ []) × (most ≤ MOST_CHOSEN) × (turns < 2 ^ 64)
