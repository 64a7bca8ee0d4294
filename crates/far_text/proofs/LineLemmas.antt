-- What a line says: comments, commands, and lines off the grammar.
use Rattle.std.proofs.Common.{◌≡◌, inl, inr, ℕ, ◌<◌, ◌≤◌, ◌+◌, ◌^◌, ◌==◌, ◌&&◌, suc, zero, nat_lt, nat_le, List, [], ◌∷◌, ◌++◌, length, map, take, drop, get_or, Option, Some, None, true, false, Bool, decimal, cond, sym, ◌∙◌, ap, refl, arith, below_more, add-one, append-nil, eq-eqb}
use Rattle.std.specs.List.{list_all, join_with_byte}
use Rattle.std.proofs.lemmas.Bool.{and_parts, le-leb, lt-leb}
use Rattle.std.proofs.lemmas.Bool.Decides.{Decides-ltb, nat_tests}
use Rattle.std.proofs.lemmas.Fmt.{IsAscii-decimal}
use Rattle.std.proofs.lemmas.List.{get_or-take, get_or_append_left, length-append, length-take-le}
use Rattle.std.proofs.lemmas.List.Folds.{list_all-append, list_all_at}
use Rattle.std.proofs.lemmas.List.Sums.{list_all-from_AllPass}
use Rattle.std.proofs.lemmas.List.Splits.{join_with_byte-slice_split}
use Rattle.std.proofs.Math.Seq.{drop-cons, drop-length, take-length}
use Rattle.hex.specs.Hex.{is_hex_digit, IsBytes}
use Rattle.hex.proofs.HexLemmas.{decode_of-ok}
use Rattle.far_text.specs.Command.{Entry, HeapLine, DeviceLine, Flawed, Flaw, Fail, Short, Flip, CommandLine, New, Open, On, Reads, Writes, Close, Epoch, Logs, Log, Audit, Mutator, Book, Evacuator, Policy, Oldest, LeastLive, By, Script, Select, Mark, Wait, Evacuate, Abort, Round}
use Rattle.far_text.specs.declared.hex_word.TheConstants.{LONGEST_LINE}
use Rattle.far_text.specs.Says.{Says, Spells, flaw_name, policy_name}
use Rattle.far_text.specs.Grammar.{Line, Skipped, Saying, Bad, saying, line_of, is_plain, is_skipped, entry_of, lines_of, line_words}
use Rattle.far_text.specs.Cursor.{front_of, first_line, lines_after_first, words_in}
use Rattle.far_text.proofs.Cuts.{split_on, line_at}
use Rattle.far_text.proofs.SaysLemmas.{read_is_said}

abbrev pub is_ascii : ℕ → Bool
is_ascii b = nat_lt b 128

-- ASCII by each place
pub ascii_list : (xs : List ℕ) → ((k : ℕ) → k < length xs → get_or xs k 0 < 128) → list_all is_ascii xs ≡ true
ascii_list [] h = refl
ascii_list (x ∷ xs) h =
    let first = (Decides-ltb x 128).1 (h 0 (omega arith)) in
    let rest = ascii_list xs (λ k less. h (suc k) (omega arith)) in
    rw (first, rest) refl

decimal_ascii : (n : ℕ) → n < 2 ^ 64 → list_all is_ascii (decimal n) ≡ true
decimal_ascii n h = ascii_list (decimal n) (λ k less. IsAscii-decimal n h k)

hex_digit_ascii : (c : ℕ) → is_hex_digit c ≡ true → c < 128
hex_digit_ascii c e = grind (arith, nat_tests)

hex_ascii : (xs : List ℕ) → list_all is_hex_digit xs ≡ true → list_all is_ascii xs ≡ true
hex_ascii [] e = refl
hex_ascii (x ∷ xs) e =
    let parts = and_parts (is_hex_digit x) (list_all is_hex_digit xs) e in
    let first = (Decides-ltb x 128).1 (hex_digit_ascii x parts.0) in
    rw (first, hex_ascii xs parts.1) refl

spelled_ascii : (word bytes : List ℕ) → Spells word bytes → list_all is_ascii word ≡ true
spelled_ascii word bytes h = hex_ascii word (list_all-from_AllPass is_hex_digit word (decode_of-ok word bytes h.0).1)

policy_ascii : (policy : Policy) → list_all is_ascii (policy_name policy) ≡ true
policy_ascii Oldest = refl
policy_ascii LeastLive = refl

flaw_ascii : (flaw : Flaw) → list_all is_ascii (flaw_name flaw) ≡ true
flaw_ascii Fail = refl
flaw_ascii Short = refl
flaw_ascii Flip = refl

logs_ascii : (logs : List ℕ) → IsBytes logs → list_all (list_all is_ascii) (map decimal logs) ≡ true
logs_ascii [] small = refl
logs_ascii (log ∷ logs) small =
    let first : log < 256 = small 0 in
    rw (decimal_ascii log (omega arith), logs_ascii logs (λ k. small (suc k))) refl

-- the words of an entry are ASCII
said_ascii : (words : List (List ℕ)) (c : Entry) → Says words c → list_all (list_all is_ascii) words ≡ true
said_ascii words (HeapLine l m e) (inl h, first, second, third) = ap (list_all (list_all is_ascii)) h ∙ rw (decimal_ascii l first, decimal_ascii m second, decimal_ascii e third) refl
said_ascii words (HeapLine l m e) (inr h, first, second, third) = ap (list_all (list_all is_ascii)) h.0 ∙ rw (decimal_ascii l first, decimal_ascii m second) refl
said_ascii words (DeviceLine (Flawed flaw call)) h = ap (list_all (list_all is_ascii)) h.0 ∙ rw (flaw_ascii flaw, decimal_ascii call h.1) refl
said_ascii words (CommandLine (Mutator m (New l s))) h = ap (list_all (list_all is_ascii)) h.0 ∙ rw (decimal_ascii m h.1, decimal_ascii l h.2, decimal_ascii s h.3) refl
said_ascii words (CommandLine (Mutator m Open)) h = ap (list_all (list_all is_ascii)) h.0 ∙ rw (decimal_ascii m h.1) refl
said_ascii words (CommandLine (Mutator m (On p (Writes f b)))) h =
    ap (list_all (list_all is_ascii)) h.1 ∙ rw (decimal_ascii m h.2, decimal_ascii p h.3, decimal_ascii f h.4, spelled_ascii h.0 b h.5) refl
said_ascii words (CommandLine (Mutator m (On p (Reads f l)))) h = ap (list_all (list_all is_ascii)) h.0 ∙ rw (decimal_ascii m h.1, decimal_ascii p h.2, decimal_ascii f h.3, decimal_ascii l h.4) refl
said_ascii words (CommandLine (Mutator m Close)) h = ap (list_all (list_all is_ascii)) h.0 ∙ rw (decimal_ascii m h.1) refl
said_ascii words (CommandLine (Mutator m Epoch)) h = ap (list_all (list_all is_ascii)) h.0 ∙ rw (decimal_ascii m h.1) refl
said_ascii words (CommandLine (Mutator m request)) h = ap (list_all (list_all is_ascii)) h.0 ∙ rw (decimal_ascii m h.1, decimal_ascii _ h.2) refl
said_ascii words (CommandLine (Book Logs)) h = ap (list_all (list_all is_ascii)) h
said_ascii words (CommandLine (Book (Log l))) h = ap (list_all (list_all is_ascii)) h.0 ∙ rw (decimal_ascii l h.1) refl
said_ascii words (CommandLine (Book Audit)) h = ap (list_all (list_all is_ascii)) h
said_ascii words (CommandLine (Evacuator (Select (By policy) most))) h = ap (list_all (list_all is_ascii)) h.0 ∙ rw (policy_ascii policy, decimal_ascii most (omega (arith, h.1))) refl
said_ascii words (CommandLine (Evacuator (Select (Script logs) most))) h =
    ap (list_all (list_all is_ascii)) h.0 ∙ rw (decimal_ascii most (omega (arith, h.1)), logs_ascii logs h.2.0) refl
said_ascii words (CommandLine (Evacuator (Mark count))) h = ap (list_all (list_all is_ascii)) h.0 ∙ rw (decimal_ascii count h.1) refl
said_ascii words (CommandLine (Evacuator Wait)) h = ap (list_all (list_all is_ascii)) h
said_ascii words (CommandLine (Evacuator (Evacuate count))) h = ap (list_all (list_all is_ascii)) h.0 ∙ rw (decimal_ascii count h.1) refl
said_ascii words (CommandLine (Evacuator Abort)) h = ap (list_all (list_all is_ascii)) h
said_ascii words (CommandLine (Evacuator (Round policy most turns))) h =
    ap (list_all (list_all is_ascii)) h.0 ∙ rw (policy_ascii policy, decimal_ascii most (omega (arith, h.1)), decimal_ascii turns h.2) refl

joined_ascii : (words : List (List ℕ)) → list_all (list_all is_ascii) words ≡ true → list_all is_ascii (join_with_byte 32 words) ≡ true
joined_ascii [] e = refl
joined_ascii (x ∷ []) e = (and_parts (list_all is_ascii x) true e).0
joined_ascii (x ∷ y ∷ xs) e =
    let parts = and_parts (list_all is_ascii x) (list_all (list_all is_ascii) (y ∷ xs)) e in
    list_all-append is_ascii x (32 ∷ join_with_byte 32 (y ∷ xs)) ∙ rw (parts.0, joined_ascii (y ∷ xs) parts.1) refl

-- an entry is ASCII
pub entry_ascii : (line : List ℕ) (c : Entry) → entry_of (line_words line) ≡ Some c → list_all is_ascii line ≡ true
entry_ascii line c e =
    ap (list_all is_ascii) (sym (join_with_byte-slice_split 32 line)) ∙ joined_ascii (line_words line) (said_ascii (line_words line) c (read_is_said (line_words line) c e))

-- the first line of a text that begins with another byte than a newline begins with it
first_byte : (text : List ℕ) → 0 < length text → (get_or text 0 0 == 10) ≡ false → is_skipped (first_line text) ≡ (get_or text 0 0 == 35)
first_byte [] h e = absurd (omega arith)
first_byte (b ∷ text) h e = ap (λ l. is_skipped (front_of l)) (split_on (λ c. c == 10) b text e)

said_entry_line : (text : List ℕ) (c : Entry) → 0 < length text → (get_or text 0 0 == 10) ≡ false → (get_or text 0 0 == 35) ≡ false
    → Some c ≡ entry_of (words_in text) → length (first_line text) ≤ LONGEST_LINE → Saying c ≡ line_of (first_line text)
unfolding line_of
said_entry_line text c some other plain e short =
    let skipped : is_skipped (first_line text) ≡ false = first_byte text some other ∙ plain in
    let ascii = entry_ascii (first_line text) c (sym e) in
    let fits = le-leb (length (first_line text)) LONGEST_LINE short in
    rw (fits, ascii, skipped, sym e) refl

pub bad_entry : (text : List ℕ) → 0 < length text → (get_or text 0 0 == 10) ≡ false → (get_or text 0 0 == 35) ≡ false
    → entry_of (words_in text) ≡ None → line_of (first_line text) ≡ Bad
unfolding line_of
bad_entry text some other plain e =
    let skipped : is_skipped (first_line text) ≡ false = first_byte text some other ∙ plain in
    rw (skipped, e) (elim (is_plain (first_line text)) as (λ b. cond b Bad Bad ≡ Bad) [ true ↦ refl | false ↦ refl ])

-- what a line with content says, as it is spelled
pub spelled_line : (text : List ℕ) (o : Option Entry) → 0 < length text → (get_or text 0 0 == 10) ≡ false → (get_or text 0 0 == 35) ≡ false
    → o ≡ entry_of (words_in text) → length (first_line text) ≤ LONGEST_LINE → saying o ≡ line_of (first_line text)
spelled_line text (Some c) some other plain e short = said_entry_line text c some other plain e short
spelled_line text None some other plain e short = sym (bad_entry text some other plain (sym e))

pub long_line : (line : List ℕ) → LONGEST_LINE < length line → line_of line ≡ Bad
unfolding line_of
long_line line h = rw (lt-leb (length line) LONGEST_LINE h) refl

no_matter : (b : Bool) (line : Line) → cond (b && false) line Bad ≡ Bad
no_matter true line = refl
no_matter false line = refl

-- a byte that is not ASCII
pub other_line : (text : List ℕ) (i : ℕ) → i < length text → 128 ≤ get_or text i 0 → ((k : ℕ) → k < i → (get_or text k 0 == 10) ≡ false) → line_of (first_line text) ≡ Bad
unfolding line_of
other_line text i inside high none =
    let here : (get_or text i 0 == 10) ≡ false = grind (arith, nat_tests) in
    let at = line_at text (i + 1) (omega arith) (below_more (λ k. (get_or text k 0 == 10) ≡ false) i none here) in
    let front = take (i + 1) text in
    let more = first_line (drop (i + 1) text) in
    let line : first_line text ≡ front ++ more = ap front_of at in
    let len : length front ≡ i + 1 = length-take-le (i + 1) text (omega arith) in
    let sum = length-append front more in
    let same : get_or (front ++ more) i 0 ≡ get_or text i 0 = get_or_append_left front more 0 i (omega arith) ∙ get_or-take (i + 1) text i 0 (omega arith) in
    let fails : nat_lt (get_or (front ++ more) i 0) 128 ≡ false = rw same (lt-leb (suc (get_or text i 0)) 128 (omega arith)) in
    let all = list_all_at is_ascii (front ++ more) i 0 (omega arith) fails in
    rw (line, all) (no_matter (nat_le (length (front ++ more)) LONGEST_LINE) _)

-- a first line that ends at a place
pub line_ends : (text : List ℕ) (i : ℕ) → i < length text → get_or text i 0 ≡ 10 → ((k : ℕ) → k < i → (get_or text k 0 == 10) ≡ false)
    → lines_of text ≡ take i text ∷ lines_of (drop (i + 1) text)
line_ends text i inside newline none =
    let rest : drop i text ≡ 10 ∷ drop (i + 1) text = rw add-one (drop-cons text i 0 inside ∙ ap (λ b. b ∷ drop (suc i) text) newline) in
    line_at text i (omega arith) none ∙ ap (λ l. (take i text ++ first_line l) ∷ lines_after_first l) rest ∙ ap (λ w. w ∷ lines_of (drop (i + 1) text)) (append-nil (take i text))

pub line_all : (text : List ℕ) → ((k : ℕ) → k < length text → (get_or text k 0 == 10) ≡ false) → lines_of text ≡ text ∷ []
line_all text none =
    line_at text (length text) (omega arith) none ∙ ap (λ l. (take (length text) text ++ first_line l) ∷ lines_after_first l) (drop-length text)
    ∙ ap (λ w. w ∷ []) (append-nil (take (length text) text) ∙ take-length text)

pub long_comment : (text : List ℕ) (i : ℕ) → i ≤ length text → ((k : ℕ) → k < i → (get_or text k 0 == 10) ≡ false) → LONGEST_LINE < i → line_of (first_line text) ≡ Bad
long_comment text i h none long =
    let line : first_line text ≡ take i text ++ first_line (drop i text) = ap front_of (line_at text i h none) in
    let len = ap length line in
    let sum = length-append (take i text) (first_line (drop i text)) in
    let front = length-take-le i text h in
    long_line (first_line text) (omega arith)

-- a comment of ASCII
pub good_comment : (text : List ℕ) (i : ℕ) → 0 < i → i ≤ length text → i ≤ LONGEST_LINE → get_or text 0 0 ≡ 35 → ((k : ℕ) → k < i → get_or text k 0 < 128) → Skipped ≡ line_of (take i text)
unfolding line_of
good_comment text zero some h short first ascii = absurd (omega arith)
good_comment [] (suc i) some h short first ascii = absurd (omega arith)
good_comment (b ∷ text) (suc i) some h short first ascii =
    let len : length (take (suc i) (b ∷ text)) ≡ suc i = length-take-le (suc i) (b ∷ text) h in
    let all : list_all is_ascii (take (suc i) (b ∷ text)) ≡ true = ascii_list (take (suc i) (b ∷ text)) (λ k less. rw (get_or-take (suc i) (b ∷ text) k 0 (omega arith)) (ascii k (omega arith))) in
    let fits : nat_le (length (take (suc i) (b ∷ text))) LONGEST_LINE ≡ true = le-leb (length (take (suc i) (b ∷ text))) LONGEST_LINE (omega arith) in
    let hash : (b == 35) ≡ true = eq-eqb b 35 first in
    sym (rw (fits, all, hash) refl)

-- a newline stands behind a comment's first byte
pub comment_some : (text : List ℕ) (i : ℕ) → get_or text 0 0 ≡ 35 → get_or text i 0 ≡ 10 → 0 < i
comment_some text zero first last = absurd (omega arith)
comment_some text (suc i) first last = omega arith

pub empty_line : (text : List ℕ) → length text ≡ 0 → Skipped ≡ line_of (first_line text)
unfolding line_of
empty_line [] e = refl
empty_line (b ∷ text) e = absurd (omega arith)

pub newline_line : (text : List ℕ) → 0 < length text → get_or text 0 0 ≡ 10 → Skipped ≡ line_of (first_line text)
unfolding line_of
newline_line [] some e = absurd (omega arith)
newline_line (b ∷ text) some e = ap (λ m. line_of (first_line (m ∷ text))) (sym e)
