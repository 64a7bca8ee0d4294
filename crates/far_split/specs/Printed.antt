-- The text of what a split text is answered.
use Rattle.std.specs.Prelude.{ℕ, ◌+◌, List, [], ◌∷◌, ◌++◌, codes, decimal}
use Rattle.std.specs.List.{flat_map}
use Rattle.far_reply.specs.Reply.{Reply, refusal_text, reply_text}
use Rattle.far_split.specs.Joined.{Joined, Refused, Ran}

-- the line that stands before a mutator's replies
abbrev pub heading : ℕ → List ℕ
heading number = codes "mutator " ++ decimal number ++ codes "\n"

-- a mutator's line with its replies
abbrev pub part_text : ℕ → List Reply → List ℕ
part_text number replies = heading number ++ flat_map reply_text replies

-- those of mutators by number, from this one on
abbrev pub parts_text : ℕ → List (List Reply) → List ℕ
parts_text number [] = []
parts_text number (replies ∷ others) = part_text number replies ++ parts_text (number + 1) others

-- the book's line with its replies
abbrev pub book_text : List Reply → List ℕ
book_text replies = codes "book\n" ++ flat_map reply_text replies

-- each mutator's line and replies, by number, then the book's; or the refusal alone
abbrev pub split_text : Joined → List ℕ
split_text (Refused why) = refusal_text why
split_text (Ran mutators book) = parts_text 0 mutators ++ book_text book
