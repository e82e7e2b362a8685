-- The comments of a source text that are questions.
use Rattle.std.specs.Prelude.{ℕ, ◌+◌, Bool, false, not, ◌||◌, ◌&&◌, ◌==◌, if◌then◌else◌, List, [], ◌∷◌, ◌++◌}
use Rattle.std.specs.List.{prefix_len}
use Rattle.sect_front.specs.Gaps.{line_feed, slash}
use Rattle.sect_questions.specs.declared.comments.AskedComment.{AskedComment}

abbrev pub question_mark : ℕ
question_mark = 63

-- these bytes open a comment
abbrev pub opens : List ℕ → Bool
opens [] = false
opens (b ∷ []) = false
opens (b ∷ c ∷ bs) = b == slash && c == slash

-- they open one that is a question
abbrev pub asks : List ℕ → Bool
asks [] = false
asks (b ∷ []) = false
asks (b ∷ c ∷ []) = false
asks (b ∷ c ∷ d ∷ bs) = b == slash && (c == slash && d == question_mark)

-- how many bytes the line has that these begin
abbrev pub line_length : List ℕ → ℕ
line_length bs = prefix_len (λ b. not (b == line_feed)) bs

-- whether what follows the first byte is in a comment, where the first is in one or isn't
abbrev pub in_comment : Bool → List ℕ → Bool
in_comment comment [] = false
in_comment comment (b ∷ bs) = if b == line_feed then false else (comment || opens (b ∷ bs))

-- the line of what follows a byte
abbrev pub line_behind : ℕ → ℕ → ℕ
line_behind line b = if b == line_feed then line + 1 else line

-- the question whose comment opens here, where the first byte is in none: it stands behind `//?`, up to the line's end
abbrev pub asked_here : Bool → ℕ → ℕ → List ℕ → List AskedComment
asked_here comment place line bs =
    if not comment && asks bs
    then record { line = line; span = record { start = place + 3; end = place + line_length bs } } ∷ []
    else []

-- the questions of the bytes from a place on, which is on this line
abbrev pub asked_from : Bool → ℕ → ℕ → List ℕ → List AskedComment
asked_from comment place line [] = []
asked_from comment place line (b ∷ bs) =
    asked_here comment place line (b ∷ bs)
    ++ asked_from (in_comment comment (b ∷ bs)) (place + 1) (line_behind line b) bs

-- those of a text, whose lines are counted from 1
abbrev pub asked_of : List ℕ → List AskedComment
asked_of source = asked_from false 0 1 source
