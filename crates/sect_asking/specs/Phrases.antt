-- The marks of a question as it is written, rule by rule as the grammar has them, before those of what follows it.
use Rattle.std.specs.Prelude.{◌≡◌, ℕ, Bool, true, false, not, ◌&&◌, if◌then◌else◌, List, [], ◌∷◌, length, drop}
use Rattle.std.specs.Prelude.{Option, Some, None, ⊤, codes}
use Rattle.sect_front.specs.{Gaps.{after_gap}, declared.tree.Operator.{Operator}}
use Rattle.sect_types.specs.declared.meaning.store.End.{End}
use Rattle.sect_asking.specs.{Marks.{IsFirst}, Printing.{needs_at_both, needs_at_either}}
use Rattle.sect_asking.specs.{declared.mark.Mark.{Mark}, declared.mark.Sign.{Sign}, declared.printing.Part.{Part}}
use Rattle.sect_asking.specs.{declared.phrase.Word.{Word}, declared.phrase.Numeral.{Numeral}}
use Rattle.sect_asking.specs.{declared.phrase.ThreadWord.{ThreadWord}, declared.phrase.Relation.{Relation}}
use Rattle.sect_asking.specs.{declared.phrase.ValuePhrase.{ValuePhrase}}
use Rattle.sect_asking.specs.{declared.phrase.ConditionPhrase.{ConditionPhrase}}
use Rattle.sect_asking.specs.{declared.phrase.QuestionPhrase.{QuestionPhrase}}
use Rattle.sect_front.specs.declared.tree.Operator.TheVariants as operator
use Rattle.sect_types.specs.declared.meaning.store.End.TheVariants as ending
use Rattle.sect_types.specs.declared.meaning.store.Fault.TheVariants as fault
use Rattle.sect_asking.specs.declared.mark.Mark.TheVariants as mark
use Rattle.sect_asking.specs.declared.mark.Sign.TheVariants as sign
use Rattle.sect_asking.specs.declared.printing.Part.TheVariants as part
use Rattle.sect_asking.specs.declared.phrase.ThreadWord.TheVariants as thread
use Rattle.sect_asking.specs.declared.phrase.Relation.TheVariants as relation
use Rattle.sect_asking.specs.declared.phrase.ValuePhrase.TheVariants as value
use Rattle.sect_asking.specs.declared.phrase.ConditionPhrase.TheVariants as condition
use Rattle.sect_asking.specs.declared.phrase.QuestionPhrase.TheVariants as question

-- a mark, and where it tells its place, how many bytes are left from its first on
pub record Spot : Type 0 where
  pub mark : Mark
  pub left : Option ℕ

abbrev pub mark_spot : Mark → List Spot → List Spot
mark_spot m w = record { mark = m; left = None } ∷ w

-- a mark in its place
abbrev pub spot_at : Mark → ℕ → List Spot → List Spot
spot_at m n w = record { mark = m; left = Some n } ∷ w

abbrev pub sign_spot : Sign → List Spot → List Spot
sign_spot s w = mark_spot (mark.Sign s) w

abbrev pub placed_spot : Sign → ℕ → List Spot → List Spot
placed_spot s n w = spot_at (mark.Sign s) n w

-- a word of questions that is no keyword
abbrev pub plain_spot : List ℕ → List Spot → List Spot
plain_spot name w = mark_spot (mark.Name name) w

abbrev pub number_spot : ℕ → List Spot → List Spot
number_spot n w = mark_spot (mark.Number n) w

abbrev pub word_spot : Word → List Spot → List Spot
word_spot word w = spot_at (mark.Name word.name) word.left w

-- ["-"] integer
abbrev pub numeral_spots : Numeral → List Spot → List Spot
numeral_spots n w = if n.minus then sign_spot sign.Minus (number_spot n.value w) else number_spot n.value w

-- thread = name | integer
abbrev pub thread_spots : ThreadWord → List Spot → List Spot
thread_spots (thread.Named word) w = word_spot word w
thread_spots (thread.Numbered n left) w = spot_at (mark.Number n) left w

abbrev pub operator_sign : Operator → Sign
operator_sign operator.Add = sign.Plus
operator_sign operator.Subtract = sign.Minus
operator_sign operator.Multiply = sign.Star

abbrev pub relation_sign : Relation → Sign
relation_sign relation.Equal = sign.Equal
relation_sign relation.NotEqual = sign.NotEqual
relation_sign relation.Less = sign.Less
relation_sign relation.LessOrEqual = sign.LessOrEqual
relation_sign relation.Greater = sign.Greater
relation_sign relation.GreaterOrEqual = sign.GreaterOrEqual

-- {"." name}
abbrev pub fields_spots : List Word → List Spot → List Spot
fields_spots [] w = w
fields_spots (f ∷ fs) w = sign_spot sign.Dot (word_spot f (fields_spots fs w))

-- value = number | "null" | name {"." name} | "print" "[" integer "]" | "#" "print" | "#" number
-- and two values with an operator between them
abbrev pub value_spots : ValuePhrase → List Spot → List Spot
value_spots (value.Number n) w = numeral_spots n w
value_spots value.Null w = sign_spot sign.Null w
value_spots (value.Path g fields) w = word_spot g (fields_spots fields.items w)
value_spots (value.Printed n) w =
    sign_spot sign.Print (sign_spot sign.OpenBracket (number_spot n (sign_spot sign.CloseBracket w)))
value_spots value.PrintedCount w = sign_spot sign.Hash (sign_spot sign.Print w)
value_spots (value.TimesPrinted n) w = sign_spot sign.Hash (numeral_spots n w)
value_spots (value.Computed' o left p a q b) w = value_spots a (placed_spot (operator_sign o) left (value_spots b w))

abbrev pub is_value : ValuePhrase → Bool
is_value (value.Computed' o left p a q b) = false
is_value _ = true

-- term = value {"*" value}
abbrev pub is_term : ValuePhrase → Bool
is_term (value.Computed' operator.Add left p a q b) = false
is_term (value.Computed' operator.Subtract left p a q b) = false
is_term (value.Computed' operator.Multiply left p a q b) = is_term a && is_value b
is_term _ = true

-- sum = term {("+"|"-") term}
abbrev pub is_sum : ValuePhrase → Bool
is_sum (value.Computed' operator.Add left p a q b) = is_sum a && is_term b
is_sum (value.Computed' operator.Subtract left p a q b) = is_sum a && is_term b
is_sum (value.Computed' operator.Multiply left p a q b) = is_term a && is_value b
is_sum _ = true

-- {"," number}
abbrev pub more_numbers : List Numeral → List Spot → List Spot
more_numbers [] w = w
more_numbers (n ∷ ns) w = sign_spot sign.Comma (numeral_spots n (more_numbers ns w))

-- [number {"," number}]
abbrev pub numbers_spots : List Numeral → List Spot → List Spot
numbers_spots [] w = w
numbers_spots (n ∷ ns) w = numeral_spots n (more_numbers ns w)

-- "==", or "!=" of what is denied
abbrev pub equal_sign : Bool → Sign
equal_sign denied = if denied then sign.NotEqual else sign.Equal

abbrev pub end_spot : Option End → List Spot → List Spot
end_spot None w = plain_spot (codes "running") w
end_spot (Some ending.Done) w = plain_spot (codes "done") w
end_spot (Some (ending.Failed fault.Overflow)) w = plain_spot (codes "overflow") w
end_spot (Some (ending.Failed fault.Null)) w = sign_spot sign.Null w
end_spot (Some (ending.Failed fault.Fuel)) w = plain_spot (codes "fuel") w

abbrev pub condition_spots : ConditionPhrase → List Spot → List Spot
condition_spots (condition.Compares by left a b) w =
    value_spots a (placed_spot (relation_sign by) left (value_spots b w))
condition_spots (condition.Ends t denied end) w =
    sign_spot sign.Thread (thread_spots t (sign_spot (equal_sign denied) (end_spot end w)))
condition_spots (condition.Prints denied numbers) w =
    sign_spot sign.Print (sign_spot (equal_sign denied) (sign_spot sign.OpenBracket
    (numbers_spots numbers.items (sign_spot sign.CloseBracket w))))
condition_spots (condition.Not' p c) w = sign_spot sign.Not (condition_spots c w)
condition_spots (condition.Group' p c) w = sign_spot sign.OpenParen (condition_spots c (sign_spot sign.CloseParen w))
condition_spots (condition.Both' p a q b) w = condition_spots a (sign_spot sign.And (condition_spots b w))
condition_spots (condition.Either' p a q b) w = condition_spots a (sign_spot sign.Or (condition_spots b w))

-- whether it may stand so as a part of what stands around it, by the same rule as it is printed by:
-- cond = both {"||" both}, both = one {"&&" one}
abbrev pub is_part : Part → ConditionPhrase → Bool
is_part at (condition.Compares by left a b) = is_sum a && is_sum b
is_part at (condition.Ends t denied end) = true
is_part at (condition.Prints denied numbers) = true
is_part at (condition.Not' p c) = is_part part.OfBoth c
is_part at (condition.Group' p c) = is_part part.Whole c
is_part at (condition.Both' p a q b) = not (needs_at_both at) && (is_part part.OfEither a && is_part part.OfBoth b)
is_part at (condition.Either' p a q b) = not (needs_at_either at) && (is_part part.Whole a && is_part part.OfEither b)

-- {thread}
abbrev pub threads_spots : List ThreadWord → List Spot → List Spot
threads_spots [] w = w
threads_spots (t ∷ ts) w = thread_spots t (threads_spots ts w)

abbrev pub question_spots : QuestionPhrase → List Spot → List Spot
question_spots (question.Always c) w = plain_spot (codes "always") (condition_spots c w)
question_spots (question.Exists c) w = plain_spot (codes "exists") (condition_spots c w)
question_spots (question.Never c) w = plain_spot (codes "never") (condition_spots c w)
question_spots (question.Keeps c) w = plain_spot (codes "keeps") (condition_spots c w)
question_spots question.Ends w = plain_spot (codes "ends") w
question_spots (question.Outcomes n) w = plain_spot (codes "outcomes") (number_spot n w)
question_spots (question.First threads) w = plain_spot (codes "first") (threads_spots threads.items w)

abbrev pub has_some : {A : Type 0} → List A → Bool
has_some [] = false
has_some (x ∷ xs) = true

-- it is one by the grammar
abbrev pub is_question : QuestionPhrase → Bool
is_question (question.Always c) = is_part part.Whole c
is_question (question.Exists c) = is_part part.Whole c
is_question (question.Never c) = is_part part.Whole c
is_question (question.Keeps c) = is_part part.Whole c
is_question question.Ends = true
is_question (question.Outcomes n) = true
is_question (question.First threads) = has_some threads.items

-- the place that a mark tells is this
abbrev pub IsLeft : Option ℕ → List ℕ → Type 0
IsLeft None here = ⊤
IsLeft (Some n) here = n ≡ length here

-- these marks stand at the front, with gaps behind each, and this follows
abbrev pub AreStanding : List ℕ → List Spot → List ℕ → Type 0
AreStanding here [] there = here ≡ there
AreStanding here (s ∷ ss) there =
    (n : ℕ) × IsFirst s.mark n here × IsLeft s.left here × AreStanding (after_gap (drop n here)) ss there

-- the text spells a question that is written so, with gaps before, between and behind its marks
pub record IsWritten (bytes : List ℕ) (q : QuestionPhrase) : Type 0 where
  pub grammar : is_question q ≡ true
  pub spells : AreStanding (after_gap bytes) (question_spots q []) []
