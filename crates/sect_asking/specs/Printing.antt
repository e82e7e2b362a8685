-- A question as it is printed. `print_question` cites it.
use Rattle.std.specs.Prelude.{ℕ, ℤ, Bool, true, false, if◌then◌else◌, List, [], ◌∷◌, ◌++◌, map, slice_index_or, codes}
use Rattle.std.specs.{List.{flat_map}, Fmt.{decimal, signed_decimal}}
use Rattle.sect_front.specs.{Spelling.{comparison_spelling}, declared.tree.Operator.{Operator}}
use Rattle.sect_front.specs.{declared.tree.Thread.{Thread}}
use Rattle.sect_front.specs.declared.tree.Operator.TheVariants as operator
use Rattle.sect_types.specs.{Programs.{ProgramView}, Sight.{names_of_globals, all_fields}}
use Rattle.sect_types.specs.declared.declarations.types.ValueType.{ValueType}
use Rattle.sect_types.specs.declared.declarations.types.ValueType.TheVariants.{Int, Refers}
use Rattle.sect_store.specs.Printing.{state_text}
use Rattle.sect_questions.specs.{declared.condition.Value.{Value}, declared.condition.Condition.{Condition}}
use Rattle.sect_questions.specs.declared.question.Question.{Question}
use Rattle.sect_asking.specs.declared.printing.Part.{Part}
use Rattle.sect_questions.specs.declared.condition.Value.TheVariants as value
use Rattle.sect_questions.specs.declared.condition.Condition.TheVariants as condition
use Rattle.sect_questions.specs.declared.question.Question.TheVariants as question
use Rattle.sect_asking.specs.declared.printing.Part.TheVariants as part

-- ---- names: what has none is printed as nothing

abbrev pub global_name : ProgramView → ℕ → List ℕ
global_name p g = slice_index_or (names_of_globals p.source.globals) g []

abbrev pub names_of_threads : List Thread → List (List ℕ)
names_of_threads ts = map (λ (t : Thread). t.name) ts

abbrev pub thread_name : ProgramView → ℕ → List ℕ
thread_name p t = slice_index_or (names_of_threads p.source.threads) t []

-- the name of a field of what is of this type
abbrev pub field_name : ProgramView → ValueType → ℕ → List ℕ
field_name p Int f = []
field_name p (Refers r) f = slice_index_or (slice_index_or (all_fields p.source.records) r []) f []

-- its type
abbrev pub field_type : ProgramView → ValueType → ℕ → ValueType
field_type p Int f = Int
field_type p (Refers r) f = slice_index_or (slice_index_or p.records r []) f Int

-- the type of a global: a reference to its record
abbrev pub global_type : ProgramView → ℕ → ValueType
global_type p g = Refers (slice_index_or p.globals g 0)

-- ---- what is compared

abbrev pub fields_text : ProgramView → ValueType → List ℕ → List ℕ
fields_text p of [] = []
fields_text p of (f ∷ fs) = codes "." ++ field_name p of f ++ fields_text p (field_type p of f) fs

abbrev pub operator_text : Operator → List ℕ
operator_text operator.Add = codes " + "
operator_text operator.Subtract = codes " - "
operator_text operator.Multiply = codes " * "

abbrev pub value_text : ProgramView → Value → List ℕ
value_text p (value.Number n) = signed_decimal n
value_text p value.Null = codes "null"
value_text p (value.Path g fields) = global_name p g ++ fields_text p (global_type p g) fields.items
value_text p (value.Printed i) = codes "print[" ++ decimal i ++ codes "]"
value_text p value.PrintedCount = codes "#print"
value_text p (value.TimesPrinted n) = codes "#" ++ signed_decimal n
value_text p (value.Computed' by q a r b) = value_text p a ++ operator_text by ++ value_text p b

-- ---- conditions

-- further numbers, each behind a comma
abbrev pub more_text : List ℤ → List ℕ
more_text ns = flat_map (λ n. codes ", " ++ signed_decimal n) ns

-- numbers with a comma between two
abbrev pub numbers_text : List ℤ → List ℕ
numbers_text [] = []
numbers_text (n ∷ ns) = signed_decimal n ++ more_text ns

abbrev pub opening : Bool → List ℕ
opening needed = if needed then codes "(" else []

abbrev pub closing : Bool → List ℕ
closing needed = if needed then codes ")" else []

-- a text in parentheses, where they are needed
abbrev pub in_parens : Bool → List ℕ → List ℕ
in_parens needed text = opening needed ++ text ++ closing needed

-- an `&&` stands in parentheses as the right side of another
abbrev pub needs_at_both : Part → Bool
needs_at_both part.Whole = false
needs_at_both part.OfEither = false
needs_at_both part.OfBoth = true

-- an `||` stands in parentheses as a side of `&&` and as the right side of another
abbrev pub needs_at_either : Part → Bool
needs_at_either part.Whole = false
needs_at_either part.OfEither = true
needs_at_either part.OfBoth = true

-- the condition as a part of what stands around it
abbrev pub condition_text : ProgramView → Part → Condition → List ℕ
condition_text p at (condition.Compares a by b) =
    value_text p a ++ codes " " ++ comparison_spelling by ++ codes " " ++ value_text p b
condition_text p at (condition.Ends t end) = codes "thread " ++ thread_name p t ++ codes " == " ++ state_text end
condition_text p at (condition.Prints numbers) = codes "print == [" ++ numbers_text numbers.items ++ codes "]"
condition_text p at (condition.Not' q c) = codes "!" ++ in_parens true (condition_text p part.Whole c)
condition_text p at (condition.Both' q c r d) = in_parens (needs_at_both at)
    (condition_text p part.OfEither c ++ codes " && " ++ condition_text p part.OfBoth d)
condition_text p at (condition.Either' q c r d) = in_parens (needs_at_either at)
    (condition_text p part.Whole c ++ codes " || " ++ condition_text p part.OfEither d)

-- ---- questions

abbrev pub threads_text : ProgramView → List ℕ → List ℕ
threads_text p ts = flat_map (λ t. codes " " ++ thread_name p t) ts

abbrev pub question_text : ProgramView → Question → List ℕ
question_text p (question.Always c) = codes "always " ++ condition_text p part.Whole c
question_text p (question.Exists c) = codes "exists " ++ condition_text p part.Whole c
question_text p (question.Never c) = codes "never " ++ condition_text p part.Whole c
question_text p (question.Keeps c) = codes "keeps " ++ condition_text p part.Whole c
question_text p question.Ends = codes "ends"
question_text p (question.Outcomes n) = codes "outcomes " ++ decimal n
question_text p (question.First threads) = codes "first" ++ threads_text p threads.items
