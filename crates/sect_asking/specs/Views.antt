-- Questions as plain data: what is asked, and not where it lies in memory.
use Rattle.std.specs.Prelude.{ℕ, ℤ, List, Option}
use Rattle.sect_front.specs.{declared.tree.Comparison.{Comparison}, declared.tree.Operator.{Operator}}
use Rattle.sect_types.specs.declared.meaning.store.End.{End}
use Rattle.sect_questions.specs.{declared.condition.Value.{Value}, declared.condition.Condition.{Condition}}
use Rattle.sect_questions.specs.declared.question.Question.{Question}
use Rattle.sect_questions.specs.declared.condition.Value.TheVariants as value
use Rattle.sect_questions.specs.declared.condition.Condition.TheVariants as condition
use Rattle.sect_questions.specs.declared.question.Question.TheVariants as question

pub data ValueView : Type 0 where
  Number : ℤ → ValueView
  Null : ValueView
  Path : ℕ → List ℕ → ValueView
  Printed : ℕ → ValueView
  PrintedCount : ValueView
  TimesPrinted : ℤ → ValueView
  Computed : Operator → ValueView → ValueView → ValueView

pub data ConditionView : Type 0 where
  Compares : ValueView → Comparison → ValueView → ConditionView
  Ends : ℕ → Option End → ConditionView
  Prints : List ℤ → ConditionView
  Not : ConditionView → ConditionView
  Both : ConditionView → ConditionView → ConditionView
  Either : ConditionView → ConditionView → ConditionView

pub data QuestionView : Type 0 where
  Always : ConditionView → QuestionView
  Exists : ConditionView → QuestionView
  Never : ConditionView → QuestionView
  Keeps : ConditionView → QuestionView
  EveryRunEnds : QuestionView
  Outcomes : ℕ → QuestionView
  First : List ℕ → QuestionView

abbrev pub value_view : Value → ValueView
value_view (value.Number n) = Number n
value_view value.Null = Null
value_view (value.Path g fields) = Path g fields.items
value_view (value.Printed i) = Printed i
value_view value.PrintedCount = PrintedCount
value_view (value.TimesPrinted n) = TimesPrinted n
value_view (value.Computed' o p a q b) = Computed o (value_view a) (value_view b)

abbrev pub condition_view : Condition → ConditionView
condition_view (condition.Compares a by b) = Compares (value_view a) by (value_view b)
condition_view (condition.Ends t end) = Ends t end
condition_view (condition.Prints numbers) = Prints numbers.items
condition_view (condition.Not' p c) = Not (condition_view c)
condition_view (condition.Both' p a q b) = Both (condition_view a) (condition_view b)
condition_view (condition.Either' p a q b) = Either (condition_view a) (condition_view b)

abbrev pub question_view : Question → QuestionView
question_view (question.Always c) = Always (condition_view c)
question_view (question.Exists c) = Exists (condition_view c)
question_view (question.Never c) = Never (condition_view c)
question_view (question.Keeps c) = Keeps (condition_view c)
question_view question.Ends = EveryRunEnds
question_view (question.Outcomes n) = Outcomes n
question_view (question.First threads) = First threads.items
