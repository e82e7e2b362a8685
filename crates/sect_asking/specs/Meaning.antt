-- What a question as it is written asks of a program, or the first place at which it asks nothing.
use Rattle.std.specs.Prelude.{◌≡◌, ℕ, ℤ, pos, neg_ℤ, Bool, true, false, ◌&&◌, ◌==◌, if◌then◌else◌, nat_lt, length}
use Rattle.std.specs.Prelude.{List, [], ◌∷◌, map, Option, Some, None, Result, Ok, Err, slice_get, position, ⊤}
use Rattle.sect_front.specs.{declared.tree.Record.{Record}, declared.tree.GlobalObject.{GlobalObject}}
use Rattle.sect_front.specs.{declared.tree.Thread.{Thread}, declared.tree.Declaration.{Declaration}}
use Rattle.sect_types.specs.{Programs.{ProgramView}, Sight.{same_name}}
use Rattle.sect_types.specs.declared.declarations.types.ValueType.{ValueType}
use Rattle.sect_types.specs.declared.declarations.types.ValueType.TheVariants as type
use Rattle.sect_asking.specs.{Printing.{field_type, global_type}, Views.{ValueView, ConditionView}}
use Rattle.sect_asking.specs.{Views.{QuestionView}, declared.resolving.Misfit.{Misfit}, declared.resolving.Kind.{Kind}}
use Rattle.sect_asking.specs.{declared.phrase.Word.{Word}, declared.phrase.Numeral.{Numeral}}
use Rattle.sect_asking.specs.{declared.phrase.ThreadWord.{ThreadWord}, declared.phrase.Relation.{Relation}}
use Rattle.sect_asking.specs.declared.phrase.ValuePhrase.{ValuePhrase}
use Rattle.sect_asking.specs.declared.phrase.ConditionPhrase.{ConditionPhrase}
use Rattle.sect_asking.specs.declared.phrase.QuestionPhrase.{QuestionPhrase}
use Rattle.sect_asking.specs.Views as view
use Rattle.sect_front.specs.declared.tree.Comparison.TheVariants as comparison
use Rattle.sect_asking.specs.declared.resolving.Misfit.TheVariants as misfit
use Rattle.sect_asking.specs.declared.resolving.Kind.TheVariants as kind
use Rattle.sect_asking.specs.declared.phrase.ThreadWord.TheVariants as thread
use Rattle.sect_asking.specs.declared.phrase.Relation.TheVariants as relation
use Rattle.sect_asking.specs.declared.phrase.ValuePhrase.TheVariants as value
use Rattle.sect_asking.specs.declared.phrase.ConditionPhrase.TheVariants as condition
use Rattle.sect_asking.specs.declared.phrase.QuestionPhrase.TheVariants as question

abbrev pub Meant : Type 0 → Type 0
Meant X = Result X Misfit

abbrev pub meant_then : {X Y : Type 0} → Meant X → (X → Meant Y) → Meant Y
meant_then (Ok x) f = f x
meant_then (Err e) f = Err e

-- ---- names

-- what has this name, by its number
abbrev pub named : Word → Option ℕ → Meant ℕ
named word None = Err (misfit.Unknown word.left)
named word (Some n) = Ok n

abbrev pub global_meant : ProgramView → Word → Meant ℕ
global_meant p word =
    named word (position (λ (g : GlobalObject). same_name word.name g.name) p.source.globals)

abbrev pub fields_in : Option Record → List Declaration
fields_in None = []
fields_in (Some r) = r.fields

abbrev pub field_meant : ProgramView → ℕ → Word → Meant ℕ
field_meant p r word =
    named word (position (λ (d : Declaration). same_name word.name d.name) (fields_in (slice_get p.source.records r)))

abbrev pub thread_meant : ProgramView → ThreadWord → Meant ℕ
thread_meant p (thread.Named word) =
    named word (position (λ (t : Thread). same_name word.name t.name) p.source.threads)
thread_meant p (thread.Numbered n left) = if nat_lt n (length p.texts) then Ok n else Err (misfit.Unknown left)

abbrev pub threads_meant : ProgramView → List ThreadWord → Meant (List ℕ)
threads_meant p [] = Ok []
threads_meant p (t ∷ ts) = meant_then (thread_meant p t) (λ n. meant_then (threads_meant p ts) (λ ns. Ok (n ∷ ns)))

-- ---- what is compared

abbrev pub integer : Numeral → ℤ
integer n = if n.minus then neg_ℤ (pos n.value) else pos n.value

abbrev pub kind_of : ValueType → Kind
kind_of type.Int = kind.Int
kind_of (type.Refers r) = kind.Refers r

-- the fields of a path that goes on from what is of this type, and the type of what stands at its end
abbrev pub fields_meant : ProgramView → ValueType → List Word → Meant (List ℕ × ValueType)
fields_meant p of [] = Ok ([], of)
fields_meant p type.Int (w ∷ ws) = Err (misfit.Kind w.left)
fields_meant p (type.Refers r) (w ∷ ws) =
    meant_then (field_meant p r w) (λ f. meant_then (fields_meant p (field_type p (type.Refers r) f) ws)
    (λ rest. Ok (f ∷ rest.0, rest.1)))

abbrev pub path_meant : ProgramView → Word → List Word → Meant (ValueView × Kind)
path_meant p g fields =
    meant_then (global_meant p g) (λ n. meant_then (fields_meant p (global_type p n) fields)
    (λ rest. Ok (view.Path n rest.0, kind_of rest.1)))

abbrev pub is_int : Kind → Bool
is_int kind.Int = true
is_int _ = false

-- two integers, two references to objects of one record, or null beside a reference
abbrev pub may_equal : Kind → Kind → Bool
may_equal kind.Int kind.Int = true
may_equal (kind.Refers r) (kind.Refers s) = r == s
may_equal kind.Null kind.Null = true
may_equal kind.Null (kind.Refers s) = true
may_equal (kind.Refers r) kind.Null = true
may_equal _ _ = false

-- a value and its kind
abbrev pub value_meant : ProgramView → ValuePhrase → Meant (ValueView × Kind)
value_meant p (value.Number n) = Ok (view.Number (integer n), kind.Int)
value_meant p value.Null = Ok (view.Null, kind.Null)
value_meant p (value.Path g fields) = path_meant p g fields.items
value_meant p (value.Printed n) = Ok (view.Printed n, kind.Int)
value_meant p value.PrintedCount = Ok (view.PrintedCount, kind.Int)
value_meant p (value.TimesPrinted n) = Ok (view.TimesPrinted (integer n), kind.Int)
value_meant p (value.Computed' o left q a r b) =
    meant_then (value_meant p a) (λ x. meant_then (value_meant p b) (λ y.
    if is_int x.1 && is_int y.1 then Ok (view.Computed o x.0 y.0, kind.Int) else Err (misfit.Kind left)))

-- ---- conditions

abbrev pub may_compare : Relation → Kind → Kind → Bool
may_compare relation.Equal k l = may_equal k l
may_compare relation.NotEqual k l = may_equal k l
may_compare _ k l = is_int k && is_int l

-- `>` and `>=` are `<` and `<=` the other way round
abbrev pub compared : Relation → ValueView → ValueView → ConditionView
compared relation.Equal a b = view.Compares a comparison.Equal b
compared relation.NotEqual a b = view.Compares a comparison.NotEqual b
compared relation.Less a b = view.Compares a comparison.Less b
compared relation.LessOrEqual a b = view.Compares a comparison.LessOrEqual b
compared relation.Greater a b = view.Compares b comparison.Less a
compared relation.GreaterOrEqual a b = view.Compares b comparison.LessOrEqual a

abbrev pub denied_if : Bool → ConditionView → ConditionView
denied_if denied c = if denied then view.Not c else c

abbrev pub condition_meant : ProgramView → ConditionPhrase → Meant ConditionView
condition_meant p (condition.Compares by left a b) =
    meant_then (value_meant p a) (λ x. meant_then (value_meant p b) (λ y.
    if may_compare by x.1 y.1 then Ok (compared by x.0 y.0) else Err (misfit.Kind left)))
condition_meant p (condition.Ends t denied end) =
    meant_then (thread_meant p t) (λ n. Ok (denied_if denied (view.Ends n end)))
condition_meant p (condition.Prints denied numbers) = Ok (denied_if denied (view.Prints (map integer numbers.items)))
condition_meant p (condition.Not' q c) = meant_then (condition_meant p c) (λ x. Ok (view.Not x))
condition_meant p (condition.Group' q c) = condition_meant p c
condition_meant p (condition.Both' q a r b) =
    meant_then (condition_meant p a) (λ x. meant_then (condition_meant p b) (λ y. Ok (view.Both x y)))
condition_meant p (condition.Either' q a r b) =
    meant_then (condition_meant p a) (λ x. meant_then (condition_meant p b) (λ y. Ok (view.Either x y)))

-- ---- questions

abbrev pub question_meant : ProgramView → QuestionPhrase → Meant QuestionView
question_meant p (question.Always c) = meant_then (condition_meant p c) (λ x. Ok (view.Always x))
question_meant p (question.Exists c) = meant_then (condition_meant p c) (λ x. Ok (view.Exists x))
question_meant p (question.Never c) = meant_then (condition_meant p c) (λ x. Ok (view.Never x))
question_meant p (question.Keeps c) = meant_then (condition_meant p c) (λ x. Ok (view.Keeps x))
question_meant p question.Ends = Ok view.EveryRunEnds
question_meant p (question.Outcomes n) = Ok (view.Outcomes n)
question_meant p (question.First threads) = meant_then (threads_meant p threads.items) (λ ns. Ok (view.First ns))

-- the answer is what is meant, or says why nothing is, unless memory ran out
abbrev pub IsAnswer : {X : Type 0} → Meant X → Misfit → Type 0
IsAnswer meant misfit.Memory = ⊤
IsAnswer meant e = meant ≡ Err e
