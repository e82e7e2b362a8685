-- What a condition says of the outcome of a run. `holds` cites it.
use Rattle.std.specs.Prelude.{◌≡◌, ◌⊎◌, ◌^◌, ◌&&◌, ◌||◌, ℕ, ℤ, pos, negsuc, Bool, true, false, not, List, [], ◌∷◌}
use Rattle.std.specs.Prelude.{Option, Some, None, length, slice_get, nat_lt, int_lt, int_le, count_by}
use Rattle.std.specs.{Ordering.{int_eq}, Option.{option_eq}, Cmp.Lexicographic.{pointwise}}
use Rattle.sect_front.specs.{declared.tree.Comparison.{Comparison}, declared.tree.Operator.{Operator}}
use Rattle.sect_types.specs.declared.meaning.store.Datum.{Datum}
use Rattle.sect_types.specs.declared.meaning.store.Datum.TheVariants.{Number, Null, Refers}
use Rattle.sect_types.specs.{declared.meaning.store.End.{End}, declared.meaning.store.ObjectName.TheVariants.{Global}}
use Rattle.sect_types.specs.{Store.{ObjectView, StoreView, object_at, same_name}, Meaning.{result_of}}
use Rattle.sect_types.specs.Whole.{option_then}
use Rattle.sect_store.specs.Outcomes.{OutcomeView}
use Rattle.sect_questions.specs.{declared.known.Known.{Known}, declared.condition.Value.{Value}}
use Rattle.sect_questions.specs.declared.condition.Condition.{Condition}
use Rattle.sect_front.specs.declared.tree.Comparison.TheVariants as comparison
use Rattle.sect_types.specs.declared.meaning.store.End.TheVariants as ending
use Rattle.sect_types.specs.declared.meaning.store.Fault.TheVariants as fault
use Rattle.sect_questions.specs.declared.known.Known.TheVariants as known
use Rattle.sect_questions.specs.declared.condition.Value.TheVariants as value
use Rattle.sect_questions.specs.declared.condition.Condition.TheVariants as condition

-- a field of an object that is there
abbrev pub field_in : Option ObjectView → ℕ → Option Datum
field_in None f = None
field_in (Some o) f = slice_get o.fields f

-- a field of what a datum refers to
abbrev pub behind : StoreView → Datum → ℕ → Option Datum
behind s (Refers o) f = field_in (object_at s o) f
behind s (Number n) f = None
behind s Null f = None

-- what stands at the end of a path of fields; none where it looks through what is no reference
abbrev pub at_path : StoreView → List ℕ → Datum → Option Datum
at_path s [] d = Some d
at_path s (f ∷ fs) d = option_then (behind s d f) (at_path s fs)

-- what a datum is, as what a value comes to
abbrev pub known_of : Datum → Known
known_of (Number n) = known.Number n
known_of Null = known.Null
known_of (Refers o) = known.Refers o

abbrev pub if_there : Option Datum → Option Known
if_there None = None
if_there (Some d) = Some (known_of d)

abbrev pub number_there : Option ℤ → Option Known
number_there None = None
number_there (Some n) = Some (known.Number n)

-- the number that it is; 0 where it is none
abbrev pub whole_of : Known → ℤ
whole_of (known.Number n) = n
whole_of known.Null = pos 0
whole_of (known.Refers o) = pos 0

abbrev pub same_known : Known → Known → Bool
same_known (known.Number n) (known.Number m) = int_eq n m
same_known known.Null known.Null = true
same_known (known.Refers o) (known.Refers q) = same_name o q
same_known _ _ = false

abbrev pub compares_known : Comparison → Known → Known → Bool
compares_known comparison.Equal a b = same_known a b
compares_known comparison.NotEqual a b = not (same_known a b)
compares_known comparison.Less a b = int_lt (whole_of a) (whole_of b)
compares_known comparison.LessOrEqual a b = int_le (whole_of a) (whole_of b)

-- how often the number stands in the list
abbrev pub times : ℤ → List ℤ → ℕ
times n output = count_by (λ x. int_eq x n) output

-- both are there
abbrev pub with_both : {X : Type 0} → Option Known → Option Known → X → (Known → Known → X) → X
with_both None b missing go = missing
with_both (Some a) None missing go = missing
with_both (Some a) (Some b) missing go = go a b

abbrev pub computed : Operator → Option Known → Option Known → Option Known
computed o a b = with_both a b None (λ x y. Some (known.Number (result_of o (whole_of x) (whole_of y))))

-- what a value comes to in an outcome; none where there is no such value
abbrev pub value_of : OutcomeView → Value → Option Known
value_of o (value.Number n) = Some (known.Number n)
value_of o value.Null = Some known.Null
value_of o (value.Path g fields) = if_there (at_path o.store fields.items (Refers (Global g)))
value_of o (value.Printed i) = number_there (slice_get o.output i)
value_of o value.PrintedCount = Some (known.Number (pos (length o.output)))
value_of o (value.TimesPrinted n) = Some (known.Number (pos (times n o.output)))
value_of o (value.Computed' by p a q b) = computed by (value_of o a) (value_of o b)

-- the two threads' ends are one
abbrev pub same_end : End → End → Bool
same_end ending.Done ending.Done = true
same_end (ending.Failed fault.Overflow) (ending.Failed fault.Overflow) = true
same_end (ending.Failed fault.Null) (ending.Failed fault.Null) = true
same_end (ending.Failed fault.Fuel) (ending.Failed fault.Fuel) = true
same_end _ _ = false

abbrev pub ended_so : Option (Option End) → Option End → Bool
ended_so None wanted = false
ended_so (Some end) wanted = option_eq same_end end wanted

-- the thread is there, and has ended so, or still runs
abbrev pub is_ended : List (Option End) → ℕ → Option End → Bool
is_ended ends t wanted = ended_so (slice_get ends t) wanted

-- the condition holds of the outcome
abbrev pub holds : OutcomeView → Condition → Bool
holds o (condition.Compares a by b) = with_both (value_of o a) (value_of o b) false (compares_known by)
holds o (condition.Ends t end) = is_ended o.ends t end
holds o (condition.Prints numbers) = pointwise int_eq o.output numbers.items
holds o (condition.Not' p c) = not (holds o c)
holds o (condition.Both' p c q d) = holds o c && holds o d
holds o (condition.Either' p c q d) = holds o c || holds o d

-- the number has 128 bits
abbrev pub is_within : ℤ → Bool
is_within (pos n) = nat_lt n (2 ^ 127)
is_within (negsuc n) = nat_lt n (2 ^ 127)

abbrev pub IsGreat : Option Known → Type 0
IsGreat None = ⊥
IsGreat (Some k) = is_within (whole_of k) ≡ false

-- some sum in the value is beyond 128 bits
abbrev pub HasGreatPart : OutcomeView → Value → Type 0
HasGreatPart o (value.Number n) = ⊥
HasGreatPart o value.Null = ⊥
HasGreatPart o (value.Path g fields) = ⊥
HasGreatPart o (value.Printed i) = ⊥
HasGreatPart o value.PrintedCount = ⊥
HasGreatPart o (value.TimesPrinted n) = ⊥
HasGreatPart o (value.Computed' by p a q b) =
    HasGreatPart o a ⊎ (HasGreatPart o b ⊎ IsGreat (computed by (value_of o a) (value_of o b)))

-- some sum in the condition is
abbrev pub HasGreat : OutcomeView → Condition → Type 0
HasGreat o (condition.Compares a by b) = HasGreatPart o a ⊎ HasGreatPart o b
HasGreat o (condition.Ends t end) = ⊥
HasGreat o (condition.Prints numbers) = ⊥
HasGreat o (condition.Not' p c) = HasGreat o c
HasGreat o (condition.Both' p c q d) = HasGreat o c ⊎ HasGreat o d
HasGreat o (condition.Either' p c q d) = HasGreat o c ⊎ HasGreat o d
