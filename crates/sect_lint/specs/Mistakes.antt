-- What may be wrong with a source text, and what is said of it.
use Rattle.std.specs.Prelude.{ℕ, List, Option, Some, None, codes}
use Rattle.sect_front.specs.declared.parsing.FrontFault.{FrontFault}
use Rattle.sect_types.specs.declared.rules.rule.TypeFault.{TypeFault}
use Rattle.sect_names.specs.{declared.fault.SchemeFault.{SchemeFault}, declared.refusal.SourceRefusal.{SourceRefusal}}
use Rattle.sect_lint.specs.declared.mistake.Mistake.{Mistake}
use Rattle.sect_front.specs.declared.parsing.FrontFault.TheVariants as front
use Rattle.sect_types.specs.declared.rules.rule.TypeFault.TheVariants as types
use Rattle.sect_names.specs.declared.fault.SchemeFault.TheVariants as scheme
use Rattle.sect_names.specs.declared.refusal.SourceRefusal.TheVariants as refusal
use Rattle.sect_lint.specs.declared.mistake.Mistake.TheVariants as mistake

abbrev pub of_front : FrontFault → Option Mistake
of_front front.Memory = None
of_front (front.BadByte line) = Some mistake.BadByte
of_front (front.BadNumber line) = Some mistake.BadNumber
of_front (front.LongName line) = Some mistake.LongName
of_front (front.Unexpected line) = Some mistake.Unexpected
of_front (front.UnexpectedEnd line) = Some mistake.UnexpectedEnd
of_front (front.TooDeep line) = Some mistake.TooDeep
of_front front.TooLarge = Some mistake.TooLarge

abbrev pub of_types : TypeFault → Option Mistake
of_types types.Memory = None
of_types (types.Unknown item) = Some mistake.Unknown
of_types (types.Twice item) = Some mistake.Twice
of_types (types.WrongType item) = Some mistake.WrongType
of_types (types.SharedOutside item) = Some mistake.SharedOutside
of_types (types.Nested item) = Some mistake.Nested
of_types (types.TooMany item) = Some mistake.TooMany
of_types (types.Recursion item) = Some mistake.Recursion
of_types (types.Arguments item) = Some mistake.Arguments

-- that there is no k so great is no mistake of the text
abbrev pub of_scheme : SchemeFault → Option Mistake
of_scheme scheme.Memory = None
of_scheme scheme.BadK = None
of_scheme (scheme.NoSuchGlobal r) = Some mistake.NoSuchGlobal
of_scheme (scheme.GuardIsGuarded r) = Some mistake.GuardIsGuarded
of_scheme (scheme.HintTwice r) = Some mistake.HintTwice

-- the mistake of a text that is refused so
abbrev pub mistake_of : SourceRefusal → Option Mistake
mistake_of refusal.Memory = None
mistake_of (refusal.Front why) = of_front why
mistake_of (refusal.Types why) = of_types why
mistake_of (refusal.Scheme why) = of_scheme why

-- the number of its refusal
abbrev pub number_of : Mistake → ℕ
number_of mistake.BadByte = 1
number_of mistake.BadNumber = 2
number_of mistake.LongName = 3
number_of mistake.Unexpected = 4
number_of mistake.UnexpectedEnd = 5
number_of mistake.TooDeep = 6
number_of mistake.TooLarge = 7
number_of mistake.Unknown = 10
number_of mistake.Twice = 11
number_of mistake.WrongType = 12
number_of mistake.SharedOutside = 13
number_of mistake.Nested = 14
number_of mistake.TooMany = 15
number_of mistake.Recursion = 16
number_of mistake.Arguments = 17
number_of mistake.NoSuchGlobal = 20
number_of mistake.GuardIsGuarded = 21
number_of mistake.HintTwice = 22

-- what is wrong, in a few words
abbrev pub title_of : Mistake → List ℕ
title_of mistake.BadByte = codes "bad byte"
title_of mistake.BadNumber = codes "bad number"
title_of mistake.LongName = codes "name too long"
title_of mistake.Unexpected = codes "unexpected token"
title_of mistake.UnexpectedEnd = codes "unexpected end"
title_of mistake.TooDeep = codes "block too deep"
title_of mistake.TooLarge = codes "text too large"
title_of mistake.Unknown = codes "unknown name"
title_of mistake.Twice = codes "name declared twice"
title_of mistake.WrongType = codes "wrong type"
title_of mistake.SharedOutside = codes "shared access outside a section"
title_of mistake.Nested = codes "nested section"
title_of mistake.TooMany = codes "too many"
title_of mistake.Recursion = codes "recursive call"
title_of mistake.Arguments = codes "wrong number of arguments"
title_of mistake.NoSuchGlobal = codes "no such global"
title_of mistake.GuardIsGuarded = codes "guard is guarded itself"
title_of mistake.HintTwice = codes "second hint"

-- what is wanted
abbrev pub note_of : Mistake → List ℕ
note_of mistake.BadByte =
    codes "outside comments stand names, integers and the signs { } ( ) ; , . = + - * == != < <="
note_of mistake.BadNumber =
    codes "an integer is 0, or digits that don't begin with 0, at most 9223372036854775807, with no letter behind"
note_of mistake.LongName = codes "a name has at most 32 bytes"
note_of mistake.Unexpected =
    codes "a program can begin with all that stands before this token, and none goes on with it"
note_of mistake.UnexpectedEnd = codes "the last declaration wants its end"
note_of mistake.TooDeep =
    codes "blocks stand in each other at most 32 deep, the braces of a thread or a procedure counted"
note_of mistake.TooLarge = codes "a text has at most 1048576 bytes"
note_of mistake.Unknown =
    codes "a name is known where its declaration stands: a local in its thread, a field in its record"
note_of mistake.Twice = codes "things of one kind have different names, and a local hasn't the name of a global"
note_of mistake.WrongType =
    codes "both sides have one type, `+ - * < <=` and `print` take integers, and only a local is assigned to"
note_of mistake.SharedOutside =
    codes "a load, a store, `new`, `print` and `call` stand inside `atomic` or in a procedure"
note_of mistake.Nested = codes "`atomic` doesn't stand inside `atomic`, nor in a procedure"
note_of mistake.TooMany = codes "the item is the first of its kind past a limit, or a call whose statements pass one"
note_of mistake.Recursion = codes "a procedure doesn't call itself, nor one that comes back to it by calls"
note_of mistake.Arguments = codes "a call has one argument for each parameter of the procedure"
note_of mistake.NoSuchGlobal = codes "the word after `protected_by` is the name of a global"
note_of mistake.GuardIsGuarded = codes "a record is protected by a global whose own record has no hint"
note_of mistake.HintTwice = codes "a record has one `protected_by` at most"
