-- The limits that an item may pass.
use Rattle.std.specs.Prelude.{ℕ, List, Option, Some, None, codes}
use Rattle.sect_front.specs.declared.token.Token.{Token}
use Rattle.sect_places.specs.{declared.name_use.Thing.{Thing}, declared.name_use.Role.{Role}}
use Rattle.sect_places.specs.declared.name_use.NameSpan.{NameSpan}
use Rattle.sect_lint.specs.{declared.form.Form.{Form}, Forms.{form_of}, declared.limit.Limit.{Limit}}
use Rattle.sect_places.specs.declared.name_use.Thing.TheVariants as thing
use Rattle.sect_places.specs.declared.name_use.Role.TheVariants as role
use Rattle.sect_lint.specs.declared.form.Form.TheVariants as form
use Rattle.sect_lint.specs.declared.limit.Limit.TheVariants as limit

-- what is past its limit, with the number
abbrev pub words_of : Limit → List ℕ
words_of limit.Records = codes "more than 64 records"
words_of limit.Fields = codes "more than 16 fields"
words_of limit.Globals = codes "more than 256 globals"
words_of limit.Procedures = codes "more than 64 procedures"
words_of limit.Threads = codes "more than 64 threads"
words_of limit.Locals = codes "more than 64 locals"
words_of limit.Statements = codes "more than 4096 statements"
words_of limit.Sites = codes "more than 4096 statements, or more than 1024 globals and `new` statements"
words_of limit.Sections = codes "more than 4096 statements, or more than 256 sections"
words_of limit.Expansion =
    codes "expanded it is past 4096 statements, 1024 globals and `new` statements, 4096 calls or 32 blocks"

-- that of what is declared
abbrev pub limit_of : Thing → Limit
limit_of thing.Record = limit.Records
limit_of thing.Field = limit.Fields
limit_of thing.Global = limit.Globals
limit_of thing.Procedure = limit.Procedures
limit_of thing.Thread = limit.Threads
limit_of thing.Local = limit.Locals

abbrev pub form_limit : Form → Limit
form_limit form.New = limit.Sites
form_limit form.Section = limit.Sections
form_limit form.Call = limit.Expansion
form_limit _ = limit.Statements

-- that of a statement of these tokens: a `new`, a section, a call or another
abbrev pub statement_limit : List Token → Limit
statement_limit tokens = form_limit (form_of tokens)

abbrev pub limit_by : Role → List Token → Limit
limit_by (role.Declared what) tokens = limit_of what
limit_by _ tokens = statement_limit tokens

-- that of an item of these tokens, in which this name is declared, if one is
abbrev pub item_limit : Option NameSpan → List Token → Limit
item_limit None tokens = statement_limit tokens
item_limit (Some n) tokens = limit_by n.used.role tokens
