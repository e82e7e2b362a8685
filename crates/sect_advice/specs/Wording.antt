-- What is said of what other languages have.
use Rattle.std.specs.Prelude.{ℕ, List, [], Option, Some, None, codes}
use Rattle.sect_advice.specs.declared.advice.Advice.{Advice}
use Rattle.sect_advice.specs.declared.advice.Advice.TheVariants as advice

-- what is said of a sign
abbrev pub sign_words : Advice → Option (List ℕ)
sign_words advice.Array = Some (codes "there are no arrays: objects that refer to one another make a list or a tree")
sign_words advice.Arrow = Some (codes "a field stands behind a dot, as in `x = a.bal;`")
sign_words advice.Comment = Some (codes "a comment begins with `//` and ends with its line")
sign_words advice.Compound = Some (codes "what is computed is assigned, as in `x = x + 1;`")
sign_words advice.Connective = Some (codes "there is no `&&` and no `||`: one `if` stands inside another")
sign_words advice.Division = Some (codes "`+`, `-` and `*` are all that computes")
sign_words advice.Greater = Some (codes "there is no `>` and no `>=`: the sides change places, as in `0 < x`")
sign_words advice.Negative = Some (codes "a number has no sign, but `x = 0 - 1;` computes one")
sign_words advice.Not = Some (codes "there is no `!`: a test compares two values, as in `x != null` or `x == 0`")
sign_words advice.SpareBrace = Some (codes "no brace is open here")
sign_words advice.SpareSemicolon = Some (codes "no `;` stands behind a declaration's `}`")
sign_words advice.Semicolon = Some (codes "a statement and a declaration end with `;`, which lacks on the line before")
sign_words _ = None

-- what is said of a declaration, a type or a value
abbrev pub declared_words : Advice → Option (List ℕ)
declared_words advice.Declaration = Some (codes "a local is declared by its type and its name, as in `int x;`")
declared_words advice.Initial =
    Some (codes "a local begins as 0 or null: it is declared by `int x;`, and then assigned to, as in `x = 5;`")
declared_words advice.LocalsFirst =
    Some (codes "locals are declared before the first statement of a thread or a procedure")
declared_words advice.Null = Some (codes "the reference to no object is `null`")
declared_words advice.OneEach = Some (codes "each has a declaration of its own, as in `int x; int y;`")
declared_words advice.Order = Some (codes "records come first, then globals, procedures and threads")
declared_words advice.Outside = Some (codes "code stands in threads and procedures, as in `thread main { .. }`")
declared_words advice.Record = Some (codes "a record is declared as in `record Acct { int bal; }`")
declared_words advice.Texts = Some (codes "values are integers and references: there are no strings and no characters")
declared_words advice.Truth = Some (codes "there are no truth values: a test compares two values, as in `x == 1`")
declared_words advice.Types = Some (codes "the types are `int` and the names of records")
declared_words _ = None

-- what is said of a statement, or of a part of one
abbrev pub statement_words : Advice → Option (List ℕ)
statement_words advice.Call = Some (codes "a procedure is called by `call f(1);`, and gives no value")
statement_words advice.ElseIf = Some (codes "behind `else` stands a block, as in `else { if (x == 1) { .. } }`")
statement_words advice.Jump =
    Some (codes "there is no `break` and no `continue`: a loop ends when its test doesn't hold")
statement_words advice.Loop = Some (codes "`while (x < 3) { .. }` is the only loop")
statement_words advice.OneField =
    Some (codes "a statement follows one field: a local takes it first, as in `x = a.bal;`")
statement_words advice.Parentheses = Some (codes "a test stands in parentheses, as in `while (x < 3) { .. }`")
statement_words advice.Return =
    Some (codes "there is no `return`: a procedure hands a value on in a field of an object")
statement_words advice.Section = Some (codes "a section is `atomic { .. }`: which locks it takes is inferred")
statement_words advice.Test = Some (codes "a test compares two values, as in `x != null` or `x == 1`")
statement_words _ = None

abbrev pub first : Option (List ℕ) → List ℕ → List ℕ
first (Some words) others = words
first None others = others

abbrev pub words_of : Advice → List ℕ
words_of a = first (sign_words a) (first (declared_words a) (first (statement_words a) []))
