-- The statement or the test that an item is, by its tokens.
use Rattle.std.specs.Prelude.{Bool, true, false, if◌then◌else◌, List, [], ◌∷◌}
use Rattle.sect_front.specs.declared.token.Token.{Token}
use Rattle.sect_lint.specs.declared.form.Form.{Form}
use Rattle.sect_front.specs.declared.token.Token.TheVariants as token
use Rattle.sect_lint.specs.declared.form.Form.TheVariants as form

abbrev pub is_new : Token → Bool
is_new token.New = true
is_new _ = false

abbrev pub is_dot : Token → Bool
is_dot token.Dot = true
is_dot _ = false

-- behind one operand: nothing, a dot or an operator
abbrev pub operand_form : List Token → Form
operand_form [] = form.Assign
operand_form (t ∷ rest) = if is_dot t then form.Load else form.Compute

-- behind `x =`
abbrev pub assigned_form : List Token → Form
assigned_form [] = form.Other
assigned_form (t ∷ rest) = if is_new t then form.New else operand_form rest

-- behind a name
abbrev pub after_name : Token → List Token → Form
after_name token.Dot rest = form.Store
after_name token.Equal rest = assigned_form rest
after_name _ rest = form.Other

abbrev pub named_form : List Token → Form
named_form [] = form.Other
named_form (t ∷ rest) = after_name t rest

abbrev pub first_form : Token → List Token → Form
first_form token.Print rest = form.Print
first_form token.If rest = form.Test
first_form token.While rest = form.Test
first_form token.Call rest = form.Call
first_form token.Atomic rest = form.Section
first_form (token.Name x) rest = named_form rest
first_form _ rest = form.Other

abbrev pub form_of : List Token → Form
form_of [] = form.Other
form_of (t ∷ rest) = first_form t rest
