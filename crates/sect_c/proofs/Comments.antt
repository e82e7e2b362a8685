-- Comments end with their lines.
use Rattle.std.proofs.Common.{◌≡◌, ◌<◌, ℕ, Bool, true, false, not, eqb, List, [], ◌∷◌, ◌++◌, refl, codes, Option, Some}
use Rattle.std.proofs.Common.{None}
use Rattle.std.proofs.Common.{sym, ap, ◌∙◌, arith, true≢false, eqb-true, append_assoc}
use Rattle.std.specs.{List.{list_all}, Fmt.{decimal}}
use Rattle.std.proofs.lemmas.Bool.{and_from, and_parts}
use Rattle.sect_front.specs.Words.{is_digit, is_name_byte}
use Rattle.sect_types.specs.Programs.{ProgramView}
use Rattle.sect_emit.specs.Labels.{label_text, action_text, value_text, base_text, access_text}
use Rattle.sect_emit.specs.Labels.{target_text, record_name}
use Rattle.sect_types.specs.LocalNames.{local_text, call_text}
use Rattle.sect_names.specs.Printing.{local_at, global_name, field_name}
use Rattle.sect_emit.specs.Labels.{operator_text}
use Rattle.sect_front.specs.Spelling.{comparison_spelling}
use Rattle.sect_c.specs.Told.{AreNames}
use Rattle.sect_types.specs.declared.expansion.action.Field.{Field}
use Rattle.sect_types.specs.declared.expansion.action.Value.{Value}
use Rattle.sect_types.specs.declared.expansion.action.Base.{Base}
use Rattle.sect_front.specs.declared.tree.Operator.{Operator}
use Rattle.sect_front.specs.declared.tree.Operator.TheVariants.{Add, Subtract, Multiply}
use Rattle.sect_front.specs.declared.tree.Comparison.{Comparison}
use Rattle.sect_front.specs.declared.tree.Comparison.TheVariants.{Equal, NotEqual, Less, LessOrEqual}
use Rattle.sect_types.specs.declared.expansion.action.Action.{Action}
use Rattle.sect_types.specs.declared.expansion.action.Action.TheVariants.{Assign, Compute, New, Load, Store, Print}
use Rattle.sect_types.specs.declared.expansion.action.Label.{Label}
use Rattle.sect_types.specs.declared.expansion.action.Label.TheVariants.{Act, Test, Section}
use Rattle.sect_c.proofs.Reading.{Reads, Any, told, next, ends, spelled, moved}
use Rattle.sect_front.proofs.shared.Numerals.{decimal_digits}
use Rattle.sect_c.specs.Fits.{FitsValue, FitsAction, FitsLabel}
use Rattle.sect_types.specs.declared.expansion.action.Value.TheVariants as value
use Rattle.sect_types.specs.declared.expansion.action.Base.TheVariants as base

-- a line doesn't end here
abbrev pub goes_on : ℕ → Bool
goes_on b = not (eqb b 10)

abbrev pub Within : List ℕ → Type 0
Within xs = list_all goes_on xs ≡ true

pub within_append : (xs ys : List ℕ) → Within xs → Within ys → Within (xs ++ ys)
within_append [] ys a b = b
within_append (x ∷ xs) ys a b =
    let h = and_parts (goes_on x) (list_all goes_on xs) a in
    and_from (goes_on x) (list_all goes_on (xs ++ ys)) h.0 (within_append xs ys h.1 b)

-- such a byte isn't an end of line
weaken : (test : ℕ → Bool) → test 10 ≡ false → (xs : List ℕ) → list_all test xs ≡ true → Within xs
weaken test out [] h = refl
weaken test out (x ∷ xs) h =
    let a = and_parts (test x) (list_all test xs) h in
    and_from (goes_on x) (list_all goes_on xs) (go (eqb x 10) refl a.0) (weaken test out xs a.1)
  where
    go : (b : Bool) → eqb x 10 ≡ b → test x ≡ true → not b ≡ true
    go true e t = absurd (true≢false (sym t ∙ (ap test (eqb-true x 10 e) ∙ out)))
    go false e t = refl

pub name_within : (xs : List ℕ) → list_all is_name_byte xs ≡ true → Within xs
name_within xs h = weaken is_name_byte refl xs h

pub digits_within : (n : ℕ) → n < 18446744073709551616 → Within (decimal n)
digits_within n h = weaken is_digit refl (decimal n) (decimal_digits n h)

-- a comment, to the end of its line
comment_end : (a b : List ℕ) → (a ++ b) ++ codes " */\n" ≡ (a ++ (b ++ codes " */")) ++ codes "\n"
comment_end a b =
    append_assoc a b (codes " */\n")
    ∙ (ap (λ z. a ++ z) (sym (append_assoc b (codes " */") (codes "\n")))
    ∙ sym (append_assoc a (b ++ codes " */") (codes "\n")))

pub comment_read : {P : Type 0} (a b u v : List ℕ) → Reads Any a b P → Within u
    → Within v → Reads Any (a ++ u ++ codes " */\n") (b ++ v ++ codes " */\n") P
comment_read a b u v r p q =
    let x = spelled goes_on (u ++ codes " */") (v ++ codes " */") (within_append u (codes " */") p refl)
    (within_append v (codes " */") q refl) in
    told (moved (comment_end a u) (comment_end b v) (ends (next r x) (codes "\n") (λ xs. refl))) (λ h. h.0)

module _ (p : ProgramView) (names : AreNames p.source) (u : ℕ) where
  call_within : (o : Option ℕ) → ((c : ℕ) → o ≡ Some c → c < 4294967296) → Within (call_text o)
  call_within None h = refl
  call_within (Some c) h =
      within_append (codes "#") (decimal c) refl (digits_within c (let k : c < 4294967296 = h c refl in omega arith))

  pub local_within : (x : ℕ) → Within (local_text (local_at p.source u x))
  local_within x =
      within_append (local_at p.source u x).name (call_text (local_at p.source u x).call)
      (name_within (local_at p.source u x).name (names.locals u x))
      (call_within (local_at p.source u x).call (names.calls u x))

  value_within : (v : Value) → FitsValue p v → Within (value_text p.source u v)
  value_within (value.Number n) h = digits_within n (omega arith)
  value_within value.Null h = refl
  value_within (value.Local x) h = local_within x
  value_within (value.Global g) h = name_within (global_name p.source g) (names.globals g)

  base_within : (b : Base) → Within (base_text p.source u b)
  base_within (base.Local x) = local_within x
  base_within (base.Global g) = name_within (global_name p.source g) (names.globals g)

  access_within : (b : Base) (f : Field) → Within (access_text p.source u b f)
  access_within b f =
      within_append (base_text p.source u b ++ codes ".") (field_name p.source f)
      (within_append (base_text p.source u b) (codes ".") (base_within b) refl)
      (name_within (field_name p.source f) (names.fields f))

  target_within : (x : ℕ) → Within (target_text p.source u x)
  target_within x = within_append (local_text (local_at p.source u x)) (codes " = ") (local_within x) refl

  -- three parts, of which that in the middle has a blank before and behind it
  middle : (a b c : List ℕ) → Within a → Within b → Within c → Within (a ++ codes " " ++ b ++ codes " " ++ c)
  middle a b c h i j =
      within_append (a ++ codes " " ++ b ++ codes " ") c
      (within_append (a ++ codes " " ++ b) (codes " ")
      (within_append (a ++ codes " ") b (within_append a (codes " ") h refl) i) refl) j

  operator_within : (o : Operator) → Within (operator_text o)
  operator_within Add = refl
  operator_within Subtract = refl
  operator_within Multiply = refl

  comparison_within : (c : Comparison) → Within (comparison_spelling c)
  comparison_within Equal = refl
  comparison_within NotEqual = refl
  comparison_within Less = refl
  comparison_within LessOrEqual = refl

  action_within : (a : Action) → FitsAction p u a → Within (action_text p.source u a)
  action_within (Assign x v) h =
      within_append (target_text p.source u x) (value_text p.source u v) (target_within x) (value_within v h.1)
  action_within (Compute x v o w) h =
      middle (target_text p.source u x ++ value_text p.source u v) (operator_text o) (value_text p.source u w)
      (within_append (target_text p.source u x) (value_text p.source u v) (target_within x) (value_within v h.1))
      (operator_within o) (value_within w h.2)
  action_within (New x r site) h =
      within_append (target_text p.source u x ++ codes "new ") (record_name p.source r)
      (within_append (target_text p.source u x) (codes "new ") (target_within x) refl)
      (name_within (record_name p.source r) (names.records r))
  action_within (Load x b f) h =
      within_append (target_text p.source u x) (access_text p.source u b f) (target_within x) (access_within b f)
  action_within (Store b f v) h =
      within_append (access_text p.source u b f ++ codes " = ") (value_text p.source u v)
      (within_append (access_text p.source u b f) (codes " = ") (access_within b f) refl) (value_within v h.1)
  action_within (Print v) h = within_append (codes "print ") (value_text p.source u v) refl (value_within v h)

  pub label_within : (x : Label) → FitsLabel p u x → Within (label_text p.source u x)
  label_within (Act a) h = action_within a h
  label_within (Test c) h =
      middle (value_text p.source u c.left) (comparison_spelling c.comparison) (value_text p.source u c.right)
      (value_within c.left h.0) (comparison_within c.comparison) (value_within c.right h.1)
  label_within (Section i) h = within_append (codes "section ") (decimal i) refl (digits_within i (omega arith))
