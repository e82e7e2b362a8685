-- The fields of sections, as they are found.
use Rattle.std.proofs.Common.{◌≡◌, ◌⊎◌, ◌<◌, ℕ, zero, suc, ◌+◌, Bool, true, false, List, [], ◌∷◌, ◌++◌, length, Option}
use Rattle.std.proofs.Common.{Some, None, get_or, refl, sym, ap, ◌∙◌, subst, inl, inr, arith, add-one, slice_get}
use Rattle.std.proofs.Common.{length-append}
use Rattle.std.proofs.lemmas.Option.{slice_get-get_or, slice_get_within}
use Rattle.std.specs.Prelude.{◌||◌, option_map, if◌then◌else◌}
use Rattle.sect_lemmas.specs.Lists.{Has}
use Rattle.sect_lemmas.proofs.{Membership.{Has-cases, Has-get_or}, Places.{pushed_at}}
use Rattle.sect_types.specs.{Programs.{ProgramView}, Sections.{sections_of}, Sound.{type_in}}
use Rattle.sect_types.specs.declared.expansion.action.{Field.{Field}, Label.{Label}}
use Rattle.sect_types.specs.declared.declarations.types.ValueType.{ValueType}
use Rattle.sect_graph.specs.{declared.flow.Node.{Node}, Layout.{flow_nodes}}
use Rattle.sect_names.specs.{Laws.{IsSoundStep}, Locks.{IsField}}
use Rattle.sect_emit.specs.{Compiled.{CompiledView, IsCompiled}, Explaining.{section_at}}
use Rattle.sect_warnings.specs.{declared.fields.Usage.{Usage}, Fields.{stored, used, has_field, with_field, field_at}}
use Rattle.sect_warnings.specs.Fields.{fields_to, section_fields, have_common, have_record, share_field, share_record}
use Rattle.sect_warnings.specs.steps.Usage.{AreUsed, AreFirstUsed, AreAllUsed}
use Rattle.sect_warnings.proofs.ClassMarks.{step_there}
use Rattle.sect_types.specs.declared.expansion.action.Action.TheVariants as action
use Rattle.sect_types.specs.declared.expansion.action.Label.TheVariants as label

-- one node more
pub fields_more : (by : Label → Option Field) (nodes : List Node) (j : ℕ) (l : Label) (old new : List Field)
    → option_map (λ (n : Node). n.label) (slice_get nodes j) ≡ Some l → old ≡ fields_to by nodes j
    → new ≡ with_field old (by l) → new ≡ fields_to by nodes (j + 1)
fields_more by nodes j l old new label before is =
    is ∙ ap (λ fs. with_field fs (by l)) before
    ∙ ap (with_field (fields_to by nodes j)) (sym (same (slice_get nodes j) label))
    ∙ ap (fields_to by nodes) (sym (add-one j))
  where
    same : (n : Option Node) → option_map (λ (n : Node). n.label) n ≡ Some l → field_at by n ≡ by l
    same None e = absurd cc
    same (Some n) e = ap by (let is : n.label ≡ l = cc in is)

-- one section more
pub usages_more : (c : CompiledView) (i : ℕ) (usages : List Usage) (x : Usage) → AreFirstUsed c i usages
    → AreUsed c i x → AreFirstUsed c (i + 1) (usages ++ x ∷ [])
usages_more c i usages x before here = (
  (let many = before.0 in omega (arith, many, length-append usages (x ∷ []))),
  λ k y at. elim (pushed_at usages x y k at) [
    | inl e ↦ subst (λ n. AreUsed c n y) (sym (e.0 ∙ before.0)) (subst (AreUsed c i) e.1 here)
    | inr was ↦ before.1 k y was
  ],
)

-- the fields of the section at a place
pub usage_here : (c : CompiledView) (usages : List Usage) → AreAllUsed c usages → (i : ℕ) (x : Usage)
    → i < length usages → x ≡ get_or usages i x → AreUsed c i x
usage_here c usages are i x within is =
    are.1 i x (slice_get-get_or usages i x within ∙ ap (λ y. Some y) (sym is))

-- whether two sections share a field, by theirs
pub share_is : (c : CompiledView) (i j : ℕ) (x y : Usage) → AreUsed c i x → AreUsed c j y
    → (have_common x.stored.items y.used.items || have_common y.stored.items x.used.items) ≡ share_field c i j
share_is c i j x y mine theirs =
    ap (λ fs. have_common fs y.used.items || have_common y.stored.items x.used.items) mine.stores
    ∙ ap (λ fs. have_common (section_fields stored c i) fs || have_common y.stored.items x.used.items) theirs.uses
    ∙ ap (λ fs. have_common (section_fields stored c i) (section_fields used c j) || have_common fs x.used.items)
    theirs.stores
    ∙ ap (λ fs. have_common (section_fields stored c i) (section_fields used c j)
    || have_common (section_fields stored c j) fs) mine.uses

-- whether they use fields of one record
pub record_is : (c : CompiledView) (i j : ℕ) (x y : Usage) → AreUsed c i x → AreUsed c j y
    → have_record x.used.items y.used.items ≡ share_record c i j
record_is c i j x y mine theirs =
    ap (λ fs. have_record fs y.used.items) mine.uses
    ∙ ap (λ fs. have_record (section_fields used c i) fs) theirs.uses

-- what stands in a list with one field more
added : (b : Bool) (fs : List Field) (g f : Field) → Has (if b then fs else fs ++ g ∷ []) f → Has fs f ⊎ (g ≡ f)
added true fs g f h = inl h
added false fs g f h = elim (Has-cases fs (g ∷ []) f h) [
  | inl before ↦ inl before
  | inr here ↦ elim here [ inl e ↦ inr e | inr none ↦ absurd none ]
]

with_cases : (fs : List Field) (o : Option Field) (f : Field) → Has (with_field fs o) f → Has fs f ⊎ (o ≡ Some f)
with_cases fs None f h = inl h
with_cases fs (Some g) f h = elim (added (has_field fs g) fs g f h) [
  | inl before ↦ inl before
  | inr e ↦ inr (ap (λ x. Some x) e)
]

-- what holds of the fields of all nodes
fields_all : (P : Field → Type 0) (by : Label → Option Field) (nodes : List Node)
    → ((j : ℕ) (n : Node) → slice_get nodes j ≡ Some n → (f : Field) → by n.label ≡ Some f → P f) → (j : ℕ) (f : Field)
    → Has (fields_to by nodes j) f → P f
fields_all P by nodes each zero f h = absurd h
fields_all P by nodes each (suc j) f h =
    elim (with_cases (fields_to by nodes j) (field_at by (slice_get nodes j)) f h) [
      | inl before ↦ fields_all P by nodes each j f before
      | inr here ↦ one (slice_get nodes j) refl here
    ]
  where
    one : (o : Option Node) → slice_get nodes j ≡ o → field_at by o ≡ Some f → P f
    one None at is = absurd cc
    one (Some n) at is = each j n at f is

module _ (p : ProgramView) (t : ℕ) where
  in_record : (f : Field) (o : Option (List ValueType)) (k : ValueType) → slice_get p.records f.of ≡ o
      → type_in o f.number ≡ Some k → IsField p f
  in_record f None k at is = absurd cc
  in_record f (Some ts) k at is = (ts, at, slice_get_within ts f.number k is)

  -- the field that a step uses is there
  used_there : (l : Label) → IsSoundStep p t l → (f : Field) → used l ≡ Some f → IsField p f
  used_there (label.Act (action.Assign x v)) is f e = absurd cc
  used_there (label.Act (action.Compute x v o w)) is f e = absurd cc
  used_there (label.Act (action.New x r site)) is f e = absurd cc
  used_there (label.Act (action.Load x b g)) is f e =
      let same : g ≡ f = cc in
      subst (IsField p) same (in_record g (slice_get p.records g.of) is.0 refl is.2)
  used_there (label.Act (action.Store b g v)) is f e =
      let same : g ≡ f = cc in
      subst (IsField p) same (in_record g (slice_get p.records g.of) is.0 refl is.2)
  used_there (label.Act (action.Print v)) is f e = absurd cc
  used_there (label.Test test) is f e = absurd cc
  used_there (label.Section i) is f e = absurd cc

-- the fields that a section uses are there
pub fields_there : (c : CompiledView) → IsCompiled c → (i : ℕ)
    → i < length (sections_of c.scheme.program.texts) → (f : Field) → Has (section_fields used c i) f
    → IsField c.scheme.program f
fields_there c compiled i within f h =
    fields_all (IsField c.scheme.program) used (flow_nodes (section_at c i).body)
    (λ j n at g is. used_there c.scheme.program (section_at c i).thread n.label (step_there c compiled i within j n at)
    g is)
    (length (flow_nodes (section_at c i).body)) f h

-- each of the fields behind the first
pub other_there : (p : ProgramView) (first : Field) (fields others : List Field) → fields ≡ first ∷ others
    → ((f : Field) → Has fields f → IsField p f) → (i : ℕ) (d : Field) → i < length others
    → IsField p (get_or others i d)
other_there p first fields others are there i d within =
    there (get_or others i d) (subst (λ (fs : List Field). Has fs (get_or others i d)) (sym are)
    (inr (Has-get_or others i d within)))
