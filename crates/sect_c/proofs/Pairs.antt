-- Two statements in C with one text are one.
use Rattle.std.proofs.Common.{◌≡◌, ◌<◌, ℕ, Bool, true, false, List, ◌++◌, refl, codes}
use Rattle.std.proofs.Common.{sym, ap, ◌∙◌, arith, append_assoc}
use Rattle.std.specs.{Prelude.{if◌then◌else◌}, Fmt.{decimal}}
use Rattle.sect_front.specs.TreeView.{TreeView}
use Rattle.sect_types.specs.Programs.{ProgramView}
use Rattle.sect_c.specs.Told.{AreNames, NamesTell, DeclareAlike}
use Rattle.sect_c.specs.Naming.{local_c, value_c, member_c, field_c}
use Rattle.sect_c.specs.Statements.{target_c, load_c, operation_c, is_looked}
use Rattle.sect_types.specs.declared.expansion.action.Field.{Field}
use Rattle.sect_types.specs.declared.expansion.action.Value.{Value}
use Rattle.sect_types.specs.declared.expansion.action.Base.{Base}
use Rattle.sect_c.specs.declared.context.Member.{Member}
use Rattle.sect_front.specs.declared.tree.Operator.{Operator}
use Rattle.sect_front.specs.declared.tree.Operator.TheVariants.{Add, Subtract, Multiply}
use Rattle.sect_emit.specs.declared.graphs.GraphOf.{GraphOf}
use Rattle.sect_c.specs.declared.context.Standing.{Standing}
use Rattle.sect_types.specs.declared.expansion.action.Action.{Action}
use Rattle.sect_types.specs.declared.expansion.action.Action.TheVariants.{Assign, Compute, New, Load, Store, Print}
use Rattle.sect_c.proofs.Reading.{Reads, Any, told, next, until, behind, only, apart, number}
use Rattle.sect_c.proofs.Reading.{moved, parted, differ}
use Rattle.sect_c.specs.Fits.{FitsValue, FitsMember, FitsAction}
use Rattle.sect_c.proofs.Values.{value_read, local_read, member_read}
use Rattle.sect_c.specs.Back.{standing}
use Rattle.sect_c.proofs.Lines.{null_read, target_read, load_read, fault_read}
use Rattle.sect_c.specs.Fits.{member}
use Rattle.sect_c.proofs.Actions.{put, parts}
use Rattle.sect_types.specs.declared.expansion.action.Base.TheVariants as base
use Rattle.sect_types.specs.declared.expansion.action.Value.TheVariants as value

operation_read : (o r : Operator) → Reads Any (operation_c o) (operation_c r) (o ≡ r)
operation_read Add Add = told (only (codes "sect_add")) (λ h. refl)
operation_read Subtract Subtract = told (only (codes "sect_subtract")) (λ h. refl)
operation_read Multiply Multiply = told (only (codes "sect_multiply")) (λ h. refl)
operation_read o r = apart (operation_c o) (operation_c r) refl

base_of_member : (b c : Base) (f g : Field) → member b f ≡ member c g → b ≡ c
base_of_member b c f g e = ap (λ (m : Member). m.base) e

field_of_member : (b c : Base) (f g : Field) → member b f ≡ member c g → f ≡ g
field_of_member b c f g e = ap (λ (m : Member). m.field) e

assign_one : (x y : ℕ) (v w : Value) → x ≡ y → v ≡ w → Assign x v ≡ Assign y w
assign_one x y v w e f = cc

compute_one : (x y : ℕ) (v w i j : Value) (o r : Operator) → x ≡ y → v ≡ w → o ≡ r → i ≡ j
    → Compute x v o i ≡ Compute y w r j
compute_one x y v w i j o r e f g h = cc

new_one : (x y r s : ℕ) → x ≡ y → r ≡ s → New x r 0 ≡ New y s 0
new_one x y r s e f = cc

load_one : (x y : ℕ) (b c : Base) (f g : Field) → x ≡ y → member b f ≡ member c g → Load x b f ≡ Load y c g
load_one x y b c f g e h = let i = base_of_member b c f g h in let j = field_of_member b c f g h in cc

store_one : (b c : Base) (f g : Field) (v w : Value) → member b f ≡ member c g → v ≡ w → Store b f v ≡ Store c g w
store_one b c f g v w h e = let i = base_of_member b c f g h in let j = field_of_member b c f g h in cc

-- how the line begins
pub data Beginning : Type 0 where
  OfTarget : Beginning
  OfTest : Beginning
  OfOperation : Beginning
  OfField : Beginning
  OfPrint : Beginning

abbrev pub beginning_by : Base → Beginning → Beginning
beginning_by (base.Global g) other = other
beginning_by (base.Local x) other = OfTest

abbrev pub beginning_of : Action → Beginning
beginning_of (Assign x v) = OfTarget
beginning_of (Compute x v o w) = OfOperation
beginning_of (New x r site) = OfTarget
beginning_of (Load x b f) = beginning_by b OfTarget
beginning_of (Store b f v) = beginning_by b OfField
beginning_of (Print v) = OfPrint

abbrev pub beginning : Bool → Beginning → List ℕ
beginning b OfTarget = codes "  l"
beginning b OfTest = codes "  if (l"
beginning b OfOperation = codes "  if (s"
beginning true OfField = codes "  S"
beginning false OfField = codes "  g_"
beginning b OfPrint = codes "  s"

abbrev is_same_beginning : Beginning → Beginning → Bool
is_same_beginning OfTarget OfTarget = true
is_same_beginning OfTest OfTest = true
is_same_beginning OfOperation OfOperation = true
is_same_beginning OfField OfField = true
is_same_beginning OfPrint OfPrint = true
is_same_beginning _ _ = false

beginnings_differ : (b c : Bool) (k l : Beginning) → is_same_beginning k l ≡ false
    → differ (beginning b k) (beginning c l) ≡ true
beginnings_differ b c OfTarget OfTarget e = cc
beginnings_differ b c OfTest OfTest e = cc
beginnings_differ b c OfOperation OfOperation e = cc
beginnings_differ b c OfField OfField e = cc
beginnings_differ b c OfPrint OfPrint e = cc
beginnings_differ true true k l e = refl
beginnings_differ true false k l e = refl
beginnings_differ false true k l e = refl
beginnings_differ false false k l e = refl

pub begun : (t : TreeView) (looked : List Field) (s : Standing) (b : Bool) (a : Action)
    → (rest : List ℕ) × (parts t looked s b a ≡ beginning b (beginning_of a) ++ rest)
begun t looked s b (Assign x v) = (_, refl)
begun t looked s b (Compute x v Add w) = (_, refl)
begun t looked s b (Compute x v Subtract w) = (_, refl)
begun t looked s b (Compute x v Multiply w) = (_, refl)
begun t looked s b (New x r site) = (_, refl)
begun t looked s b (Load x (base.Global g) f) = (_, refl)
begun t looked s b (Load x (base.Local y) f) = (_, refl)
begun t looked s true (Store (base.Global g) f v) = (_, refl)
begun t looked s false (Store (base.Global g) f v) = (_, refl)
begun t looked s b (Store (base.Local y) f v) = (_, refl)
begun t looked s b (Print v) = (_, refl)

beginnings_apart : (t o : TreeView) (looked also : List Field) (s z : Standing) (b c : Bool) (x y : Action) {P : Type 0}
    → is_same_beginning (beginning_of x) (beginning_of y) ≡ false
    → Reads Any (parts t looked s b x) (parts o also z c y) P
beginnings_apart t o looked also s z b c x y e =
    let i = begun t looked s b x in
    let j = begun o also z c y in
    record {
      read = λ xs ys p q same. absurd (parted (beginning b (beginning_of x)) (beginning c (beginning_of y)) (i.0 ++ xs)
          (j.0 ++ ys) (beginnings_differ b c (beginning_of x) (beginning_of y) e)
          (sym (append_assoc (beginning b (beginning_of x)) i.0 xs) ∙ (sym (ap (λ w. w ++ xs) i.1)
          ∙ (same ∙ (ap (λ w. w ++ ys) j.1 ∙ append_assoc (beginning c (beginning_of y)) j.0 ys)))));
    }

-- apart from an assignment of a local to itself a statement is what is said of it, but for the site
abbrev pub plainly : Action → Action
plainly (New x r site) = New x r 0
plainly a = a

target_parts : (a rest : List ℕ) → (codes "  " ++ a ++ codes " = ") ++ rest ≡ codes "  " ++ (a ++ (codes " = " ++ rest))
target_parts a rest =
    append_assoc (codes "  " ++ a) (codes " = ") rest ∙ append_assoc (codes "  ") a (codes " = " ++ rest)

member_parts : (a f rest : List ℕ)
    → codes "  " ++ ((a ++ codes "->" ++ f) ++ rest) ≡ codes "  " ++ (a ++ (codes "->" ++ (f ++ rest)))
member_parts a f rest = ap (λ z. codes "  " ++ z)
    (append_assoc (a ++ codes "->") f rest ∙ append_assoc a (codes "->") (f ++ rest))

module _ (p q : ProgramView) (np : AreNames p.source) (nq : AreNames q.source) (u : ℕ)
    (alike : DeclareAlike p q u) (tell : NamesTell p) (g : GraphOf) (k l : ℕ) (ck : k < 65536) (cl : l < 65536)
    (looked also : List Field) where
  abbrev here : Standing
  here = standing g u k

  abbrev there : Standing
  there = standing g u l

  -- behind the target
  value_or_made : (v : Value) (w z : List ℕ) {P : Type 0}
      → Reads Any (value_c p.source u v ++ w) (codes "sect_make(me, sizeof *" ++ z) P
  value_or_made (value.Number n) w z = apart (value_c p.source u (value.Number n) ++ w)
      (codes "sect_make(me, sizeof *" ++ z) refl
  value_or_made value.Null w z = apart (value_c p.source u value.Null ++ w) (codes "sect_make(me, sizeof *" ++ z) refl
  value_or_made (value.Local x) w z = apart (value_c p.source u (value.Local x) ++ w)
      (codes "sect_make(me, sizeof *" ++ z) refl
  value_or_made (value.Global h) w z = apart (value_c p.source u (value.Global h) ++ w)
      (codes "sect_make(me, sizeof *" ++ z) refl

  made_or_value : (v : Value) (w z : List ℕ) {P : Type 0}
      → Reads Any (codes "sect_make(me, sizeof *" ++ z) (value_c q.source u v ++ w) P
  made_or_value (value.Number n) w z = apart (codes "sect_make(me, sizeof *" ++ z)
      (value_c q.source u (value.Number n) ++ w) refl
  made_or_value value.Null w z = apart (codes "sect_make(me, sizeof *" ++ z) (value_c q.source u value.Null ++ w) refl
  made_or_value (value.Local x) w z = apart (codes "sect_make(me, sizeof *" ++ z)
      (value_c q.source u (value.Local x) ++ w) refl
  made_or_value (value.Global h) w z = apart (codes "sect_make(me, sizeof *" ++ z)
      (value_c q.source u (value.Global h) ++ w) refl

  abbrev loaded : TreeView → Bool → Base → Field → List ℕ
  loaded t b c f = if b then codes "SECT_GET(&" ++ member_c t u (member c f) ++ codes ")" else member_c t u (member c f)

  value_or_load : (b : Bool) (v : Value) (h : ℕ) (f : Field) (w z : List ℕ) {P : Type 0}
      → Reads Any (value_c p.source u v ++ w) (loaded q.source b (base.Global h) f ++ z) P
  value_or_load true (value.Number n) h f w z =
      apart (value_c p.source u (value.Number n) ++ w) (loaded q.source true (base.Global h) f ++ z) refl
  value_or_load true v h f w z = apart (value_c p.source u v ++ w) (loaded q.source true (base.Global h) f ++ z) refl
  value_or_load false (value.Number n) h f w z =
      apart (value_c p.source u (value.Number n) ++ w) (loaded q.source false (base.Global h) f ++ z) refl
  value_or_load false value.Null h f w z =
      apart (value_c p.source u value.Null ++ w) (loaded q.source false (base.Global h) f ++ z) refl
  value_or_load false (value.Local n) h f w z =
      apart (value_c p.source u (value.Local n) ++ w) (loaded q.source false (base.Global h) f ++ z) refl
  value_or_load false (value.Global n) h f w z =
      apart (value_c p.source u (value.Global n) ++ w) (loaded q.source false (base.Global h) f ++ z) refl

  load_or_value : (b : Bool) (v : Value) (h : ℕ) (f : Field) (w z : List ℕ) {P : Type 0}
      → Reads Any (loaded p.source b (base.Global h) f ++ z) (value_c q.source u v ++ w) P
  load_or_value true (value.Number n) h f w z =
      apart (loaded p.source true (base.Global h) f ++ z) (value_c q.source u (value.Number n) ++ w) refl
  load_or_value true v h f w z = apart (loaded p.source true (base.Global h) f ++ z) (value_c q.source u v ++ w) refl
  load_or_value false (value.Number n) h f w z =
      apart (loaded p.source false (base.Global h) f ++ z) (value_c q.source u (value.Number n) ++ w) refl
  load_or_value false value.Null h f w z =
      apart (loaded p.source false (base.Global h) f ++ z) (value_c q.source u value.Null ++ w) refl
  load_or_value false (value.Local n) h f w z =
      apart (loaded p.source false (base.Global h) f ++ z) (value_c q.source u (value.Local n) ++ w) refl
  load_or_value false (value.Global n) h f w z =
      apart (loaded p.source false (base.Global h) f ++ z) (value_c q.source u (value.Global n) ++ w) refl

  made_or_load : (b : Bool) (h : ℕ) (f : Field) (w z : List ℕ) {P : Type 0}
      → Reads Any (codes "sect_make(me, sizeof *" ++ w) (loaded q.source b (base.Global h) f ++ z) P
  made_or_load true h f w z = apart (codes "sect_make(me, sizeof *" ++ w) (loaded q.source true (base.Global h) f ++ z)
      refl
  made_or_load false h f w z = apart (codes "sect_make(me, sizeof *" ++ w)
      (loaded q.source false (base.Global h) f ++ z) refl

  load_or_made : (b : Bool) (h : ℕ) (f : Field) (w z : List ℕ) {P : Type 0}
      → Reads Any (loaded p.source b (base.Global h) f ++ z) (codes "sect_make(me, sizeof *" ++ w) P
  load_or_made true h f w z = apart (loaded p.source true (base.Global h) f ++ z) (codes "sect_make(me, sizeof *" ++ w)
      refl
  load_or_made false h f w z = apart (loaded p.source false (base.Global h) f ++ z)
      (codes "sect_make(me, sizeof *" ++ w) refl

  -- stores
  put_read : (c d : Bool) (x y : Base) (f h : Field) (v w : Value) → FitsMember p u (member x f)
      → FitsMember q u (member y h) → FitsValue p v → FitsValue q w
      → Reads Any (put p.source here c x f v) (put q.source there d y h w) (Store x f v ≡ Store y h w)
  put_read true true x y f h v w a b c d =
      let value = until (value_read p q np nq u alike tell v w c d) (λ xs t. refl) (λ xs t. refl) (only (codes ");\n"))
      in
      told (behind (codes "  SECT_PUT(&") (until (member_read p q np nq u alike tell (member x f) (member y h) a b)
      (λ xs t. refl) (λ xs t. refl) (behind (codes ", ") value)))
      (λ e. store_one x y f h v w e.0 e.1.0)
  put_read false false x y f h v w a b c d =
      let value = until (value_read p q np nq u alike tell v w c d) (λ xs t. refl) (λ xs t. refl) (only (codes ";\n"))
      in
      told (behind (codes "  ") (until (member_read p q np nq u alike tell (member x f) (member y h) a b)
      (λ xs t. refl) (λ xs t. refl) (behind (codes " = ") value)))
      (λ e. store_one x y f h v w e.0 e.1.0)
  put_read true false (base.Global x) (base.Global y) f h v w a b c d =
      apart (put p.source here true (base.Global x) f v) (put q.source there false (base.Global y) h w) refl
  put_read true false x (base.Global y) f h v w a b c d =
      apart (put p.source here true x f v) (put q.source there false (base.Global y) h w) refl
  put_read true false x (base.Local y) f h v w a b c d =
      apart (put p.source here true x f v) (put q.source there false (base.Local y) h w) refl
  put_read false true (base.Global x) y f h v w a b c d =
      apart (put p.source here false (base.Global x) f v) (put q.source there true y h w) refl
  put_read false true (base.Local x) y f h v w a b c d =
      apart (put p.source here false (base.Local x) f v) (put q.source there true y h w) refl

  -- the target of a load and a store
  target_or_put : (d : Bool) (x y : ℕ) (h : Field) (w : Value) (rest : List ℕ) {P : Type 0} → x < 65536 → y < 65536
      → Reads Any (target_c p.source here x ++ rest) (put q.source there d (base.Local y) h w) P
  target_or_put true x y h w rest a b =
      apart (target_c p.source here x ++ rest) (put q.source there true (base.Local y) h w) refl
  target_or_put false x y h w rest a b =
      moved (target_parts (local_c p.source u x) rest)
      (member_parts (local_c q.source u y) (field_c q.source h) (codes " = " ++ (value_c q.source u w ++ codes ";\n")))
      (told (behind (codes "  ") (until (local_read p q np nq u alike tell x y a b) (λ xs t. refl) (λ xs t. refl)
      (apart (codes " = " ++ rest)
      (codes "->" ++ (field_c q.source h ++ (codes " = " ++ (value_c q.source u w ++ codes ";\n")))) refl)))
      (λ e. absurd e.1))

  put_or_target : (d : Bool) (x y : ℕ) (h : Field) (w : Value) (rest : List ℕ) {P : Type 0} → y < 65536 → x < 65536
      → Reads Any (put p.source here d (base.Local y) h w) (target_c q.source there x ++ rest) P
  put_or_target true x y h w rest a b =
      apart (put p.source here true (base.Local y) h w) (target_c q.source there x ++ rest) refl
  put_or_target false x y h w rest a b =
      moved (member_parts (local_c p.source u y) (field_c p.source h)
      (codes " = " ++ (value_c p.source u w ++ codes ";\n")))
      (target_parts (local_c q.source u x) rest)
      (told (behind (codes "  ") (until (local_read p q np nq u alike tell y x a b) (λ xs t. refl) (λ xs t. refl)
      (apart (codes "->" ++ (field_c p.source h ++ (codes " = " ++ (value_c p.source u w ++ codes ";\n"))))
      (codes " = " ++ rest) refl))) (λ e. absurd e.1))

  pub parts_read : (b c : Bool) (x y : Action) → FitsAction p u x → FitsAction q u y
      → Reads Any (parts p.source looked here b x) (parts q.source also there c y) (plainly x ≡ plainly y)
  parts_read b c (Assign x v) (Assign y w) i j =
      told (next (target_read p q np nq u alike tell g k l ck cl x y i.0 j.0)
      (until (value_read p q np nq u alike tell v w i.1 j.1) (λ xs t. refl) (λ xs t. refl) (only (codes ";\n"))))
      (λ e. assign_one x y v w e.0 e.1.0)
  parts_read b c (Assign x v) (New y r site) i j =
      told (next (target_read p q np nq u alike tell g k l ck cl x y i.0 j.0)
      (value_or_made v (codes ";\n") (local_c q.source u y ++ (codes ", " ++ (decimal r ++ codes ");\n")))))
      (λ e. absurd e.1)
  parts_read b c (Assign x v) (Load y (base.Global h) f) i j =
      told (next (target_read p q np nq u alike tell g k l ck cl x y i.0 j.0)
      (value_or_load (is_looked also f) v h f (codes ";\n") (codes ";\n"))) (λ e. absurd e.1)
  parts_read b c (New x r site) (Assign y w) i j =
      told (next (target_read p q np nq u alike tell g k l ck cl x y i.0 j.0)
      (made_or_value w (codes ";\n") (local_c p.source u x ++ (codes ", " ++ (decimal r ++ codes ");\n")))))
      (λ e. absurd e.1)
  parts_read b c (New x r site) (New y s place) i j =
      told (next (target_read p q np nq u alike tell g k l ck cl x y i.0 j.0)
      (behind (codes "sect_make(me, sizeof *")
      (until (local_read p q np nq u alike tell x y i.0 j.0) (λ xs t. refl) (λ xs t. refl)
      (behind (codes ", ") (until (number r s (omega (arith, i.1)) (omega (arith, j.1))) (λ xs t. refl) (λ xs t. refl)
      (only (codes ");\n")))))))
      (λ e. new_one x y r s e.0 e.1.1.0)
  parts_read b c (New x r site) (Load y (base.Global h) f) i j =
      told (next (target_read p q np nq u alike tell g k l ck cl x y i.0 j.0)
      (made_or_load (is_looked also f) h f (local_c p.source u x ++ (codes ", " ++ (decimal r ++ codes ");\n")))
      (codes ";\n")))
      (λ e. absurd e.1)
  parts_read b c (Load x (base.Global h) f) (Assign y w) i j =
      told (next (target_read p q np nq u alike tell g k l ck cl x y i.0 j.0)
      (load_or_value (is_looked looked f) w h f (codes ";\n") (codes ";\n"))) (λ e. absurd e.1)
  parts_read b c (Load x (base.Global h) f) (New y r site) i j =
      told (next (target_read p q np nq u alike tell g k l ck cl x y i.0 j.0)
      (load_or_made (is_looked looked f) h f (local_c q.source u y ++ (codes ", " ++ (decimal r ++ codes ");\n")))
      (codes ";\n")))
      (λ e. absurd e.1)
  parts_read b c (Load x (base.Global h) f) (Load y (base.Global k') f') i j =
      told (next (target_read p q np nq u alike tell g k l ck cl x y i.0 j.0)
      (until (load_read p q np nq u alike tell g k l ck cl looked also (member (base.Global h) f)
      (member (base.Global k') f') i.1 j.1)
      (λ xs t. refl) (λ xs t. refl) (only (codes ";\n"))))
      (λ e. load_one x y (base.Global h) (base.Global k') f f' e.0 e.1.0)
  parts_read b c (Load x (base.Local h) f) (Load y (base.Local k') f') i j =
      told (next (null_read p q np nq u alike tell g k l ck cl h k' i.1.base j.1.base)
      (next (target_read p q np nq u alike tell g k l ck cl x y i.0 j.0)
      (until (load_read p q np nq u alike tell g k l ck cl looked also (member (base.Local h) f)
      (member (base.Local k') f') i.1 j.1)
      (λ xs t. refl) (λ xs t. refl) (only (codes ";\n")))))
      (λ e. load_one x y (base.Local h) (base.Local k') f f' e.1.0 e.1.1.0)
  parts_read b c (Load x (base.Local h) f) (Store (base.Local y) f' w) i j =
      told (next (null_read p q np nq u alike tell g k l ck cl h y i.1.base j.0.base)
      (target_or_put c x y f' w (load_c p.source looked here (member (base.Local h) f) ++ codes ";\n") i.0 j.0.base))
      (λ e. absurd e.1)
  parts_read b c (Store (base.Local y) f w) (Load x (base.Local h) f') i j =
      told (next (null_read p q np nq u alike tell g k l ck cl y h i.0.base j.1.base)
      (put_or_target b x y f w (load_c q.source also there (member (base.Local h) f') ++ codes ";\n") i.0.base j.0))
      (λ e. absurd e.1)
  parts_read b c (Store (base.Local x) f v) (Store (base.Local y) f' w) i j =
      told (next (null_read p q np nq u alike tell g k l ck cl x y i.0.base j.0.base)
      (put_read b c (base.Local x) (base.Local y) f f' v w i.0 j.0 i.1 j.1)) (λ e. e.1)
  parts_read b c (Store (base.Global x) f v) (Store (base.Global y) f' w) i j =
      put_read b c (base.Global x) (base.Global y) f f' v w i.0 j.0 i.1 j.1
  parts_read b c (Compute x v o v') (Compute y w r w') i j =
      told (behind (codes "  if (") (next (operation_read o r) (behind (codes "(&")
      (until (local_read p q np nq u alike tell x y i.0 j.0) (λ xs t. refl) (λ xs t. refl) (behind (codes ", ")
      (until (value_read p q np nq u alike tell v w i.1 j.1) (λ xs t. refl) (λ xs t. refl) (behind (codes ", ")
      (until (value_read p q np nq u alike tell v' w' i.2 j.2) (λ xs t. refl) (λ xs t. refl) (behind (codes "))")
      (fault_read g u k l (codes "SECT_OVERFLOW") ck cl))))))))))
      (λ e. compute_one x y v w v' w' o r e.1.0 e.1.1.0 e.0 e.1.1.1.0)
  parts_read b c (Print v) (Print w) i j =
      told (behind (codes "  sect_print(me, ")
      (until (value_read p q np nq u alike tell v w i j) (λ xs t. refl) (λ xs t. refl)
      (only (codes ");\n")))) (λ e. ap Print e.0)
  parts_read b c x (Store (base.Global h) f w) i j =
      beginnings_apart p.source q.source looked also here there b c x (Store (base.Global h) f w) refl
  parts_read b c x (Store (base.Local h) f w) i j =
      beginnings_apart p.source q.source looked also here there b c x (Store (base.Local h) f w) refl
  parts_read b c x (Load y (base.Global h) f) i j =
      beginnings_apart p.source q.source looked also here there b c x (Load y (base.Global h) f) refl
  parts_read b c x (Load y (base.Local h) f) i j =
      beginnings_apart p.source q.source looked also here there b c x (Load y (base.Local h) f) refl
  parts_read b c x y i j = beginnings_apart p.source q.source looked also here there b c x y refl
