-- Statements in C can be read back.
use Rattle.std.proofs.Common.{◌≡◌, ℕ, Bool, true, false, List, [], ◌++◌, refl, codes}
use Rattle.std.proofs.Common.{ap, ◌∙◌, append_assoc}
use Rattle.std.specs.{Prelude.{if◌then◌else◌}, Fmt.{decimal}}
use Rattle.sect_front.specs.TreeView.{TreeView}
use Rattle.sect_c.specs.Naming.{local_c, value_c, member_c}
use Rattle.sect_c.specs.Statements.{fault_c, null_test_c, target_c, load_c, store_c, operation_c, action_c, is_looked}
use Rattle.sect_c.specs.Statements.{is_local}
use Rattle.sect_c.specs.Fits.{member}
use Rattle.sect_types.specs.declared.expansion.action.Field.{Field}
use Rattle.sect_types.specs.declared.expansion.action.Value.{Value}
use Rattle.sect_types.specs.declared.expansion.action.Base.{Base}
use Rattle.sect_c.specs.declared.context.Standing.{Standing}
use Rattle.sect_types.specs.declared.expansion.action.Action.{Action}
use Rattle.sect_types.specs.declared.expansion.action.Action.TheVariants.{Assign, Compute, New, Load, Store, Print}
use Rattle.sect_types.specs.declared.expansion.action.Base.TheVariants as base

-- it is said
abbrev pub is_self : Action → Bool
is_self (Assign x v) = is_local x v
is_self _ = false

abbrev pub is_put : List Field → Action → Bool
is_put looked (Store b f v) = is_looked looked f
is_put looked _ = false

-- how a store goes on behind the test for null, where its field is looked at and where it isn't
abbrev pub put : TreeView → Standing → Bool → Base → Field → Value → List ℕ
put t s true b f v =
    codes "  SECT_PUT(&" ++ (member_c t s.thread (member b f) ++ (codes ", " ++ (value_c t s.thread v ++ codes ");\n")))
put t s false b f v =
    codes "  " ++ (member_c t s.thread (member b f) ++ (codes " = " ++ (value_c t s.thread v ++ codes ";\n")))

-- a statement that isn't of a local to itself, part by part
abbrev pub parts : TreeView → List Field → Standing → Bool → Action → List ℕ
parts t looked s p (Assign x v) = target_c t s x ++ (value_c t s.thread v ++ codes ";\n")
parts t looked s p (Compute x v o w) =
    codes "  if (" ++ (operation_c o ++ (codes "(&" ++ (local_c t s.thread x ++ (codes ", " ++ (value_c t s.thread v
    ++ (codes ", " ++ (value_c t s.thread w ++ (codes "))" ++ fault_c s (codes "SECT_OVERFLOW")))))))))
parts t looked s p (New x r site) =
    target_c t s x ++ (codes "sect_make(me, sizeof *"
    ++ (local_c t s.thread x ++ (codes ", " ++ (decimal r ++ codes ");\n"))))
parts t looked s p (Load x (base.Global g) f) =
    target_c t s x ++ (load_c t looked s (member (base.Global g) f) ++ codes ";\n")
parts t looked s p (Load x (base.Local y) f) =
    null_test_c t s (base.Local y) ++ (target_c t s x ++ (load_c t looked s (member (base.Local y) f) ++ codes ";\n"))
parts t looked s p (Store (base.Global g) f v) = put t s p (base.Global g) f v
parts t looked s p (Store (base.Local y) f v) = null_test_c t s (base.Local y) ++ put t s p (base.Local y) f v
parts t looked s p (Print v) = codes "  sect_print(me, " ++ (value_c t s.thread v ++ codes ");\n")

three : (a b c : List ℕ) → a ++ b ++ c ≡ a ++ (b ++ c)
three a b c = append_assoc a b c

four : (a b c d : List ℕ) → a ++ b ++ c ++ d ≡ a ++ (b ++ (c ++ d))
four a b c d = simp append_assoc

five : (a b c d e : List ℕ) → a ++ b ++ c ++ d ++ e ≡ a ++ (b ++ (c ++ (d ++ e)))
five a b c d e = simp append_assoc

six : (a b c d e f : List ℕ) → a ++ b ++ c ++ d ++ e ++ f ≡ a ++ (b ++ (c ++ (d ++ (e ++ f))))
six a b c d e f = simp append_assoc

ten : (a b c d e f g h i j : List ℕ) → a ++ b ++ c ++ d ++ e ++ f ++ g ++ h ++ i ++ j
    ≡ a ++ (b ++ (c ++ (d ++ (e ++ (f ++ (g ++ (h ++ (i ++ j))))))))
ten a b c d e f g h i j = simp append_assoc

put_is : (t : TreeView) (looked : List Field) (s : Standing) (b : Base) (f : Field) (v : Value)
    → store_c t looked s (member b f) v ≡ put t s (is_looked looked f) b f v
put_is t looked s b f v = go (is_looked looked f)
  where
    go : (c : Bool) → (if c then
        codes "  SECT_PUT(&" ++ member_c t s.thread (member b f) ++ codes ", " ++ value_c t s.thread v ++ codes ");\n"
        else
        codes "  " ++ member_c t s.thread (member b f) ++ codes " = " ++ value_c t s.thread v ++ codes ";\n")
        ≡ put t s c b f v
    go true = five (codes "  SECT_PUT(&") (member_c t s.thread (member b f)) (codes ", ") (value_c t s.thread v)
        (codes ");\n")
    go false = five (codes "  ") (member_c t s.thread (member b f)) (codes " = ") (value_c t s.thread v) (codes ";\n")

assigned : (b : Bool) (x y : List ℕ) → b ≡ false → (if b then x else y) ≡ y
assigned true x y e = cc
assigned false x y e = refl

pub parted_action : (t : TreeView) (looked : List Field) (s : Standing) (a : Action) → is_self a ≡ false
    → action_c t looked s a ≡ parts t looked s (is_put looked a) a
parted_action t looked s (Assign x v) e =
    assigned (is_local x v) [] (target_c t s x ++ value_c t s.thread v ++ codes ";\n") e
    ∙ three (target_c t s x) (value_c t s.thread v) (codes ";\n")
parted_action t looked s (Compute x v o w) e =
    ten (codes "  if (") (operation_c o) (codes "(&") (local_c t s.thread x) (codes ", ") (value_c t s.thread v)
    (codes ", ") (value_c t s.thread w) (codes "))") (fault_c s (codes "SECT_OVERFLOW"))
parted_action t looked s (New x r site) e =
    six (target_c t s x) (codes "sect_make(me, sizeof *") (local_c t s.thread x) (codes ", ") (decimal r) (codes ");\n")
parted_action t looked s (Load x (base.Global g) f) e =
    three (target_c t s x) (load_c t looked s (member (base.Global g) f)) (codes ";\n")
parted_action t looked s (Load x (base.Local y) f) e =
    four (null_test_c t s (base.Local y)) (target_c t s x) (load_c t looked s (member (base.Local y) f)) (codes ";\n")
parted_action t looked s (Store (base.Global g) f v) e = put_is t looked s (base.Global g) f v
parted_action t looked s (Store (base.Local y) f v) e =
    ap (λ z. null_test_c t s (base.Local y) ++ z) (put_is t looked s (base.Local y) f v)
parted_action t looked s (Print v) e =
    three (codes "  sect_print(me, ") (value_c t s.thread v) (codes ");\n")
