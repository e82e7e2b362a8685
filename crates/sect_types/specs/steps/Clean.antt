-- Items that break no rule which looks at no counts.
use Rattle.std.specs.Prelude.{◌≡◌, ⊤, ◌+◌, false, ℕ, List, [], ◌∷◌}
use Rattle.sect_front.specs.declared.tree.Declaration.{Declaration}
use Rattle.sect_front.specs.Syntax.{StatementView, Primitive, If, IfElse, While, Atomic, Call, BlockView, End, Then}
use Rattle.sect_front.specs.{declared.tree.Procedure.{Procedure}, declared.tree.Thread.{Thread}}
use Rattle.sect_types.specs.Items.{PrimitiveHead, TestHead, AtomicHead, CallHead, deeper, in_section, Item, AStatement}
use Rattle.sect_types.specs.{Items.{variables}, declared.rules.place.Place.{Place}}
use Rattle.sect_types.specs.declared.rules.place.Place.TheVariants.{InThread, InProcedure}
use Rattle.sect_types.specs.Rules.{Declared, unknown, twice, mistyped, outside, nested, miscounted}
use Rattle.sect_types.specs.steps.Search.{recursive}

pub record IsClean (d : Declared) (item : Item) : Type 0 where
  pub known : unknown d item ≡ false
  pub once : twice d item ≡ false
  pub right : mistyped d item ≡ false
  pub stands : outside item ≡ false
  pub flat : nested item ≡ false
  pub ends : recursive d item ≡ false
  pub counted : miscounted d item ≡ false

abbrev mutual
  -- a statement whose items are clean
  pub IsCleanStatement : Declared → List Declaration → Place → StatementView → Type 0
  IsCleanStatement d ls at (Primitive p) = IsClean d (AStatement (PrimitiveHead p) ls at)
  IsCleanStatement d ls at (If t a) = IsClean d (AStatement (TestHead t) ls at) × IsCleanBlock d ls (deeper at) a
  IsCleanStatement d ls at (IfElse t a b) =
      IsClean d (AStatement (TestHead t) ls at) × IsCleanBlock d ls (deeper at) a × IsCleanBlock d ls (deeper at) b
  IsCleanStatement d ls at (While t a) = IsClean d (AStatement (TestHead t) ls at) × IsCleanBlock d ls (deeper at) a
  IsCleanStatement d ls at (Atomic lock a) = IsClean d (AStatement AtomicHead ls at)
      × IsCleanBlock d ls (in_section at) a
  IsCleanStatement d ls at (Call f vs) = IsClean d (AStatement (CallHead f vs) ls at)

  pub IsCleanBlock : Declared → List Declaration → Place → BlockView → Type 0
  IsCleanBlock d ls at End = ⊤
  IsCleanBlock d ls at (Then s b) = IsCleanStatement d ls at s × IsCleanBlock d ls at b

-- the bodies of the procedures from number i on
abbrev pub AreCleanProcedures : Declared → ℕ → List Procedure → Type 0
AreCleanProcedures d i [] = ⊤
AreCleanProcedures d i (p ∷ ps) =
    IsCleanBlock d (variables p) (InProcedure i) p.body × AreCleanProcedures d (i + 1) ps

-- those of the threads
abbrev pub AreCleanThreads : Declared → List Thread → Type 0
AreCleanThreads d [] = ⊤
AreCleanThreads d (h ∷ hs) = IsCleanBlock d h.locals (InThread false 1) h.body × AreCleanThreads d hs
