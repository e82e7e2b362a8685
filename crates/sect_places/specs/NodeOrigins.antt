-- What the items that nodes come from say of the nodes.
use Rattle.std.specs.Prelude.{◌≡◌, ◌<◌, ⊤, ℕ, List, [], ◌∷◌, length, All, Option, Some, None, slice_get, option_map}
use Rattle.sect_front.specs.{TreeView.{TreeView}, declared.tree.Declaration.{Declaration}}
use Rattle.sect_front.specs.declared.tree.Operand.{Operand}
use Rattle.sect_types.specs.Items.{Item, ALocal, AStatement, PrimitiveHead, TestHead, AtomicHead, CallHead, items}
use Rattle.sect_types.specs.{declared.rules.place.Place.{Place}, declared.expansion.action.Label.{Label}}
use Rattle.sect_types.specs.declared.expansion.action.Label.TheVariants.{Act, Test, Section as WholeSection}
use Rattle.sect_types.specs.{declared.expansion.action.Value.{Value}, Rules.{sight}, Numbered.{action_of, condition_of}}
use Rattle.sect_types.specs.Expanded.{moved_action, moved_condition}
use Rattle.sect_types.specs.Statements.{TextView, Stop, Do, Choose, Loop, Section}
use Rattle.sect_types.specs.{Sections.{SectionView, sections_of}, Programs.{ProgramView}, Traces.{node_count}}
use Rattle.sect_places.specs.{declared.origin.Origin.{Origin}, Origins.{thread_origins_of, section_origins_of}}
use Rattle.sect_types.specs.declared.expansion.action.Action.TheVariants as action

-- what the nodes of a text do, in text order, before what those of what follows do
abbrev pub labels : TextView → List Label → List Label
labels Stop w = w
labels (Do a k) w = Act a ∷ labels k w
labels (Choose c p q k) w = Test c ∷ labels p (labels q (labels k w))
labels (Loop c p k) w = Test c ∷ labels p (labels k w)
labels (Section i p k) w = WholeSection i ∷ labels k w

-- The item says what the node does. A statement does so by names, of which the first local that it sees has some
-- number, and the object that it makes some site; a parameter or a local is set.
abbrev pub Says : TreeView → Item → Label → Type 0
Says t (AStatement (PrimitiveHead p) ls at) (Act a) =
    (first : ℕ) × (site : ℕ)
    × (option_map (moved_action first) (action_of (sight t.records t.globals ls) site p) ≡ Some a)
Says t (AStatement (TestHead test) ls at) (Test c) =
    (first : ℕ) × (option_map (moved_condition first) (condition_of (sight t.records t.globals ls) test) ≡ Some c)
Says t (AStatement AtomicHead ls at) (WholeSection i) = ⊤
Says t (ALocal kind name before) (Act a) = (x : ℕ) × (v : Value) × (a ≡ action.Assign x v)
Says t _ _ = ⊥

-- the item of that number is a call, if a number is given
abbrev pub IsCall : TreeView → Option ℕ → Type 0
IsCall t None = ⊤
IsCall t (Some n) = (f : List ℕ) × (vs : List Operand) × (ls : List Declaration) × (at : Place)
    × (slice_get (items t) n ≡ Some (AStatement (CallHead f vs) ls at))

-- the node comes from there
pub record IsFrom (t : TreeView) (label : Label) (o : Origin) : Type 0 where
  pub item : Item
  pub there : slice_get (items t) o.item ≡ Some item
  pub says : Says t item label
  pub called : IsCall t o.call

-- each of the nodes comes from there
abbrev pub AreFrom : TreeView → List Label → List Origin → Type 0
AreFrom t [] [] = ⊤
AreFrom t (l ∷ ls) (o ∷ os) = IsFrom t l o × AreFrom t ls os
AreFrom t _ _ = ⊥

-- these are the origins of the nodes of a text
pub record AreOriginsOf (t : TreeView) (text : TextView) (list : List Origin) : Type 0 where
  pub from : AreFrom t (labels text []) list
  -- each node has one, by its number
  pub many : length list ≡ node_count text
  -- and each is an item
  pub within : All (λ (o : Origin). o.item < length (items t)) list

-- a list for each thread, and one for each section
pub record OriginsView : Type 0 where
  pub threads : List (List Origin)
  pub sections : List (List Origin)

-- these are the origins of the nodes of a program
pub record AreOrigins (p : ProgramView) (o : OriginsView) : Type 0 where
  pub threads_are : o.threads ≡ thread_origins_of p.source
  pub sections_are : o.sections ≡ section_origins_of p.source
  pub thread_count : length o.threads ≡ length p.texts
  pub section_count : length o.sections ≡ length (sections_of p.texts)
  pub threads : (i : ℕ) (text : TextView) (list : List Origin) → slice_get p.texts i ≡ Some text
      → slice_get o.threads i ≡ Some list → AreOriginsOf p.source text list
  pub sections : (i : ℕ) (s : SectionView) (list : List Origin) → slice_get (sections_of p.texts) i ≡ Some s
      → slice_get o.sections i ≡ Some list → AreOriginsOf p.source s.body list
