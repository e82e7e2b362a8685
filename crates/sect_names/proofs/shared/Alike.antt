-- Schemes that differ in their points-to sets alone, where paths have the same classes, know the same locks.
use Rattle.std.proofs.Common.{◌≡◌, ℕ, List, [], ◌∷◌, Option, inl, inr}
use Rattle.sect_types.specs.{declared.expansion.action.Field.{Field}, declared.expansion.action.Action.{Action}}
use Rattle.sect_types.specs.declared.expansion.action.Label.{Label}
use Rattle.sect_graph.specs.declared.flow.Node.{Node}
use Rattle.sect_points.specs.declared.holders.Variable.{Variable}
use Rattle.sect_points.specs.{declared.holders.Variable.TheVariants.{Global, Local}, Flow.{Family, Within}}
use Rattle.sect_points.specs.{Paths.{PathView, var, dot, VariableHas, PathHas}, PathClasses.{variable_of, variable_in}}
use Rattle.sect_points.specs.{Sets.{PointsToView, InSets}, Partitions.{ClassesView, HasClass}}
use Rattle.sect_names.specs.{declared.lock.Effect.{Effect}, declared.lock.Lock.{Lock}, declared.link.Link.{Link}}
use Rattle.sect_names.specs.{Schemes.{SchemeView}, Locks.{IsLockOf, Covers, CoveredBy}}
use Rattle.sect_names.specs.Carrying.{Accesses, GeneratedBy, Generated, BeforeStore, BeforeAction, Before, CarriedBack}
use Rattle.sect_names.specs.{Chains.{IsGeneratedAt, AreLinked, IsChain}, Laws.{AreOneScheme}}
use Rattle.sect_types.specs.declared.expansion.action.Action.TheVariants as action
use Rattle.sect_types.specs.declared.expansion.action.Label.TheVariants as label
use Rattle.sect_points.specs.declared.holders.Holder.TheVariants as holder
use Rattle.sect_names.specs.declared.lock.Lock.TheVariants as lock

-- the classes of these sets with the numbers of a scheme
abbrev pub classes_with : SchemeView → PointsToView → ClassesView
classes_with s sets = record { sets = sets; numbers = s.classes.numbers }

-- a scheme with other sets
abbrev pub scheme_with : SchemeView → PointsToView → SchemeView
scheme_with s sets = record {
  program = s.program;
  most = s.most;
  classes = classes_with s sets;
  guards =
      s.guards;
  graphs = s.graphs;
}

-- a path leads to the sites of a greater family too
variable_has : (F G : Family) → Within F G → (v : Variable) (site : ℕ) → VariableHas F v site → VariableHas G v site
variable_has F G to (Global g) site h = h
variable_has F G to (Local t x) site h = to (holder.Local t x) site h

-- so does a longer path
path_has : (F G : Family) → Within F G → (p : PathView) (site : ℕ) → PathHas F p site → PathHas G p site
path_has F G to (var v) site h = variable_has F G to v site h
path_has F G to (dot p f) site h = (h.0, path_has F G to p h.0 h.1, to (holder.Slot h.0 f.number) site h.2)

-- so a path keeps its classes where sets grow
pub class_to : (s : SchemeView) (a b : PointsToView) → Within (InSets a) (InSets b) → (p : PathView) (n : ℕ)
    → HasClass (classes_with s a) p n → HasClass (classes_with s b) p n
class_to s a b to p n h = (h.0, path_has (InSets a) (InSets b) to p h.0 h.1, h.2)

-- a scheme is another one of its program but for the sets
pub but_for_sets : (s r : SchemeView) → AreOneScheme s r → s.program ≡ r.program → s.most ≡ r.most
    → scheme_with s r.classes.sets ≡ r
but_for_sets s r one program most =
    λ i. record {
      program = program i;
      most = most i;
      classes =
          record { sets = r.classes.sets; numbers = one.numbers i };
      guards = one.guards i;
      graphs = one.graphs i;
    }

module _ (s : SchemeView) (a b : PointsToView)
    (to : (p : PathView) (n : ℕ) → HasClass (classes_with s a) p n → HasClass (classes_with s b) p n) (t : ℕ) where
  -- a lock of one is a lock of the other
  pub lock_to : (l : Lock) → IsLockOf (scheme_with s a) t l → IsLockOf (scheme_with s b) t l
  lock_to lock.All h = h
  lock_to (lock.Class c r) h = h
  lock_to (lock.Path p e) h = record {
    own = h.own;
    of = h.of;
    refers = h.refers;
    short = h.short;
    classed =
        (h.classed.0, to p h.classed.0 h.classed.1);
  }

  -- what an access needs
  access_to : (v : Variable) (r : ℕ) (e : Effect) (l : Lock) → Accesses (scheme_with s a) v r e l
      → Accesses (scheme_with s b) v r e l
  access_to v r e l h = ((h.0.0, to (var v) h.0.0 h.0.1), h.1)

  -- what a step generates
  generated_by_to : (x : Action) (l : Lock) → GeneratedBy (scheme_with s a) t x l → GeneratedBy (scheme_with s b) t x l
  generated_by_to (action.Assign x v) l h = h
  generated_by_to (action.Compute x v o w) l h = h
  generated_by_to (action.New x r i) l h = h
  generated_by_to (action.Load x y f) l h = access_to (variable_of t y) f.of _ l h
  generated_by_to (action.Store y f v) l h = access_to (variable_of t y) f.of _ l h
  generated_by_to (action.Print v) l h = h

  -- what a statement or a test generates
  generated_to : (step : Label) (l : Lock) → Generated (scheme_with s a) t step l → Generated (scheme_with s b) t step l
  generated_to (label.Act x) l h = generated_by_to x l h
  generated_to (label.Test c) l h = h
  generated_to (label.Section i) l h = h

  -- what a step of a chain generates
  pub generated_at_to : (last : List Lock) (g : List Node) (x : Link) → IsGeneratedAt (scheme_with s a) t last g x
      → IsGeneratedAt (scheme_with s b) t last g x
  generated_at_to last g x h = elim h [ inl n ↦ inl (n.0, n.1, generated_to n.0.label x.lock n.2) | inr e ↦ inr e ]

  -- what is carried back over a step
  before_store_to : (z : Variable) (f : Field) (w : Option Variable) (p q : PathView)
      → BeforeStore (classes_with s a) z f w p q → BeforeStore (classes_with s b) z f w p q
  before_store_to z f w (var v) q h = h
  before_store_to z f w (dot p g) q h = elim h [
    | inl l ↦ inl (l.0, before_store_to z f w p l.0 l.1, l.2)
    | inr r ↦ inr (r.0, (r.1.0, to p r.1.0 r.1.1, to (var z) r.1.0 r.1.2), r.2)
  ]

  -- what is carried back over a statement
  before_action_to : (x : Action) (p q : PathView) → BeforeAction (classes_with s a) t x p q
      → BeforeAction (classes_with s b) t x p q
  before_action_to (action.Assign x v) p q h = h
  before_action_to (action.Compute x v o w) p q h = h
  before_action_to (action.New x r i) p q h = h
  before_action_to (action.Load x y f) p q h = h
  before_action_to (action.Store y f v) p q h = before_store_to (variable_of t y) f (variable_in t v) p q h
  before_action_to (action.Print v) p q h = h

  -- over a statement or a test
  before_to : (step : Label) (p q : PathView) → Before (classes_with s a) t step p q
      → Before (classes_with s b) t step p q
  before_to (label.Act x) p q h = before_action_to x p q h
  before_to (label.Test c) p q h = h
  before_to (label.Section i) p q h = h

  -- what a lock is carried back to
  pub carried_to : (step : Label) (l m : Lock) → CarriedBack (scheme_with s a) t step l m
      → CarriedBack (scheme_with s b) t step l m
  carried_to step lock.All m h = h
  carried_to step (lock.Class c r) m h = h
  carried_to step (lock.Path p e) m h = (h.0, before_to step p h.0 h.1, (h.2.0, to h.0 h.2.0 h.2.1, h.2.2))

  -- a chain in one is a chain in the other
  linked_to : (last : List Lock) (g : List Node) (x : Link) (links : List Link)
      → AreLinked (scheme_with s a) t last g x links → AreLinked (scheme_with s b) t last g x links
  linked_to last g x [] h = generated_at_to last g x h
  linked_to last g x (y ∷ links) h =
      let first = h.0 in
      ((first.0, first.1, first.2, carried_to first.0.label y.lock x.lock first.3), linked_to last g y links h.1)

  -- from the entry on
  pub chain_to : (last : List Lock) (g : List Node) (l : Lock) (links : List Link)
      → IsChain (scheme_with s a) t last g l links → IsChain (scheme_with s b) t last g l links
  chain_to last g l [] h = h
  chain_to last g l (x ∷ links) h = (h.0, linked_to last g x links h.1)

  -- which lock covers which
  pub covers_to : (l m : Lock) → Covers (scheme_with s a) l m → Covers (scheme_with s b) l m
  covers_to lock.All m h = h
  covers_to (lock.Path p e) lock.All h = h
  covers_to (lock.Class c r) lock.All h = h
  covers_to (lock.Path p e) (lock.Path q f) h = h
  covers_to (lock.Class c r) (lock.Path q f) h = (to q c h.0, h.1)
  covers_to (lock.Class c r) (lock.Class d q) h = h
  covers_to (lock.Path p e) (lock.Class d q) h = h

  -- what is covered by a list
  pub covered_to : (locks : List Lock) (l : Lock) → CoveredBy (scheme_with s a) locks l
      → CoveredBy (scheme_with s b) locks l
  covered_to locks l h = (h.0, h.1, covers_to h.0 l h.2)
