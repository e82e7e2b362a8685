-- The chains of a section that are kept, and what is looked for in them.
use Rattle.std.specs.Prelude.{◌≡◌, ◌<◌, ◌↔◌, ℕ, suc, ◌-◌, Bool, true, false, List, length, Some, slice_get, position}
use Rattle.sect_lemmas.specs.Lists.{Has}
use Rattle.sect_types.specs.Sections.{sections_of}
use Rattle.sect_points.specs.{Paths.{PathView}, Partitions.{HasClass}}
use Rattle.sect_graph.specs.{declared.flow.Node.{Node}, Layout.{flow_nodes}}
use Rattle.sect_names.specs.{declared.link.Link.{Link}, declared.lock.Effect.{Effect}, declared.lock.Lock.{Lock}}
use Rattle.sect_names.specs.{Carrying.{Before}, Locks.{depth}, Schemes.{SchemeView}}
use Rattle.sect_emit.specs.{Compiled.{CompiledView}, Explaining.{IsChained, section_at}, Words.{IsChainNamed}}
use Rattle.sect_warnings.specs.ClassLocks.{class_label, IsTooLong}
use Rattle.sect_names.specs.declared.lock.Lock.TheVariants as lock

pub record ReasonsView : Type 0 where
  pub section : ℕ
  pub chains : List (List Link)

-- they are the chains of that section
pub record AreReasons (c : CompiledView) (r : ReasonsView) : Type 0 where
  pub within : r.section < length (sections_of c.scheme.program.texts)
  pub chained : IsChained c r.section r.chains
  pub named : (links : List Link) → Has r.chains links → IsChainNamed c.scheme.program links

abbrev pub is_on_path : Lock → Bool
is_on_path (lock.Path p e) = true
is_on_path _ = false

-- a step of the chain at node j, and behind it the first whose lock is on a path, which is lock l
pub record IsTurn (chain : List Link) (j : ℕ) (l : Lock) : Type 0 where
  pub place : ℕ
  pub here : Link
  pub next : Link
  pub found : position (λ (a : Link). is_on_path a.lock) chain ≡ Some (suc place)
  pub first : slice_get chain place ≡ Some here
  pub second : slice_get chain (suc place) ≡ Some next
  pub stands : here.node ≡ j
  pub on_path : next.lock ≡ l

-- the path is of class n, and has more than k fields
abbrev pub IsLong : SchemeView → ℕ → PathView → Type 0
IsLong s n q = HasClass s.classes q n × (s.most < depth q)

-- these are the paths that may denote before node j of section i what the path of the lock denotes after it
abbrev pub ArePathsBefore : CompiledView → ℕ → ℕ → Lock → List PathView → Type 0
ArePathsBefore c i j l paths =
    (p : PathView) (e : Effect) (x : Node) → l ≡ lock.Path p e
    → slice_get (flow_nodes (section_at c i).body) j ≡ Some x → (q : PathView)
    → Has paths q ↔ Before c.scheme.classes (section_at c i).thread x.label p q

-- what is said at the end of the chain
pub record IsLabelled (c : CompiledView) (i n : ℕ) (e : Effect) (chain : List Link) (label : List ℕ) : Type 0 where
  pub last : Link
  pub ends : slice_get chain (length chain - 1) ≡ Some last
  pub node : ℕ
  pub path : PathView
  pub long : IsTooLong c i n e chain node path
  pub says : label ≡ class_label c i last node path
