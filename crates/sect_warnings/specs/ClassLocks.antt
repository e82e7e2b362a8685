-- Why a section locks a whole class: which statement needs it, and which path gets too long.
use Rattle.std.specs.Prelude.{◌≡◌, ◌<◌, ℕ, suc, ◌-◌, List, [], ◌++◌, Option, Some, None, codes, length, slice_get}
use Rattle.std.specs.{Prelude.{slice_index_or}, Fmt.{decimal}}
use Rattle.sect_front.specs.TreeView.{TreeView}
use Rattle.sect_graph.specs.{declared.flow.Node.{Node}, Layout.{flow_nodes}}
use Rattle.sect_places.specs.Origins.{origin, section_origins_of}
use Rattle.sect_points.specs.{Paths.{PathView}, Partitions.{HasClass}}
use Rattle.sect_names.specs.{declared.link.Link.{Link}, declared.lock.Effect.{Effect}, declared.lock.Lock.{Lock}}
use Rattle.sect_names.specs.{Carrying.{right_for, Before}, Locks.{depth}, Needed.{end_of}}
use Rattle.sect_names.specs.Printing.{lock_text, path_text}
use Rattle.sect_chains.specs.Chains.{IsFirstChain}
use Rattle.sect_emit.specs.{Compiled.{CompiledView}, Explaining.{section_at, section_deed}}
use Rattle.sect_warnings.specs.Hinting.{touched_at}
use Rattle.sect_names.specs.declared.lock.Lock.TheVariants as lock

-- the lock on a class for reading or for writing
abbrev pub class_lock : ℕ → Effect → Lock
class_lock n e = lock.Class n (right_for e)

-- the first chain of that lock in section i
abbrev pub IsReason : CompiledView → ℕ → Lock → List Link → Type 0
IsReason c i l chain =
    IsFirstChain c.scheme (section_at c i).thread (end_of c.scheme i) (flow_nodes (section_at c i).body) l chain

-- The path q before node j of section i: at one step of the chain, which stands at that node, the lock is that of class
-- n, and at the next it is on a path. What that path denotes behind the node, q may denote before it; q is of the
-- class, and it has more than k fields.
pub record IsTooLong (c : CompiledView) (i n : ℕ) (e : Effect) (chain : List Link) (j : ℕ) (q : PathView) : Type 0 where
  pub place : ℕ
  pub here : Link
  pub next : Link
  pub path : PathView
  pub effect : Effect
  pub step : Node
  pub first : slice_get chain place ≡ Some here
  pub second : slice_get chain (suc place) ≡ Some next
  pub stands : here.node ≡ j
  pub on_class : here.lock ≡ class_lock n e
  pub on_path : next.lock ≡ lock.Path path effect
  pub there : slice_get (flow_nodes (section_at c i).body) j ≡ Some step
  pub before : Before c.scheme.classes (section_at c i).thread step.label path q
  pub classed : HasClass c.scheme.classes q n
  pub long : c.scheme.most < depth q

-- the item that node j of section i comes from
abbrev pub node_item : TreeView → ℕ → ℕ → ℕ
node_item t i j = (slice_index_or (slice_index_or (section_origins_of t) i []) j (origin None 0)).item

-- a lock that is needed, and which path that is
unfoldable pub need_text : TreeView → Lock → PathView → List ℕ
need_text t l q = codes "needs `" ++ lock_text t l ++ codes "`, which is `" ++ path_text t q

-- more than that many fields
unfoldable pub limit_text : ℕ → List ℕ
limit_text k = codes "`: more fields than `--k " ++ decimal k ++ codes "` allows"

-- before which node of section i, and what is wrong with it
unfoldable pub where_text : CompiledView → ℕ → ℕ → List ℕ
where_text c i j = codes "` before `" ++ section_deed c i j ++ limit_text c.scheme.most

-- what the last step needs, and which path that is where it gets too long
abbrev pub class_label : CompiledView → ℕ → Link → ℕ → PathView → List ℕ
class_label c i last j q = need_text c.scheme.program.source last.lock q ++ where_text c i j

-- where section i needs to lock class n for that, and what is said there: the statement or the test at the end of the
-- lock's first chain; and the record of the object that it touches
pub record IsClassMarked (c : CompiledView) (i n : ℕ) (e : Effect) (item : ℕ) (label : List ℕ) (r : Option ℕ)
    : Type 0
  where
    pub chain : List Link
    pub reason : IsReason c i (class_lock n e) chain
    pub last : Link
    pub ends : slice_get chain (length chain - 1) ≡ Some last
    pub node : ℕ
    pub path : PathView
    pub long : IsTooLong c i n e chain node path
    pub stands : item ≡ node_item c.scheme.program.source i last.node
    pub says : label ≡ class_label c i last node path
    pub touches : r ≡ touched_at c i last.node
