-- What has been found when those before a place have been followed. The loop of `may_flow_to` keeps it.
use Rattle.std.specs.Prelude.{◌≡◌, ◌<◌, ℕ, List, Some, slice_get}
use Rattle.sect_lemmas.specs.Lists.{Has}
use Rattle.sect_graph.specs.Graphs.{GraphView}
use Rattle.sect_flows.specs.declared.point.{LocalAt.{LocalAt}, ProgramPoint.{ProgramPoint}}
use Rattle.sect_flows.specs.Flows.{Flows, MayFlow, IsSetAt}

-- what the statement at point p sets local x to may come to all that are found; it begins at some of them, and from
-- those before place n it goes on to others of them
pub record AreFollowed (g : GraphView) (t : ℕ) (p : ProgramPoint) (x : ℕ) (found : List LocalAt) (n : ℕ)
    : Type 0 where
  pub right : (k : LocalAt) → Has found k → MayFlow g t p x k
  pub begun : (k : LocalAt) → IsSetAt g t p x k → Has found k
  pub followed : (i : ℕ) (h k : LocalAt) → i < n → slice_get found i ≡ Some h → Flows g t h k → Has found k
