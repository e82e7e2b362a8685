use Rattle.std.proofs.Common.{◌≡◌, ◌+◌, ℕ, List, [], ◌∷◌, ◌++◌, map, length, ap, ◌∙◌, length-append}
use Rattle.std.proofs.lemmas.List.{map-append}
use Rattle.std.specs.Prelude.{slice_index_or}
use Rattle.sect_lemmas.proofs.Elements.{empty_more}
use Rattle.sect_graph.proofs.predecessors.Predecessors.new.Goals as goal

pub loop-preserved : goal.loop-preserved
loop-preserved c =
    let lists : List (List ℕ) = map (λ v. v.items) c.loop.lists.items in
    let new : map (λ v. v.items) c.push.new.self.items ≡ lists ++ [] ∷ [] =
    ap (map (λ v. v.items)) c.in_ok-push.ensures.items
    ∙ map-append (λ v. v.items) c.loop.lists.items (c.new.result ∷ [])
    ∙ ap (λ l. lists ++ l ∷ []) c.new.ensures.items in
    record {
      counted = ap length new ∙ length-append lists ([] ∷ []) ∙ ap (λ n. n + 1) c.loop.invariant.counted;
      empty = λ m. ap (λ l. slice_index_or l m []) new ∙ empty_more lists m c.loop.invariant.empty;
    }
