use Rattle.std.proofs.Common.{◌≡◌, ◌<◌, ℕ, List, [], ◌∷◌, ◌++◌, map, set, length, ap, ◌∙◌, sym, arith, subst}
use Rattle.std.proofs.lemmas.List.{get_or-map, length-map, map-set}
use Rattle.std.specs.Prelude.{slice_index_or}
use Rattle.sect_graph.specs.Predecessors.{IsAdded}
use Rattle.sect_graph.proofs.Adding.{push_at}
use Rattle.sect_graph.proofs.predecessors.Predecessors.add.Goals as goal

pub returns-clause-added : goal.returns-clause-added
returns-clause-added c =
    let vs = c.self.inside.lists.items in
    let to = c.args.to in
    let from = c.args.from in
    let lists : List (List ℕ) = map (λ v. v.items) vs in
    let within : to < length vs = omega (arith, length-map vs (λ v. v.items), ap length c.self.view_is, c.requires) in
    let there : to < length lists = omega (arith, length-map vs (λ v. v.items), within) in
    let was : slice_index_or lists to [] ≡ c.index_mut.result.now.items =
    get_or-map (λ v. v.items) vs to c.index_mut.result.now [] within
    ∙ ap (λ v. v.items) (sym c.index_mut.ensures.value) in
    let new : map (λ v. v.items) (set vs to c.push.new.self) ≡ set lists to (slice_index_or lists to [] ++ from ∷ []) =
    map-set (λ v. v.items) vs to c.push.new.self
    ∙ ap (set lists to) (c.in_ok-push.ensures.ok ∙ ap (λ l. l ++ from ∷ []) (sym was)) in
    subst (λ old. IsAdded old (map (λ v. v.items) (set vs to c.push.new.self)) to from) c.self.view_is
    (subst (λ l. IsAdded lists l to from) (sym new) (push_at lists to from there))

pub returns-clause-behind : goal.returns-clause-behind
returns-clause-behind c =
    let vs = c.self.inside.lists.items in
    let to = c.args.to in
    let from = c.args.from in
    let lists : List (List ℕ) = map (λ v. v.items) vs in
    let within : to < length vs = omega (arith, length-map vs (λ v. v.items), ap length c.self.view_is, c.requires) in
    let was : slice_index_or lists to [] ≡ c.index_mut.result.now.items =
    get_or-map (λ v. v.items) vs to c.index_mut.result.now [] within
    ∙ ap (λ v. v.items) (sym c.index_mut.ensures.value) in
    let new : map (λ v. v.items) (set vs to c.push.new.self) ≡ set lists to (slice_index_or lists to [] ++ from ∷ []) =
    map-set (λ v. v.items) vs to c.push.new.self
    ∙ ap (set lists to) (c.in_ok-push.ensures.ok ∙ ap (λ l. l ++ from ∷ []) (sym was)) in
    subst (λ (old : List (List ℕ)). map (λ v. v.items) (set vs to c.push.new.self)
    ≡ set old to (slice_index_or old to [] ++ from ∷ [])) c.self.view_is new
