use Rattle.std.proofs.Common.{inl, inr, ◌≡◌, ◌<◌, ℕ, List, [], ◌∷◌, ◌++◌, map, set, length, ap, ◌∙◌, sym, arith, subst}
use Rattle.std.proofs.lemmas.List.{get_or-map, length-map, map-set}
use Rattle.std.specs.Prelude.{slice_index_or}
use Rattle.sect_lemmas.proofs.Membership.{Has-cases}
use Rattle.sect_infer.specs.{Numberings.{NumberingView}, steps.Putting.{AreWithin}}
use Rattle.sect_infer.proofs.Highest.{within_set}
use Rattle.sect_infer.proofs.numbering.Numbering.tell.Goals as goal

pub returns : goal.returns
returns c =
    let vs = c.self.inside.above.items in
    let n = c.args.number in
    let lists : List (List ℕ) = map (λ v. v.items) vs in
    let is : lists ≡ c.args.self.now.above = ap (λ (v : NumberingView). v.above) c.self.view_is in
    let within : n < length vs = omega (arith, length-map vs (λ v. v.items), ap length is, c.requires) in
    let was : slice_index_or lists n [] ≡ c.index_mut.result.now.items =
    get_or-map (λ v. v.items) vs n c.index_mut.result.now [] within
    ∙ ap (λ v. v.items) (sym c.index_mut.ensures.value) in
    let new : map (λ v. v.items) (set vs n c.push.new.self)
    ≡ set lists n (slice_index_or lists n [] ++ c.args.above ∷ []) =
    map-set (λ v. v.items) vs n c.push.new.self
    ∙ ap (set lists n) (c.in_ok-push.ensures.ok ∙ ap (λ l. l ++ c.args.above ∷ []) (sym was)) in
    record {
      keys = ap (λ (v : NumberingView). v.keys) c.self.view_is;
      above = subst (λ (old : List (List ℕ)). map (λ v. v.items) (set vs n c.push.new.self)
          ≡ set old n (slice_index_or old n [] ++ c.args.above ∷ [])) is new;
      classes = ap (λ (v : NumberingView). v.classes) c.self.view_is;
    }

pub invariant_of-self-2 : goal.invariant_of-self-2
invariant_of-self-2 c =
    let vs = c.self.inside.above.items in
    let n = c.args.number in
    let highest = c.highest_with-self-inside.result in
    let lists : List (List ℕ) = map (λ v. v.items) vs in
    let is : lists ≡ c.args.self.now.above = ap (λ (v : NumberingView). v.above) c.self.view_is in
    let there = subst (AreWithin highest) (sym is) c.highest_with-self-inside.ensures.there in
    let within : n < length vs = omega (arith, length-map vs (λ v. v.items), ap length is, c.requires) in
    let was : slice_index_or lists n [] ≡ c.index_mut.result.now.items =
    get_or-map (λ v. v.items) vs n c.index_mut.result.now [] within
    ∙ ap (λ v. v.items) (sym c.index_mut.ensures.value) in
    let ns = slice_index_or lists n [] ++ c.args.above ∷ [] in
    let new : map (λ v. v.items) (set vs n c.push.new.self) ≡ set lists n ns =
    map-set (λ v. v.items) vs n c.push.new.self
    ∙ ap (set lists n) (c.in_ok-push.ensures.ok ∙ ap (λ l. l ++ c.args.above ∷ []) (sym was)) in
    record {
      writes_told = c.self.invariant.writes_told;
      broad_told = c.self.invariant.broad_told;
      within = subst (AreWithin highest) (sym new) (within_set highest lists n ns there (λ m h.
          elim (Has-cases (slice_index_or lists n []) (c.args.above ∷ []) m h) [
            | inl old ↦ there n m old
            | inr last ↦ c.highest_with-self-inside.ensures.behind m last
          ]));
    }
