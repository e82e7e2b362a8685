-- What the traces of a section need at its entry is found along steps of its graph.
use Rattle.std.proofs.Common.{◌≡◌, ℕ, List, [], ◌∷◌, ◌++◌, length, inl, inr, refl, ap, subst, arith}
use Rattle.sect_lemmas.specs.Lists.{Has}
use Rattle.sect_types.specs.{Statements.{TextView}, Sections.{SectionView}, Traces.{Visit}}
use Rattle.sect_graph.specs.{declared.flow.Node.{Node}, Paths.{IsPath}, Graphs.{IsGraphOf}}
use Rattle.sect_names.specs.{declared.lock.Lock.{Lock}, Schemes.{SchemeView}}
use Rattle.sect_names.specs.Carrying.{Generated, CarriedBack}
use Rattle.sect_names.specs.Needed.{CarriedOver, GeneratedFirst, IsNeeded, IsNeededFrom}
use Rattle.sect_names.specs.Chains.{link}
use Rattle.sect_names.proofs.shared.{Telling.{lock_cases}, Linking.{linked_needed}}
use Rattle.sect_infer.specs.Sets.{LocksView, AreLocksOf}
use Rattle.sect_chains.specs.steps.Trails.{HasTrail, AreTops}

module _ (s : SchemeView) (t : ℕ) (last : List Lock) (g : List Node) where
  -- what is needed along a path from a node to the exit has a trail there
  along_has_trail : (before : List Visit) (j : ℕ) (steps rest : List Visit) (x l : Lock) → IsPath g j steps (length g)
      → steps ≡ before ++ rest → GeneratedFirst s t last rest x → CarriedOver s t before x l
      → HasTrail s t last g (link j l)
  along_has_trail [] j steps [] x l p e h c =
      let ended : j ≡ length g = subst (λ z. IsPath g j z (length g)) e p in
      ([], inr (ended, subst (Has last) c h))
  along_has_trail [] j steps (a ∷ rest) x l p e h c =
      let q = subst (λ z. IsPath g j z (length g)) e p in
      let label = ap (λ z. z.label) q.2 in
      ([], inl (q.0, q.1, subst (λ b. Generated s t b l) label (subst (Generated s t a.label) c h)))
  along_has_trail (b ∷ before) j steps rest x l p e h c =
      let q = subst (λ z. IsPath g j z (length g)) e p in
      let label = ap (λ z. z.label) q.2 in
      let r = along_has_trail before q.3 (before ++ rest) rest x c.0 q.5 refl h c.1 in
      (link q.3 c.0 ∷ r.0, ((q.0, q.1, q.4, subst (λ a. CarriedBack s t a c.0 l) label c.2), r.1))

  -- what is needed at the entry has a trail at the first node
  pub needed_has_trail : (body : TextView) → IsGraphOf body g → (l : Lock) → IsNeeded s t last body l
      → HasTrail s t last g (link 0 l)
  needed_has_trail body graph l n =
      let m = n.2 in
      along_has_trail m.0 0 n.0 m.1 m.2 l ((graph.paths n.0).1 n.1) m.3 m.4 m.5

-- the locks of a section's entry are the maximal ones of those from which steps lead on at the first node
pub are_tops : (s : SchemeView) (last : List Lock) (of : SectionView) (g : List Node) → IsGraphOf of.body g
    → (locks : LocksView) → AreLocksOf s last of g locks → AreTops s of.thread last g locks.entry
are_tops s last of g graph locks are = record {
  trails = λ l h. needed_has_trail s of.thread last g of.body graph l (are.entry_needed l h);
  alone = λ l big h d c.
      let along = linked_needed s of.thread last g graph.connected (link 0 big) d.0 d.1 in
      let needed : IsNeededFrom s of.thread last of.body g 0 big
      = (along.0, (graph.rests 0 (omega arith) along.0).0 along.1, along.2) in
      elim (lock_cases big l) [
        | inl e ↦ e
        | inr n ↦ absurd ((((are.needed.each 0 locks.entry are.first).kept_are l).0 h).1 (big, needed, c, n))
      ];
}
