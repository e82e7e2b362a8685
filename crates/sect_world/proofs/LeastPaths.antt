-- Of a least set each lock on a path is on a path that the section needs.
use Rattle.std.proofs.Common.{◌≡◌, ◌⊎◌, inl, inr, ℕ, List, [], ◌∷◌, sym, ◌∙◌, subst}
use Rattle.sect_lemmas.specs.Lists.{Has}
use Rattle.sect_types.specs.Statements.{TextView}
use Rattle.sect_points.specs.Paths.{PathView}
use Rattle.sect_names.specs.{declared.lock.Effect.{Effect}, declared.lock.Lock.{Lock}, Locks.{Covers}}
use Rattle.sect_names.specs.{Needed.{IsNeeded, IsLeast}, Schemes.{SchemeView}}
use Rattle.sect_names.proofs.shared.Telling.{lock_cases}
use Rattle.sect_names.specs.declared.lock.Lock.TheVariants as lock

-- the locks of a list that are others than this one
abbrev AreOthers : Lock → List Lock → List Lock → Type 0
AreOthers l locks others =
    ((o : Lock) → Has others o → Has locks o × (o ≡ l → ⊥)) × ((o : Lock) → Has locks o → (o ≡ l → ⊥) → Has others o)

others_of : (l : Lock) (locks : List Lock) → (others : List Lock) × AreOthers l locks others
others_of l [] = ([], (λ o h. absurd h, λ o h n. absurd h))
others_of l (x ∷ locks) = by (lock_cases x l) (others_of l locks)
  where
    by : (x ≡ l) ⊎ (x ≡ l → ⊥) → ((others : List Lock) × AreOthers l locks others)
        → (others : List Lock) × AreOthers l (x ∷ locks) others
    by (inl same) (others, (among, all)) = (
      others,
      (
        λ o h. (inr (among o h).0, (among o h).1),
        λ o h n. elim h [ inl e ↦ absurd (n (sym e ∙ same)) | inr k ↦ all o k n ],
      ),
    )
    by (inr apart) (others, (among, all)) = (
      x ∷ others,
      (
        λ o h. elim h [ inl e ↦ (inl e, λ is. apart (e ∙ is)) | inr k ↦ (inr (among o k).0, (among o k).1) ],
        λ o h n. elim h [ inl e ↦ inl e | inr k ↦ inr (all o k n) ],
      ),
    )

module _ (s : SchemeView) (t : ℕ) (last : List Lock) (body : TextView) (locks : List Lock)
    (least : IsLeast s t last body locks) where
  -- what a lock on a path covers is a lock on the path
  covered_path : (p : PathView) (e : Effect) (m : Lock) → Covers s (lock.Path p e) m
      → (f : Effect) × (m ≡ lock.Path p f)
  covered_path p e lock.All h = absurd h
  covered_path p e (lock.Class d r) h = absurd h
  covered_path p e (lock.Path q f) h = (f, let same = h.0 in cc)

  -- that the path isn't needed can't be: without its lock the set would protect too, and be less
  pub path_is_needed : (p : PathView) (e : Effect) → Has locks (lock.Path p e)
      → ((f : Effect) → IsNeeded s t last body (lock.Path p f) → ⊥) → ⊥
  path_is_needed p e has never =
      let l = lock.Path p e in
      let without = others_of l locks in
      let over = least.least without.0 (λ m needed. by m needed (least.protects m needed)) l has in
      let was = without.1.0 over.0 over.1 in
      was.1 (least.apart l over.0 has was.0 over.2)
    where
      by : (m : Lock) → IsNeeded s t last body m
          → ((big : Lock) × Has locks big × Covers s big m)
          → (big : Lock) × Has (others_of (lock.Path p e) locks).0 big × Covers s big m
      by m needed (big, in_set, covers) = elim (lock_cases big (lock.Path p e)) [
        | inl same ↦ (let f = covered_path p e m (subst (λ b. Covers s b m) same covers) in
            absurd (never f.0 (subst (IsNeeded s t last body) f.1 needed)))
        | inr apart ↦ (big, (others_of (lock.Path p e) locks).1.1 big in_set apart, covers)
      ]
