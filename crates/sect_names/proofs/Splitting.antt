-- What is needed over steps that are split in two is what is needed step by step.
use Rattle.std.proofs.Common.{◌↔◌, ℕ, List, [], ◌∷◌, ◌++◌, refl, sym, ap, subst, inl, inr}
use Rattle.sect_lemmas.specs.Lists.{Has}
use Rattle.sect_types.specs.Traces.{Visit}
use Rattle.sect_names.specs.{declared.lock.Lock.{Lock}, Schemes.{SchemeView}, Carrying.{Generated}}
use Rattle.sect_names.specs.{Needed.{CarriedOver, GeneratedFirst, IsNeededOn}, Walks.{labels_of}, Along.{NeededAlong}}

module _ (s : SchemeView) (t : ℕ) (last : List Lock) where
  over_along : (before rest : List Visit) (x l : Lock) → GeneratedFirst s t last rest x → CarriedOver s t before x l
      → NeededAlong s t last (labels_of (before ++ rest)) l
  over_along [] [] x l first is = subst (Has last) is first
  over_along [] (step ∷ rest) x l first is = inl (subst (Generated s t step.label) is first)
  over_along (b ∷ before) rest x l first (m, over, back) = inr (m, over_along before rest x m first over, back)

  along_split : (steps : List Visit) (l : Lock) → NeededAlong s t last (labels_of steps) l → IsNeededOn s t last steps l
  along_split [] l h = ([], [], l, refl, h, refl)
  along_split (step ∷ steps) l h = elim h [
    | inl own ↦ ([], step ∷ steps, l, refl, own, refl)
    | inr (m, needs, back) ↦ (let r = along_split steps m needs in
        (step ∷ r.0, r.1, r.2, ap (λ z. step ∷ z) r.3, r.4, (m, r.5, back)))
  ]

  -- needed over steps that are split in two is needed step by step
  pub split_along : (steps : List Visit) (l : Lock)
      → IsNeededOn s t last steps l ↔ NeededAlong s t last (labels_of steps) l
  split_along steps l = (
    λ (before, rest, x, is, first, over). subst (λ z. NeededAlong s t last (labels_of z) l) (sym is)
        (over_along before rest x l first over),
    along_split steps l,
  )
