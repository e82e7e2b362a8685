-- Paths with something else in place of their base.
use Rattle.std.proofs.Common.{◌≡◌, ◌↔◌, Option, Some, None, refl, sym, ap, ◌∙◌, inl, inr}
use Rattle.sect_points.specs.declared.holders.Variable.{Variable}
use Rattle.sect_points.specs.Paths.{PathView, var, dot, dots, base_of, fields_of, dots-push}
use Rattle.sect_names.specs.Carrying.{Replaced}

-- a path with another base is itself
pub replaced_other : (x : Variable) (o : Option PathView) (p q : PathView) → (base_of p ≡ x → ⊥)
    → (q ≡ p) ↔ Replaced x o p q
replaced_other x o (var v) q other = (λ e. inr (other, e), λ h. elim h [ inl a ↦ absurd (other a.0) | inr b ↦ b.1 ])
replaced_other x o (dot p f) q other = (
  λ e. (p, (replaced_other x o p p other).0 refl, e),
  λ h. h.2 ∙ ap (λ r. dot r f) ((replaced_other x o p h.0 other).1 h.1),
)

-- a path with the base that goes is none
pub replaced_none : (x : Variable) (p q : PathView) → base_of p ≡ x → Replaced x None p q → ⊥
replaced_none x (var v) q is h = elim h [ inl a ↦ (let e = a.1 in cc) | inr b ↦ b.0 is ]
replaced_none x (dot p f) q is h = replaced_none x p h.0 is h.1

-- a path with the base that gives way begins with what takes its place
pub replaced_here : (x : Variable) (s p q : PathView) → base_of p ≡ x
    → (q ≡ dots s (fields_of p)) ↔ Replaced x (Some s) p q
replaced_here x s (var v) q is =
    (λ e. inl (is, ap (λ r. Some r) (sym e)), λ h. elim h [ inl a ↦ (let e = a.1 in cc) | inr b ↦ absurd (b.0 is) ])
replaced_here x s (dot p f) q is = (
  λ e. (dots s (fields_of p), (replaced_here x s p (dots s (fields_of p)) is).0 refl, e ∙ dots-push s (fields_of p) f),
  λ h. h.2 ∙ ap (λ r. dot r f) ((replaced_here x s p h.0 is).1 h.1) ∙ sym (dots-push s (fields_of p) f),
)
