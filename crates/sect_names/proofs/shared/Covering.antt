-- Covering is a partial order.
use Rattle.std.proofs.Common.{◌≡◌, refl, sym, ap, ◌∙◌, subst}
use Rattle.sect_points.specs.Partitions.{HasClass}
use Rattle.sect_names.specs.{declared.lock.Effect.{Effect}, declared.lock.Right.{Right}, declared.lock.Lock.{Lock}}
use Rattle.sect_names.specs.{Schemes.{SchemeView}, Locks.{Allows, Grants, Includes, Covers, IsCoverOrder}}
use Rattle.sect_names.specs.declared.lock.Effect.TheVariants as effect
use Rattle.sect_names.specs.declared.lock.Right.TheVariants as right
use Rattle.sect_names.specs.declared.lock.Lock.TheVariants as lock

allows_refl : (e : Effect) → Allows e e
allows_refl effect.Read = tt
allows_refl effect.Write = tt

allows_trans : (e f g : Effect) → Allows e f → Allows f g → Allows e g
allows_trans effect.Write f g h k = tt
allows_trans effect.Read effect.Read g h k = k
allows_trans effect.Read effect.Write g h k = absurd h

allows_antisym : (e f : Effect) → Allows e f → Allows f e → e ≡ f
allows_antisym effect.Read effect.Read h k = refl
allows_antisym effect.Read effect.Write h k = absurd h
allows_antisym effect.Write effect.Read h k = absurd k
allows_antisym effect.Write effect.Write h k = refl

grants_less : (r : Right) (e f : Effect) → Grants r e → Allows e f → Grants r f
grants_less right.Write e f h k = tt
grants_less right.Read effect.Read effect.Read h k = tt
grants_less right.Read effect.Read effect.Write h k = absurd k
grants_less right.Read effect.Write f h k = absurd h
grants_less right.Make e f h k = absurd h

includes_refl : (r : Right) → Includes r r
includes_refl right.Read = tt
includes_refl right.Write = tt
includes_refl right.Make = tt

includes_grants : (r q : Right) (e : Effect) → Includes r q → Grants q e → Grants r e
includes_grants right.Write q e h k = tt
includes_grants right.Read right.Read e h k = k
includes_grants right.Read right.Write e h k = absurd h
includes_grants right.Read right.Make e h k = absurd h
includes_grants right.Make right.Make e h k = k
includes_grants right.Make right.Read e h k = absurd h
includes_grants right.Make right.Write e h k = absurd h

includes_trans : (r q p : Right) → Includes r q → Includes q p → Includes r p
includes_trans right.Write q p h k = tt
includes_trans right.Read right.Read p h k = k
includes_trans right.Read right.Write p h k = absurd h
includes_trans right.Read right.Make p h k = absurd h
includes_trans right.Make right.Make p h k = k
includes_trans right.Make right.Read p h k = absurd h
includes_trans right.Make right.Write p h k = absurd h

includes_antisym : (r q : Right) → Includes r q → Includes q r → r ≡ q
includes_antisym right.Write right.Write h k = refl
includes_antisym right.Write right.Read h k = absurd k
includes_antisym right.Write right.Make h k = absurd k
includes_antisym right.Read right.Read h k = refl
includes_antisym right.Read right.Write h k = absurd h
includes_antisym right.Read right.Make h k = absurd h
includes_antisym right.Make right.Make h k = refl
includes_antisym right.Make right.Read h k = absurd h
includes_antisym right.Make right.Write h k = absurd h

module _ (s : SchemeView) where
  pub covers_refl : (l : Lock) → Covers s l l
  covers_refl lock.All = tt
  covers_refl (lock.Path p e) = (refl, allows_refl e)
  covers_refl (lock.Class c r) = (refl, includes_refl r)

  pub covers_trans : (x y z : Lock) → Covers s x y → Covers s y z → Covers s x z
  covers_trans lock.All y z h k = tt
  covers_trans (lock.Path p e) lock.All z h k = absurd h
  covers_trans (lock.Class c r) lock.All z h k = absurd h
  covers_trans (lock.Path p e) (lock.Path q f) lock.All h k = absurd k
  covers_trans (lock.Class c r) (lock.Path q f) lock.All h k = absurd k
  covers_trans (lock.Class c r) (lock.Class d q) lock.All h k = absurd k
  covers_trans (lock.Path p e) (lock.Path q f) (lock.Path o g) h k = (h.0 ∙ k.0, allows_trans e f g h.1 k.1)
  covers_trans (lock.Path p e) (lock.Path q f) (lock.Class d r) h k = absurd k
  covers_trans (lock.Path p e) (lock.Class c r) z h k = absurd h
  covers_trans (lock.Class c r) (lock.Path q f) (lock.Path o g) h k =
      (subst (λ p. HasClass s.classes p c) k.0 h.0, grants_less r f g h.1 k.1)
  covers_trans (lock.Class c r) (lock.Path q f) (lock.Class d o) h k = absurd k
  covers_trans (lock.Class c r) (lock.Class d q) (lock.Path o g) h k =
      (subst (HasClass s.classes o) (sym h.0) k.0, includes_grants r q g h.1 k.1)
  covers_trans (lock.Class c r) (lock.Class d q) (lock.Class e o) h k = (h.0 ∙ k.0, includes_trans r q o h.1 k.1)

  pub covers_antisym : (x y : Lock) → Covers s x y → Covers s y x → x ≡ y
  covers_antisym lock.All lock.All h k = refl
  covers_antisym lock.All (lock.Path q f) h k = absurd k
  covers_antisym lock.All (lock.Class d q) h k = absurd k
  covers_antisym (lock.Path p e) lock.All h k = absurd h
  covers_antisym (lock.Class c r) lock.All h k = absurd h
  covers_antisym (lock.Path p e) (lock.Path q f) h k = ap (λ o. lock.Path o e) h.0
      ∙ ap (lock.Path q) (allows_antisym e f h.1 k.1)
  covers_antisym (lock.Path p e) (lock.Class d r) h k = absurd h
  covers_antisym (lock.Class c r) (lock.Path q f) h k = absurd k
  covers_antisym (lock.Class c r) (lock.Class d q) h k = ap (λ o. lock.Class o r) h.0
      ∙ ap (lock.Class d) (includes_antisym r q h.1 k.1)

  pub cover_order : IsCoverOrder s
  cover_order = record { itself = covers_refl; along = covers_trans; back = covers_antisym }
