-- The locks that are kept are the maximal ones.
use Rattle.std.proofs.Common.{◌≡◌, ◌⊎◌, List, refl, subst, sym}
use Rattle.sect_lemmas.specs.Lists.{Has}
use Rattle.sect_names.specs.{declared.lock.Lock.{Lock}, Schemes.{SchemeView}, Locks.{IsOutdone}}
use Rattle.sect_names.specs.Order.{AreInOrder, AreMaximal}
use Rattle.sect_lemmas.proofs.Making.{Makes}
use Rattle.sect_names.proofs.shared.Maximals.{covered}

pub are_maximal : (s : SchemeView) (given kept : List Lock)
    → ((x : Lock) → Has given x → Has kept x ⊎ IsOutdone s (Has given) x)
    → Makes (λ (x y : Lock). (y ≡ x) × (IsOutdone s (Has given) x → ⊥)) given kept → AreInOrder kept
    → AreMaximal s (Has given) kept
are_maximal s given kept told made order = record {
  kept_are = λ l. (
    λ h. (let m = (made l).0 h in (
      subst (Has given) (sym m.2.0) m.1,
      λ out. m.2.1 (subst (IsOutdone s (Has given)) m.2.0 out),
    )),
    λ h. (made l).1 (l, h.0, (refl, h.1)),
  );
  covering = λ l h. covered s (Has given) (Has kept) told l h;
  in_order = order;
}
