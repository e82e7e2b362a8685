-- Numberings that are extended.
use Rattle.std.proofs.Common.{◌≡◌, ℕ, List, [], ◌++◌, Some, length, sym, ap, ◌∙◌, subst}
use Rattle.std.proofs.{Common.{append_assoc, length-append, arith}, lemmas.List.{append-nil}}
use Rattle.std.specs.Prelude.{slice_get}
use Rattle.sect_lemmas.proofs.Elements.{slice_get-left, get_front}
use Rattle.sect_names.specs.declared.lock.Lock.{Lock}
use Rattle.sect_infer.specs.Numberings.{NumberingView, HasLock, AreNumbers, Extends}

-- a numbering goes on from itself
pub extends_none : (t : NumberingView) → Extends t t
extends_none t = ([], sym (append-nil t.keys))

-- one extension after another
pub extends_then : (a b c : NumberingView) → Extends a b → Extends b c → Extends a c
extends_then a b c h k = (h.0 ++ k.0, k.1 ∙ ap (λ l. l ++ k.0) h.1 ∙ append_assoc a.keys h.0 k.0)

-- a numbering that is extended keeps its locks and their numbers
pub extends_at : (old new : NumberingView) → Extends old new → (n : ℕ) (l : Lock) → slice_get old.keys n ≡ Some l
    → slice_get new.keys n ≡ Some l
extends_at old new e n l at = subst (λ ks. slice_get ks n ≡ Some l) (sym e.1) (slice_get-left old.keys e.0 n l at)

-- the numbers that there were keep their locks
pub extends_back : (old new : NumberingView) → Extends old new → (ns : List ℕ) → AreNumbers old.keys ns → (l : Lock)
    → HasLock new.keys ns l → HasLock old.keys ns l
extends_back old new e ns there l h =
    (h.0, h.1, get_front old.keys e.0 h.0 l (there h.0 h.1) (subst (λ ks. slice_get ks h.0 ≡ Some l) e.1 h.2))

pub extends_numbers : (old new : NumberingView) → Extends old new → (ns : List ℕ) → AreNumbers old.keys ns
    → AreNumbers new.keys ns
extends_numbers old new e ns there n h = let w = there n h in
    omega (arith, w, ap length e.1, length-append old.keys e.0)
