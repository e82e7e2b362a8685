-- The texts and the sections of a sound program are sound.
use Rattle.std.proofs.Common.{◌≡◌, ℕ, zero, suc, List, [], ◌∷◌, get_or, subst, false, Some}
use Rattle.std.specs.Prelude.{slice_get}
use Rattle.sect_types.specs.{Statements.{TextView}, Sound.{IsSound, AreSound}}
use Rattle.sect_types.specs.declared.declarations.types.ValueType.{ValueType}
use Rattle.sect_types.proofs.shared.SectionSound.{with_locals}

pub text_sound : (records : List (List ValueType)) (globals : List ℕ) (locals : List (List ValueType))
    (texts : List TextView) (t : ℕ) (p : TextView)
    → AreSound records globals locals texts → slice_get texts t ≡ Some p
    → IsSound (with_locals records globals (get_or locals t [])) false p
text_sound records globals locals [] t p sound at = absurd cc
text_sound records globals [] (q ∷ texts) t p sound at = absurd sound
text_sound records globals (ls ∷ locals) (q ∷ texts) zero p sound at =
    let same : q ≡ p = cc in
    subst (λ (x : TextView). IsSound (with_locals records globals ls) false x) same sound.0
text_sound records globals (ls ∷ locals) (q ∷ texts) (suc t) p sound at =
    text_sound records globals locals texts t p sound.1 at
