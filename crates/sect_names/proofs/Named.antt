-- What locks name is there.
use Rattle.std.proofs.Common.{◌≡◌, ℕ, ◌<◌, inr, List, ◌∷◌, length, get_or, sym, subst}
use Rattle.sect_lemmas.specs.Lists.{Has}
use Rattle.sect_types.specs.Programs.{ProgramView}
use Rattle.sect_lemmas.proofs.Membership.{Has-get_or}
use Rattle.sect_names.specs.{declared.lock.Lock.{Lock}, Printing.{IsNamed, AreNamed}}

-- each lock of a list behind its first
pub other_there : (p : ProgramView) (first : Lock) (locks others : List Lock) → locks ≡ first ∷ others
    → AreNamed p locks → (i : ℕ) (x : Lock) → i < length others → x ≡ get_or others i x → IsNamed p x
other_there p first locks others are named i x lt is =
    let at : Has others x = subst (Has others) (sym is) (Has-get_or others i x lt) in
    named x (subst (λ (ls : List Lock). Has ls x) (sym are) (inr at))
