-- Statements one after another.
use Rattle.std.proofs.Common.{◌≡◌, Bool, refl, ap}
use Rattle.sect_types.specs.{Environments.{Environment}, Statements.{TextView, Stop, Do, Choose, Loop, Section, joined}}
use Rattle.sect_types.specs.Sound.{IsSound}

-- nothing comes behind them
pub joined_stop : (k : TextView) → joined k Stop ≡ k
joined_stop Stop = refl
joined_stop (Do a r) = ap (Do a) (joined_stop r)
joined_stop (Choose t p q r) = ap (Choose t p q) (joined_stop r)
joined_stop (Loop t p r) = ap (Loop t p) (joined_stop r)
joined_stop (Section i p r) = ap (Section i p) (joined_stop r)

-- three texts
pub joined_again : (k l m : TextView) → joined (joined k l) m ≡ joined k (joined l m)
joined_again Stop l m = refl
joined_again (Do a r) l m = ap (Do a) (joined_again r l m)
joined_again (Choose t p q r) l m = ap (Choose t p q) (joined_again r l m)
joined_again (Loop t p r) l m = ap (Loop t p) (joined_again r l m)
joined_again (Section i p r) l m = ap (Section i p) (joined_again r l m)

-- sound texts are sound together
pub sound_joined : (e : Environment) (b : Bool) (k l : TextView) → IsSound e b k → IsSound e b l
    → IsSound e b (joined k l)
sound_joined e b Stop l h m = m
sound_joined e b (Do a k) l h m = (h.0, h.1, sound_joined e b k l h.2 m)
sound_joined e b (Choose c p q k) l h m = (h.0, h.1, h.2, sound_joined e b k l h.3 m)
sound_joined e b (Loop c p k) l h m = (h.0, h.1, sound_joined e b k l h.2 m)
sound_joined e b (Section i p k) l h m = (h.0, h.1, sound_joined e b k l h.2 m)
