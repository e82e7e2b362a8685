-- Fuel that is paid and given back, and what a statement adds. Private methods of `Work` cite it.
use Rattle.std.specs.Prelude.{◌≡◌, ◌<◌, ◌^◌, ℕ, suc, ◌+◌, ◌++◌, ◌∷◌, [], Bool, true, false, ℤ}
use Rattle.sect_types.specs.Meaning.{WorkView}

-- a unit of fuel is paid, where one is left
abbrev pub Pays : WorkView → WorkView → Bool → Type 0
Pays w v true = (n : ℕ) × (w.fuel ≡ suc n) × (v ≡ record w { fuel = n }) × (v.made + v.fuel + 1 < 2 ^ 32)
Pays w v false = (w.fuel ≡ 0) × (v ≡ w)

-- a unit of fuel is given back
abbrev pub given_back : WorkView → WorkView
given_back w = record w { fuel = suc w.fuel }

-- one object more has been made
abbrev pub counted : WorkView → WorkView
counted w = record w { made = w.made + 1 }

-- the section has printed this number too
abbrev pub with_print : ℤ → WorkView → WorkView
with_print n w = record w { printed = w.printed ++ n ∷ [] }
