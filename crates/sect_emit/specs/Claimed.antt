-- What the certificate of a compiled program claims of a section, by the program's numbers.
use Rattle.std.specs.Prelude.{ℕ, ◌+◌, List, [], ◌∷◌}
use Rattle.sect_names.specs.declared.link.Link.{Link}
use Rattle.sect_infer.specs.Sets.{LocksView}
use Rattle.sect_check.specs.{declared.claims.Claims.{Claims}, declared.claims.ChainClaim.{ChainClaim}}

-- the chains, by number from this one
abbrev pub chain_claims : ℕ → List (List Link) → List ChainClaim
chain_claims n [] = []
chain_claims n (c ∷ cs) = record { lock = n; links = c } ∷ chain_claims (n + 1) cs

-- the locks of a section at its nodes and at its entry, with these chains
abbrev pub claims_of : LocksView → List (List Link) → Claims
claims_of locks chains = record { nodes = locks.at; entry = locks.entry; chains = chain_claims 0 chains }
