-- What holds of claims before they are judged, and of the graphs of sections.
use Rattle.std.specs.Prelude.{◌≡◌, ◌<◌, ◌+◌, ℕ, List, [], Some, slice_get, slice_index_or, length}
use Rattle.sect_lemmas.specs.Lists.{Has}
use Rattle.sect_graph.specs.declared.flow.Node.{Node}
use Rattle.sect_names.specs.{declared.link.Link.{Link}, declared.lock.Lock.{Lock}, Schemes.{SchemeView}}
use Rattle.sect_names.specs.Locks.{IsLockOf}
use Rattle.sect_check.specs.{declared.claims.ChainClaim.{ChainClaim}, declared.claims.Claims.{Claims}}

-- the numbers of the chains rise
abbrev pub DoRise : List ChainClaim → Type 0
DoRise chains =
    (i j : ℕ) (x y : ChainClaim) → i < j → slice_get chains i ≡ Some x → slice_get chains j ≡ Some y → x.lock < y.lock

-- a chain has this number
abbrev pub HasNumber : List ChainClaim → ℕ → Type 0
HasNumber chains n = (x : ChainClaim) × Has chains x × (x.lock ≡ n)

-- each number below this one is a chain's
abbrev pub HaveNumbersBelow : List ChainClaim → ℕ → Type 0
HaveNumbersBelow chains n = (m : ℕ) → m < n → HasNumber chains m

-- the claims on a section with this graph have a list for each node, the exit counted, and chains whose numbers rise
pub record HaveShape (g : List Node) (c : Claims) : Type 0 where
  pub count : length c.nodes ≡ length g + 1
  pub rise : DoRise c.chains

-- the locks of the lists are ones that sections of the thread may take
abbrev pub AreLawfulLists : SchemeView → ℕ → Claims → Type 0
AreLawfulLists s t c = (j : ℕ) (l : Lock) → Has (slice_index_or c.nodes j []) l → IsLockOf s t l

-- so are the locks of links
abbrev pub AreLawfulLinks : SchemeView → ℕ → List Link → Type 0
AreLawfulLinks s t links = (a : Link) → Has links a → IsLockOf s t a.lock

-- and those of the chains
abbrev pub AreLawfulChains : SchemeView → ℕ → List ChainClaim → Type 0
AreLawfulChains s t chains = (x : ChainClaim) → Has chains x → AreLawfulLinks s t x.links
