-- The links of a claimed chain by their nodes and their locks.
use Rattle.std.specs.Prelude.{ℕ, List, [], ◌∷◌}
use Rattle.sect_names.specs.{declared.link.Link.{Link}, declared.lock.Lock.{Lock}, Chains.{link}}

-- the links at these nodes with these locks
abbrev pub linked : List ℕ → List Lock → List Link
linked [] ls = []
linked (n ∷ ns) [] = []
linked (n ∷ ns) (l ∷ ls) = link n l ∷ linked ns ls
