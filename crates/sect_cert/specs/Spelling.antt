-- The words that spell locks, lists of them, and chains. Cited by `read_cert` and `write_cert`, through a text.
use Rattle.std.specs.{Prelude.{List, [], ◌∷◌, ◌++◌, codes, ℕ}, Fmt.{decimal}}
use Rattle.sect_cert.specs.{Paths.{path_text}, declared.lock.CertLock.{CertLock}}
use Rattle.sect_cert.specs.declared.certificate.CertStep.{CertStep}
use Rattle.sect_cert.specs.declared.lock.CertLock.TheVariants as lock

-- words, each behind a blank
abbrev pub spaced : List (List ℕ) → List ℕ
spaced [] = []
spaced (w ∷ ws) = 32 ∷ (w ++ spaced ws)

-- the words of a lock with what ends the last of them, before the words that follow
abbrev pub lock_words : CertLock → List ℕ → List (List ℕ) → List (List ℕ)
lock_words lock.WriteAll end ws = codes "W" ∷ (codes "all" ++ end) ∷ ws
lock_words (lock.ReadPath p) end ws = codes "R" ∷ (path_text p ++ end) ∷ ws
lock_words (lock.WritePath p) end ws = codes "W" ∷ (path_text p ++ end) ∷ ws
lock_words (lock.ReadClass c) end ws = codes "R" ∷ codes "class" ∷ (decimal c ++ end) ∷ ws
lock_words (lock.WriteClass c) end ws = codes "W" ∷ codes "class" ∷ (decimal c ++ end) ∷ ws
lock_words (lock.MakeClass c) end ws = codes "M" ∷ codes "class" ∷ (decimal c ++ end) ∷ ws

-- the words of locks of which the first is given, a comma behind each but the last
abbrev pub some_words : CertLock → List CertLock → List (List ℕ)
some_words l [] = lock_words l [] []
some_words l (k ∷ ls) = lock_words l (codes ",") (some_words k ls)

-- the words of a list of locks
abbrev pub list_words : List CertLock → List (List ℕ)
list_words [] = codes "none" ∷ []
list_words (l ∷ ls) = some_words l ls

-- the words of a step, before the words that follow
abbrev pub step_words : CertStep → List (List ℕ) → List (List ℕ)
step_words s ws = decimal s.node ∷ lock_words s.lock [] ws

-- the words of steps of which the first is given
abbrev pub steps_words : CertStep → List CertStep → List (List ℕ)
steps_words s [] = step_words s []
steps_words s (t ∷ ss) = step_words s (codes ">" ∷ steps_words t ss)

abbrev pub chain_words : List CertStep → List (List ℕ)
chain_words [] = []
chain_words (s ∷ ss) = steps_words s ss
