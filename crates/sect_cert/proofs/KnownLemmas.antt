-- Paths that were read, by their words.
use Rattle.std.proofs.Common.{◌≡◌, ℕ, Bool, true, false, cond, if◌then◌else◌, List, [], ◌∷◌, Some, ap, ◌∙◌, refl}
use Rattle.std.specs.{Global.{Vec}, Map.{lookup}}
use Rattle.indexmap.specs.IndexMap.{insert_entry}
use Rattle.sect_cert.specs.declared.lock.CertPath.{CertPath}
use Rattle.sect_cert.specs.steps.{Subjects.{path_of}, Known.{AreRead}}

-- one path more, under the word that it is read from
pub read_more : (eq : Vec ℕ → Vec ℕ → Bool) → ((v w : Vec ℕ) → eq v w ≡ true → w.items ≡ v.items)
    → (es : List (Vec ℕ × CertPath)) (w : Vec ℕ) (p : CertPath) → AreRead es → path_of w.items ≡ Some p
    → AreRead (insert_entry eq es w p)
read_more eq same [] w p h is = (is, tt)
read_more eq same (e ∷ es) w p h is = go (eq w e.0) refl (read_more eq same es w p h.1 is)
  where
    go : (b : Bool) → eq w e.0 ≡ b → AreRead (insert_entry eq es w p)
        → AreRead (if b then (e.0, p) ∷ es else e ∷ insert_entry eq es w p)
    go true one more = (ap path_of (same w e.0 one) ∙ is, h.1)
    go false one more = (h.0, more)

-- a path that is found is read from the word that is sought
pub read_there : (test : Vec ℕ → Bool) (word : List ℕ) → ((w : Vec ℕ) → test w ≡ true → word ≡ w.items)
    → (es : List (Vec ℕ × CertPath)) (p : CertPath) → AreRead es → lookup test es ≡ Some p → path_of word ≡ Some p
read_there test word same [] p h there = cc
read_there test word same (e ∷ es) p h there = go (test e.0) refl there (read_there test word same es p h.1)
  where
    go : (b : Bool) → test e.0 ≡ b → cond b (Some e.1) (lookup test es) ≡ Some p
        → (lookup test es ≡ Some p → path_of word ≡ Some p) → path_of word ≡ Some p
    go true one found later = ap path_of (same e.0 one) ∙ h.0 ∙ found
    go false one found later = later found
