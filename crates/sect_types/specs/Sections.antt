-- The numbers of sections and sites.
use Rattle.std.specs.Prelude.{◌≡◌, ℕ, ◌+◌, ⊤, List, [], ◌∷◌, ◌++◌, map, length, Option, Some, None}
use Rattle.sect_types.specs.Statements.{TextView, Stop, Do, Choose, Loop, Section, section_bodies, section_body}
use Rattle.sect_types.specs.{Statements.{made_by, made_in}, declared.expansion.action.Action.{Action}}
use Rattle.sect_types.specs.declared.counting.section.Section.{Section as SectionOfCode}
use Rattle.sect_types.specs.declared.expansion.action.Action.TheVariants as action

-- a section: the number of its thread, and its body
pub record SectionView : Type 0 where
  pub thread : ℕ
  pub body : TextView

-- the sections of these texts in text order, where the first text is that of thread t
abbrev pub sections_from : ℕ → List TextView → List SectionView
sections_from t [] = []
sections_from t (p ∷ ps) = map (λ (b : TextView). record { thread = t; body = b }) (section_bodies p)
    ++ sections_from (t + 1) ps

-- the sections of a program with these texts, by number
abbrev pub sections_of : List TextView → List SectionView
sections_of texts = sections_from 0 texts

-- the sections of a text have the numbers from n on, in text order
abbrev pub AreNumbered : ℕ → TextView → Type 0
AreNumbered n Stop = ⊤
AreNumbered n (Do a k) = AreNumbered n k
AreNumbered n (Choose t p q k) =
    AreNumbered n p × AreNumbered (n + length (section_bodies p)) q
    × AreNumbered (n + length (section_bodies p) + length (section_bodies q)) k
AreNumbered n (Loop t p k) = AreNumbered n p × AreNumbered (n + length (section_bodies p)) k
AreNumbered n (Section i p k) = (i ≡ n) × AreNumbered (n + 1) k

-- the action, if it is a `new`, has this site
abbrev pub IsSite : ℕ → Action → Type 0
IsSite n (action.Assign x v) = ⊤
IsSite n (action.Compute x v o w) = ⊤
IsSite n (action.New x r site) = site ≡ n
IsSite n (action.Load x b f) = ⊤
IsSite n (action.Store b f v) = ⊤
IsSite n (action.Print v) = ⊤

-- the `new` statements of a text have the sites from n on, in text order
abbrev pub AreSited : ℕ → TextView → Type 0
AreSited n Stop = ⊤
AreSited n (Do a k) = IsSite n a × AreSited (n + length (made_by a)) k
AreSited n (Choose t p q k) = AreSited n p × AreSited (n + length (made_in p)) q
    × AreSited (n + length (made_in p) + length (made_in q)) k
AreSited n (Loop t p k) = AreSited n p × AreSited (n + length (made_in p)) k
AreSited n (Section i p k) = AreSited n p × AreSited (n + length (made_in p)) k

abbrev pub AllSited : ℕ → List TextView → Type 0
AllSited n [] = ⊤
AllSited n (p ∷ ps) = AreSited n p × AllSited (n + length (made_in p)) ps

abbrev pub AllNumbered : ℕ → List TextView → Type 0
AllNumbered n [] = ⊤
AllNumbered n (p ∷ ps) = AreNumbered n p × AllNumbered (n + length (section_bodies p)) ps

abbrev pub found_in : ℕ → Option TextView → Option SectionView → Option SectionView
found_in t (Some b) other = Some (record { thread = t; body = b })
found_in t None other = other

-- the section whose statement has the number n, where the first text is that of thread t
abbrev pub section_from : ℕ → ℕ → List TextView → Option SectionView
section_from n t [] = None
section_from n t (p ∷ ps) = found_in t (section_body n p) (section_from n (t + 1) ps)

-- a section of the code
abbrev pub section_shown : SectionOfCode → SectionView
section_shown s = record { thread = s.thread; body = s.body.now }
