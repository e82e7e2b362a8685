-- Pairs of sections, and pairs of paths that are printed one behind the other.
use Rattle.std.proofs.Common.{◌≡◌, ℕ, ◌<◌, List, ◌∷◌, length, get_or, refl, sym, subst, inl, inr}
use Rattle.std.proofs.lemmas.Option.{slice_get_within}
use Rattle.sect_lemmas.specs.Lists.{Has}
use Rattle.sect_lemmas.proofs.Membership.{Has-get_or}
use Rattle.sect_types.specs.{Programs.{ProgramView}, Sections.{sections_of}}
use Rattle.sect_emit.specs.Compiled.{CompiledView, program_of}
use Rattle.sect_conflicts.specs.{declared.conflict.PathPair.{PathPair}, Naming.{IsPairNamed, ArePairsNamed}}
use Rattle.sect_conflicts.specs.{declared.conflict.SectionPair.{SectionPair}, Comparing.{AreCompared, AreConflicts}}

-- of pairs that have names the first and each other has one
pub first_named : (p : ProgramView) (first : PathPair) (pairs others : List PathPair) → pairs ≡ first ∷ others
    → ArePairsNamed p pairs → IsPairNamed p first
first_named p first pairs others are named = named first (subst (λ ps. Has ps first) (sym are) (inl refl))

pub other_named : (p : ProgramView) (first : PathPair) (pairs others : List PathPair) → pairs ≡ first ∷ others
    → ArePairsNamed p pairs → (i : ℕ) (x : PathPair) → i < length others → x ≡ get_or others i x → IsPairNamed p x
other_named p first pairs others are named i x lt is =
    let at : Has others x = subst (Has others) (sym is) (Has-get_or others i x lt) in
    named x (subst (λ ps. Has ps x) (sym are) (inr at))

module _ (c : CompiledView) (pairs : List SectionPair) (x : SectionPair) (told : AreConflicts c pairs)
    (among : Has pairs x) where
  compared : AreCompared c x.first x.second
  compared = (told.each x among).0

  -- both sections of a pair that is told are there
  pub first_within : x.first < length (sections_of (program_of c).texts)
  first_within = slice_get_within (sections_of (program_of c).texts) x.first compared.one compared.first

  pub second_within : x.second < length (sections_of (program_of c).texts)
  second_within = slice_get_within (sections_of (program_of c).texts) x.second compared.other compared.second
