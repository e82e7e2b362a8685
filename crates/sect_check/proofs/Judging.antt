-- What the sections' verdicts say of the certificate.
use Rattle.std.proofs.Common.{◌≡◌, ℕ, ◌+◌, ◌<◌, ◌≤◌, List, [], ◌∷◌, ◌++◌, Some, Result, Ok, Err, IsErrAnd, length, refl}
use Rattle.std.proofs.{Common.{sym, ap, ◌∙◌, subst, arith, inl, inr, length-append}, lemmas.Bool.{cases_lt}}
use Rattle.std.proofs.lemmas.Option.{slice_get_within}
use Rattle.std.specs.Prelude.{slice_get}
use Rattle.sect_types.specs.Sections.{SectionView, sections_of}
use Rattle.sect_graph.specs.declared.flow.Node.{Node}
use Rattle.sect_names.specs.{Schemes.{SchemeView}, Needed.{end_of}}
use Rattle.sect_cert.specs.{declared.certificate.CertSection.{CertSection}, declared.certificate.Cert.{Cert}}
use Rattle.sect_check.specs.{declared.claims.Claims.{Claims}, declared.unresolved.Unresolved.{Unresolved}}
use Rattle.sect_check.specs.declared.unresolved.Unresolved.TheVariants.{Memory, Wrong}
use Rattle.sect_check.specs.{declared.fault.SectionFault.{SectionFault}, declared.fault.CheckFault.{CheckFault}}
use Rattle.sect_check.specs.Meaning.{IsSectionAt, DenotesSection, DenotesAll}
use Rattle.sect_check.specs.{Valid.{IsValidSection, IsValidAt, IsValid}, Faults.{IsFaultAt}, Verdicts.{of_section}}
use Rattle.sect_check.specs.steps.{Resolving.{Resolves, DenotesAt}, Parts.{IsFaultHere, JudgesAt, JudgesCert}}
use Rattle.sect_lemmas.proofs.Places.{at_of, one_at, pushed_at}
use Rattle.sect_check.specs.declared.fault.SectionFault.TheVariants as section
use Rattle.sect_check.specs.declared.fault.CheckFault.TheVariants as fault

module _ (s : SchemeView) (i : ℕ) (of other : SectionView) (g h : List Node) (a : IsSectionAt s i of g)
    (b : IsSectionAt s i other h) (P : SectionView → List Node → Type 0) where
  -- what holds of the section of a number holds whatever it is called
  pub section_is : P of g → P other h
  section_is p = subst (P other) (one_at s.graphs.sections i g h a.1 b.1)
      (subst (λ (z : SectionView). P z g) (one_at (sections_of s.program.texts) i of other a.0 b.0) p)

-- the same sought under another name
resolves_as : {A : Type 0} (r : Result A Unresolved) (R S : A → Type 0) → ((x : A) → R x → S x) → ((x : A) → S x → R x)
    → Resolves r R → Resolves r S
resolves_as (Ok x) R S to from h = to x h
resolves_as (Err Wrong) R S to from h = λ y k. h y (from y k)
resolves_as (Err Memory) R S to from h = tt

-- what is sought of a section is sought of its number
pub denotes_at : (s : SchemeView) (sections : List CertSection) (i : ℕ) (of : SectionView) (g : List Node)
    (x : CertSection) → IsSectionAt s i of g → slice_get sections i ≡ Some x
    → (r : Result Claims Unresolved) → Resolves r (DenotesSection s of.thread g x) → Resolves r (DenotesAt s sections i)
denotes_at s sections i of g x at at_x r = resolves_as r (DenotesSection s of.thread g x) (DenotesAt s sections i)
    (λ c said other h y there at_y. section_is s i of other g h at there (λ z k. DenotesSection s z.thread k y c)
    (subst (λ k. DenotesSection s of.thread g k c) (one_at sections i x y at_x at_y) said))
    (λ c said. said of g x at at_x)

-- the claims so far are the first sections'
pub record AreFirst (s : SchemeView) (sections : List CertSection) (n : ℕ) (all : List Claims) : Type 0 where
  pub count : length all ≡ n
  pub each : (i : ℕ) (c : Claims) → slice_get all i ≡ Some c → DenotesAt s sections i c

-- one section more
pub first_more : (s : SchemeView) (sections : List CertSection) (n : ℕ) (all : List Claims) (c : Claims)
    → AreFirst s sections n all → DenotesAt s sections n c → AreFirst s sections (n + 1) (all ++ c ∷ [])
first_more s sections n all c before here = record {
  count = length-append all (c ∷ []) ∙ ap (λ k. k + 1) before.count;
  each = λ i d at. elim (pushed_at all c d i at) [
    | inl a ↦ (let e : n ≡ i = sym (a.0 ∙ before.count) in
        subst (λ k. DenotesAt s sections k d) e (subst (DenotesAt s sections n) a.1 here))
    | inr b ↦ before.each i d b
  ];
}

-- all sections are the certificate's
pub denotes_all : (s : SchemeView) (a : Cert) (all : List Claims) (n : ℕ) → a.k ≡ s.most
    → length a.sections ≡ length (sections_of s.program.texts) → n ≡ length a.sections → AreFirst s a.sections n all
    → DenotesAll s a all
denotes_all s a all n k sections is first = record {
  k = k;
  sections = sections;
  count = first.count ∙ is;
  each = λ i of g x c at at_x at_c. first.each i c at_c of g x at at_x;
}

-- where a section of the certificate denotes nothing, the certificate doesn't
pub none_denoted : (s : SchemeView) (a : Cert) (n : ℕ) → n < length a.sections
    → ((c : Claims) → DenotesAt s a.sections n c → ⊥) → (all : List Claims) → DenotesAll s a all → ⊥
none_denoted s a n within bad all h =
    let c = at_of all n (omega (arith, within, h.count)) in
    bad c.0 (λ of g x at at_x. h.each n of g x c.0 at at_x c.1)

-- the fault of a section with its number
pub judged_err : (A : Type 0) (s : SchemeView) (i : ℕ) (c : Claims) (f : SectionFault) → IsFaultHere s i c f
    → JudgesAt {A = A} s i c (Err (of_section i f))
judged_err A s i c section.Memory h = tt
judged_err A s i c (section.NotGenerated j) h = (refl, h)
judged_err A s i c (section.NotCarried j k) h = (refl, h)
judged_err A s i c section.EntryNotCovered h = (refl, h)
judged_err A s i c section.NotMaximal h = (refl, h)
judged_err A s i c (section.NoChain n) h = (refl, h)
judged_err A s i c (section.BrokenChain n k) h = (refl, h)

-- what is right of a section is right of its number
pub judged_ok : {A : Type 0} (s : SchemeView) (i : ℕ) (of : SectionView) (g : List Node) (c : Claims) (x : A)
    → IsSectionAt s i of g → IsValidSection s of.thread (end_of s i) g c → JudgesAt s i c (Ok x)
judged_ok s i of g c x at v = λ other h there. section_is s i of other g h at there
    (λ z k. IsValidSection s z.thread (end_of s i) k c) v

module _ (s : SchemeView) (a : Cert) (all : List Claims) (denoted : DenotesAll s a all) (n : ℕ) (c : Claims)
    (at : slice_get all n ≡ Some c) (before : (j : ℕ) → j < n → IsValidAt s all j) where
  -- the first fault of this section is the first of all
  fault_at : (f : SectionFault) (j : ℕ) → j ≡ n → IsFaultHere s n c f → IsFaultAt s a j f
  fault_at f j e h = subst (λ k. IsFaultAt s a k f) (sym e) (record {
    claims = all;
    denoted = denoted;
    before = before;
    of = h.0;
    g = h.1;
    c = c;
    section = h.2;
    claimed = at;
    here = h.3;
  })

  -- so it is the certificate's
  cert_err : (A B : Type 0) (f : CheckFault) → JudgesAt {A = A} s n c (Err f) → JudgesCert {A = B} s a (Err f)
  cert_err A B fault.Memory h = tt
  cert_err A B (fault.Source x) h = absurd h
  cert_err A B (fault.Text x) h = absurd h
  cert_err A B fault.WrongProgram h = absurd h
  cert_err A B (fault.NotGenerated k j) h = fault_at (section.NotGenerated j) k h.0 h.1
  cert_err A B (fault.NotCarried k i j) h = fault_at (section.NotCarried i j) k h.0 h.1
  cert_err A B (fault.EntryNotCovered k) h = fault_at section.EntryNotCovered k h.0 h.1
  cert_err A B (fault.NotMaximal k) h = fault_at section.NotMaximal k h.0 h.1
  cert_err A B (fault.NoChain k l) h = fault_at (section.NoChain l) k h.0 h.1
  cert_err A B (fault.BrokenChain k l i) h = fault_at (section.BrokenChain l i) k h.0 h.1

  -- the answer that passes the fault on
  pub passes_on : (A : Type 0) {B : Type 0} (r : Result B CheckFault) (f : CheckFault) → IsErrAnd r (λ x. x ≡ f)
      → JudgesAt {A = A} s n c (Err f) → JudgesCert s a r
  passes_on A (Ok x) f is h = absurd is
  passes_on A {B} (Err x) f is h = subst (λ z. JudgesCert {A = B} s a (Err z)) (sym is) (cert_err A B f h)

  -- one section more is right
  pub valid_more : {A : Type 0} (x : A) → JudgesAt s n c (Ok x) → (j : ℕ) → j < n + 1 → IsValidAt s all j
  valid_more x h j lt = elim (cases_lt j n) [
    | inl k ↦ before j k
    | inr k ↦ (let e : n ≡ j = omega (arith, lt, k) in
        subst (IsValidAt s all) e (λ of g d at_section at_d. subst (IsValidSection s of.thread (end_of s n) g)
        (one_at all n c d at at_d) (h of g at_section)))
  ]

-- where each section is right, the certificate is valid
pub all_valid : (s : SchemeView) (a : Cert) (all : List Claims) → DenotesAll s a all → (n : ℕ)
    → length (sections_of s.program.texts) ≤ n → ((j : ℕ) → j < n → IsValidAt s all j) → IsValid s a
all_valid s a all denoted n past valid = record {
  claims = all;
  denoted = denoted;
  each = λ i of g c at at_c. valid i (let w = slice_get_within (sections_of s.program.texts) i of at.0 in
      omega (arith, w, past)) of g c at at_c;
}
