-- The words of a certificate stand for one thing, and a valid certificate has no fault.
use Rattle.std.proofs.Common.{◌≡◌, ◌≢◌, ℕ, List, [], ◌∷◌, Some, Result, Ok, Err, refl, sym, ap, ◌∙◌, subst}
use Rattle.std.proofs.{Common.{arith}, lemmas.Option.{slice_get_within}}
use Rattle.std.specs.{Prelude.{slice_get, IsOkUnless}, List.{AllZip}}
use Rattle.sect_types.specs.Sections.{sections_of}
use Rattle.sect_graph.specs.declared.flow.Node.{Node}
use Rattle.sect_names.specs.{declared.lock.Lock.{Lock}, declared.link.Link.{Link}, Schemes.{SchemeView, IsScheme}}
use Rattle.sect_names.specs.{Needed.{end_of}, Chains.{link}}
use Rattle.sect_cert.specs.{declared.lock.CertLock.{CertLock}, declared.certificate.CertStep.{CertStep}}
use Rattle.sect_cert.specs.{declared.certificate.CertChain.{CertChain}, declared.certificate.CertSection.{CertSection}}
use Rattle.sect_cert.specs.{declared.certificate.Cert.{Cert}, Texts.{HasText}}
use Rattle.sect_check.specs.{declared.claims.Claims.{Claims}, declared.claims.ChainClaim.{ChainClaim}}
use Rattle.sect_check.specs.{declared.fault.SectionFault.{SectionFault}, declared.fault.CheckFault.{CheckFault}}
use Rattle.sect_check.specs.{Names.{Denotes}, Meaning.{DenotesStep, DenotesChain, DenotesSection, DenotesAll}}
use Rattle.sect_check.specs.{Valid.{IsValid}, Faults.{IsFaultAt}}
use Rattle.sect_check.specs.steps.Parts.{JudgesCert}
use Rattle.sect_lemmas.proofs.{Places.{at_of}, Elements.{same_by_place}}
use Rattle.sect_check.proofs.{Numbering.{all_shaped}, Excluding.{no_fault}}
use Rattle.sect_check.specs.declared.fault.SectionFault.TheVariants as section
use Rattle.sect_check.specs.declared.fault.CheckFault.TheVariants as fault

-- a relation that has one value at most has one list at most
zip_one : {A B : Type 0} (R : A → B → Type 0) → ((x : A) (y z : B) → R x y → R x z → y ≡ z)
    → (xs : List A) (ys zs : List B) → AllZip R xs ys → AllZip R xs zs → ys ≡ zs
zip_one R one [] [] [] a b = refl
zip_one R one [] [] (z ∷ zs) a b = absurd b
zip_one R one [] (y ∷ ys) zs a b = absurd a
zip_one R one (x ∷ xs) [] zs a b = absurd a
zip_one R one (x ∷ xs) (y ∷ ys) [] a b = absurd b
zip_one R one (x ∷ xs) (y ∷ ys) (z ∷ zs) a b = ap (λ w. w ∷ ys) (one x y z a.0 b.0)
    ∙ ap (λ l. z ∷ l) (zip_one R one xs ys zs a.1 b.1)

module _ (s : SchemeView) (t : ℕ) where
  -- words stand for one lock
  one_lock : (l : CertLock) (x y : Lock) → Denotes s t l x → Denotes s t l y → x ≡ y
  one_lock l x y a b = let p = a.0 in let q = b.0 in cc

  -- a step stands for one step
  one_step : (p : CertStep) (x y : Link) → DenotesStep s t p x → DenotesStep s t p y → x ≡ y
  one_step p x y a b = ap (λ n. link n x.lock) (sym a.0 ∙ b.0)
      ∙ ap (link y.node) (one_lock p.lock x.lock y.lock a.1 b.1)

  -- a claimed chain by its parts
  claim : ℕ → List Link → ChainClaim
  claim n links = record { lock = n; links = links }

  -- a chain stands for one chain
  one_chain : (p : CertChain) (x y : ChainClaim) → DenotesChain s t p x → DenotesChain s t p y → x ≡ y
  unfolding claim
  one_chain p x y a b = ap (λ n. claim n x.links) (sym a.0 ∙ b.0)
      ∙ ap (claim y.lock) (zip_one (DenotesStep s t) one_step p.steps x.links y.links a.1 b.1)

  -- claims by their parts
  claims : List (List Lock) → List Lock → List ChainClaim → Claims
  claims nodes entry chains = record { nodes = nodes; entry = entry; chains = chains }

  -- what is said of a section is one thing
  one_section : (g : List Node) (p : CertSection) (x y : Claims) → DenotesSection s t g p x → DenotesSection s t g p y
      → x ≡ y
  unfolding claims
  one_section g p x y a b =
      ap (λ n. claims n x.entry x.chains)
      (zip_one (AllZip (Denotes s t)) (zip_one (Denotes s t) one_lock) p.nodes x.nodes y.nodes a.nodes b.nodes)
      ∙ ap (λ e. claims y.nodes e x.chains) (zip_one (Denotes s t) one_lock p.entry x.entry y.entry a.entry b.entry)
      ∙ ap (claims y.nodes y.entry) (zip_one (DenotesChain s t) one_chain p.chains x.chains y.chains a.chains b.chains)

-- what a certificate says of a program is one thing
one_meaning : (s : SchemeView) → IsScheme s → (a : Cert) (x y : List Claims) → DenotesAll s a x → DenotesAll s a y
    → x ≡ y
one_meaning s scheme a x y p q = same_by_place x y (p.count ∙ sym q.count) (λ i c d at_c at_d.
    let w = slice_get_within x i c at_c in
    let part = at_of a.sections i (omega (arith, w, p.count)) in
    let of = at_of (sections_of s.program.texts) i (omega (arith, w, p.count, p.sections)) in
    let g = at_of s.graphs.sections i (omega (arith, w, p.count, p.sections, scheme.graphed.section_count)) in
    one_section s of.0.thread g.0 part.0 c d (p.each i of.0 g.0 part.0 c (of.1, g.1) part.1 at_c)
    (q.each i of.0 g.0 part.0 d (of.1, g.1) part.1 at_d))

module _ (s : SchemeView) (scheme : IsScheme s) (a : Cert) (text : HasText a) (v : IsValid s a) where
  -- no section has a fault
  no_section : (i : ℕ) (f : SectionFault) → f ≢ section.Memory → IsFaultAt s a i f → ⊥
  no_section i f some h =
      let same = one_meaning s scheme a h.claims v.claims h.denoted v.denoted in
      let at = subst (λ (l : List Claims). slice_get l i ≡ Some h.c) same h.claimed in
      no_fault s h.of.thread (end_of s i) h.g h.c (v.each i h.of h.g h.c h.section at)
      (all_shaped s a text v.claims v.denoted i h.c at h.of h.g h.section).rise f some h.here

  -- a valid certificate is refused for want of memory alone
  no_err : (f : CheckFault) → JudgesCert {A = Unit {0}} s a (Err f) → f ≡ fault.Memory
  no_err fault.Memory h = refl
  no_err (fault.Source x) h = absurd h
  no_err (fault.Text x) h = absurd h
  no_err fault.WrongProgram h = absurd (h v.claims v.denoted)
  no_err (fault.NotGenerated i j) h = absurd (no_section i (section.NotGenerated j) (λ e. cc) h)
  no_err (fault.NotCarried i j k) h = absurd (no_section i (section.NotCarried j k) (λ e. cc) h)
  no_err (fault.EntryNotCovered i) h = absurd (no_section i section.EntryNotCovered (λ e. cc) h)
  no_err (fault.NotMaximal i) h = absurd (no_section i section.NotMaximal (λ e. cc) h)
  no_err (fault.NoChain i n) h = absurd (no_section i (section.NoChain n) (λ e. cc) h)
  no_err (fault.BrokenChain i n j) h = absurd (no_section i (section.BrokenChain n j) (λ e. cc) h)

  -- so it is accepted, unless memory runs out
  pub ok_unless : (r : Result (Unit {0}) CheckFault) → JudgesCert s a r → IsOkUnless r fault.Memory
  ok_unless (Ok x) h = tt
  ok_unless (Err f) h = no_err f h
