-- What is inferred of a program and spelled by its names is a valid certificate.
use Rattle.std.proofs.Common.{◌≡◌, ℕ, ◌<◌, List, Some, length, sym, ◌∙◌, subst, arith}
use Rattle.std.proofs.lemmas.Option.{slice_get_within}
use Rattle.std.specs.Prelude.{slice_get}
use Rattle.sect_types.specs.{First.{IsTyped}, Programs.{IsOfTree}, Sections.{SectionView, sections_of}}
use Rattle.sect_lemmas.proofs.Places.{at_of, one_at, chosen}
use Rattle.sect_graph.specs.declared.flow.Node.{Node}
use Rattle.sect_names.specs.{Needed.{end_of}, Schemes.{SchemeView, IsScheme}, Laws.{AreLawful}}
use Rattle.sect_names.specs.declared.link.Link.{Link}
use Rattle.sect_infer.specs.Sets.{LocksView, AreLocksOf, AreAllInferred}
use Rattle.sect_chains.specs.Chains.{AreChains}
use Rattle.sect_cert.specs.{declared.certificate.CertSection.{CertSection}, declared.certificate.Cert.{Cert}}
use Rattle.sect_check.specs.{declared.claims.Claims.{Claims}, Meaning.{IsSectionAt, DenotesSection}}
use Rattle.sect_check.specs.Valid.{IsValidSection, IsValid}
use Rattle.sect_emit.specs.Claimed.{claims_of}
use Rattle.sect_emit.specs.steps.Spelled.{IsSpelled}
use Rattle.sect_emit.proofs.{Chained.{chains_lawful}, Denoting.{section_denoted}}

-- the words on a section stand for claims, and these are right
abbrev IsRight : SchemeView → ℕ → Claims → SectionView → List Node → CertSection → Type 0
IsRight s i c of g x = DenotesSection s of.thread g x c × IsValidSection s of.thread (end_of s i) g c

-- so the claims are for whatever section, graph and words have this number
abbrev AreRightAt : SchemeView → Cert → ℕ → Claims → Type 0
AreRightAt s a i c = (of : SectionView) (g : List Node) (x : CertSection) → IsSectionAt s i of g
    → slice_get a.sections i ≡ Some x → IsRight s i c of g x

module _ (s : SchemeView) (scheme : IsScheme s) (typed : IsTyped s.program.source) (tree : IsOfTree s.program)
    (lawful : (i : ℕ) (of : SectionView) (g : List Node) → IsSectionAt s i of g → AreLawful s of.thread (end_of s i) g)
    (valid : (i : ℕ) (of : SectionView) (g : List Node) → IsSectionAt s i of g → (locks : LocksView)
    → AreLocksOf s (end_of s i) of g locks
    → (chains : List (List Link)) → AreChains s of.thread (end_of s i) g locks.entry chains
    → IsValidSection s of.thread (end_of s i) g (claims_of locks chains))
    (all : List LocksView) (inferred : AreAllInferred s all) (a : Cert) (spelled : IsSpelled s all a) where
  -- each section has claims that are right
  claims_at : (i : ℕ) → i < length (sections_of s.program.texts) → (c : Claims) × AreRightAt s a i c
  claims_at i within =
      let of = at_of (sections_of s.program.texts) i within in
      let g = at_of s.graphs.sections i (omega (arith, within, scheme.graphed.section_count)) in
      let locks = at_of all i (omega (arith, within, inferred.count)) in
      let x = at_of a.sections i (omega (arith, within, spelled.count)) in
      let at : IsSectionAt s i of.0 g.0 = (of.1, g.1) in
      let told = inferred.each i locks.0 locks.1 of.0 g.0 of.1 g.1 in
      let said = spelled.each i locks.0 x.0 locks.1 x.1 of.0 g.0 of.1 g.1 in
      let c = claims_of locks.0 said.0 in
      let linked = chains_lawful s of.0.thread (end_of s i) g.0 (lawful i of.0 g.0 at) locks.0.entry said.0 said.1 in
      let denoted = section_denoted s typed tree of.0.thread g.0 locks.0 said.0 told.0.needed.count told.0.first told.1
      (λ links has. (linked links has).1) in
      let right : IsRight s i c of.0 g.0 x.0 = (
        subst (λ (y : CertSection). DenotesSection s of.0.thread g.0 y c) (sym said.2) denoted,
        valid i of.0 g.0 at locks.0 told.0 said.0 said.1,
      ) in (
        c,
        λ of2 g2 x2 at2 at_x.
            subst (λ (y : CertSection). IsRight s i c of2 g2 y) (one_at a.sections i x.0 x2 x.1 at_x)
            (subst (λ (h : List Node). IsRight s i c of2 h x.0) (one_at s.graphs.sections i g.0 g2 g.1 at2.1)
            (subst (λ (o : SectionView). IsRight s i c o g.0 x.0)
            (one_at (sections_of s.program.texts) i of.0 of2 of.1 at2.0) right)),
      )

  -- so the certificate is valid
  pub certified : IsValid s a
  certified =
      let list = chosen (AreRightAt s a) (length (sections_of s.program.texts)) claims_at in
      record {
        claims = list.0;
        denoted = record {
          k = spelled.k;
          sections = spelled.count;
          count = list.1 ∙ sym spelled.count;
          each = λ i of g x c at at_x at_c. (list.2 i c at_c of g x at at_x).0;
        };
        each = λ i of g c at at_c. (
            let within = slice_get_within (sections_of s.program.texts) i of at.0 in
            let x = at_of a.sections i (omega (arith, within, spelled.count)) in
            (list.2 i c at_c of g x.0 at x.1).1
            );
      }
