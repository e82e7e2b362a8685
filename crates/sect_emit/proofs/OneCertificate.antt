-- A compiled program has one certificate.
use Rattle.std.proofs.Common.{◌≡◌, ℕ, List, Some, map, sym, ap, ◌∙◌, subst, arith}
use Rattle.std.proofs.lemmas.{List.{length-map}, Option.{slice_get_within}}
use Rattle.std.specs.Prelude.{slice_get}
use Rattle.sect_lemmas.proofs.{Places.{at_of, one_at}, Replaced.{slice_get-map}, Elements.{same_by_place}}
use Rattle.sect_types.specs.{Statements.{TextView}, Sections.{SectionView, sections_of}}
use Rattle.sect_graph.specs.declared.flow.Node.{Node}
use Rattle.sect_names.specs.{declared.lock.Lock.{Lock}, Needed.{end_of}, Schemes.{SchemeView, IsScheme}}
use Rattle.sect_names.proofs.shared.Uniqueness.{same_lists}
use Rattle.sect_infer.specs.Sets.{LocksView, AreNeeded, AreAllInferred}
use Rattle.sect_chains.specs.Chains.{AreChains}
use Rattle.sect_chains.proofs.shared.Uniqueness.{chains_one}
use Rattle.sect_cert.specs.{declared.lock.CertLock.{CertLock}, declared.certificate.CertChain.{CertChain}}
use Rattle.sect_cert.specs.{declared.certificate.CertSection.{CertSection}, declared.certificate.Cert.{Cert}}
use Rattle.sect_emit.specs.{Certificates.{SaysOf, IsCertificateOf}, Compiled.{CompiledView}}
use Rattle.sect_emit.specs.{Words.{list_words, chains_words}, steps.Inferred.{entries_of}}

-- what is needed at the nodes is one list for each
needed_one : (s : SchemeView) (t : ℕ) (last : List Lock) (body : TextView) (g : List Node) (xs ys : List (List Lock))
    → AreNeeded s t last body g xs → AreNeeded s t last body g ys → xs ≡ ys
needed_one s t last body g xs ys a b = same_by_place xs ys (a.count ∙ sym b.count) (λ i ls ms p q.
    let m = a.each i ls p in
    let n = b.each i ms q in
    same_lists ls ms m.in_order n.in_order (λ l h. (n.kept_are l).1 ((m.kept_are l).0 h))
    (λ l h. (m.kept_are l).1 ((n.kept_are l).0 h)))

-- what is inferred of all sections has one set for each
pub sets_one : (s : SchemeView) → IsScheme s → (all other : List LocksView) → AreAllInferred s all
    → AreAllInferred s other → entries_of all ≡ entries_of other
sets_one s scheme all other one two =
    let entry : LocksView → List Lock = λ l. l.entry in
    same_by_place (entries_of all) (entries_of other)
    (length-map all entry ∙ one.count ∙ sym (length-map other entry ∙ two.count)) (λ i x y p q.
    let l = slice_get-map entry all i x p in
    let m = slice_get-map entry other i y q in
    let w = slice_get_within all i l.0 l.1 in
    let of = at_of (sections_of s.program.texts) i (omega (arith, w, one.count)) in
    let g = at_of s.graphs.sections i (omega (arith, w, one.count, scheme.graphed.section_count)) in
    let a = (one.each i l.0 l.1 of.0 g.0 of.1 g.1).0 in
    let b = (two.each i m.0 m.1 of.0 g.0 of.1 g.1).0 in
    let at = needed_one s of.0.thread (end_of s i) of.0.body g.0 l.0.at m.0.at a.needed b.needed in
    sym l.2 ∙ one_at m.0.at 0 l.0.entry m.0.entry (subst (λ ls. slice_get ls 0 ≡ Some l.0.entry) at a.first) b.first
    ∙ m.2)

abbrev section_of : List (List CertLock) → List CertLock → List CertChain → CertSection
section_of nodes entry chains = record { nodes = nodes; entry = entry; chains = chains }

-- a certificate says one thing of a section
section_one : (c : CompiledView) (i : ℕ) (of : SectionView) (g : List Node) (x y : CertSection) → SaysOf c i of g x
    → SaysOf c i of g y → x ≡ y
section_one c i of g x y a b =
    let t = c.scheme.program.source in
    let at = needed_one c.scheme of.thread (end_of c.scheme i) of.body g a.at b.at a.needed b.needed in
    let set = one_at c.sets i a.set b.set a.taken b.taken in
    let chains = chains_one c.scheme of.thread (end_of c.scheme i) g b.set a.chains b.chains
    (subst (λ ls. AreChains c.scheme of.thread (end_of c.scheme i) g ls a.chains) set a.chained) b.chained in
    let nodes : x.nodes ≡ y.nodes = a.node_words ∙ ap (map (list_words t)) at ∙ sym b.node_words in
    let entry : x.entry ≡ y.entry = a.entry_words ∙ ap (list_words t) set ∙ sym b.entry_words in
    let chained : x.chains ≡ y.chains = a.chain_words ∙ ap (chains_words t 0) chains ∙ sym b.chain_words in
    ap (λ z. section_of z x.entry x.chains) nodes ∙ ap (λ z. section_of y.nodes z x.chains) entry
    ∙ ap (section_of y.nodes y.entry) chained

abbrev cert_of : ℕ → List CertSection → Cert
cert_of k sections = record { k = k; sections = sections }

-- a compiled program has one certificate
pub certificate_one : (c : CompiledView) → IsScheme c.scheme → (a b : Cert) → IsCertificateOf c a → IsCertificateOf c b
    → a ≡ b
certificate_one c scheme a b first second =
    let sections = same_by_place a.sections b.sections (first.count ∙ sym second.count) (λ i x y p q.
    let within = slice_get_within a.sections i x p in
    let of = at_of (sections_of c.scheme.program.texts) i (omega (arith, within, first.count)) in
    let g = at_of c.scheme.graphs.sections i
    (omega (arith, within, first.count, scheme.graphed.section_count)) in
    section_one c i of.0 g.0 x y (first.each i of.0 g.0 x of.1 g.1 p) (second.each i of.0 g.0 y of.1 g.1 q)) in
    ap (λ z. cert_of z a.sections) (first.k ∙ sym second.k) ∙ ap (cert_of b.k) sections
