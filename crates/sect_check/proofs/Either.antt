-- A certificate that is valid in one scheme of a program is valid in each.
use Rattle.std.proofs.Common.{◌≡◌, ℕ, List, [], ◌∷◌, subst}
use Rattle.std.specs.List.{AllZip}
use Rattle.sect_graph.specs.declared.flow.Node.{Node}
use Rattle.sect_points.specs.{Sets.{PointsToView}, Paths.{PathView}, Partitions.{HasClass}}
use Rattle.sect_names.specs.{declared.lock.Lock.{Lock}, declared.link.Link.{Link}, Schemes.{SchemeView}, Chains.{link}}
use Rattle.sect_names.specs.Laws.{AreOneScheme}
use Rattle.sect_cert.specs.{declared.lock.CertLock.{CertLock}, declared.certificate.CertStep.{CertStep}}
use Rattle.sect_cert.specs.{declared.certificate.CertChain.{CertChain}, declared.certificate.CertSection.{CertSection}}
use Rattle.sect_cert.specs.declared.certificate.Cert.{Cert}
use Rattle.sect_check.specs.{declared.claims.Claims.{Claims}, declared.claims.ChainClaim.{ChainClaim}, Names.{Denotes}}
use Rattle.sect_check.specs.Meaning.{DenotesStep, DenotesChain, DenotesSection, DenotesAll}
use Rattle.sect_check.specs.Valid.{list_at, IsValidSection, IsValid}
use Rattle.sect_names.proofs.shared.Alike.{classes_with, scheme_with, class_to, but_for_sets, lock_to, generated_at_to}
use Rattle.sect_names.proofs.shared.Alike.{carried_to, chain_to, covers_to, covered_to}

-- lists that are related one by one are so by a weaker relation
zip_to : {A B : Type 0} (R S : A → B → Type 0) → ((x : A) (y : B) → R x y → S x y) → (xs : List A) (ys : List B)
    → AllZip R xs ys → AllZip S xs ys
zip_to R S to [] [] h = h
zip_to R S to [] (y ∷ ys) h = h
zip_to R S to (x ∷ xs) [] h = h
zip_to R S to (x ∷ xs) (y ∷ ys) h = (to x y h.0, zip_to R S to xs ys h.1)

module _ (s : SchemeView) (a b : PointsToView)
    (to : (p : PathView) (n : ℕ) → HasClass (classes_with s a) p n → HasClass (classes_with s b) p n) where
  module _ (t : ℕ) where
    -- words that stand for a lock in the one scheme stand for it in the other
    denotes_to : (x : CertLock) (l : Lock) → Denotes (scheme_with s a) t x l → Denotes (scheme_with s b) t x l
    denotes_to x l h = (h.0, lock_to s a b to t l h.1)

    -- so do steps
    step_to : (x : CertStep) (l : Link) → DenotesStep (scheme_with s a) t x l → DenotesStep (scheme_with s b) t x l
    step_to x l h = (h.0, denotes_to x.lock l.lock h.1)

    -- so do chains
    chain_claim_to : (x : CertChain) (c : ChainClaim) → DenotesChain (scheme_with s a) t x c
        → DenotesChain (scheme_with s b) t x c
    chain_claim_to x c h = (
      h.0,
      zip_to (DenotesStep (scheme_with s a) t) (DenotesStep (scheme_with s b) t) step_to
          x.steps c.links h.1,
    )

    -- so does what is said of a section
    section_to : (g : List Node) (x : CertSection) (c : Claims) → DenotesSection (scheme_with s a) t g x c
        → DenotesSection (scheme_with s b) t g x c
    section_to g x c h =
        let A = Denotes (scheme_with s a) t in
        let B = Denotes (scheme_with s b) t in
        record {
          count = h.count;
          nodes = zip_to (AllZip A) (AllZip B) (zip_to A B denotes_to) x.nodes c.nodes h.nodes;
          entry = zip_to A B denotes_to x.entry c.entry h.entry;
          chains = zip_to (DenotesChain (scheme_with s a) t) (DenotesChain (scheme_with s b) t) chain_claim_to x.chains
              c.chains h.chains;
        }

  -- so does a certificate
  all_to : (x : Cert) (all : List Claims) → DenotesAll (scheme_with s a) x all → DenotesAll (scheme_with s b) x all
  all_to x all h = record {
    k = h.k;
    sections = h.sections;
    count = h.count;
    each = λ i of g y c at at_y at_c. section_to of.thread g y c (h.each i of g y c at at_y at_c);
  }

  module _ (from : (p : PathView) (n : ℕ) → HasClass (classes_with s b) p n → HasClass (classes_with s a) p n) where
    -- claims that are right in the one scheme are right in the other
    valid_section_to : (t : ℕ) (last : List Lock) (g : List Node) (c : Claims)
        → IsValidSection (scheme_with s a) t last g c → IsValidSection (scheme_with s b) t last g c
    valid_section_to t last g c v = record {
      generated = λ j l h. covered_to s a b to t (list_at c j) l
          (v.generated j l (generated_at_to s b a from t last g (link j l) h));
      carried = λ i j x at leads l m has back. covered_to s a b to t (list_at c i) m
          (v.carried i j x at leads l m has (carried_to s b a from t x.label l m back));
      entry = λ l h. covered_to s a b to t c.entry l (v.entry l h);
      in_order = v.in_order;
      apart = λ l big h k covers. v.apart l big h k (covers_to s b a from t big l covers);
      chains = λ n l at. (let x = v.chains n l at in (x.0, x.1, chain_to s a b to t last g l x.0.links x.2));
      no_others = v.no_others;
    }

    -- so a certificate that is valid is
    valid_to : (x : Cert) → IsValid (scheme_with s a) x → IsValid (scheme_with s b) x
    valid_to x v = record {
      claims = v.claims;
      denoted = all_to x v.claims v.denoted;
      each = λ i of g c at at_c. valid_section_to of.thread _ g c (v.each i of g c at at_c);
    }

-- whichever scheme of a program is asked
pub valid_either : (s r : SchemeView) → AreOneScheme s r → s.program ≡ r.program → s.most ≡ r.most → (x : Cert)
    → IsValid s x → IsValid r x
valid_either s r one program most x v =
    let a = s.classes.sets in
    let b = r.classes.sets in
    subst (λ (z : SchemeView). IsValid z x) (but_for_sets s r one program most)
    (valid_to s a b (class_to s a b (λ h site k. (one.sets h site).0 k))
    (class_to s b a (λ h site k. (one.sets h site).1 k)) x v)
