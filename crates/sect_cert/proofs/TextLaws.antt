-- What stands in a certificate with a text, line by line.
use Rattle.std.proofs.Common.{◌≡◌, ℕ, ◌+◌, ◌-◌, ◌<◌, ◌≤◌, true, nat_lt, List, [], ◌∷◌, ◌++◌, length, refl, sym}
use Rattle.std.proofs.Common.{◌∙◌, arith, length-append}
use Rattle.std.proofs.lemmas.Bool.{lt-ltb, ltb-true}
use Rattle.std.specs.{Prelude.{⊤}, List.{AllByRecursion}}
use Rattle.sect_cert.specs.steps.Certificates.{is_rising}
use Rattle.sect_cert.specs.Texts.{nodes_lines, chains_lines, sections_lines, body_lines, IsLock, IsChain, IsLine}
use Rattle.sect_cert.specs.{Texts.{AreRising, IsSection, HasText}, declared.lock.CertLock.{CertLock}}
use Rattle.sect_cert.specs.{declared.certificate.CertChain.{CertChain}, declared.certificate.CertSection.{CertSection}}
use Rattle.sect_cert.specs.{declared.certificate.Cert.{Cert}, declared.line.CertLine.{CertLine}}
use Rattle.sect_cert.proofs.Counts.{last_at}
use Rattle.sect_cert.specs.declared.line.CertLine.TheVariants as line

-- the numbers of these chains rise, after these before them
abbrev pub RiseAfter : List CertChain → List CertChain → Type 0
RiseAfter before [] = ⊤
RiseAfter before (c ∷ cs) = (is_rising before c.lock ≡ true) × RiseAfter (before ++ c ∷ []) cs

abbrev pub RisingAll : List CertSection → Type 0
RisingAll ss = AllByRecursion (λ s. RiseAfter [] s.chains) ss

-- the same as a certificate's having a text, by its lines
pub record HasLines (c : Cert) : Type 0 where
  pub lines : AllByRecursion IsLine (body_lines c)
  pub rising : RisingAll c.sections

after_last : (before : List CertChain) (d : CertChain) (n : ℕ) → is_rising (before ++ d ∷ []) n ≡ nat_lt d.lock n
after_last before d n = let last : length (before ++ d ∷ []) - 1 ≡ length before =
    omega (arith, length-append before (d ∷ [])) in rw (last, last_at before d) refl

rise_after : (before : List CertChain) (d : CertChain) (cs : List CertChain) → AreRising (d ∷ cs)
    → RiseAfter (before ++ d ∷ []) cs
rise_after before d [] h = tt
rise_after before d (c ∷ cs) h =
    (after_last before d c.lock ∙ lt-ltb d.lock c.lock h.0, rise_after (before ++ d ∷ []) c cs h.1)

rise_all : (cs : List CertChain) → AreRising cs → RiseAfter [] cs
rise_all [] h = tt
rise_all (c ∷ cs) h = (refl, rise_after [] c cs h)

rise_back : (before : List CertChain) (d : CertChain) (cs : List CertChain) → RiseAfter (before ++ d ∷ []) cs
    → AreRising (d ∷ cs)
rise_back before d [] h = tt
rise_back before d (c ∷ cs) h =
    (ltb-true d.lock c.lock (sym (after_last before d c.lock) ∙ h.0), rise_back (before ++ d ∷ []) c cs h.1)

are_rising : (cs : List CertChain) → RiseAfter [] cs → AreRising cs
are_rising [] h = tt
are_rising (c ∷ cs) h = rise_back [] c cs h.1

nodes_good : (ns : List (List CertLock)) (j : ℕ) (w : List CertLine)
    → AllByRecursion (λ ls. AllByRecursion IsLock ls) ns → j + length ns ≤ 4294967296 → AllByRecursion IsLine w →
    AllByRecursion IsLine (nodes_lines j ns w)
nodes_good [] j w h low g = g
nodes_good (ls ∷ ns) j w h low g = ((omega (arith, low), h.0), nodes_good ns (j + 1) w h.1 (omega (arith, low)) g)

chains_good : (cs : List CertChain) (w : List CertLine) → AllByRecursion IsChain cs → AllByRecursion IsLine w
    → AllByRecursion IsLine (chains_lines cs w)
chains_good [] w h g = g
chains_good (c ∷ cs) w h g = (h.0, chains_good cs w h.1 g)

sections_good : (ss : List CertSection) (i : ℕ) (w : List CertLine) → AllByRecursion IsSection ss
    → i + length ss ≤ 4294967296 → AllByRecursion IsLine w → AllByRecursion IsLine (sections_lines i ss w)
sections_good [] i w h low g = g
sections_good (s ∷ ss) i w h low g =
    let rest : AllByRecursion IsLine (sections_lines (i + 1) ss w) =
    sections_good ss (i + 1) w h.1 (omega (arith, low)) g in
    let small : length s.nodes < 4294967296 = h.0.count in (
      (omega (arith, low), small),
      nodes_good s.nodes 0 (line.Entry s.entry ∷ chains_lines s.chains (sections_lines (i + 1) ss w)) h.0.nodes
          (omega (arith, small))
          (h.0.entry, chains_good s.chains (sections_lines (i + 1) ss w) h.0.chains rest),
    )

sections_rising : (ss : List CertSection) → AllByRecursion IsSection ss → RisingAll ss
sections_rising [] h = tt
sections_rising (s ∷ ss) h = (rise_all s.chains h.0.rising, sections_rising ss h.1)

-- each line of a certificate with a text is good
pub lines_of : (c : Cert) → HasText c → HasLines c
lines_of c h =
    let small : length c.sections < 4294967296 = h.count in
    record {
      lines =
          (h.k, (h.count, sections_good c.sections 0 (line.End ∷ []) h.sections (omega (arith, small)) (tt, tt)));
      rising = sections_rising c.sections h.sections;
    }

-- what stands behind whole nodes, chains and sections is good where all is
behind_nodes : (ns : List (List CertLock)) (j : ℕ) (w : List CertLine) → AllByRecursion IsLine (nodes_lines j ns w)
    → AllByRecursion IsLine w
behind_nodes [] j w h = h
behind_nodes (n ∷ ns) j w h = behind_nodes ns (j + 1) w h.1

behind_chains : (cs : List CertChain) (w : List CertLine) → AllByRecursion IsLine (chains_lines cs w)
    → AllByRecursion IsLine w
behind_chains [] w h = h
behind_chains (c ∷ cs) w h = behind_chains cs w h.1

pub behind_sections : (ss : List CertSection) (i : ℕ) (w : List CertLine)
    → AllByRecursion IsLine (sections_lines i ss w) → AllByRecursion IsLine w
behind_sections [] i w h = h
behind_sections (s ∷ ss) i w h =
    behind_sections ss (i + 1) w
    (behind_chains s.chains (sections_lines (i + 1) ss w)
    (behind_nodes s.nodes 0 (line.Entry s.entry ∷ chains_lines s.chains (sections_lines (i + 1) ss w)) h.1).1)

nodes_back : (ns : List (List CertLock)) (j : ℕ) (w : List CertLine) → AllByRecursion IsLine (nodes_lines j ns w)
    → AllByRecursion (λ ls. AllByRecursion IsLock ls) ns
nodes_back [] j w h = tt
nodes_back (ls ∷ ns) j w h = (h.0.1, nodes_back ns (j + 1) w h.1)

chains_back : (cs : List CertChain) (w : List CertLine) → AllByRecursion IsLine (chains_lines cs w)
    → AllByRecursion IsChain cs
chains_back [] w h = tt
chains_back (c ∷ cs) w h = (h.0, chains_back cs w h.1)

sections_back : (ss : List CertSection) (i : ℕ) (w : List CertLine) → AllByRecursion IsLine (sections_lines i ss w)
    → RisingAll ss → AllByRecursion IsSection ss
sections_back [] i w h r = tt
sections_back (s ∷ ss) i w h r =
    let chains : List CertLine = chains_lines s.chains (sections_lines (i + 1) ss w) in
    let behind : AllByRecursion IsLine (line.Entry s.entry ∷ chains) =
    behind_nodes s.nodes 0 (line.Entry s.entry ∷ chains) h.1 in (
      record {
        count = h.0.1;
        nodes = nodes_back s.nodes 0 (line.Entry s.entry ∷ chains) h.1;
        entry = behind.0;
        chains = chains_back s.chains (sections_lines (i + 1) ss w) behind.1;
        rising = are_rising s.chains r.0;
      },
      sections_back ss (i + 1) w (behind_chains s.chains (sections_lines (i + 1) ss w) behind.1) r.1,
    )

-- a certificate of good lines has a text
pub text_of : (c : Cert) → HasLines c → HasText c
text_of c h = record {
  k = h.lines.0;
  count = h.lines.1.0;
  sections =
      sections_back c.sections 0 (line.End ∷ []) h.lines.1.1 h.rising;
}
