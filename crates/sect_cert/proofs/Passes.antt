-- The lines of a certificate are taken.
use Rattle.sect_cert.proofs.{Counts.{same}, TextLaws.{RiseAfter, RisingAll}}
use Rattle.std.proofs.Common.{◌≡◌, ℕ, ◌+◌, ◌≤◌, List, [], ◌∷◌, ◌++◌, Option, Some, None, length, refl, sym, ◌∙◌, ap}
use Rattle.std.proofs.{Common.{arith, append_assoc, append-nil}, lemmas.List.{length_push}}
use Rattle.std.proofs.lemmas.Bool.{lt-ltb, le-ltb}
use Rattle.sect_cert.specs.{declared.certificate.CertSection.{CertSection}, declared.certificate.Cert.{Cert}}
use Rattle.sect_cert.specs.Texts.{nodes_lines, chains_lines, section_lines, sections_lines, body_lines}
use Rattle.sect_cert.specs.{declared.lock.CertLock.{CertLock}, declared.certificate.CertChain.{CertChain}}
use Rattle.sect_cert.specs.{declared.line.CertLine.{CertLine}, declared.stage.Open.{Open}}
use Rattle.sect_cert.specs.declared.stage.CertStage.{CertStage}
use Rattle.sect_cert.specs.steps.Certificates.{section_with, cert_with}
use Rattle.sect_cert.specs.steps.Stages.{Next, Goes, Bad, Odd, open_with, close_of, stage_of}
use Rattle.sect_cert.specs.declared.line.CertLine.TheVariants as line
use Rattle.sect_cert.specs.declared.stage.CertStage.TheVariants as stage

abbrev pub goes : Next → (CertStage → Option CertStage) → Option CertStage
goes (Goes s) f = f s
goes Bad f = None
goes Odd f = None

-- the stage after these lines
abbrev pub run : CertStage → List CertLine → Option CertStage
run s [] = Some s
run s (x ∷ xs) = goes (stage_of s x) (λ t. run t xs)

nodes_pass : (o : Open) (m : ℕ) (ns done : List (List CertLock)) (w : List CertLine) → length done + length ns ≤ m →
    run (stage.Nodes o m done) (nodes_lines (length done) ns w) ≡ run (stage.Nodes o m (done ++ ns)) w
nodes_pass o m [] done w h = ap (λ d. run (stage.Nodes o m d) w) (sym (append-nil done))
nodes_pass o m (ls ∷ ns) done w h =
    rw (lt-ltb (length done) m (omega (arith, h)), same (length done))
    (ap (λ j. run (stage.Nodes o m (done ++ ls ∷ [])) (nodes_lines j ns w)) (sym (length_push done ls))
    ∙ (nodes_pass o m ns (done ++ ls ∷ []) w (omega (arith, h, length_push done ls))
    ∙ ap (λ d. run (stage.Nodes o m d) w) (append_assoc done (ls ∷ []) ns)))

chains_pass : (o : Open) (ns : List (List CertLock)) (e : List CertLock) (cs done : List CertChain) (w : List CertLine)
    → RiseAfter done cs →
    run (stage.Chains o (section_with ns e done)) (chains_lines cs w) ≡ run
    (stage.Chains o (section_with ns e (done ++ cs))) w
chains_pass o ns e [] done w h = ap (λ d. run (stage.Chains o (section_with ns e d)) w) (sym (append-nil done))
chains_pass o ns e (c ∷ cs) done w h =
    rw h.0 (chains_pass o ns e cs (done ++ c ∷ []) w h.1
    ∙ ap (λ d. run (stage.Chains o (section_with ns e d)) w) (append_assoc done (c ∷ []) cs))

-- the lines of one section, after its first
section_pass : (o : Open) (s : CertSection) (w : List CertLine) → RiseAfter [] s.chains →
    run (stage.Nodes o (length s.nodes) []) (section_lines s w) ≡ run (stage.Chains o s) w
section_pass o s w h =
    nodes_pass o (length s.nodes) s.nodes [] (line.Entry s.entry ∷ chains_lines s.chains w) (omega arith)
    ∙ rw (le-ltb (length s.nodes) (length s.nodes) (omega arith)) (chains_pass o s.nodes s.entry s.chains [] w h)

-- after a section, and where none has begun, the next is read in one way
settled : (o : Open) (s : CertSection) (i : ℕ) (ss : List CertSection) →
    run (stage.Chains o s) (sections_lines i ss (line.End ∷ [])) ≡ run (stage.Between (close_of o s))
    (sections_lines i ss (line.End ∷ []))
settled o s i [] = refl
settled o s i (t ∷ ss) = refl

sections_pass : (ss : List CertSection) (o : Open) → o.count ≡ length o.done + length ss → RisingAll ss →
    run (stage.Between o) (sections_lines (length o.done) ss (line.End ∷ [])) ≡ Some
    (stage.Finished (cert_with o.k (o.done ++ ss)))
sections_pass [] o h r = rw (le-ltb (length o.done) o.count (omega (arith, h)), append-nil o.done) refl
sections_pass (s ∷ ss) o h r =
    rw (lt-ltb (length o.done) o.count (omega (arith, h)), same (length o.done))
    (section_pass o s (sections_lines (length o.done + 1) ss (line.End ∷ [])) r.0
    ∙ (settled o s (length o.done + 1) ss
    ∙ (ap (λ i. run (stage.Between (close_of o s)) (sections_lines i ss (line.End ∷ []))) (sym (length_push o.done s))
    ∙ (sections_pass ss (close_of o s) (omega (arith, h, length_push o.done s)) r.1
    ∙ ap (λ d. Some (stage.Finished (cert_with o.k d))) (append_assoc o.done (s ∷ []) ss)))))

-- the lines of a certificate lead to it
pub cert_passes : (c : Cert) → RisingAll c.sections → run stage.K (body_lines c) ≡ Some (stage.Finished c)
cert_passes c h = sections_pass c.sections (open_with c.k (length c.sections) []) (omega arith) h
