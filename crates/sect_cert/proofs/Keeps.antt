-- A stage knows its lines, and can be completed.
use Rattle.std.proofs.Common.{◌≡◌, ℕ, ◌+◌, ◌<◌, ◌≤◌, Bool, true, false, cond, eqb, nat_lt, List, [], ◌∷◌, ◌++◌, length}
use Rattle.std.proofs.Common.{refl, sym, ◌∙◌, ap, arith, append_assoc, append-nil, subst}
use Rattle.std.proofs.{lemmas.Bool.Decides.{nat_tests}, lemmas.Bool.{eqb-true}, lemmas.List.{length_push}}
use Rattle.std.specs.Prelude.{⊤}
use Rattle.sect_cert.proofs.TextLaws.{RiseAfter, RisingAll}
use Rattle.sect_cert.specs.declared.certificate.CertSection.{CertSection}
use Rattle.sect_cert.specs.Texts.{nodes_lines, chains_lines, section_lines, sections_lines}
use Rattle.sect_cert.specs.{declared.lock.CertLock.{CertLock}, declared.certificate.CertChain.{CertChain}}
use Rattle.sect_cert.specs.{declared.line.CertLine.{CertLine}, declared.stage.Open.{Open}}
use Rattle.sect_cert.specs.declared.stage.CertStage.{CertStage}
use Rattle.sect_cert.specs.steps.Certificates.{section_with, cert_with, is_rising}
use Rattle.sect_cert.specs.steps.Stages.{Next, Goes, Bad, Odd, begin_of, close_of, stage_of, node_of, chain_of}
use Rattle.sect_cert.specs.declared.line.CertLine.TheVariants as line
use Rattle.sect_cert.specs.declared.stage.CertStage.TheVariants as stage

-- the lines that have been read, before what follows
abbrev pub open_lines : Open → List CertLine → List CertLine
open_lines o w = line.K o.k ∷ line.Sections o.count ∷ sections_lines 0 o.done w

abbrev pub stage_lines : CertStage → List CertLine → List CertLine
stage_lines (stage.Count k) w = line.K k ∷ w
stage_lines (stage.Between o) w = open_lines o w
stage_lines (stage.Nodes o m ns) w = open_lines o (line.Section (length o.done) m ∷ nodes_lines 0 ns w)
stage_lines (stage.Chains o s) w = open_lines o (line.Section (length o.done) (length s.nodes) ∷ section_lines s w)
stage_lines (stage.Finished c) w =
    line.K c.k ∷ line.Sections (length c.sections) ∷ sections_lines 0 c.sections (line.End ∷ w)
stage_lines _ w = w

-- what holds of each stage
abbrev pub IsSound : CertStage → Type 0
IsSound (stage.Between o) = [] ≡ o.done
IsSound (stage.Nodes o m ns) = (length o.done < o.count) × RisingAll o.done × (length ns ≤ m)
IsSound (stage.Chains o s) = (length o.done < o.count) × RisingAll o.done × RiseAfter [] s.chains
IsSound (stage.Finished c) = RisingAll c.sections
IsSound _ = ⊤

abbrev pub IfGoes : Next → (CertStage → Type 0) → Type 0
IfGoes (Goes s) P = P s
IfGoes _ P = ⊤

-- a stage after the first line
abbrev pub IsBegun : CertStage → Type 0
IsBegun stage.Header = ⊥
IsBegun _ = ⊤

pub record Kept (s : CertStage) (x : CertLine) (t : CertStage) : Type 0 where
  pub begun : IsBegun t
  pub sound : IsSound t
  pub lines : (w : List CertLine) → stage_lines t w ≡ stage_lines s (x ∷ w)

nodes_more : (ns : List (List CertLock)) (i j : ℕ) (ls : List CertLock) (w : List CertLine) → j ≡ i + length ns
    → nodes_lines i (ns ++ ls ∷ []) w ≡ nodes_lines i ns (line.Node j ls ∷ w)
nodes_more [] i j ls w h = ap (λ n. line.Node n ls ∷ w) (omega arith)
nodes_more (n ∷ ns) i j ls w h = ap (λ x. line.Node i n ∷ x) (nodes_more ns (i + 1) j ls w (omega (arith, h)))

chains_more : (cs : List CertChain) (c : CertChain) (w : List CertLine)
    → chains_lines (cs ++ c ∷ []) w ≡ chains_lines cs (line.Chain c ∷ w)
chains_more [] c w = refl
chains_more (d ∷ cs) c w = ap (λ x. line.Chain d ∷ x) (chains_more cs c w)

sections_more : (ss : List CertSection) (i j : ℕ) (s : CertSection) (w : List CertLine) → j ≡ i + length ss →
    sections_lines i (ss ++ s ∷ []) w ≡ sections_lines i ss (line.Section j (length s.nodes) ∷ section_lines s w)
sections_more [] i j s w h = ap (λ n. line.Section n (length s.nodes) ∷ section_lines s w) (omega arith)
sections_more (t ∷ ss) i j s w h =
    ap (λ x. line.Section i (length t.nodes) ∷ section_lines t x) (sections_more ss (i + 1) j s w (omega (arith, h)))

rising_more : (before cs : List CertChain) (c : CertChain) → RiseAfter before cs
    → is_rising (before ++ cs) c.lock ≡ true
    → RiseAfter before (cs ++ c ∷ [])
rising_more before [] c h e = (ap (λ d. is_rising d c.lock) (sym (append-nil before)) ∙ e, tt)
rising_more before (d ∷ cs) c h e =
    (h.0, rising_more (before ++ d ∷ []) cs c h.1 (ap (λ x. is_rising x c.lock) (append_assoc before (d ∷ []) cs) ∙ e))

pub all_rising_more : (ss : List CertSection) (s : CertSection) → RisingAll ss → RiseAfter [] s.chains
    → RisingAll (ss ++ s ∷ [])
all_rising_more [] s h r = (r, tt)
all_rising_more (t ∷ ss) s h r = (h.0, all_rising_more ss s h.1 r)

-- the next section, or the end
begin_law : (s : CertStage) (o : Open) (x : CertLine) → length o.done ≤ o.count → RisingAll o.done
    → ((w : List CertLine) → open_lines o w ≡ stage_lines s w) →
    IfGoes (begin_of o x) (λ t. Kept s x t)
begin_law s o (line.Section i m) h r e = go (nat_lt (length o.done) o.count) refl (eqb i (length o.done)) refl
  where
    go : (b : Bool) → nat_lt (length o.done) o.count ≡ b → (c : Bool) → eqb i (length o.done) ≡ c →
        IfGoes (cond b (cond c (Goes (stage.Nodes o m [])) Odd) Bad) (λ t. Kept s (line.Section i m) t)
    go true f true g = record {
      begun = tt;
      sound = (grind (arith, nat_tests), r, omega arith);
      lines = λ w. ap (λ n. open_lines o (line.Section n m ∷ w)) (sym (eqb-true i (length o.done) g))
          ∙ e (line.Section i m ∷ w);
    }
    go true f false g = tt
    go false f c g = tt
begin_law s o line.End h r e = go (nat_lt (length o.done) o.count) refl
  where
    go : (b : Bool) → nat_lt (length o.done) o.count ≡ b
        → IfGoes (cond b Bad (Goes (stage.Finished (cert_with o.k o.done)))) (λ t. Kept s line.End t)
    go true f = tt
    go false f = let full : length o.done ≡ o.count = grind (arith, nat_tests) in record {
      begun = tt;
      sound = r;
      lines = λ w. ap (λ n. line.K o.k ∷ line.Sections n ∷ sections_lines 0 o.done (line.End ∷ w)) full
          ∙ e (line.End ∷ w);
    }
begin_law s o _ h r e = tt

node_law : (o : Open) (m : ℕ) (ns : List (List CertLock)) (x : CertLine) → IsSound (stage.Nodes o m ns)
    → IfGoes (node_of o m ns x) (λ t. Kept (stage.Nodes o m ns) x t)
node_law o m ns (line.Node j ls) h = go (nat_lt (length ns) m) refl (eqb j (length ns)) refl
  where
    go : (b : Bool) → nat_lt (length ns) m ≡ b → (c : Bool) → eqb j (length ns) ≡ c →
        IfGoes (cond b (cond c (Goes (stage.Nodes o m (ns ++ ls ∷ []))) Odd) Bad)
        (λ t. Kept (stage.Nodes o m ns) (line.Node j ls) t)
    go true f true g = let low : length ns < m = grind (arith, nat_tests) in record {
      begun = tt;
      sound = (h.0, h.1, omega (arith, length_push ns ls, low));
      lines = λ w. ap (λ x. open_lines o (line.Section (length o.done) m ∷ x))
          (nodes_more ns 0 j ls w (omega (arith, eqb-true j (length ns) g)));
    }
    go true f false g = tt
    go false f c g = tt
node_law o m ns (line.Entry ls) h = go (nat_lt (length ns) m) refl
  where
    go : (b : Bool) → nat_lt (length ns) m ≡ b
        → IfGoes (cond b Bad (Goes (stage.Chains o (section_with ns ls []))))
        (λ t. Kept (stage.Nodes o m ns) (line.Entry ls) t)
    go true f = tt
    go false f = let full : length ns ≡ m = grind (arith, nat_tests, h.2) in record {
      begun = tt;
      sound = (h.0, h.1, tt);
      lines = λ w. ap (λ n. open_lines o (line.Section (length o.done) n ∷ nodes_lines 0 ns (line.Entry ls ∷ w))) full;
    }
node_law o m ns _ h = tt

pub closed : (o : Open) (s : CertSection) (w : List CertLine)
    → open_lines (close_of o s) w ≡ stage_lines (stage.Chains o s) w
closed o s w = ap (λ x. line.K o.k ∷ line.Sections o.count ∷ x)
    (sections_more o.done 0 (length o.done) s w (omega arith))

chain_law : (o : Open) (s : CertSection) (x : CertLine) → IsSound (stage.Chains o s)
    → IfGoes (chain_of o s x) (λ t. Kept (stage.Chains o s) x t)
chain_law o s (line.Chain c) h = go (is_rising s.chains c.lock) refl
  where
    go : (b : Bool) → is_rising s.chains c.lock ≡ b
        → IfGoes (cond b (Goes (stage.Chains o (section_with s.nodes s.entry (s.chains ++ c ∷ [])))) Odd)
        (λ t. Kept (stage.Chains o s) (line.Chain c) t)
    go true f = record {
      begun = tt;
      sound = (h.0, h.1, rising_more [] s.chains c h.2 f);
      lines = λ w. ap (λ x. open_lines o
          (line.Section (length o.done) (length s.nodes) ∷ nodes_lines 0 s.nodes (line.Entry s.entry ∷ x)))
          (chains_more s.chains c w);
    }
    go false f = tt
chain_law o s x h = begin_law (stage.Chains o s) (close_of o s) x (omega (arith, h.0, length_push o.done s))
    (all_rising_more o.done s h.1 h.2) (closed o s)

-- a line that is taken is the next of the lines that were read
pub stage_law : (s : CertStage) (x : CertLine) → IsSound s → IfGoes (stage_of s x) (λ t. Kept s x t)
stage_law stage.K (line.K k) h = record { begun = tt; sound = tt; lines = λ w. refl }
stage_law (stage.Count k) (line.Sections n) h = record { begun = tt; sound = refl; lines = λ w. refl }
stage_law (stage.Between o) x h =
    begin_law (stage.Between o) o x (omega (arith, ap length h)) (subst RisingAll h tt) (λ w. refl)
stage_law (stage.Nodes o m ns) x h = node_law o m ns x h
stage_law (stage.Chains o s) x h = chain_law o s x h
stage_law _ x h = tt

-- what stands behind lines stands behind them
pub nodes_split : (ns : List (List CertLock)) (i : ℕ) (v w : List CertLine)
    → nodes_lines i ns (v ++ w) ≡ nodes_lines i ns v ++ w
nodes_split [] i v w = refl
nodes_split (n ∷ ns) i v w = ap (λ x. line.Node i n ∷ x) (nodes_split ns (i + 1) v w)

pub chains_split : (cs : List CertChain) (v w : List CertLine) → chains_lines cs (v ++ w) ≡ chains_lines cs v ++ w
chains_split [] v w = refl
chains_split (c ∷ cs) v w = ap (λ x. line.Chain c ∷ x) (chains_split cs v w)

section_split : (s : CertSection) (v w : List CertLine) → section_lines s (v ++ w) ≡ section_lines s v ++ w
section_split s v w = ap (λ x. nodes_lines 0 s.nodes (line.Entry s.entry ∷ x)) (chains_split s.chains v w)
    ∙ nodes_split s.nodes 0 (line.Entry s.entry ∷ chains_lines s.chains v) w

pub sections_split : (ss : List CertSection) (i : ℕ) (v w : List CertLine)
    → sections_lines i ss (v ++ w) ≡ sections_lines i ss v ++ w
sections_split [] i v w = refl
sections_split (s ∷ ss) i v w =
    ap (λ x. line.Section i (length s.nodes) ∷ x)
    (ap (section_lines s) (sections_split ss (i + 1) v w) ∙ section_split s (sections_lines (i + 1) ss v) w)

pub open_split : (o : Open) (v w : List CertLine) → open_lines o (v ++ w) ≡ open_lines o v ++ w
open_split o v w = ap (λ x. line.K o.k ∷ line.Sections o.count ∷ x) (sections_split o.done 0 v w)

-- the lines of a stage stand before what follows
pub stage_split : (s : CertStage) (w : List CertLine) → stage_lines s w ≡ stage_lines s [] ++ w
stage_split stage.Header w = refl
stage_split stage.K w = refl
stage_split (stage.Count k) w = refl
stage_split (stage.Between o) w = open_split o [] w
stage_split (stage.Nodes o m ns) w = ap (λ x. open_lines o (line.Section (length o.done) m ∷ x)) (nodes_split ns 0 [] w)
    ∙ open_split o (line.Section (length o.done) m ∷ nodes_lines 0 ns []) w
stage_split (stage.Chains o s) w =
    ap (λ x. open_lines o (line.Section (length o.done) (length s.nodes) ∷ x)) (section_split s [] w)
    ∙ open_split o (line.Section (length o.done) (length s.nodes) ∷ section_lines s []) w
stage_split (stage.Finished c) w =
    ap (λ x. line.K c.k ∷ line.Sections (length c.sections) ∷ x) (sections_split c.sections 0 (line.End ∷ []) w)
