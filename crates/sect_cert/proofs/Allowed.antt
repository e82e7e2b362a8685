-- The forms of lines that a stage takes are those that are allowed after its lines.
use Rattle.std.proofs.Common.{◌≡◌, ◌≢◌, ℕ, ◌+◌, ◌<◌, Bool, true, false, not, cond, eqb, nat_lt, List, [], ◌∷◌, ◌++◌}
use Rattle.std.proofs.Common.{Some, None, length, map, refl, sym, ◌∙◌, ap, subst, arith, inl, inr}
use Rattle.std.proofs.{lemmas.Bool.Decides.{nat_tests}, lemmas.List.{map-append}}
use Rattle.std.specs.List.{AllByRecursion}
use Rattle.sect_cert.specs.{Parts.{parts}, Zeros.{plain}, Lines.{line_text}}
use Rattle.sect_cert.specs.Forms.{Form, KForm, SectionsForm, SectionForm, NodeForm, EntryForm, ChainForm, EndForm}
use Rattle.sect_cert.specs.{Forms.{form_of}, Texts.{IsLine, header_text, nodes_lines, chains_lines, sections_lines}}
use Rattle.sect_cert.specs.{Verdicts.{GoesOn, EndsInChain, IsAllowed}, declared.lock.CertLock.{CertLock}}
use Rattle.sect_cert.specs.{declared.certificate.CertChain.{CertChain}, declared.certificate.CertSection.{CertSection}}
use Rattle.sect_cert.specs.{declared.line.CertLine.{CertLine}, declared.stage.Open.{Open}}
use Rattle.sect_cert.specs.declared.stage.CertStage.{CertStage}
use Rattle.sect_cert.specs.steps.Certificates.{step_with, chain_with, section_with, cert_with, is_rising}
use Rattle.sect_cert.specs.steps.Reading.{line_of}
use Rattle.sect_cert.specs.steps.Stages.{Goes, Bad, Odd, open_with, begin_of, close_of, stage_of, read_of}
use Rattle.sect_cert.proofs.{Passes.{goes}, Counts.{same}}
use Rattle.sect_cert.proofs.Keeps.{stage_lines, open_lines, nodes_split, sections_split, open_split}
use Rattle.sect_cert.proofs.{TextLaws.{behind_sections}, LineLaws.{IsAgain, line_again}}
use Rattle.sect_cert.proofs.Readings.{read_all, Reads, taken_line, taken_text, viable, refused}
use Rattle.sect_cert.specs.declared.lock.CertLock.TheVariants as lock
use Rattle.sect_cert.specs.declared.line.CertLine.TheVariants as line
use Rattle.sect_cert.specs.declared.stage.CertStage.TheVariants as stage

-- the forms that a stage takes
abbrev begin_due : Open → Form → Bool
begin_due o SectionForm = nat_lt (length o.done) o.count
begin_due o EndForm = not (nat_lt (length o.done) o.count)
begin_due o _ = false

abbrev pub is_due : CertStage → Form → Bool
is_due stage.K KForm = true
is_due (stage.Count k) SectionsForm = true
is_due (stage.Between o) f = begin_due o f
is_due (stage.Nodes o m ns) NodeForm = nat_lt (length ns) m
is_due (stage.Nodes o m ns) EntryForm = not (nat_lt (length ns) m)
is_due (stage.Chains o s) ChainForm = true
is_due (stage.Chains o s) f = begin_due (close_of o s) f
is_due _ f = false

begin_takes : (o : Open) (x : CertLine) → begin_due o (form_of x) ≡ true → begin_of o x ≡ Bad → ⊥
begin_takes o (line.Section i m) h e = go (nat_lt (length o.done) o.count) h (eqb i (length o.done)) e
  where
    go : (b : Bool) → b ≡ true → (c : Bool) → cond b (cond c (Goes (stage.Nodes o m [])) Odd) Bad ≡ Bad → ⊥
    go true h true e = cc
    go true h false e = cc
    go false h c e = cc
begin_takes o line.End h e = go (nat_lt (length o.done) o.count) h e
  where
    go : (b : Bool) → not b ≡ true → cond b Bad (Goes (stage.Finished (cert_with o.k o.done))) ≡ Bad → ⊥
    go true h e = cc
    go false h e = cc
begin_takes o _ h e = cc

begin_not : (o : Open) (x : CertLine) → begin_due o (form_of x) ≡ false → begin_of o x ≡ Bad
begin_not o (line.Section i m) h = rw h refl
begin_not o line.End h = go (nat_lt (length o.done) o.count) h
  where
    go : (b : Bool) → not b ≡ false → cond b Bad (Goes (stage.Finished (cert_with o.k o.done))) ≡ Bad
    go true h = refl
    go false h = cc
begin_not o _ h = refl

node_takes : (o : Open) (m : ℕ) (ns : List (List CertLock)) (x : CertLine)
    → is_due (stage.Nodes o m ns) (form_of x) ≡ true → stage_of (stage.Nodes o m ns) x ≡ Bad → ⊥
node_takes o m ns (line.Node j ls) h e = go (nat_lt (length ns) m) h (eqb j (length ns)) e
  where
    go : (b : Bool) → b ≡ true → (c : Bool) → cond b (cond c (Goes (stage.Nodes o m (ns ++ ls ∷ []))) Odd) Bad ≡ Bad → ⊥
    go true h true e = cc
    go true h false e = cc
    go false h c e = cc
node_takes o m ns (line.Entry ls) h e = go (nat_lt (length ns) m) h e
  where
    go : (b : Bool) → not b ≡ true → cond b Bad (Goes (stage.Chains o (section_with ns ls []))) ≡ Bad → ⊥
    go true h e = cc
    go false h e = cc
node_takes o m ns _ h e = cc

node_not : (o : Open) (m : ℕ) (ns : List (List CertLock)) (x : CertLine)
    → is_due (stage.Nodes o m ns) (form_of x) ≡ false → stage_of (stage.Nodes o m ns) x ≡ Bad
node_not o m ns (line.Node j ls) h = rw h refl
node_not o m ns (line.Entry ls) h = go (nat_lt (length ns) m) h
  where
    go : (b : Bool) → not b ≡ false → cond b Bad (Goes (stage.Chains o (section_with ns ls []))) ≡ Bad
    go true h = refl
    go false h = cc
node_not o m ns _ h = refl

-- what is due is taken, or refused for its numbers alone
pub due_takes : (s : CertStage) (x : CertLine) → is_due s (form_of x) ≡ true → stage_of s x ≡ Bad → ⊥
due_takes stage.K (line.K k) h e = cc
due_takes (stage.Count k) (line.Sections n) h e = cc
due_takes (stage.Between o) x h e = begin_takes o x h e
due_takes (stage.Nodes o m ns) x h e = node_takes o m ns x h e
due_takes (stage.Chains o s) (line.Chain c) h e = go (is_rising s.chains c.lock) e
  where
    go : (b : Bool) → cond b (Goes (stage.Chains o (section_with s.nodes s.entry (s.chains ++ c ∷ [])))) Odd ≡ Bad → ⊥
    go true e = cc
    go false e = cc
due_takes (stage.Chains o s) x h e = begin_takes (close_of o s) x h e
due_takes _ x h e = cc

-- what is not due is refused as bad
pub not_due : (s : CertStage) (x : CertLine) → is_due s (form_of x) ≡ false → stage_of s x ≡ Bad
not_due stage.K (line.K k) h = cc
not_due (stage.Count k) (line.Sections n) h = cc
not_due (stage.Between o) x h = begin_not o x h
not_due (stage.Nodes o m ns) x h = node_not o m ns x h
not_due (stage.Chains o s) (line.Chain c) h = cc
not_due (stage.Chains o s) x h = begin_not (close_of o s) x h
not_due _ x h = refl

-- what a stage takes is allowed
goes_on : (front : List (List ℕ)) (s m : CertStage) (x : CertLine) → Reads front s → IsLine x → stage_of s x ≡ Goes m
    → GoesOn front (form_of x)
goes_on front s m x r good e = record {
  next = x;
  good = good;
  same = refl;
  viable = viable (front ++ line_text x ∷ []) m
      (taken_text front s (line_text x) m r (taken_line s x r.begun good ∙ e));
}

begin_allowed : (front : List (List ℕ)) (s : CertStage) (o : Open) → Reads front s
    → ((i m : ℕ) → stage_of s (line.Section i m) ≡ begin_of o (line.Section i m)) →
    stage_of s line.End ≡ begin_of o line.End → o.count < 4294967296 → (f : Form) → begin_due o f ≡ true
    → GoesOn front f
begin_allowed front s o r next last small SectionForm h =
    goes_on front s (stage.Nodes o 0 []) (line.Section (length o.done) 0) r (grind (arith, nat_tests), omega arith)
    (next (length o.done) 0 ∙ rw (h, same (length o.done)) refl)
begin_allowed front s o r next last small EndForm h =
    goes_on front s (stage.Finished (cert_with o.k o.done)) line.End r tt (last ∙ go (nat_lt (length o.done) o.count) h)
  where
    go : (b : Bool) → not b ≡ true
        → cond b Bad (Goes (stage.Finished (cert_with o.k o.done))) ≡ Goes (stage.Finished (cert_with o.k o.done))
    go true h = cc
    go false h = refl
begin_allowed front s o r next last small _ h = cc

-- the last of chains is a line at the end
record LastChain (xs : List CertLine) : Type 0 where
  before : List CertLine
  chain : CertChain
  split : xs ≡ before ++ line.Chain chain ∷ []

last_chain : (c : CertChain) (cs : List CertChain) → LastChain (chains_lines (c ∷ cs) [])
last_chain c [] = record { before = []; chain = c; split = refl }
last_chain c (d ∷ cs) = let l : LastChain (chains_lines (d ∷ cs) []) = last_chain d cs in
    record { before = line.Chain c ∷ l.before; chain = l.chain; split = ap (λ x. line.Chain c ∷ x) l.split }

last_good : (xs : List CertLine) (x : CertLine) → AllByRecursion IsLine (xs ++ x ∷ []) → IsLine x
last_good [] x h = h.0
last_good (y ∷ xs) x h = last_good xs x h.1

chains_end : (front : List (List ℕ)) (o : Open) (s : CertSection) → Reads front (stage.Chains o s)
    → LastChain (chains_lines s.chains []) → EndsInChain front
chains_end front o s r l =
    let begun : List CertLine = line.Section (length o.done) (length s.nodes) ∷ nodes_lines 0 s.nodes
    (line.Entry s.entry ∷ l.before) in
    let lines : stage_lines (stage.Chains o s) [] ≡ open_lines o begun ++ line.Chain l.chain ∷ [] =
    ap
    (λ x. open_lines o (line.Section (length o.done) (length s.nodes) ∷ nodes_lines 0 s.nodes
    (line.Entry s.entry ∷ x))) l.split
    ∙ (ap (λ x. open_lines o (line.Section (length o.done) (length s.nodes) ∷ x))
    (nodes_split s.nodes 0 (line.Entry s.entry ∷ l.before) (line.Chain l.chain ∷ []))
    ∙ open_split o begun (line.Chain l.chain ∷ [])) in
    record {
      before = header_text ∷ map line_text (open_lines o begun);
      last = line.Chain l.chain;
      good = last_good (open_lines o begun) (line.Chain l.chain) (subst (AllByRecursion IsLine) lines r.good);
      chain = refl;
      split = r.lines ∙ (ap (λ x. header_text ∷ map line_text x) lines
          ∙ ap (λ x. header_text ∷ x) (map-append line_text (open_lines o begun) (line.Chain l.chain ∷ [])));
    }

-- a chain of one step, which may be the first of a section
abbrev first_chain : CertChain
first_chain = chain_with 0 (step_with 0 (lock.MakeClass 0) ∷ [])

chain_allowed : (front : List (List ℕ)) (o : Open) (s : CertSection) → Reads front (stage.Chains o s)
    → IsAllowed front ChainForm
chain_allowed front o s r = go s.chains refl
  where
    go : (cs : List CertChain) → s.chains ≡ cs → IsAllowed front ChainForm
    go [] e = inl (goes_on front (stage.Chains o s)
        (stage.Chains o (section_with s.nodes s.entry (s.chains ++ first_chain ∷ []))) (line.Chain first_chain) r
        (omega arith, (λ k. cc), ((omega arith, omega arith), tt))
        (ap (λ b. cond b (Goes (stage.Chains o (section_with s.nodes s.entry (s.chains ++ first_chain ∷ [])))) Odd)
        (ap (λ x. is_rising x 0) e)))
    go (c ∷ cs) e = inr (
      refl,
      chains_end front o s r
          (subst (λ x. LastChain (chains_lines x [])) (sym e) (last_chain c cs)),
    )

-- a form that is due is allowed: an example goes on so
pub allowed : (front : List (List ℕ)) (s : CertStage) → Reads front s → (f : Form) → is_due s f ≡ true
    → IsAllowed front f
allowed front stage.K r KForm h = inl (goes_on front stage.K (stage.Count 0) (line.K 0) r (omega arith) refl)
allowed front (stage.Count k) r SectionsForm h =
    inl (goes_on front (stage.Count k) (stage.Between (open_with k 0 [])) (line.Sections 0) r (omega arith) refl)
allowed front (stage.Between o) r f h =
    inl (begin_allowed front (stage.Between o) o r (λ i m. refl) refl r.good.1.0 f h)
allowed front (stage.Nodes o m ns) r NodeForm h =
    let low : m < 4294967296 = (behind_sections o.done 0 (line.Section (length o.done) m ∷ nodes_lines 0 ns [])
    r.good.1.1).0.1 in
    inl (goes_on front (stage.Nodes o m ns) (stage.Nodes o m (ns ++ [] ∷ [])) (line.Node (length ns) []) r
    (grind (arith, nat_tests), tt) (rw (h, same (length ns)) refl))
allowed front (stage.Nodes o m ns) r EntryForm h =
    inl (goes_on front (stage.Nodes o m ns) (stage.Chains o (section_with ns [] [])) (line.Entry []) r tt
    (go (nat_lt (length ns) m) h))
  where
    go : (b : Bool) → not b ≡ true
        → cond b Bad (Goes (stage.Chains o (section_with ns [] []))) ≡ Goes (stage.Chains o (section_with ns [] []))
    go true h = cc
    go false h = refl
allowed front (stage.Chains o s) r ChainForm h = chain_allowed front o s r
allowed front (stage.Chains o s) r f h =
    inl (begin_allowed front (stage.Chains o s) (close_of o s) r (λ i m. refl) refl r.good.1.0 f h)
allowed front _ r f h = cc

-- the text of the last line, behind a first one
abbrev last_text : List ℕ → List CertLine → List ℕ
last_text t [] = t
last_text t (x ∷ xs) = last_text (line_text x) xs

last_is : (t : List ℕ) (xs : List CertLine) (before : List (List ℕ)) (u : List ℕ)
    → t ∷ map line_text xs ≡ before ++ u ∷ [] → last_text t xs ≡ u
last_is t [] [] u h = cc
last_is t [] (b ∷ []) u h = cc
last_is t [] (b ∷ d ∷ before) u h = cc
last_is t (x ∷ xs) [] u h = cc
last_is t (x ∷ xs) (b ∷ before) u h = let e : line_text x ∷ map line_text xs ≡ before ++ u ∷ [] = cc in
    last_is (line_text x) xs before u e

last_append : (t : List ℕ) (xs ys : List CertLine) → last_text t (xs ++ ys) ≡ last_text (last_text t xs) ys
last_append t [] ys = refl
last_append t (x ∷ xs) ys = last_append (line_text x) xs ys

line_same : (x y : CertLine) → IsLine x → IsLine y → line_text x ≡ line_text y → x ≡ y
line_same x y g h e =
    let a : IsAgain x = line_again x g in
    let b : IsAgain y = line_again y h in
    let s : Some x ≡ Some y = sym a.line ∙ (ap (λ t. line_of (parts 32 (plain t))) e ∙ b.line) in cc

-- no line after the first has its text
pub not_header : (x : CertLine) → IsLine x → header_text ≡ line_text x → ⊥
not_header x h e = let a : IsAgain x = line_again x h in
    let none : None ≡ Some x = ap (λ t. line_of (parts 32 (plain t))) e ∙ a.line in cc

-- a line that isn't a chain, and then nodes, end in no chain
nodes_end : (x y : CertLine) → IsLine x → IsLine y → form_of y ≡ ChainForm → form_of x ≢ ChainForm
    → (ns : List (List CertLock)) (j : ℕ) → AllByRecursion IsLine (nodes_lines j ns []) →
    last_text (line_text x) (nodes_lines j ns []) ≡ line_text y → ⊥
nodes_end x y g h f n [] j k e = n (ap form_of (line_same x y g h e) ∙ f)
nodes_end x y g h f n (ls ∷ ns) j k e = nodes_end (line.Node j ls) y k.0 h f (λ w. cc) ns (j + 1) k.1 e

no_chain : (front : List (List ℕ)) (s : CertStage) → Reads front s → is_due s ChainForm ≡ false → EndsInChain front → ⊥
no_chain front s r d e = go s r d
    (last_is header_text (stage_lines s []) e.before (line_text e.last) (sym r.lines ∙ e.split))
  where
    differ : (x : CertLine) → IsLine x → form_of x ≢ ChainForm → line_text x ≡ line_text e.last → ⊥
    differ x g n h = n (ap form_of (line_same x e.last g e.good h) ∙ e.chain)

    go : (s : CertStage) → Reads front s → is_due s ChainForm ≡ false
        → last_text header_text (stage_lines s []) ≡ line_text e.last → ⊥
    go stage.Header r d h = absurd r.begun
    go stage.K r d h = not_header e.last e.good h
    go (stage.Count k) r d h = differ (line.K k) r.good.0 (λ w. cc) h
    go (stage.Between o) r d h = differ (line.Sections o.count) r.good.1.0 (λ w. cc)
        (ap (λ ss. last_text (line_text (line.Sections o.count)) (sections_lines 0 ss [])) r.sound ∙ h)
    go (stage.Nodes o m ns) r d h =
        let all : AllByRecursion IsLine (line.Section (length o.done) m ∷ nodes_lines 0 ns []) =
        behind_sections o.done 0 (line.Section (length o.done) m ∷ nodes_lines 0 ns []) r.good.1.1 in
        nodes_end (line.Section (length o.done) m) e.last all.0 e.good e.chain (λ w. cc) ns 0 all.1
        (sym (last_append header_text (open_lines o []) (line.Section (length o.done) m ∷ nodes_lines 0 ns []))
        ∙ (ap (last_text header_text) (sym (open_split o [] (line.Section (length o.done) m ∷ nodes_lines 0 ns [])))
        ∙ h))
    go (stage.Chains o s) r d h = cc
    go (stage.Finished c) r d h = differ line.End tt (λ w. cc)
        (sym (last_append (line_text (line.Sections (length c.sections))) (sections_lines 0 c.sections [])
        (line.End ∷ []))
        ∙ (ap (last_text (line_text (line.Sections (length c.sections))))
        (sym (sections_split c.sections 0 [] (line.End ∷ []))) ∙ h))

-- what is allowed is taken
pub allowed_is_due : (front : List (List ℕ)) (s : CertStage) → Reads front s → (f : Form) → IsAllowed front f
    → is_due s f ≡ false → ⊥
allowed_is_due front s r f a d = elim a [
  | inl g ↦ (let bad : read_of s (line_text g.next) ≡ Bad = taken_line s g.next r.begun g.good
      ∙ not_due s g.next (ap (is_due s) g.same ∙ d) in
      refused front s (line_text g.next) r.run (λ y. ap (λ k. goes k (λ m. read_all m y)) bad) g.viable)
  | inr e ↦ no_chain front s r (ap (is_due s) (sym e.0) ∙ d) e.1
]

-- no form is allowed before the first line
pub not_first : (f : Form) → IsAllowed [] f → ⊥
not_first f a = elim a [
  | inl g ↦ (let e : header_text ≡ line_text g.next = (let h = g.viable.3 in cc) in not_header g.next g.good e)
  | inr e ↦ (let h = e.1.split in go e.1.before (line_text e.1.last) h)
]
  where
    go : (before : List (List ℕ)) (u : List ℕ) → [] ≡ before ++ u ∷ [] → ⊥
    go [] u h = cc
    go (b ∷ before) u h = cc
