-- The lines of a section, one behind another.
use Rattle.std.proofs.Common.{◌≡◌, ℕ, ◌+◌, List, [], ◌∷◌, ◌++◌, length, refl, sym, ap, ◌∙◌, append_assoc, arith}
use Rattle.sect_cert.specs.{Texts.{nodes_lines, chains_lines, section_lines, lines_text}, Lines.{line_text}}
use Rattle.sect_cert.specs.{declared.lock.CertLock.{CertLock}, declared.certificate.CertChain.{CertChain}}
use Rattle.sect_cert.specs.{declared.certificate.CertSection.{CertSection}, declared.line.CertLine.{CertLine}}
use Rattle.sect_cert.specs.declared.line.CertLine.TheVariants as line

-- lines behind lines
pub joined : (xs ys : List CertLine) → lines_text (xs ++ ys) ≡ lines_text xs ++ lines_text ys
joined [] ys = refl
joined (x ∷ xs) ys =
    ap (λ t. line_text x ++ 10 ∷ t) (joined xs ys)
    ∙ sym (append_assoc (line_text x) (10 ∷ lines_text xs) (lines_text ys))

-- what follows the lines of nodes
nodes_then : (j : ℕ) (ns : List (List CertLock)) (w : List CertLine) → nodes_lines j ns w ≡ nodes_lines j ns [] ++ w
nodes_then j [] w = refl
nodes_then j (n ∷ ns) w = ap (λ x. line.Node j n ∷ x) (nodes_then (j + 1) ns w)

-- one node more
node_more : (j : ℕ) (ns : List (List CertLock)) (n : List CertLock)
    → nodes_lines j (ns ++ n ∷ []) [] ≡ nodes_lines j ns [] ++ line.Node (j + length ns) n ∷ []
node_more j [] n = let e : j ≡ j + 0 = omega arith in ap (λ m. line.Node m n ∷ []) e
node_more j (x ∷ ns) n =
    let e : j + 1 + length ns ≡ j + length (x ∷ ns) = omega arith in
    ap (λ t. line.Node j x ∷ t)
    (node_more (j + 1) ns n ∙ ap (λ m. nodes_lines (j + 1) ns [] ++ line.Node m n ∷ []) e)

pub next_node : (ns : List (List CertLock)) (n : List CertLock) (node : ℕ) (front old new : List ℕ) → length ns ≡ node
    → old ≡ front ++ lines_text (nodes_lines 0 ns []) → new ≡ old ++ lines_text (line.Node node n ∷ [])
    → new ≡ front ++ lines_text (nodes_lines 0 (ns ++ n ∷ []) [])
next_node ns n node front old new is before put =
    let e : node ≡ 0 + length ns = omega (arith, is) in
    let lines = nodes_lines 0 ns [] in
    put
    ∙ (ap (λ x. x ++ lines_text (line.Node node n ∷ [])) before
    ∙ (append_assoc front (lines_text lines) (lines_text (line.Node node n ∷ []))
    ∙ (ap (λ x. front ++ x) (sym (joined lines (line.Node node n ∷ [])))
    ∙ ap (λ x. front ++ lines_text x) (ap (λ m. lines ++ line.Node m n ∷ []) e ∙ sym (node_more 0 ns n)))))

-- one chain more
chain_more : (cs : List CertChain) (c : CertChain)
    → chains_lines (cs ++ c ∷ []) [] ≡ chains_lines cs [] ++ line.Chain c ∷ []
chain_more [] c = refl
chain_more (d ∷ cs) c = ap (λ x. line.Chain d ∷ x) (chain_more cs c)

pub next_chain : (cs : List CertChain) (c : CertChain) (front old new : List ℕ)
    → old ≡ front ++ lines_text (chains_lines cs []) → new ≡ old ++ lines_text (line.Chain c ∷ [])
    → new ≡ front ++ lines_text (chains_lines (cs ++ c ∷ []) [])
next_chain cs c front old new before put =
    let lines = chains_lines cs [] in
    put
    ∙ (ap (λ x. x ++ lines_text (line.Chain c ∷ [])) before
    ∙ (append_assoc front (lines_text lines) (lines_text (line.Chain c ∷ []))
    ∙ (ap (λ x. front ++ x) (sym (joined lines (line.Chain c ∷ [])))
    ∙ ap (λ x. front ++ lines_text x) (sym (chain_more cs c)))))

-- the lines of a section, piece by piece
section_joined : (i : ℕ) (s : CertSection)
    → lines_text (line.Section i (length s.nodes) ∷ section_lines s [])
    ≡ lines_text (line.Section i (length s.nodes) ∷ []) ++ (lines_text (nodes_lines 0 s.nodes [])
    ++ (lines_text (line.Entry s.entry ∷ []) ++ lines_text (chains_lines s.chains [])))
section_joined i s =
    let head = line.Section i (length s.nodes) ∷ [] in
    let nodes = nodes_lines 0 s.nodes [] in
    let entry = line.Entry s.entry ∷ [] in
    let chains = chains_lines s.chains [] in
    joined head (section_lines s [])
    ∙ ap (λ x. lines_text head ++ x)
    (ap lines_text (nodes_then 0 s.nodes (entry ++ chains))
    ∙ (joined nodes (entry ++ chains) ∙ ap (λ x. lines_text nodes ++ x) (joined entry chains)))

pub section_written : (i : ℕ) (s : CertSection) (old first second third new : List ℕ)
    → first ≡ old ++ lines_text (line.Section i (length s.nodes) ∷ [])
    → second ≡ first ++ lines_text (nodes_lines 0 s.nodes []) → third ≡ second ++ lines_text (line.Entry s.entry ∷ [])
    → new ≡ third ++ lines_text (chains_lines s.chains [])
    → new ≡ old ++ lines_text (line.Section i (length s.nodes) ∷ section_lines s [])
section_written i s old first second third new a b c d =
    let head = lines_text (line.Section i (length s.nodes) ∷ []) in
    let nodes = lines_text (nodes_lines 0 s.nodes []) in
    let entry = lines_text (line.Entry s.entry ∷ []) in
    let chains = lines_text (chains_lines s.chains []) in
    d
    ∙ (ap (λ x. x ++ chains) (c ∙ ap (λ x. x ++ entry) (b ∙ ap (λ x. x ++ nodes) a))
    ∙ (append_assoc ((old ++ head) ++ nodes) entry chains
    ∙ (append_assoc (old ++ head) nodes (entry ++ chains)
    ∙ (append_assoc old head (nodes ++ (entry ++ chains)) ∙ ap (λ x. old ++ x) (sym (section_joined i s))))))
