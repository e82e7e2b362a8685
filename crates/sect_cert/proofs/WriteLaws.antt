-- What is written piece by piece is the text of a certificate.
use Rattle.std.proofs.Common.{◌≡◌, ℕ, ◌+◌, List, [], ◌∷◌, ◌++◌, map, length, refl, sym, ◌∙◌, ap, append-nil}
use Rattle.std.proofs.Common.{append_assoc, drop, ◌≤◌, ◌<◌, Some, arith}
use Rattle.std.proofs.lemmas.List.{at_drop_all, drop_more, flat_map_more, take_more, length-take-le}
use Rattle.std.proofs.lemmas.Option.{get_or_from_slice_get}
use Rattle.std.specs.{Prelude.{codes, slice_get, take}, Option.{option_map}, Fmt.{decimal}}
use Rattle.std.specs.List.{join_with_byte, flat_map}
use Rattle.sect_cert.specs.{Paths.{base_text, path_text}, Spelling.{spaced, lock_words, some_words, list_words}}
use Rattle.sect_cert.specs.Spelling.{step_words}
use Rattle.sect_cert.specs.{Spelling.{steps_words, chain_words}, Lines.{line_text}}
use Rattle.sect_cert.specs.Texts.{nodes_lines, chains_lines, section_lines, sections_lines, header_text, fed}
use Rattle.sect_cert.specs.{Texts.{certificate_text, lines_text, begun_text}, declared.lock.CertPath.{CertPath}}
use Rattle.sect_cert.specs.{declared.lock.CertLock.{CertLock}, declared.certificate.CertStep.{CertStep}}
use Rattle.sect_cert.specs.{declared.certificate.CertChain.{CertChain}, declared.certificate.CertSection.{CertSection}}
use Rattle.sect_cert.specs.{declared.certificate.Cert.{Cert}, declared.line.CertLine.{CertLine}}
use Rattle.sect_cert.specs.steps.Writes.{field_text, lock_text, next_lock, step_text, next_step, fed_line}
use Rattle.sect_cert.specs.steps.Writes.{nodes_text, chain_text, section_text, sections_text, IsListBefore}
use Rattle.sect_cert.specs.steps.Writes.{IsLockBefore, arrow_before, front_text}
use Rattle.sect_cert.proofs.Counts.{at_of}
use Rattle.sect_cert.specs.declared.lock.CertLock.TheVariants as lock
use Rattle.sect_cert.specs.declared.line.CertLine.TheVariants as line

path_joined : (base : List ℕ) (fields : List (List ℕ)) → join_with_byte 46 (base ∷ fields) ≡ base
    ++ flat_map field_text fields
path_joined base [] = sym (append-nil base)
path_joined base (f ∷ fs) = ap (λ x. base ++ 46 ∷ x) (path_joined f fs)

pub line_joined : (head : List ℕ) (ws : List (List ℕ)) → join_with_byte 32 (head ∷ ws) ≡ head ++ spaced ws
line_joined head [] = sym (append-nil head)
line_joined head (w ∷ ws) = ap (λ x. head ++ 32 ∷ x) (line_joined w ws)

-- a lock, and what ends and follows it
lock_spaced : (l : CertLock) (end : List ℕ) (ws : List (List ℕ)) → spaced (lock_words l end ws) ≡ lock_text l
    ++ (end ++ spaced ws)
lock_spaced l end ws = go l
  where
    last : (w : List ℕ) → (w ++ end) ++ spaced ws ≡ (w ++ []) ++ (end ++ spaced ws)
    last w = append_assoc w end (spaced ws) ∙ ap (λ x. x ++ (end ++ spaced ws)) (sym (append-nil w))

    last_bare : (w : List ℕ) → (w ++ end) ++ spaced ws ≡ ((w ++ []) ++ []) ++ (end ++ spaced ws)
    last_bare w = last w ∙ ap (λ x. x ++ (end ++ spaced ws)) (sym (append-nil (w ++ [])))

    go : (l : CertLock) → spaced (lock_words l end ws) ≡ lock_text l ++ (end ++ spaced ws)
    go lock.WriteAll = ap (λ x. codes " W " ++ x) (last_bare (codes "all"))
    go (lock.ReadPath p) = ap (λ x. codes " R " ++ x) (last_bare (path_text p))
    go (lock.WritePath p) = ap (λ x. codes " W " ++ x) (last_bare (path_text p))
    go (lock.ReadClass c) = ap (λ x. codes " R class " ++ x) (last_bare (decimal c))
    go (lock.WriteClass c) = ap (λ x. codes " W class " ++ x) (last_bare (decimal c))
    go (lock.MakeClass c) = ap (λ x. codes " M class " ++ x) (last_bare (decimal c))

some_spaced : (l : CertLock) (ls : List CertLock) → spaced (some_words l ls) ≡ lock_text l ++ flat_map next_lock ls
some_spaced l [] = sym (append-nil (lock_text l))
some_spaced l (k ∷ ls) = lock_spaced l (codes ",") (some_words k ls)
    ∙ ap (λ x. lock_text l ++ 44 ∷ x) (some_spaced k ls)

step_spaced : (s : CertStep) (ws : List (List ℕ)) → spaced (step_words s ws) ≡ step_text s ++ spaced ws
step_spaced s ws =
    ap (λ x. 32 ∷ (decimal s.node ++ x)) (lock_spaced s.lock [] ws)
    ∙ ap (λ x. 32 ∷ x) (sym (append_assoc (decimal s.node) (lock_text s.lock) (spaced ws)))

steps_spaced : (s : CertStep) (ss : List CertStep) → spaced (steps_words s ss) ≡ step_text s ++ flat_map next_step ss
steps_spaced s [] = sym (append-nil (step_text s))
steps_spaced s (t ∷ ss) = step_spaced s (codes ">" ∷ steps_words t ss)
    ∙ ap (λ x. step_text s ++ 32 ∷ 62 ∷ x) (steps_spaced t ss)

-- a first piece, and the others by a loop that has come to its end
behind_first : {A : Type 0} (f : A → List ℕ) (xs : List A) (i : ℕ) (old first whole front text : List ℕ)
    → front ≡ old ++ first → length xs ≤ i →
    whole ++ flat_map f (drop i xs) ≡ front ++ flat_map f xs → text ≡ first ++ flat_map f xs → whole ≡ old ++ text
behind_first f xs i old first whole front text h low g e =
    sym (append-nil whole)
    ∙ (ap (λ x. whole ++ x) (sym (at_drop_all (flat_map f) xs i low))
    ∙ (g ∙ (ap (λ x. x ++ flat_map f xs) h ∙ (append_assoc old first (flat_map f xs) ∙ ap (λ x. old ++ x) (sym e)))))

-- what is written of paths, lists and chains, a first element and then the others
pub path_written : (p : CertPath) (i : ℕ) (old whole front : List ℕ) → front ≡ old ++ 32 ∷ base_text p.base
    → length p.fields ≤ i →
    whole ++ flat_map field_text (drop i p.fields) ≡ front ++ flat_map field_text p.fields
    → whole ≡ old ++ 32 ∷ path_text p
path_written p i old whole front h low g =
    behind_first field_text p.fields i old (32 ∷ base_text p.base) whole front (32 ∷ path_text p) h low g
    (ap (λ x. 32 ∷ x) (path_joined (base_text p.base) p.fields))

pub list_written : (l : CertLock) (ls : List CertLock) (i : ℕ) (old whole front : List ℕ) → front ≡ old ++ lock_text l
    → length ls ≤ i →
    whole ++ flat_map next_lock (drop i ls) ≡ front ++ flat_map next_lock ls
    → whole ≡ old ++ spaced (list_words (l ∷ ls))
list_written l ls i old whole front h low g =
    behind_first next_lock ls i old (lock_text l) whole front (spaced (list_words (l ∷ ls))) h low g (some_spaced l ls)

arrow_more : (ss : List CertStep) (x : CertStep)
    → spaced (chain_words (ss ++ x ∷ [])) ≡ spaced (chain_words ss) ++ (arrow_before (length ss) ++ step_text x)
arrow_more [] x = refl
arrow_more (s ∷ ss) x =
    steps_spaced s (ss ++ x ∷ [])
    ∙ (ap (λ t. step_text s ++ t) (sym (flat_map_more next_step [] ss x))
    ∙ (sym (append_assoc (step_text s) (flat_map next_step ss) (next_step x))
    ∙ ap (λ t. t ++ next_step x) (sym (steps_spaced s ss))))

-- a line: its first word, a number before a colon, and the words behind it
numbered : (old head digits : List ℕ) (ws : List (List ℕ)) →
    ((((old ++ head) ++ 32 ∷ digits) ++ 58 ∷ []) ++ spaced ws) ++ 10 ∷ [] ≡ old
    ++ ((head ++ 32 ∷ join_with_byte 32 ((digits ++ 58 ∷ []) ∷ ws)) ++ 10 ∷ [])
numbered old head digits ws =
    let number : List ℕ = 32 ∷ (digits ++ 58 ∷ []) in
    ap (λ x. (x ++ spaced ws) ++ 10 ∷ []) (append_assoc (old ++ head) (32 ∷ digits) (58 ∷ []))
    ∙ (ap (λ x. x ++ 10 ∷ []) (append_assoc (old ++ head) number (spaced ws)
    ∙ append_assoc old head (number ++ spaced ws))
    ∙ (append_assoc old (head ++ (number ++ spaced ws)) (10 ∷ [])
    ∙ ap (λ x. old ++ ((head ++ 32 ∷ x) ++ 10 ∷ [])) (sym (line_joined (digits ++ 58 ∷ []) ws))))

-- what is written of lines
pub node_written : (old : List ℕ) (j : ℕ) (ls : List CertLock)
    → ((((old ++ codes "node") ++ 32 ∷ decimal j) ++ 58 ∷ []) ++ spaced (list_words ls)) ++ 10 ∷ [] ≡ old
    ++ fed_line (line.Node j ls)
node_written old j ls = numbered old (codes "node") (decimal j) (list_words ls)

pub chain_written : (old : List ℕ) (c : CertChain) →
    ((((old ++ codes "chain") ++ 32 ∷ decimal c.lock) ++ 58 ∷ []) ++ spaced (chain_words c.steps)) ++ 10 ∷ [] ≡ old
    ++ chain_text c
chain_written old c = numbered old (codes "chain") (decimal c.lock) (chain_words c.steps)

pub entry_written : (old : List ℕ) (ls : List CertLock) → ((old ++ codes "entry:") ++ spaced (list_words ls))
    ++ 10 ∷ [] ≡ old ++ fed_line (line.Entry ls)
entry_written old ls =
    ap (λ x. x ++ 10 ∷ []) (append_assoc old (codes "entry:") (spaced (list_words ls)))
    ∙ (append_assoc old (codes "entry:" ++ spaced (list_words ls)) (10 ∷ [])
    ∙ ap (λ x. old ++ (x ++ 10 ∷ [])) (sym (line_joined (codes "entry:") (list_words ls))))

-- lines, each with its line feed
fed_one : (x : CertLine) (xs : List CertLine) → fed (map line_text (x ∷ xs)) ≡ fed_line x ++ fed (map line_text xs)
fed_one x xs = sym (append_assoc (line_text x) (10 ∷ []) (fed (map line_text xs)))

nodes_written : (ns : List (List CertLock)) (j : ℕ) (w : List CertLine)
    → fed (map line_text (nodes_lines j ns w)) ≡ nodes_text j ns ++ fed (map line_text w)
nodes_written [] j w = refl
nodes_written (ls ∷ ns) j w =
    fed_one (line.Node j ls) (nodes_lines (j + 1) ns w)
    ∙ (ap (λ x. fed_line (line.Node j ls) ++ x) (nodes_written ns (j + 1) w)
    ∙ sym (append_assoc (fed_line (line.Node j ls)) (nodes_text (j + 1) ns) (fed (map line_text w))))

chains_written : (cs : List CertChain) (w : List CertLine)
    → fed (map line_text (chains_lines cs w)) ≡ flat_map chain_text cs ++ fed (map line_text w)
chains_written [] w = refl
chains_written (c ∷ cs) w =
    fed_one (line.Chain c) (chains_lines cs w)
    ∙ (ap (λ x. chain_text c ++ x) (chains_written cs w)
    ∙ sym (append_assoc (chain_text c) (flat_map chain_text cs) (fed (map line_text w))))

section_written : (i : ℕ) (s : CertSection) (w : List CertLine)
    → fed (map line_text (line.Section i (length s.nodes) ∷ section_lines s w)) ≡ section_text i s
    ++ fed (map line_text w)
section_written i s w =
    let head : List ℕ = fed_line (line.Section i (length s.nodes)) in
    let nodes : List ℕ = nodes_text 0 s.nodes in
    let entry : List ℕ = fed_line (line.Entry s.entry) in
    let chains : List ℕ = flat_map chain_text s.chains in
    let rest : List ℕ = fed (map line_text w) in
    fed_one (line.Section i (length s.nodes)) (section_lines s w)
    ∙ (ap (λ x. head ++ x) (nodes_written s.nodes 0 (line.Entry s.entry ∷ chains_lines s.chains w)
    ∙ (ap (λ x. nodes ++ x) (fed_one (line.Entry s.entry) (chains_lines s.chains w)
    ∙ (ap (λ x. entry ++ x) (chains_written s.chains w) ∙ sym (append_assoc entry chains rest)))
    ∙ sym (append_assoc nodes (entry ++ chains) rest)))
    ∙ sym (append_assoc head (nodes ++ (entry ++ chains)) rest))

sections_written : (ss : List CertSection) (i : ℕ) (w : List CertLine)
    → fed (map line_text (sections_lines i ss w)) ≡ sections_text i ss ++ fed (map line_text w)
sections_written [] i w = refl
sections_written (s ∷ ss) i w =
    section_written i s (sections_lines (i + 1) ss w)
    ∙ (ap (λ x. section_text i s ++ x) (sections_written ss (i + 1) w)
    ∙ sym (append_assoc (section_text i s) (sections_text (i + 1) ss) (fed (map line_text w))))

pub front_written : (old : List ℕ) (k n : ℕ) →
    ((((old ++ codes "sect-cert 2\nk") ++ 32 ∷ decimal k) ++ codes "\nsections") ++ 32 ∷ decimal n) ++ 10 ∷ []
    ≡ old ++ (header_text ++ 10 ∷ (fed_line (line.K k) ++ fed_line (line.Sections n)))
front_written old k n =
    let begun : List ℕ = codes "sect-cert 2\nk" in
    let first : List ℕ = 32 ∷ decimal k in
    let last : List ℕ = 32 ∷ (decimal n ++ 10 ∷ []) in
    let rest : List ℕ = codes "sections" ++ last in
    append_assoc (((old ++ begun) ++ first) ++ codes "\nsections") (32 ∷ decimal n) (10 ∷ [])
    ∙ (append_assoc ((old ++ begun) ++ first) (codes "\nsections") last
    ∙ (append_assoc (old ++ begun) first (10 ∷ rest)
    ∙ (append_assoc old begun (first ++ 10 ∷ rest)
    ∙ ap (λ x. old ++ (begun ++ x)) (sym (append_assoc first (10 ∷ []) rest)))))

-- the lines before the first section, and those of sections
begun_written : (k count : ℕ) (ss : List CertSection) → front_text k count ++ sections_text 0 ss ≡ begun_text k count ss
begun_written k count ss =
    let first : List ℕ = fed_line (line.K k) in
    let second : List ℕ = fed_line (line.Sections count) in
    let rest : List CertLine = sections_lines 0 ss [] in
    ap (λ x. header_text ++ 10 ∷ x)
    (append_assoc first second (sections_text 0 ss)
    ∙ sym (fed_one (line.K k) (line.Sections count ∷ rest)
    ∙ ap (λ x. first ++ x) (fed_one (line.Sections count) rest
    ∙ ap (λ x. second ++ x) (sections_written ss 0 [] ∙ append-nil (sections_text 0 ss)))))

-- no section is written yet
pub none_written : (k count : ℕ) → front_text k count ≡ begun_text k count []
none_written k count = sym (append-nil (front_text k count)) ∙ begun_written k count []

-- the lines of one section more
sections_more : (i : ℕ) (ss : List CertSection) (s : CertSection)
    → sections_text i (ss ++ s ∷ []) ≡ sections_text i ss ++ section_text (i + length ss) s
sections_more i [] s =
    let e : i ≡ i + 0 = omega arith in append-nil (section_text i s) ∙ ap (λ n. section_text n s) e
sections_more i (x ∷ ss) s =
    let e : i + 1 + length ss ≡ i + length (x ∷ ss) = omega arith in
    ap (λ t. section_text i x ++ t)
    (sections_more (i + 1) ss s ∙ ap (λ n. sections_text (i + 1) ss ++ section_text n s) e)
    ∙ sym (append_assoc (section_text i x) (sections_text (i + 1) ss) (section_text (i + length (x ∷ ss)) s))

pub next_section_written : (k count number : ℕ) (before : List CertSection) (s : CertSection) (old new : List ℕ)
    → new ≡ old ++ section_text number s → length before ≡ number → old ≡ begun_text k count before
    → new ≡ begun_text k count (before ++ s ∷ [])
next_section_written k count number before s old new put is begun =
    let front = front_text k count in
    let e : number ≡ 0 + length before = omega (arith, is) in
    put
    ∙ (ap (λ x. x ++ section_text number s) (begun ∙ sym (begun_written k count before))
    ∙ (append_assoc front (sections_text 0 before) (section_text number s)
    ∙ (ap (λ n. front ++ (sections_text 0 before ++ section_text n s)) e
    ∙ (ap (λ x. front ++ x) (sym (sections_more 0 before s)) ∙ begun_written k count (before ++ s ∷ [])))))

-- and so are its lines
pub section_of_lines : (k count : ℕ) (before : List CertSection) (s : CertSection)
    → begun_text k count (before ++ s ∷ []) ≡ begun_text k count before
    ++ lines_text (line.Section (length before) (length s.nodes) ∷ section_lines s [])
section_of_lines k count before s =
    let i = length before in
    let old = begun_text k count before in
    sym (next_section_written k count i before s old (old ++ section_text i s) refl refl refl)
    ∙ ap (λ x. old ++ x) (sym (section_written i s [] ∙ append-nil (section_text i s)))

-- all sections are written, and the last line
pub cert_written : (c : Cert) (old new : List ℕ) → new ≡ old ++ codes "end\n"
    → old ≡ begun_text c.k (length c.sections) c.sections → new ≡ certificate_text c
cert_written c old new put begun =
    let first : List ℕ = fed_line (line.K c.k) in
    let second : List ℕ = fed_line (line.Sections (length c.sections)) in
    let sections : List ℕ = sections_text 0 c.sections in
    let rest : List CertLine = sections_lines 0 c.sections (line.End ∷ []) in
    put
    ∙ ap (λ x. x ++ codes "end\n") (begun ∙ sym (begun_written c.k (length c.sections) c.sections))
    ∙ append_assoc (front_text c.k (length c.sections)) sections (codes "end\n")
    ∙ ap (λ x. header_text ++ 10 ∷ x)
    (append_assoc first second (sections ++ codes "end\n")
    ∙ sym (fed_one (line.K c.k) (line.Sections (length c.sections) ∷ rest)
    ∙ ap (λ x. first ++ x) (fed_one (line.Sections (length c.sections)) rest
    ∙ ap (λ x. second ++ x) (sections_written c.sections 0 (line.End ∷ [])))))

-- the line of one more node, by the text of its list
pub next_node_written : (nodes : List (List CertLock)) (node : ℕ) (old list new whole : List ℕ) → node < length nodes
    → old ++ nodes_text node (drop node nodes) ≡ whole
    → ((locks : List CertLock) → list ≡ spaced (list_words locks) → new ≡ old ++ fed_line (line.Node node locks))
    → IsListBefore nodes (node + 1) list → new ++ nodes_text (node + 1) (drop (node + 1) nodes) ≡ whole
next_node_written nodes node old list new whole within before one is =
    let at = at_of nodes node within in
    let rest : drop node nodes ≡ at.0 ∷ drop (node + 1) nodes =
    drop_more nodes node at.0 within
    ∙ ap (λ x. x ∷ drop (node + 1) nodes) (get_or_from_slice_get nodes node at.0 at.0 at.1) in
    ap (λ x. x ++ nodes_text (node + 1) (drop (node + 1) nodes)) (one at.0 (is node at.0 refl at.1))
    ∙ append_assoc old (fed_line (line.Node node at.0)) (nodes_text (node + 1) (drop (node + 1) nodes))
    ∙ ap (λ x. old ++ nodes_text node x) (sym rest)
    ∙ before

-- one step more, by the text of its lock
pub next_step_written : (steps : List CertStep) (index node : ℕ) (old lock out new : List ℕ) → index < length steps
    → option_map (λ (x : CertStep). x.node) (slice_get steps index) ≡ Some node → IsLockBefore steps (index + 1) lock
    → out ≡ old ++ spaced (chain_words (take index steps))
    → new ≡ out ++ (arrow_before index ++ 32 ∷ (decimal node ++ lock))
    → new ≡ old ++ spaced (chain_words (take (index + 1) steps))
next_step_written steps index node old lock out new within at_node at_lock before is =
    let at = at_of steps index within in
    let x = at.0 in
    let first = take index steps in
    let rest : take (index + 1) steps ≡ first ++ x ∷ [] =
    take_more steps index x within ∙ ap (λ y. first ++ y ∷ []) (get_or_from_slice_get steps index x x at.1) in
    let count : length first ≡ index = length-take-le index steps (omega (arith, within)) in
    let number : Some x.node ≡ Some node =
    sym (ap (option_map (λ (y : CertStep). y.node)) at.1) ∙ at_node in
    let same : node ≡ x.node = cc in
    let text : lock ≡ lock_text x.lock = at_lock index x refl at.1 in
    is
    ∙ (ap (λ y. y ++ (arrow_before index ++ 32 ∷ (decimal node ++ lock))) before
    ∙ (ap (λ y. (old ++ spaced (chain_words first)) ++ (arrow_before index ++ 32 ∷ (decimal node ++ y))) text
    ∙ (ap (λ n. (old ++ spaced (chain_words first)) ++ (arrow_before index ++ 32 ∷ (decimal n ++ lock_text x.lock)))
    same
    ∙ (append_assoc old (spaced (chain_words first)) (arrow_before index ++ step_text x)
    ∙ (ap (λ n. old ++ (spaced (chain_words first) ++ (arrow_before n ++ step_text x))) (sym count)
    ∙ (ap (λ y. old ++ y) (sym (arrow_more first x))
    ∙ ap (λ ss. old ++ spaced (chain_words ss)) (sym rest)))))))
