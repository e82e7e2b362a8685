-- A line of a node whose list is the one before is taken with that list.
use Rattle.std.proofs.Common.{◌≡◌, ℕ, ◌-◌, ◌<◌, Bool, true, false, cond, eqb, nat_lt, List, [], ◌∷◌, ◌++◌, Option, Some}
use Rattle.std.proofs.Common.{None, length, refl, sym, ◌∙◌, ap, subst, arith, length-append, append_assoc}
use Rattle.std.proofs.{lemmas.Bool.{eqb-true, lt-ltb}, lemmas.List.{same_from_push}}
use Rattle.std.proofs.lemmas.List.Splits.{join_with_byte-slice_split}
use Rattle.std.specs.{Prelude.{slice_get, codes}, Fmt.{decimal}, Str.{bytes_eq}, List.{join_with_byte}}
use Rattle.sect_front.specs.Words.{is_digit}
use Rattle.sect_cert.specs.{Parts.{parts}, Zeros.{plain, is_exact}, Spelling.{list_words}, Lines.{line_text}}
use Rattle.sect_cert.specs.{Texts.{IsLine, IsNumber}, declared.lock.CertLock.{CertLock}}
use Rattle.sect_cert.specs.{declared.certificate.CertSection.{CertSection}, declared.line.CertLine.{CertLine}}
use Rattle.sect_cert.specs.{declared.stage.Open.{Open}, declared.stage.CertStage.{CertStage}}
use Rattle.sect_cert.specs.{Spelling.{spaced}, steps.{Reading.{line_of, only_number}, Again.{RepeatsList, IsAfter}}}
use Rattle.sect_cert.specs.steps.Certificates.{section_with, cert_with, is_rising}
use Rattle.sect_cert.specs.steps.Stages.{Next, Goes, Bad, Odd, begin_of, close_of, node_of, chain_of, stage_of, judged}
use Rattle.sect_cert.specs.steps.Stages.{read_words, header_of, later_of, read_of, is_header_due}
use Rattle.sect_cert.proofs.{Counts.{same, last_at}, PartsLaws.{lacks_append, bytes_lack, parts_front}}
use Rattle.sect_cert.proofs.{NumberLaws.{digits_of_decimal}, WriteLaws.{line_joined}}
use Rattle.sect_cert.proofs.{LineLaws.{IsTaken, line_takes, only_take}, CutTexts.{some_parts, same_bytes}}
use Rattle.sect_cert.proofs.Readings.{taken_line}
use Rattle.sect_cert.specs.declared.line.CertLine.TheVariants as line
use Rattle.sect_cert.specs.declared.stage.CertStage.TheVariants as stage

-- a stage where no node's list was taken last
after_other : (s t : CertStage) (text : List ℕ) → Goes s ≡ Goes t → IsAfter s text → IsAfter t text
after_other s t text e h = let is : s ≡ t = cc in subst (λ y. IsAfter y text) is h

none_yet : (o : Open) (m : ℕ) (text : List ℕ) → IsAfter (stage.Nodes o m []) text
none_yet o m text front last e = absurd (omega (arith, ap length e, length-append front (last ∷ [])))

after_begin : (o : Open) (x : CertLine) (t : CertStage) (text : List ℕ) → begin_of o x ≡ Goes t → IsAfter t text
after_begin o (line.Section i m) t text e = go (nat_lt (length o.done) o.count) (eqb i (length o.done)) e
  where
    go : (b c : Bool) → cond b (cond c (Goes (stage.Nodes o m [])) Odd) Bad ≡ Goes t → IsAfter t text
    go true true e = after_other (stage.Nodes o m []) t text e (none_yet o m text)
    go true false e = absurd cc
    go false c e = absurd cc
after_begin o line.End t text e = go (nat_lt (length o.done) o.count) e
  where
    go : (b : Bool) → cond b Bad (Goes (stage.Finished (cert_with o.k o.done))) ≡ Goes t → IsAfter t text
    go true e = absurd cc
    go false e = after_other (stage.Finished (cert_with o.k o.done)) t text e tt
after_begin o _ t text e = absurd cc

after_node : (o : Open) (m : ℕ) (ns : List (List CertLock)) (x : CertLine) (t : CertStage) (text : List ℕ)
    → node_of o m ns x ≡ Goes t → IsTaken text x → IsAfter t text
after_node o m ns (line.Node j ls) t text e k = go (nat_lt (length ns) m) (eqb j (length ns)) refl e
  where
    go : (b c : Bool) → eqb j (length ns) ≡ c
        → cond b (cond c (Goes (stage.Nodes o m (ns ++ ls ∷ []))) Odd) Bad ≡ Goes t → IsAfter t text
    go true true f e = after_other (stage.Nodes o m (ns ++ ls ∷ [])) t text e (λ front last g.
        let p = same_from_push ns front ls last g in
        let same_line : line.Node j ls ≡ line.Node (length front) last =
        ap (λ n. line.Node n ls) (eqb-true j (length ns) f ∙ ap length p.0) ∙ ap (line.Node (length front)) p.1 in
        (k.text ∙ ap line_text same_line, subst IsLine same_line k.good))
    go true false f e = absurd cc
    go false c f e = absurd cc
after_node o m ns (line.Entry ls) t text e k = go (nat_lt (length ns) m) e
  where
    go : (b : Bool) → cond b Bad (Goes (stage.Chains o (section_with ns ls []))) ≡ Goes t → IsAfter t text
    go true e = absurd cc
    go false e = after_other (stage.Chains o (section_with ns ls [])) t text e tt
after_node o m ns _ t text e k = absurd cc

after_chain : (o : Open) (s : CertSection) (x : CertLine) (t : CertStage) (text : List ℕ)
    → chain_of o s x ≡ Goes t → IsAfter t text
after_chain o s (line.Chain c) t text e = go (is_rising s.chains c.lock) e
  where
    go : (b : Bool) → cond b (Goes (stage.Chains o (section_with s.nodes s.entry (s.chains ++ c ∷ [])))) Odd ≡ Goes t
        → IsAfter t text
    go true e = after_other (stage.Chains o (section_with s.nodes s.entry (s.chains ++ c ∷ []))) t text e tt
    go false e = absurd cc
after_chain o s x t text e = after_begin (close_of o s) x t text e

after_stage : (s : CertStage) (x : CertLine) (t : CertStage) (text : List ℕ) → stage_of s x ≡ Goes t
    → IsTaken text x → IsAfter t text
after_stage stage.K (line.K n) t text e k = after_other (stage.Count n) t text e tt
after_stage (stage.Count n) (line.Sections m) t text e k = after_other (stage.Between _) t text e tt
after_stage (stage.Between o) x t text e k = after_begin o x t text e
after_stage (stage.Nodes o m ns) x t text e k = after_node o m ns x t text e k
after_stage (stage.Chains o s) x t text e k = after_chain o s x t text e
after_stage _ x t text e k = absurd cc

-- what is known after each line
pub after_line : (s : CertStage) (text : List ℕ) (t : CertStage) → read_of s text ≡ Goes t → IsAfter t text
after_line s text t e = go (is_header_due s) e
  where
    first : (b : Bool) → cond b (Goes stage.K) Bad ≡ Goes t → IsAfter t text
    first true e = after_other stage.K t text e tt
    first false e = absurd cc

    is_judged : (n : Next) → judged true n ≡ Goes t → n ≡ Goes t
    is_judged (Goes s) e = e
    is_judged Bad e = e
    is_judged Odd e = e

    not_judged : (n : Next) → judged false n ≡ Goes t → IsAfter t text
    not_judged (Goes s) e = absurd cc
    not_judged Bad e = absurd cc
    not_judged Odd e = absurd cc

    later : (o : Option CertLine) → line_of (parts 32 (plain text)) ≡ o → (b : Bool) → is_exact text ≡ b
        → read_words s o b ≡ Goes t → IsAfter t text
    later None f b g e = absurd cc
    later (Some x) f true g e = after_stage s x t text (is_judged (stage_of s x) e) (line_takes text x f g)
    later (Some x) f false g e = not_judged (stage_of s x) e

    go : (b : Bool) → cond b (header_of text) (later_of s text) ≡ Goes t → IsAfter t text
    go true e = first _ e
    go false e = later (line_of (parts 32 (plain text))) refl (is_exact text) refl e

-- a list that isn't empty has a last element
last_of : {X : Type 0} (x : X) (xs : List X) → (front : List X) × (last : X) × (x ∷ xs ≡ front ++ last ∷ [])
last_of x [] = ([], x, refl)
last_of x (y ∷ xs) = let r = last_of y xs in (x ∷ r.0, r.1, ap (λ ys. x ∷ ys) r.2)

some_last : {X : Type 0} (xs : List X) → 0 < length xs → (front : List X) × (last : X) × (xs ≡ front ++ last ∷ [])
some_last [] h = absurd (omega (arith, h))
some_last (x ∷ xs) h = last_of x xs

-- the text of a node's line, up to its colon and behind it
node_text : (j : ℕ) (ls : List CertLock)
    → line_text (line.Node j ls) ≡ codes "node " ++ (decimal j ++ 58 ∷ spaced (list_words ls))
node_text j ls =
    line_joined (codes "node") ((decimal j ++ codes ":") ∷ list_words ls)
    ∙ ap (λ x. codes "node " ++ x) (append_assoc (decimal j) (codes ":") (spaced (list_words ls)))

node_parts : (j : ℕ) (ls : List CertLock) → IsNumber j
    → parts 58 (line_text (line.Node j ls)) ≡ (codes "node " ++ decimal j) ∷ parts 58 (spaced (list_words ls))
node_parts j ls h =
    ap (parts 58) (node_text j ls ∙ sym (append_assoc (codes "node ") (decimal j) (58 ∷ spaced (list_words ls))))
    ∙ parts_front 58 (codes "node " ++ decimal j) (spaced (list_words ls))
    (lacks_append 58 (codes "node ") (decimal j) refl (bytes_lack is_digit 58 refl (decimal j) (digits_of_decimal j h)))

same_list : (head other list list2 : List ℕ) → head ∷ parts 58 list ≡ other ∷ parts 58 list2 → list ≡ list2
same_list head other list list2 e =
    let same_parts : parts 58 list ≡ parts 58 list2 = cc in
    sym (join_with_byte-slice_split 58 list) ∙ ap (join_with_byte 58) same_parts ∙ join_with_byte-slice_split 58 list2

-- a line of the next node with the list of the line before is taken with the last list
pub taken_again : (o : Open) (m : ℕ) (ns lists : List (List CertLock)) (before text : List ℕ)
    → IsAfter (stage.Nodes o m ns) before → 0 < length ns → length ns < m → m < 4294967296
    → RepeatsList before text (length ns)
    → ((last : List CertLock) → slice_get ns (length ns - 1) ≡ Some last → lists ≡ ns ++ last ∷ [])
    → later_of (stage.Nodes o m ns) text ≡ Goes (stage.Nodes o m lists)
taken_again o m ns lists before text after some more few r again =
    let parted = some_last ns some in
    let front = parted.0 in
    let last = parted.1 in
    let known = after front last parted.2 in
    let words : r.list ≡ spaced (list_words last) =
    same_list r.head (codes "node " ++ decimal (length front)) r.list (spaced (list_words last))
    (sym r.old ∙ ap (parts 58) known.0 ∙ node_parts (length front) last known.1.0) in
    let is : text ≡ line_text (line.Node (length ns) last) =
    r.new ∙ ap (λ x. codes "node " ++ (decimal (length ns) ++ 58 ∷ x)) words ∙ sym (node_text (length ns) last) in
    let there : slice_get ns (length ns - 1) ≡ Some last =
    ap (λ xs. slice_get xs (length ns - 1)) parted.2
    ∙ ap (slice_get (front ++ last ∷ []))
    (let n : length ns - 1 ≡ length front =
    omega (arith, ap length parted.2, length-append front (last ∷ [])) in n)
    ∙ last_at front last in
    let takes : stage_of (stage.Nodes o m ns) (line.Node (length ns) last) ≡ Goes (stage.Nodes o m (ns ++ last ∷ [])) =
    rw (lt-ltb (length ns) m more, same (length ns)) refl in
    ap (later_of (stage.Nodes o m ns)) is
    ∙ taken_line (stage.Nodes o m ns) (line.Node (length ns) last) tt (omega (arith, more, few), known.1.1)
    ∙ takes
    ∙ ap (λ ls. Goes (stage.Nodes o m ls)) (sym (again last there))

-- what begins the line of a node
pub node_head : (head word : List ℕ) (words : List (List ℕ)) (found number : ℕ) → parts 32 head ≡ word ∷ words
    → word ≡ codes "node" → only_number words ≡ Some found → found ≡ number
    → head ≡ codes "node " ++ decimal number
node_head head word words found number cut is only same_number =
    let digits = only_take words found only in
    sym (join_with_byte-slice_split 32 head)
    ∙ ap (join_with_byte 32) (cut ∙ ap (λ w. w ∷ words) is ∙ ap (λ ws. codes "node" ∷ ws) digits.0)
    ∙ ap (λ n. codes "node " ++ decimal n) same_number

-- a text that is cut at its first colon
pub halves_joined : (text head list : List ℕ) → parts 58 text ≡ head ∷ parts 58 list → text ≡ head ++ 58 ∷ list
halves_joined text head list cut =
    sym (join_with_byte-slice_split 58 text) ∙ ap (join_with_byte 58) cut ∙ joined (parts 58 list) refl
  where
    joined : (ws : List (List ℕ)) → parts 58 list ≡ ws → join_with_byte 58 (head ∷ ws) ≡ head ++ 58 ∷ list
    joined [] e = absurd (some_parts 58 list e)
    joined (w ∷ ws) e = ap (λ x. head ++ 58 ∷ x) (ap (join_with_byte 58) (sym e) ∙ join_with_byte-slice_split 58 list)

-- two lines of nodes with one list
pub repeats : (before text first old head list : List ℕ) (number : ℕ) → parts 58 before ≡ first ∷ parts 58 old
    → parts 58 text ≡ head ∷ parts 58 list → bytes_eq list old ≡ true → head ≡ codes "node " ++ decimal number
    → RepeatsList before text number
repeats before text first old head list number cut here same_text is = record {
  head = first;
  list = old;
  old = cut;
  new = halves_joined text head list here
      ∙ ap (λ x. head ++ 58 ∷ x) (same_bytes list old same_text)
      ∙ ap (λ x. x ++ 58 ∷ old) is
      ∙ append_assoc (codes "node ") (decimal number) (58 ∷ old);
}
