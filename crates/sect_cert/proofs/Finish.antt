-- Each stage can be completed.
use Rattle.std.proofs.Common.{◌≡◌, ◌≢◌, ℕ, zero, suc, ◌+◌, ◌-◌, ◌<◌, ◌≤◌, List, [], ◌∷◌, ◌++◌, length, refl, ◌∙◌, ap}
use Rattle.std.proofs.{Common.{arith, length-append, subst}, lemmas.List.{length_push}}
use Rattle.std.specs.List.{AllByRecursion}
use Rattle.sect_cert.proofs.TextLaws.{RisingAll, behind_sections}
use Rattle.sect_cert.proofs.Keeps.{open_lines, stage_lines, IsSound, closed, all_rising_more}
use Rattle.sect_cert.specs.{declared.certificate.CertSection.{CertSection}, declared.certificate.Cert.{Cert}}
use Rattle.sect_cert.specs.Texts.{nodes_lines, section_lines, sections_lines, body_lines, IsLine}
use Rattle.sect_cert.specs.{declared.lock.CertLock.{CertLock}, declared.line.CertLine.{CertLine}}
use Rattle.sect_cert.specs.{declared.stage.Open.{Open}, declared.stage.CertStage.{CertStage}}
use Rattle.sect_cert.specs.steps.{Certificates.{section_with, cert_with}, Stages.{close_of}}
use Rattle.sect_cert.specs.declared.line.CertLine.TheVariants as line
use Rattle.sect_cert.specs.declared.stage.CertStage.TheVariants as stage

-- a certificate of which these are the lines
pub record IsFinish (s : CertStage) : Type 0 where
  pub cert : Cert
  pub rest : List CertLine
  pub good : AllByRecursion IsLine rest
  pub rising : RisingAll cert.sections
  pub lines : body_lines cert ≡ stage_lines s rest

abbrev blank : CertSection
blank = section_with [] [] []

abbrev blanks : ℕ → List CertSection
blanks zero = []
blanks (suc n) = blank ∷ blanks n

abbrev empties : ℕ → List (List CertLock)
empties zero = []
empties (suc n) = [] ∷ empties n

length_blanks : (n : ℕ) → length (blanks n) ≡ n
length_blanks zero = refl
length_blanks (suc n) = ap suc (length_blanks n)

length_empties : (n : ℕ) → length (empties n) ≡ n
length_empties zero = refl
length_empties (suc n) = ap suc (length_empties n)

sections_append : (ss ts : List CertSection) (i j : ℕ) (w : List CertLine) → j ≡ i + length ss
    → sections_lines i (ss ++ ts) w ≡ sections_lines i ss (sections_lines j ts w)
sections_append [] ts i j w h = ap (λ n. sections_lines n ts w) (omega arith)
sections_append (t ∷ ss) ts i j w h =
    ap (λ x. line.Section i (length t.nodes) ∷ section_lines t x) (sections_append ss ts (i + 1) j w (omega (arith, h)))

nodes_append : (ns ms : List (List CertLock)) (i j : ℕ) (w : List CertLine) → j ≡ i + length ns
    → nodes_lines i (ns ++ ms) w ≡ nodes_lines i ns (nodes_lines j ms w)
nodes_append [] ms i j w h = ap (λ n. nodes_lines n ms w) (omega arith)
nodes_append (n ∷ ns) ms i j w h = ap (λ x. line.Node i n ∷ x) (nodes_append ns ms (i + 1) j w (omega (arith, h)))

rising_blanks : (ss : List CertSection) (n : ℕ) → RisingAll ss → RisingAll (ss ++ blanks n)
rising_blanks [] zero h = tt
rising_blanks [] (suc n) h = (tt, rising_blanks [] n tt)
rising_blanks (s ∷ ss) n h = (h.0, rising_blanks ss n h.1)

good_blanks : (n i : ℕ) → i + n < 4294967296 → AllByRecursion IsLine (sections_lines i (blanks n) (line.End ∷ []))
good_blanks zero i h = (tt, tt)
good_blanks (suc n) i h = ((omega (arith, h), omega arith), (tt, good_blanks n (i + 1) (omega (arith, h))))

good_empties : (n j : ℕ) (w : List CertLine) → j + n ≤ 4294967296 → AllByRecursion IsLine w
    → AllByRecursion IsLine (nodes_lines j (empties n) w)
good_empties zero j w h g = g
good_empties (suc n) j w h g = ((omega (arith, h), tt), good_empties n (j + 1) w (omega (arith, h)) g)

-- the sections that are left are blank
record IsRest (o : Open) : Type 0 where
  cert : Cert
  rest : List CertLine
  good : AllByRecursion IsLine rest
  rising : RisingAll cert.sections
  lines : body_lines cert ≡ open_lines o rest

rest_of : (o : Open) → length o.done ≤ o.count → o.count < 4294967296 → RisingAll o.done → IsRest o
rest_of o h low r =
    let n : ℕ = o.count - length o.done in
    let full : length (o.done ++ blanks n) ≡ o.count =
    omega (arith, length-append o.done (blanks n), length_blanks n, h) in
    record {
      cert = cert_with o.k (o.done ++ blanks n);
      rest = sections_lines (length o.done) (blanks n) (line.End ∷ []);
      good = good_blanks n (length o.done) (omega (arith, h, low));
      rising = rising_blanks o.done n r;
      lines = ap (λ m. line.K o.k ∷ line.Sections m ∷ sections_lines 0 (o.done ++ blanks n) (line.End ∷ [])) full
          ∙ ap (λ x. line.K o.k ∷ line.Sections o.count ∷ x)
          (sections_append o.done (blanks n) 0 (length o.done) (line.End ∷ []) (omega arith));
    }

chains_rest : (o : Open) (s : CertSection) → IsRest (close_of o s) → IsFinish (stage.Chains o s)
chains_rest o s r = record {
  cert = r.cert;
  rest = r.rest;
  good = r.good;
  rising = r.rising;
  lines =
      r.lines ∙ closed o s r.rest;
}

-- the nodes that are left have empty lists
nodes_rest : (o : Open) (m : ℕ) (ns : List (List CertLock)) (n : ℕ) → length ns + n ≡ m → m < 4294967296
    → IsRest (close_of o (section_with (ns ++ empties n) [] [])) → IsFinish (stage.Nodes o m ns)
nodes_rest o m ns n h low r =
    let full : length (ns ++ empties n) ≡ m = omega (arith, length-append ns (empties n), length_empties n, h) in
    record {
      cert = r.cert;
      rest = nodes_lines (length ns) (empties n) (line.Entry [] ∷ r.rest);
      good = good_empties n (length ns) (line.Entry [] ∷ r.rest) (omega (arith, h, low)) (tt, r.good);
      rising = r.rising;
      lines = r.lines ∙ (closed o (section_with (ns ++ empties n) [] []) r.rest
          ∙ (ap
          (λ i. open_lines o (line.Section (length o.done) i ∷ nodes_lines 0 (ns ++ empties n)
          (line.Entry [] ∷ r.rest))) full
          ∙ ap (λ x. open_lines o (line.Section (length o.done) m ∷ x))
          (nodes_append ns (empties n) 0 (length ns) (line.Entry [] ∷ r.rest) (omega arith))));
    }

-- what a stage has read can be gone on with, to the end of a certificate
pub finish : (s : CertStage) → IsSound s → AllByRecursion IsLine (stage_lines s []) → s ≢ stage.Header → IsFinish s
finish stage.Header h g e = absurd (e refl)
finish stage.K h g e = record {
  cert = cert_with 0 [];
  rest = body_lines (cert_with 0 []);
  good =
      (omega arith, (omega arith, (tt, tt)));
  rising = tt;
  lines = refl;
}
finish (stage.Count k) h g e =
    record {
      cert = cert_with k [];
      rest = line.Sections 0 ∷ line.End ∷ [];
      good = (omega arith, (tt, tt));
      rising =
          tt;
      lines = refl;
    }
finish (stage.Between o) h g e = let r : IsRest o =
    rest_of o (omega (arith, ap length h)) g.1.0 (subst RisingAll h tt) in
    record { cert = r.cert; rest = r.rest; good = r.good; rising = r.rising; lines = r.lines }
finish (stage.Nodes o m ns) h g e =
    let low : m < 4294967296 = (behind_sections o.done 0 (line.Section (length o.done) m ∷ nodes_lines 0 ns [])
    g.1.1).0.1 in
    let s : CertSection = section_with (ns ++ empties (m - length ns)) [] [] in
    nodes_rest o m ns (m - length ns) (omega (arith, h.2)) low
    (rest_of (close_of o s) (omega (arith, h.0, length_push o.done s)) g.1.0 (all_rising_more o.done s h.1 tt))
finish (stage.Chains o s) h g e =
    chains_rest o s (rest_of (close_of o s) (omega (arith, h.0, length_push o.done s)) g.1.0
    (all_rising_more o.done s h.1 h.2))
finish (stage.Finished c) h g e = record { cert = c; rest = []; good = tt; rising = h; lines = refl }
