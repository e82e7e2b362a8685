-- The text of a certificate is read as that certificate.
use Rattle.std.proofs.Common.{◌≡◌, ◌≢◌, ℕ, true, List, [], ◌∷◌, ◌++◌, Option, Some, None, option_and_then, Result, Ok}
use Rattle.std.proofs.Common.{Err, map, refl, sym, ◌∙◌, ap, append-nil, append_assoc, inl, inr}
use Rattle.std.specs.List.{AllByRecursion}
use Rattle.sect_cert.specs.{Parts.{parts}, Zeros.{plain, is_exact}, declared.certificate.Cert.{Cert}, Lines.{line_text}}
use Rattle.sect_cert.specs.Texts.{IsLine, HasText, body_lines, cert_lines, certificate_text}
use Rattle.sect_cert.specs.{declared.line.CertLine.{CertLine}, declared.fault.CertFault.{CertFault}, Verdicts.{Gives}}
use Rattle.sect_cert.proofs.{TextLaws.{HasLines, lines_of}, PartsLaws.{lacks, parts_fed}, WordLaws.{line_feed}}
use Rattle.sect_cert.proofs.{Passes.{goes}, Readings.{read_all, cert_read, read_append}}
use Rattle.sect_cert.specs.steps.{Reading.{line_of}, Stages.{read_words}, Closing.{JudgesLines}}
use Rattle.sect_cert.specs.declared.stage.CertStage.TheVariants as stage
use Rattle.sect_cert.specs.declared.fault.CertFault.TheVariants as fault

feeds : (xs : List CertLine) → AllByRecursion IsLine xs → AllByRecursion (λ x. lacks 10 x ≡ true) (map line_text xs)
feeds [] h = tt
feeds (x ∷ xs) h = (line_feed x h.0, feeds xs h.1)

cut_cert : (c : Cert) → HasText c → parts 10 (certificate_text c) ≡ cert_lines c ++ [] ∷ []
cut_cert c h = let l : HasLines c = lines_of c h in parts_fed (cert_lines c) (refl, feeds (body_lines c) l.lines)

-- two lists with a last element
same_front : (xs ys : List (List ℕ)) (x y : List ℕ) → xs ++ x ∷ [] ≡ ys ++ y ∷ [] → xs ≡ ys
same_front [] [] x y h = refl
same_front [] (b ∷ []) x y h = cc
same_front [] (b ∷ c ∷ ys) x y h = cc
same_front (a ∷ []) [] x y h = cc
same_front (a ∷ b ∷ xs) [] x y h = cc
same_front (a ∷ xs) (b ∷ ys) x y h = let t : xs ++ x ∷ [] ≡ ys ++ y ∷ [] = cc in
    let e : xs ≡ ys = same_front xs ys x y t in let f : a ≡ b = cc in cc

-- what is a front, with more than one behind it
within : (front whole : List (List ℕ)) (text last : List ℕ) (more : List (List ℕ))
    → whole ++ last ∷ [] ≡ front ++ text ∷ more → more ≢ []
    → (rest : List (List ℕ)) × (whole ≡ (front ++ text ∷ []) ++ rest)
within [] [] text last more h g = absurd (g (let e : [] ≡ more = cc in sym e))
within [] (w ∷ whole) text last more h g = (whole, cc)
within (f ∷ front) [] text last [] h g = absurd (g refl)
within (f ∷ []) [] text last (m ∷ more) h g = cc
within (f ∷ e ∷ front) [] text last (m ∷ more) h g = cc
within (f ∷ front) (w ∷ whole) text last more h g =
    let t : whole ++ last ∷ [] ≡ front ++ text ∷ more = cc in
    let r : (rest : List (List ℕ)) × (whole ≡ (front ++ text ∷ []) ++ rest) =
    within front whole text last more t g in
    let e : w ≡ f = cc in (r.0, ap (λ y. y ∷ whole) e ∙ ap (λ y. f ∷ y) r.1)

-- nothing is taken after the end
done : (c : Cert) (t : List ℕ) (ts : List (List ℕ)) → read_all (stage.Finished c) (t ∷ ts) ≡ None
done c t ts = go (line_of (parts 32 (plain t)))
  where
    go : (o : Option CertLine) → goes (read_words (stage.Finished c) o (is_exact t)) (λ n. read_all n ts) ≡ None
    go None = refl
    go (Some x) = refl

same_last : (xs ys : List (List ℕ)) (x y : List ℕ) → xs ++ x ∷ [] ≡ ys ++ y ∷ [] → x ≡ y
same_last [] [] x y h = cc
same_last [] (b ∷ []) x y h = cc
same_last [] (b ∷ c ∷ ys) x y h = cc
same_last (a ∷ []) [] x y h = cc
same_last (a ∷ b ∷ xs) [] x y h = cc
same_last (a ∷ xs) (b ∷ ys) x y h = let t : xs ++ x ∷ [] ≡ ys ++ y ∷ [] = cc in same_last xs ys x y t

-- no text of a certificate goes on behind another
pub read_past : (c d : Cert) (front rest : List (List ℕ)) (t : List ℕ) → HasText c → HasText d → cert_lines d ≡ front
    → cert_lines c ≡ (front ++ t ∷ []) ++ rest → ⊥
read_past c d front rest t h g e f =
    let none : read_all stage.Header (front ++ t ∷ rest) ≡ None = read_append stage.Header front (t ∷ rest)
    ∙ (ap (option_and_then (λ m. read_all m (t ∷ rest))) (ap (read_all stage.Header) (sym e) ∙ cert_read d g)
    ∙ done d t rest) in
    let some : read_all stage.Header (front ++ t ∷ rest) ≡ Some (stage.Finished c) =
    ap (read_all stage.Header) (sym (append_assoc front (t ∷ []) rest) ∙ sym f) ∙ cert_read c h in cc

-- more than nothing doesn't follow a certificate in the text of one
no_more : (c d : Cert) (front rest : List (List ℕ)) → HasText c → HasText d → cert_lines d ≡ front
    → cert_lines c ++ [] ∷ [] ≡ front ++ rest → rest ≢ [] ∷ [] → ⊥
no_more c d front [] h g e f k =
    let none : read_all stage.Header (cert_lines c ++ [] ∷ []) ≡ None =
    read_append stage.Header (cert_lines c) ([] ∷ [])
    ∙ (ap (option_and_then (λ m. read_all m ([] ∷ []))) (cert_read c h) ∙ done c [] []) in
    let some : read_all stage.Header (cert_lines c ++ [] ∷ []) ≡ Some (stage.Finished d) =
    ap (read_all stage.Header) (f ∙ (append-nil front ∙ sym e)) ∙ cert_read d g in cc
no_more c d front (t ∷ []) h g e f k = k (ap (λ y. y ∷ []) (sym (same_last (cert_lines c) front [] t f)))
no_more c d front (t ∷ u ∷ ts) h g e f k =
    let w : (rest : List (List ℕ)) × (cert_lines c ≡ (front ++ t ∷ []) ++ rest) =
    within front (cert_lines c) t [] (u ∷ ts) f (λ y. cc) in
    read_past c d front w.0 t h g e w.1

same_cert : (c d : Cert) → HasText c → HasText d → cert_lines d ≡ cert_lines c → d ≡ c
same_cert c d h g e = let s : Some (stage.Finished d) ≡ Some (stage.Finished c) =
    sym (cert_read d g) ∙ (ap (read_all stage.Header) e ∙ cert_read c h) in
    let t : stage.Finished d ≡ stage.Finished c = cc in cc

-- the text of a certificate is answered with it
pub only : (bytes : List ℕ) (r : Result Cert CertFault) → JudgesLines bytes r → (c : Cert) → HasText c
    → bytes ≡ certificate_text c → Gives c r
only bytes (Ok d) j c h e =
    same_cert c d h j.0 (same_front (cert_lines d) (cert_lines c) [] []
    (sym (cut_cert d j.0) ∙ (ap (parts 10) (sym j.1 ∙ e) ∙ cut_cert c h)))
only bytes (Err fault.Memory) j c h e = tt
only bytes (Err fault.OldVersion) j c h e = absurd j
only bytes (Err (fault.CertEnd n)) j c h e =
    j.due (c, h, same_front (cert_lines c) j.front [] j.rest (sym (cut_cert c h) ∙ (ap (parts 10) (sym e) ∙ j.split)))
only bytes (Err (fault.BadCertLine n)) j c h e =
    let w : (rest : List (List ℕ)) × (cert_lines c ≡ (j.front ++ j.text ∷ []) ++ rest) =
    within j.front (cert_lines c) j.text [] j.more (sym (cut_cert c h) ∙ (ap (parts 10) (sym e) ∙ j.split)) j.fed in
    j.here (c, w.0, h, w.1)
only bytes (Err (fault.NotCanonical n)) j c h e = elim j [
  | inl k ↦ (let w : (rest : List (List ℕ)) × (cert_lines c ≡ (k.front ++ k.text ∷ []) ++ rest) =
      within k.front (cert_lines c) k.text [] k.more (sym (cut_cert c h) ∙ (ap (parts 10) (sym e) ∙ k.split)) k.fed in
      k.here (c, w.0, h, w.1))
  | inr k ↦ no_more c k.whole.0 k.front (k.text ∷ k.more) h k.whole.1 k.whole.2
      (sym (cut_cert c h) ∙ (ap (parts 10) (sym e) ∙ k.split)) k.some
]
