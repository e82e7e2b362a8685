-- The texts of lines, read one after another.
use Rattle.std.proofs.Common.{◌≡◌, ◌≢◌, ℕ, Bool, true, false, cond, List, [], ◌∷◌, ◌++◌, Option, Some, None}
use Rattle.std.proofs.{Common.{option_and_then, map, refl, sym, ◌∙◌, ap, subst, append_assoc}, lemmas.List.{map-append}}
use Rattle.std.specs.List.{AllByRecursion}
use Rattle.sect_cert.specs.{Parts.{parts}, Zeros.{plain, is_exact}, Lines.{line_text}}
use Rattle.sect_cert.specs.{Texts.{IsLine, HasText, header_text, body_lines, cert_lines}, Verdicts.{IsViable}}
use Rattle.sect_cert.specs.{declared.certificate.Cert.{Cert}, declared.line.CertLine.{CertLine}}
use Rattle.sect_cert.specs.declared.stage.CertStage.{CertStage}
use Rattle.sect_cert.specs.steps.Reading.{line_of}
use Rattle.sect_cert.specs.steps.Stages.{Next, Goes, Bad, Odd, stage_of, read_of, read_words, judged, is_header_due}
use Rattle.sect_cert.specs.steps.Stages.{header_of}
use Rattle.sect_cert.proofs.{TextLaws.{HasLines, lines_of, text_of}, Passes.{goes, run, cert_passes}}
use Rattle.sect_cert.proofs.Keeps.{stage_lines, IsSound, Kept, IfGoes, stage_law, IsBegun, stage_split}
use Rattle.sect_cert.proofs.{Finish.{IsFinish, finish}, LineLaws.{IsAgain, line_again, IsTaken, line_takes}}
use Rattle.sect_cert.specs.declared.stage.CertStage.TheVariants as stage

-- the stage after these texts
abbrev pub read_all : CertStage → List (List ℕ) → Option CertStage
read_all s [] = Some s
read_all s (t ∷ ts) = goes (read_of s t) (λ n. read_all n ts)

-- after the first line no header is due
pub begun : (s : CertStage) → IsBegun s → is_header_due s ≡ false
begun stage.Header h = absurd h
begun _ h = refl

not_header : (s : CertStage) → IsBegun s → s ≢ stage.Header
not_header s b e = subst IsBegun e b

-- what is read of one text, and of the rest
pub read_append : (s : CertStage) (v w : List (List ℕ))
    → read_all s (v ++ w) ≡ option_and_then (λ m. read_all m w) (read_all s v)
read_append s [] w = refl
read_append s (t ∷ v) w = go v w (λ m. read_append m v w) (read_of s t)
  where
    go : (v w : List (List ℕ)) → ((m : CertStage)
        → read_all m (v ++ w) ≡ option_and_then (λ x. read_all x w) (read_all m v)) → (n : Next) →
        goes n (λ m. read_all m (v ++ w)) ≡ option_and_then (λ m. read_all m w) (goes n (λ m. read_all m v))
    go v w h (Goes m) = h m
    go v w h Bad = refl
    go v w h Odd = refl

read_one : (front : List (List ℕ)) (s : CertStage) (t : List ℕ) (rest : List (List ℕ))
    → read_all stage.Header front ≡ Some s →
    read_all stage.Header (front ++ t ∷ rest) ≡ goes (read_of s t) (λ n. read_all n rest)
read_one front s t rest h = read_append stage.Header front (t ∷ rest)
    ∙ ap (option_and_then (λ m. read_all m (t ∷ rest))) h

-- the text of what a stage of lines takes is taken
pub taken_line : (s : CertStage) (x : CertLine) → IsBegun s → IsLine x → read_of s (line_text x) ≡ stage_of s x
taken_line s x b h =
    let a : IsAgain x = line_again x h in
    rw (begun s b, a.line, a.exact) (judged_true (stage_of s x))
  where
    judged_true : (n : Next) → judged true n ≡ n
    judged_true (Goes s) = refl
    judged_true Bad = refl
    judged_true Odd = refl

texts_run : (xs : List CertLine) (s : CertStage) → IsBegun s → IsSound s → AllByRecursion IsLine xs
    → read_all s (map line_text xs) ≡ run s xs
texts_run [] s b h g = refl
texts_run (x ∷ xs) s b h g =
    ap (λ n. goes n (λ m. read_all m (map line_text xs))) (taken_line s x b g.0)
    ∙ go (stage_of s x) (stage_law s x h) (λ m c k. texts_run xs m c k g.1)
  where
    go : (n : Next) → IfGoes n (λ t. Kept s x t)
        → ((m : CertStage) → IsBegun m → IsSound m → read_all m (map line_text xs) ≡ run m xs) →
        goes n (λ m. read_all m (map line_text xs)) ≡ goes n (λ m. run m xs)
    go (Goes m) k f = f m k.begun k.sound
    go Bad k f = refl
    go Odd k f = refl

-- the text of a certificate is read as it
pub cert_read : (c : Cert) → HasText c → read_all stage.Header (cert_lines c) ≡ Some (stage.Finished c)
cert_read c h = let l : HasLines c = lines_of c h in
    texts_run (body_lines c) stage.K tt tt l.lines ∙ cert_passes c l.rising

-- the texts that lead to a stage
pub record Reads (front : List (List ℕ)) (s : CertStage) : Type 0 where
  pub run : read_all stage.Header front ≡ Some s
  pub begun : IsBegun s
  pub sound : IsSound s
  pub good : AllByRecursion IsLine (stage_lines s [])
  pub lines : front ≡ header_text ∷ map line_text (stage_lines s [])

all_append : (xs ys : List CertLine) → AllByRecursion IsLine xs → AllByRecursion IsLine ys
    → AllByRecursion IsLine (xs ++ ys)
all_append [] ys g h = h
all_append (x ∷ xs) ys g h = (g.0, all_append xs ys g.1 h)

good_with : (s : CertStage) (w : List CertLine) → AllByRecursion IsLine (stage_lines s []) → AllByRecursion IsLine w
    → AllByRecursion IsLine (stage_lines s w)
good_with s w g h = subst (AllByRecursion IsLine) (sym (stage_split s w)) (all_append (stage_lines s []) w g h)

texts_with : (front : List (List ℕ)) (s : CertStage) (w : List CertLine)
    → front ≡ header_text ∷ map line_text (stage_lines s []) →
    header_text ∷ map line_text (stage_lines s w) ≡ front ++ map line_text w
texts_with front s w e =
    ap (λ x. header_text ∷ map line_text x) (stage_split s w)
    ∙ (ap (λ x. header_text ∷ x) (map-append line_text (stage_lines s []) w) ∙ ap (λ x. x ++ map line_text w) (sym e))

-- what leads to a stage begins some certificate
pub viable : (front : List (List ℕ)) (s : CertStage) → Reads front s → IsViable front
viable front s r =
    let f : IsFinish s = finish s r.sound r.good (not_header s r.begun) in (
      f.cert,
      map line_text f.rest,
      text_of f.cert (record {
        lines =
            subst (AllByRecursion IsLine) (sym f.lines) (good_with s f.rest r.good f.good);
        rising = f.rising;
      }),
      ap (λ x. header_text ∷ map line_text x) f.lines ∙ texts_with front s f.rest r.lines,
    )

-- a line that is refused
pub refused : (front : List (List ℕ)) (s : CertStage) (t : List ℕ) → read_all stage.Header front ≡ Some s
    → ((rest : List (List ℕ)) → goes (read_of s t) (λ n. read_all n rest) ≡ None) →
    IsViable (front ++ t ∷ []) → ⊥
refused front s t h e v =
    let none : read_all stage.Header (front ++ t ∷ v.1) ≡ None = read_one front s t v.1 h ∙ e v.1 in
    let some : read_all stage.Header (front ++ t ∷ v.1) ≡ Some (stage.Finished v.0) =
    ap (read_all stage.Header) (sym (append_assoc front (t ∷ []) v.1) ∙ sym v.3) ∙ cert_read v.0 v.2 in
    cc

-- one more line is taken
pub taken_text : (front : List (List ℕ)) (s : CertStage) (t : List ℕ) (m : CertStage) → Reads front s
    → read_of s t ≡ Goes m → Reads (front ++ t ∷ []) m
taken_text front s t m r e = go (line_of (parts 32 (plain t))) refl (is_exact t) refl
    (sym (ap (λ b. cond b (header_of t) (read_words s (line_of (parts 32 (plain t))) (is_exact t))) (begun s r.begun))
    ∙ e)
  where
    more : (x : CertLine) → IsTaken t x → Kept s x m → Reads (front ++ t ∷ []) m
    more x p k = record {
      run = read_one front s t [] r.run ∙ ap (λ n. goes n (λ y. read_all y [])) e;
      begun = k.begun;
      sound = k.sound;
      good = subst (AllByRecursion IsLine) (sym (k.lines [])) (good_with s (x ∷ []) r.good (p.good, tt));
      lines = ap (λ y. front ++ y ∷ []) p.text
          ∙ (sym (texts_with front s (x ∷ []) r.lines) ∙ ap (λ y. header_text ∷ map line_text y) (sym (k.lines [])));
    }

    with_next : (x : CertLine) → (b : Bool) → (n : Next) → IfGoes n (λ y. Kept s x y)
        → line_of (parts 32 (plain t)) ≡ Some x → is_exact t ≡ b → judged b n ≡ Goes m → Reads (front ++ t ∷ []) m
    with_next x true (Goes y) k f g h = let same : y ≡ m = cc in more x (line_takes t x f g) (subst (Kept s x) same k)
    with_next x false (Goes y) k f g h = cc
    with_next x b Bad k f g h = cc
    with_next x b Odd k f g h = cc

    go : (o : Option CertLine) → line_of (parts 32 (plain t)) ≡ o → (b : Bool) → is_exact t ≡ b
        → read_words s o b ≡ Goes m → Reads (front ++ t ∷ []) m
    go None f b g h = cc
    go (Some x) f b g h = with_next x b (stage_of s x) (stage_law s x r.sound) f g h
