-- A text of version 1 is answered apart, and every text with one answer alone.
use Rattle.std.proofs.Common.{◌≡◌, ◌≢◌, ℕ, true, false, List, [], ◌∷◌, ◌++◌, map, drop, refl, sym, ◌∙◌, ap}
use Rattle.std.proofs.{lemmas.Slice.Eq.{starts_is}, lemmas.Bool.Decides.{Decides-eqb}}
use Rattle.std.specs.{Prelude.{codes, Result, Ok, Err}, Str.{bytes_eq}}
use Rattle.sect_cert.specs.{Parts.{parts}, Lines.{line_text}, Forms.{form_of}}
use Rattle.sect_cert.specs.Texts.{HasText, header_text, body_lines, certificate_text}
use Rattle.sect_cert.specs.Verdicts.{HasNoForm, IsFaultAt, is_old, Judges, Gives, Refuses}
use Rattle.sect_cert.specs.{declared.certificate.Cert.{Cert}, declared.fault.CertFault.{CertFault}}
use Rattle.sect_cert.specs.steps.Closing.{JudgesLines}
use Rattle.sect_cert.proofs.{CutTexts.{some_parts}, PartsLaws.{parts_front}, Allowed.{not_first}}
use Rattle.sect_cert.proofs.{Verdict.{nothing_viable}, Alone.{alone}}
use Rattle.sect_cert.specs.declared.fault.CertFault.TheVariants as fault
use Rattle.sect_cert.proofs.Only as lines

some_first : {A : Type 0} (x : A) (xs : List A) → x ∷ xs ≡ [] → ⊥
some_first x xs e = cc

same_first : {A : Type 0} (x y : A) (xs ys : List A) → x ∷ xs ≡ y ∷ ys → x ≡ y
same_first x y xs ys e = cc

-- no certificate's text begins with the first line of version 1
not_old : header_text ≡ codes "sect-cert 1" → ⊥
not_old e = let both : true ≡ false = ap (λ t. bytes_eq t header_text) e in cc

-- line by line the first line of version 1 is bad
old_is_bad : (bytes : List ℕ) → is_old bytes ≡ true → IsFaultAt HasNoForm (parts 10 bytes) 1
old_is_bad bytes h =
    let rest : List ℕ = drop 12 bytes in
    let whole : bytes ≡ codes "sect-cert 1" ++ 10 ∷ rest =
    (starts_is Decides-eqb bytes (codes "sect-cert 1\n") true (sym h)).0 refl in record {
      front = [];
      text = codes "sect-cert 1";
      more = parts 10 rest;
      split = ap (parts 10) whole ∙ parts_front 10 (codes "sect-cert 1") rest refl;
      fed = some_parts 10 rest;
      line = refl;
      before = nothing_viable;
      due = λ w. some_first header_text (map line_text (body_lines w.0)) w.2;
      here = λ v. not_old (same_first header_text (codes "sect-cert 1") (map line_text (body_lines v.0)) v.1 v.3);
      kind = λ f. not_first (form_of f.of) f.allowed;
    }

-- the fault that reading line by line meets
abbrev line_fault : CertFault → CertFault
line_fault fault.OldVersion = fault.BadCertLine 1
line_fault f = f

by_lines : (bytes : List ℕ) (f : CertFault) → Judges bytes (Err f) → JudgesLines bytes (Err (line_fault f))
by_lines bytes fault.Memory j = tt
by_lines bytes fault.OldVersion j = old_is_bad bytes j
by_lines bytes (fault.CertEnd n) j = j
by_lines bytes (fault.BadCertLine n) j = j.0
by_lines bytes (fault.NotCanonical n) j = j

-- what reading line by line answers is right where the text isn't that of version 1
pub judged : (bytes : List ℕ) (r : Result Cert CertFault) → is_old bytes ≡ false → JudgesLines bytes r → Judges bytes r
judged bytes (Ok c) new j = j
judged bytes (Err fault.Memory) new j = new
judged bytes (Err fault.OldVersion) new j = absurd j
judged bytes (Err (fault.CertEnd n)) new j = j
judged bytes (Err (fault.BadCertLine n)) new j = (j, new)
judged bytes (Err (fault.NotCanonical n)) new j = j

given : (c : Cert) (f : CertFault) → Gives c (Err (line_fault f)) → Gives c (Err f)
given c fault.Memory g = tt
given c fault.OldVersion g = g
given c (fault.CertEnd n) g = g
given c (fault.BadCertLine n) g = g
given c (fault.NotCanonical n) g = g

-- the text of a certificate is answered with it
pub only : (bytes : List ℕ) (r : Result Cert CertFault) → Judges bytes r → (c : Cert) → HasText c
    → bytes ≡ certificate_text c → Gives c r
only bytes (Ok d) j c h e = lines.only bytes (Ok d) j c h e
only bytes (Err f) j c h e = given c f (lines.only bytes (Err (line_fault f)) (by_lines bytes f j) c h e)

-- two faults of a text that are one line by line are one
same_fault : (bytes : List ℕ) (f g : CertFault) → Judges bytes (Err f) → Judges bytes (Err g)
    → line_fault g ≡ line_fault f → g ≡ f
same_fault bytes fault.OldVersion fault.OldVersion j k e = refl
same_fault bytes fault.OldVersion fault.Memory j k e = cc
same_fault bytes fault.OldVersion (fault.CertEnd n) j k e = cc
same_fault bytes fault.OldVersion (fault.BadCertLine n) j k e = let new = k.1 in cc
same_fault bytes fault.OldVersion (fault.NotCanonical n) j k e = cc
same_fault bytes fault.Memory fault.OldVersion j k e = cc
same_fault bytes (fault.CertEnd n) fault.OldVersion j k e = cc
same_fault bytes (fault.BadCertLine n) fault.OldVersion j k e = let new = j.1 in cc
same_fault bytes (fault.NotCanonical n) fault.OldVersion j k e = cc
same_fault bytes f g j k e = e

not_memory : (f : CertFault) → f ≢ fault.Memory → line_fault f ≢ fault.Memory
not_memory fault.OldVersion h e = cc
not_memory fault.Memory h e = h e
not_memory (fault.CertEnd n) h e = h e
not_memory (fault.BadCertLine n) h e = h e
not_memory (fault.NotCanonical n) h e = h e

one_fault : (bytes : List ℕ) (f g : CertFault) → f ≢ fault.Memory → g ≢ fault.Memory → Judges bytes (Err f)
    → Judges bytes (Err g) → g ≡ f
one_fault bytes f g a b j k = same_fault bytes f g j k
    (alone bytes (line_fault f) (line_fault g) (not_memory f a) (not_memory g b) (by_lines bytes f j)
    (by_lines bytes g k))

-- a fault that a text has is the one that it is answered with
pub refuses : (bytes : List ℕ) (r : Result Cert CertFault) → Judges bytes r → (f : CertFault) → f ≢ fault.Memory
    → Judges bytes (Err f) → Refuses f r
refuses bytes (Ok c) j f a k = go f a k (only bytes (Err f) k c j.0 j.1)
  where
    go : (f : CertFault) → f ≢ fault.Memory → Judges bytes (Err f) → Gives c (Err f) → ⊥
    go fault.Memory a k g = a refl
    go fault.OldVersion a k g = g
    go (fault.CertEnd n) a k g = g
    go (fault.BadCertLine n) a k g = g
    go (fault.NotCanonical n) a k g = g
refuses bytes (Err fault.Memory) j f a k = tt
refuses bytes (Err fault.OldVersion) j f a k = one_fault bytes f fault.OldVersion a (λ h. cc) k j
refuses bytes (Err (fault.CertEnd n)) j f a k = one_fault bytes f (fault.CertEnd n) a (λ h. cc) k j
refuses bytes (Err (fault.BadCertLine n)) j f a k = one_fault bytes f (fault.BadCertLine n) a (λ h. cc) k j
refuses bytes (Err (fault.NotCanonical n)) j f a k = one_fault bytes f (fault.NotCanonical n) a (λ h. cc) k j
