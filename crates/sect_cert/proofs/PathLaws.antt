-- The text of a path is read as it, and as no other.
use Rattle.std.proofs.Common.{◌≡◌, ℕ, ◌<◌, Bool, true, false, cond, List, [], ◌∷◌, ◌++◌, Option, Some, None}
use Rattle.std.proofs.Common.{option_and_then, refl, sym, ◌∙◌, ap, subst}
use Rattle.std.proofs.lemmas.List.Splits.{join_with_byte-slice_split}
use Rattle.std.specs.{Prelude.{◌==◌}, Option.{option_map}, Fmt.{decimal}}
use Rattle.std.specs.List.{join_with_byte, list_all, AllByRecursion}
use Rattle.sect_front.specs.Words.{is_name_byte, is_name}
use Rattle.sect_cert.specs.{Parts.{parts}, Zeros.{is_exact}, Paths.{base_text, path_parts, path_text}}
use Rattle.sect_cert.specs.{Texts.{IsBase, IsPath}, declared.lock.CertBase.{CertBase}}
use Rattle.sect_cert.specs.declared.lock.CertPath.{CertPath}
use Rattle.sect_cert.specs.steps.{Numbers.{number_of}, Certificates.{path_with}}
use Rattle.sect_cert.specs.steps.Subjects.{base_at, base_of, path_from, path_at, path_of}
use Rattle.sect_cert.proofs.PartsLaws.{lacks, lacks_append, bytes_lack, has_name_bytes, names_lack, joined_lacks}
use Rattle.sect_cert.proofs.PartsLaws.{parts_front, parts_one, parts_join}
use Rattle.sect_cert.proofs.NumberLaws.{number_decimal, decimal_number, digits_of_decimal}
use Rattle.sect_cert.proofs.ExactLaws.{hash, exact_mark, exact_number, exact_name, exact_names, exact_joined}
use Rattle.sect_cert.proofs.ExactLaws.{digits_are}
use Rattle.sect_cert.specs.declared.lock.CertBase.TheVariants as base

name_lacks : (c : ℕ) → is_name_byte c ≡ false → (n : List ℕ) → is_name n ≡ true → lacks c n ≡ true
name_lacks c out n h = bytes_lack is_name_byte c out n (has_name_bytes n h)

number_lacks : (c : ℕ) → is_name_byte c ≡ false → (k : ℕ) → k < 4294967296 → lacks c (decimal k) ≡ true
number_lacks c out k h = bytes_lack is_name_byte c out (decimal k) (digits_are (decimal k) (digits_of_decimal k h))

-- a base lacks what its name, its number and `#` lack
base_lacks : (c : ℕ) → is_name_byte c ≡ false → (35 == c) ≡ false → (b : CertBase) → IsBase b
    → lacks c (base_text b) ≡ true
base_lacks c out mark (base.Name n) h = name_lacks c out n h
base_lacks c out mark (base.InCall n k) h =
    lacks_append c n (35 ∷ decimal k) (name_lacks c out n h.0) (rw mark (number_lacks c out k h.1))

parts_lack : (c : ℕ) → is_name_byte c ≡ false → (35 == c) ≡ false → (p : CertPath) → IsPath p
    → AllByRecursion (λ x. lacks c x ≡ true) (path_parts p)
parts_lack c out mark p h = (base_lacks c out mark p.base h.0, names_lack c out p.fields h.1)

-- a path lacks what its base, its fields and the point lack
pub path_lacks : (c : ℕ) → is_name_byte c ≡ false → (46 == c) ≡ false → (35 == c) ≡ false → (p : CertPath) → IsPath p
    → lacks c (path_text p) ≡ true
path_lacks c out dot mark p h = joined_lacks c dot (path_parts p) (parts_lack c out mark p h)

exact_base : (b : CertBase) → IsBase b → is_exact (base_text b) ≡ true
exact_base (base.Name n) h = exact_name n h
exact_base (base.InCall n k) h = exact_mark 35 hash false n (decimal k) (exact_name n h.0) (exact_number k h.1)

-- no zero leads a number in a path
pub exact_path : (p : CertPath) → IsPath p → is_exact (path_text p) ≡ true
exact_path p h = exact_joined (path_parts p) (exact_base p.base h.0, exact_names p.fields h.1)

-- the text of a base is read as it
base_again : (b : CertBase) → IsBase b → base_of (base_text b) ≡ Some b
base_again (base.Name n) h = rw (parts_one 35 n (name_lacks 35 refl n h), h) refl
base_again (base.InCall n k) h =
    let cut : parts 35 (n ++ 35 ∷ decimal k) ≡ n ∷ decimal k ∷ [] =
    parts_front 35 n (decimal k) (name_lacks 35 refl n h.0)
    ∙ ap (λ x. n ∷ x) (parts_one 35 (decimal k) (number_lacks 35 refl k h.1)) in
    rw (cut, h.0, number_decimal k h.1) refl

-- a word that is read as a base is its text
base_takes : (w : List ℕ) (b : CertBase) → base_of w ≡ Some b → (w ≡ base_text b) × IsBase b
base_takes w b h = go (parts 35 w) refl h
  where
    joined : (ws : List (List ℕ)) → parts 35 w ≡ ws → w ≡ join_with_byte 35 ws
    joined ws e = sym (join_with_byte-slice_split 35 w) ∙ ap (join_with_byte 35) e

    bare : (n : List ℕ) (t : Bool) → is_name n ≡ t → parts 35 w ≡ n ∷ [] → cond t (Some (base.Name n)) None ≡ Some b
        → (w ≡ base_text b) × IsBase b
    bare n true f e g = let same : base.Name n ≡ b = cc in
        subst (λ y. (w ≡ base_text y) × IsBase y) same (joined (n ∷ []) e, f)
    bare n false f e g = cc

    numbered : (n d : List ℕ) (t : Bool) → is_name n ≡ t → (o : Option ℕ) → number_of d ≡ o → parts 35 w ≡ n ∷ d ∷ []
        → cond t (option_map (λ k. base.InCall n k) o) None ≡ Some b →
        (w ≡ base_text b) × IsBase b
    numbered n d true f (Some k) r e g = let same : base.InCall n k ≡ b = cc in
        let t : (d ≡ decimal k) × (k < 4294967296) = decimal_number d k r in
        subst (λ y. (w ≡ base_text y) × IsBase y) same (joined (n ∷ d ∷ []) e ∙ ap (λ x. n ++ 35 ∷ x) t.0, (f, t.1))
    numbered n d true f None r e g = cc
    numbered n d false f o r e g = cc

    go : (ws : List (List ℕ)) → parts 35 w ≡ ws → base_at ws ≡ Some b → (w ≡ base_text b) × IsBase b
    go [] e g = cc
    go (n ∷ []) e g = bare n (is_name n) refl e g
    go (n ∷ d ∷ []) e g = numbered n d (is_name n) refl (number_of d) refl e g
    go (n ∷ d ∷ c ∷ ws) e g = cc

-- the text of a path is read as it
pub path_again : (p : CertPath) → IsPath p → path_of (path_text p) ≡ Some p
path_again p h = rw (
  parts_join 46 (base_text p.base) p.fields (parts_lack 46 refl refl p h),
  base_again p.base h.0,
  h.1,
) refl

-- a word that is read as a path is its text
pub path_takes : (w : List ℕ) (p : CertPath) → path_of w ≡ Some p → (w ≡ path_text p) × IsPath p
path_takes w p h = go (parts 46 w) refl h
  where
    at : (first : List ℕ) (fields : List (List ℕ)) (b : CertBase) (t : Bool) → list_all is_name fields ≡ t
        → (first ≡ base_text b) × IsBase b → parts 46 w ≡ first ∷ fields →
        cond t (Some (path_with b fields)) None ≡ Some p → (w ≡ path_text p) × IsPath p
    at first fields b true f k e g = let same : path_with b fields ≡ p = cc in
        subst (λ y. (w ≡ path_text y) × IsPath y) same
        (sym (join_with_byte-slice_split 46 w) ∙ ap (join_with_byte 46) (e ∙ ap (λ x. x ∷ fields) k.0), (k.1, f))
    at first fields b false f k e g = cc

    based : (first : List ℕ) (fields : List (List ℕ)) (o : Option CertBase) → base_of first ≡ o
        → parts 46 w ≡ first ∷ fields → option_and_then (path_from fields) o ≡ Some p → (w ≡ path_text p) × IsPath p
    based first fields None r e g = cc
    based first fields (Some b) r e g = at first fields b (list_all is_name fields) refl (base_takes first b r) e g

    go : (ws : List (List ℕ)) → parts 46 w ≡ ws → path_at ws ≡ Some p → (w ≡ path_text p) × IsPath p
    go [] e g = cc
    go (first ∷ fields) e g = based first fields (base_of first) refl e g
