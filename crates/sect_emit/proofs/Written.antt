-- The text of a certificate, one section after another.
use Rattle.std.proofs.Common.{◌≡◌, ℕ, ◌+◌, ◌<◌, List, [], ◌∷◌, ◌++◌, Some, length, length-append, refl, sym, ap}
use Rattle.std.proofs.{Common.{◌∙◌, subst, arith, slice_get, inl, inr}}
use Rattle.std.proofs.lemmas.Option.{slice_get_within, get_or_from_slice_get}
use Rattle.sect_lemmas.specs.Lists.{Has}
use Rattle.sect_lemmas.proofs.{Places.{at_of, one_at, pushed_at, chosen}, Replaced.{slice_get-map}}
use Rattle.sect_types.specs.{Sections.{sections_of}, First.{IsTyped}, Programs.{IsOfTree}}
use Rattle.sect_names.specs.{declared.lock.Lock.{Lock}, Schemes.{SchemeView, IsScheme}, Sources.{IsAccepted}}
use Rattle.sect_modes.specs.declared.mode.Mode.TheVariants.{Exclusive}
use Rattle.sect_modes.specs.Mode.{intention_of}
use Rattle.sect_infer.specs.Sets.{LocksView, AreInferredAt, AreAllInferred}
use Rattle.sect_cert.specs.{declared.certificate.CertSection.{CertSection}, declared.certificate.Cert.{Cert}}
use Rattle.sect_cert.specs.Texts.{IsNumber, IsSection, HasText, begun_text, certificate_text}
use Rattle.sect_check.specs.Valid.{IsValid}
use Rattle.sect_emit.specs.{Certified.{IsCertifiedBy}, Certificates.{IsCertificateOf}, Compiled.{CompiledView}}
use Rattle.sect_emit.specs.declared.plan.Grip.{Grip}
use Rattle.sect_emit.specs.Plan.{grip, gathered, class_mode, intended, AreWishesFor, AreFixedWishes, IsFixedPart}
use Rattle.sect_emit.specs.steps.{Inferred.{entries_of, AreFixedParts, IsWhole}, Spelled.{IsSectionSpelled, IsSpelled}}
use Rattle.sect_emit.specs.steps.{Wishes.{IsClassedLock}, Certifying.{IsInferredSection, IsBegun, IsWritten}}
use Rattle.sect_emit.proofs.{OneCertificate.{sets_one}, Spelling.{all_more}}
use Rattle.sect_emit.proofs.Wholes.{classed_entry, compiled, sets_least, is_certificate}
use Rattle.sect_modes.specs.declared.key.Key.TheVariants as key
use Rattle.sect_names.specs.declared.lock.Lock.TheVariants as lock

-- no section is written yet
pub none_begun : (s : SchemeView) (text : List ℕ)
    → text ≡ begun_text s.most (length (sections_of s.program.texts)) [] → IsBegun s 0 text
none_begun s text is = record { sections = []; count = refl; each = λ i x at. absurd cc; good = tt; spelled = is }

-- one section more
pub one_begun : (s : SchemeView) (n : ℕ) (locks : LocksView) (x : CertSection) (old new : List ℕ) → IsBegun s n old
    → AreInferredAt s n locks → IsSectionSpelled s n locks x → IsSection x
    → ((k count : ℕ) (before : List CertSection) → length before ≡ n → old ≡ begun_text k count before
    → new ≡ begun_text k count (before ++ x ∷ []))
    → IsBegun s (n + 1) new
one_begun s n locks x old new begun inferred spelled good put = record {
  sections = begun.sections ++ x ∷ [];
  count = (let e = begun.count in omega (arith, e, length-append begun.sections (x ∷ [])));
  each = λ i y at. elim (pushed_at begun.sections x y i at) [
    | inl e ↦ subst (IsInferredSection s i) e.1
        (subst (λ m. IsInferredSection s m x) (sym (e.0 ∙ begun.count)) (locks, inferred, spelled))
    | inr h ↦ begun.each i y h
  ];
  good = all_more IsSection begun.sections x begun.good good;
  spelled = put s.most (length (sections_of s.program.texts)) begun.sections begun.count begun.spelled;
}

-- all sections are written, and the end
pub all_written : (s : SchemeView) (n : ℕ) (old new : List ℕ) → n ≡ length (sections_of s.program.texts)
    → IsNumber s.most → IsNumber n → IsBegun s n old
    → ((cert : Cert) → old ≡ begun_text cert.k (length cert.sections) cert.sections → new ≡ certificate_text cert)
    → IsWritten s new
all_written s n old new all most few begun end =
    let sections = begun.sections in
    let count : length sections ≡ length (sections_of s.program.texts) = begun.count ∙ all in
    let cert : Cert = record { k = s.most; sections = sections } in
    let told = chosen (λ i locks. AreInferredAt s i locks × ((x : CertSection) → slice_get sections i ≡ Some x
    → IsSectionSpelled s i locks x)) n (λ i within. at_section begun i (omega (arith, within, begun.count))) in
    record {
      all = told.0;
      inferred = record { count = told.1 ∙ all; each = λ i locks at. (told.2 i locks at).0 };
      cert = cert;
      names = record { k = refl; count = count; each = λ i locks x at has. (told.2 i locks at).1 x has };
      good = record { k = most; count = subst IsNumber (sym begun.count) few; sections = begun.good };
      spelled = end cert (begun.spelled ∙ ap (λ m. begun_text s.most m sections) (sym count));
    }
  where
    at_section : (begun : IsBegun s n old) (i : ℕ) → i < length begun.sections
        → (locks : LocksView) × (AreInferredAt s i locks
        × ((x : CertSection) → slice_get begun.sections i ≡ Some x → IsSectionSpelled s i locks x))
    at_section begun i within =
        let x = at_of begun.sections i within in
        let told = begun.each i x.0 x.1 in
        (told.0, (told.1, λ y at. subst (IsSectionSpelled s i told.0) (one_at begun.sections i x.0 y x.1 at) told.2))

-- a lock whose path has a class asks for keys whatever the state
wishes_for : (s : SchemeView) (l : Lock) → IsClassedLock s l → (gs : List Grip) × AreWishesFor s l gs
wishes_for s lock.All classed = (grip key.All Exclusive ∷ [], refl)
wishes_for s (lock.Class c r) classed =
    (grip key.All (intention_of (class_mode r)) ∷ grip (key.Class c) (class_mode r) ∷ [], refl)
wishes_for s (lock.Path p e) classed =
    (grip key.All (intended e) ∷ grip (key.Class classed.0) (intended e) ∷ [], (classed.0, classed.1, refl))

-- and so do such locks
fixed_wishes : (s : SchemeView) (ls : List Lock) → ((l : Lock) → Has ls l → IsClassedLock s l)
    → (gs : List Grip) × AreFixedWishes s ls gs
fixed_wishes s [] classed = ([], refl)
fixed_wishes s (l ∷ ls) classed =
    let mine = wishes_for s l (classed l (inl refl)) in
    let rest = fixed_wishes s ls (λ m h. classed m (inr h)) in
    (mine.0 ++ rest.0, (mine.0, rest.0, refl, mine.1, rest.1))

-- each set that is inferred has a fixed part
fixed_parts : (s : SchemeView) (all : List LocksView) → IsScheme s → AreAllInferred s all
    → (parts : List (List Grip)) × AreFixedParts s (entries_of all) parts
fixed_parts s all scheme inferred =
    let sets = entries_of all in
    let parts = chosen (λ i part. (set : List Lock) → slice_get sets i ≡ Some set → IsFixedPart s set part)
    (length sets) part in
    (parts.0, record { count = parts.1; each = λ i set part at has. parts.2 i part has set at })
  where
    part : (i : ℕ) → i < length (entries_of all)
        → (part : List Grip) × ((set : List Lock) → slice_get (entries_of all) i ≡ Some set → IsFixedPart s set part)
    part i within =
        let set = at_of (entries_of all) i within in
        let kept = slice_get-map (λ (l : LocksView). l.entry) all i set.0 set.1 in
        let locks = kept.0 in
        let classed : (l : Lock) → Has set.0 l → IsClassedLock s l = subst (λ ls. (l : Lock) → Has ls l
        → IsClassedLock s l) kept.2 (classed_entry s all scheme inferred i locks (slice_get_within all i locks kept.1)
        (sym (get_or_from_slice_get all i locks locks kept.1))) in
        let wishes = fixed_wishes s set.0 classed in (
          gathered wishes.0,
          λ other at. subst (λ ls. IsFixedPart s ls (gathered wishes.0))
              (one_at (entries_of all) i set.0 other set.1 at) (wishes.0, wishes.1, refl),
        )

-- what is written of the program of an accepted text is the text of its certificate
pub certified_by : (s : SchemeView) → IsScheme s → IsTyped s.program.source → IsOfTree s.program
    → ((all : List LocksView) → AreAllInferred s all → (a : Cert) → IsSpelled s all a → IsValid s a)
    → (source : List ℕ) (k : ℕ) (text : List ℕ) → IsAccepted source k s → IsWritten s text
    → IsCertifiedBy source k text
certified_by s scheme typed tree valid source k text accepted written =
    let all = written.all in
    let parts = fixed_parts s all scheme written.inferred in
    let whole : IsWhole s all parts.0 = record { inferred = written.inferred; planned = parts.1 } in
    record {
      compiled = record { scheme = s; sets = entries_of all; parts = parts.0 };
      from = record {
        accepted = accepted;
        compiled = compiled s all parts.0 scheme whole typed tree;
        least = sets_least s all parts.0 scheme whole;
      };
      cert = written.cert;
      certifies = is_certificate s all parts.0 written.inferred written.cert written.names written.good;
      valid = valid all written.inferred written.cert written.names;
      spelled = written.spelled;
    }

-- what is read of the text of a program's certificate is the program's certificate
pub read_certificate : (s : SchemeView) → IsScheme s → (all : List LocksView) (parts : List (List Grip))
    (v : CompiledView) → record { scheme = s; sets = entries_of all; parts = parts } ≡ v → AreAllInferred s all
    → (text : List ℕ) → IsWritten s text
    → (cert : Cert) → ((a : Cert) → HasText a → text ≡ certificate_text a → cert ≡ a) → IsCertificateOf v cert
read_certificate s scheme all parts v view inferred text written cert read =
    subst (λ u. IsCertificateOf u cert) view
    (subst (λ sets. IsCertificateOf (record { scheme = s; sets = sets; parts = parts }) cert)
    (sets_one s scheme written.all all written.inferred inferred)
    (subst (IsCertificateOf (record { scheme = s; sets = entries_of written.all; parts = parts }))
    (sym (read written.cert written.good written.spelled))
    (is_certificate s written.all parts written.inferred written.cert written.names written.good)))
