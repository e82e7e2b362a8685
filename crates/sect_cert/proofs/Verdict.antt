-- What a reading says of the text.
use Rattle.std.proofs.Common.{◌≡◌, ◌≢◌, ℕ, ◌+◌, Bool, true, false, cond, List, [], ◌∷◌, ◌++◌, Option, Some, None}
use Rattle.std.proofs.Common.{length, refl, sym, ◌∙◌, ap, subst, arith, append_assoc, length-append, inl, inr}
use Rattle.std.proofs.lemmas.List.Splits.{join_with_byte-slice_split}
use Rattle.std.specs.{Prelude.{Result, Ok, Err, ◌⊎◌}, Str.{bytes_eq}, List.{join_with_byte}}
use Rattle.sect_cert.specs.{Parts.{parts}, Zeros.{plain, is_exact}, Texts.{HasText, header_text, cert_lines}}
use Rattle.sect_cert.specs.Forms.{form_of}
use Rattle.sect_cert.specs.Verdicts.{IsViable, IsWhole, IsAllowed, HasForm, HasNoForm, IsEndAt, IsFaultAt, IsMoreAt}
use Rattle.sect_cert.specs.{declared.certificate.Cert.{Cert}, declared.fault.CertFault.{CertFault}}
use Rattle.sect_cert.specs.{declared.fault.LineFault.{LineFault}, declared.line.CertLine.{CertLine}}
use Rattle.sect_cert.specs.declared.stage.CertStage.{CertStage}
use Rattle.sect_cert.specs.steps.{Certificates.{cert_with}, Reading.{line_of}}
use Rattle.sect_cert.specs.steps.Stages.{Next, Goes, Bad, Odd, stage_of, read_of, read_words, judged, header_of, GoesTo}
use Rattle.sect_cert.specs.steps.Closing.{is_finished_of, Closes, IsFaultOn, JudgesLines}
use Rattle.sect_cert.proofs.{TextLaws.{text_of}, CutTexts.{same_bytes}, PartsLaws.{fed_join}, Passes.{goes}}
use Rattle.sect_cert.proofs.LineLaws.{form_again, form_takes}
use Rattle.sect_cert.proofs.Readings.{read_all, begun, cert_read, Reads, viable, refused, taken_text}
use Rattle.sect_cert.proofs.Allowed.{is_due, due_takes, not_due, allowed, allowed_is_due, not_first}
use Rattle.sect_cert.specs.declared.fault.CertFault.TheVariants as fault
use Rattle.sect_cert.specs.declared.fault.LineFault.TheVariants as lines
use Rattle.sect_cert.specs.declared.stage.CertStage.TheVariants as stage

-- what has been read, at the head of the loop
abbrev pub IsState : List (List ℕ) → CertStage → Type 0
IsState front s = ((front ≡ []) × (s ≡ stage.Header)) ⊎ Reads front s

pub record IsReading (all left : List (List ℕ)) (s : CertStage) (n : ℕ) : Type 0 where
  pub front : List (List ℕ)
  pub split : all ≡ front ++ left
  pub count : n ≡ length front + 1
  pub state : IsState front s

state_run : (front : List (List ℕ)) (s : CertStage) → IsState front s → read_all stage.Header front ≡ Some s
state_run front s h = elim h [ inl g ↦ ap (read_all stage.Header) g.0 ∙ ap Some (sym g.1) | inr r ↦ r.run ]

-- every certificate's text begins with no line
pub nothing_viable : IsViable []
nothing_viable = (
  cert_with 0 [],
  cert_lines (cert_with 0 []),
  record { k = omega arith; count = omega arith; sections = tt },
  refl,
)

state_viable : (front : List (List ℕ)) (s : CertStage) → IsState front s → IsViable front
state_viable front s h = elim h [
  | inl g ↦ subst IsViable (sym g.0) nothing_viable
  | inr r ↦ viable front s r
]

header_taken : (t : List ℕ) (m : CertStage) → header_of t ≡ Goes m → Reads (t ∷ []) m
header_taken t m e = go (bytes_eq t header_text) refl e
  where
    go : (b : Bool) → bytes_eq t header_text ≡ b → cond b (Goes stage.K) Bad ≡ Goes m → Reads (t ∷ []) m
    go true f g = let is : t ≡ header_text = same_bytes t header_text f in
        let at : stage.K ≡ m = cc in
        subst (Reads (t ∷ [])) at (record {
          run = ap (λ y. read_all stage.Header (y ∷ [])) is;
          begun = tt;
          sound =
              tt;
          good = tt;
          lines = ap (λ y. y ∷ []) is;
        })
    go false f g = cc

state_taken : (front : List (List ℕ)) (s : CertStage) (t : List ℕ) (m : CertStage) → IsState front s
    → read_of s t ≡ Goes m → Reads (front ++ t ∷ []) m
state_taken front s t m h e = elim h [
  | inl g ↦ subst (λ y. Reads (y ++ t ∷ []) m) (sym g.0) (header_taken t m (ap (λ y. read_of y t) (sym g.1) ∙ e))
  | inr r ↦ taken_text front s t m r e
]

-- one more line has been read
pub reading_more : (all others : List (List ℕ)) (s m : CertStage) (n : ℕ) (t : List ℕ) → IsReading all (t ∷ others) s n
    → read_of s t ≡ Goes m → IsReading all others m (n + 1)
reading_more all others s m n t h g = record {
  front = h.front ++ t ∷ [];
  split = h.split ∙ sym (append_assoc h.front (t ∷ []) others);
  count = omega (arith, h.count, length-append h.front (t ∷ []));
  state = inr (state_taken h.front s t m h.state g);
}

not_whole : (front : List (List ℕ)) (s : CertStage) → read_all stage.Header front ≡ Some s → is_finished_of s ≡ false
    → IsWhole front → ⊥
not_whole front s h f w =
    let all : Some s ≡ Some (stage.Finished w.0) = sym h ∙ (ap (read_all stage.Header) (sym w.2) ∙ cert_read w.0 w.1) in
    let same : s ≡ stage.Finished w.0 = cc in
    let no : true ≡ false = ap is_finished_of (sym same) ∙ f in cc

-- what stands behind the last line feed, where a line is due
ends : (all : List (List ℕ)) (s : CertStage) (n : ℕ) (t : List ℕ) → IsReading all (t ∷ []) s n
    → is_finished_of s ≡ false → IsEndAt all n
ends all s n t h f = record {
  front = h.front;
  rest = t;
  split = h.split;
  line = h.count;
  before = state_viable h.front s h.state;
  due = not_whole h.front s (state_run h.front s h.state) f;
}

-- a text after the first line, as it is read
later : (front : List (List ℕ)) (s : CertStage) (t : List ℕ) → Reads front s
    → read_of s t ≡ read_words s (line_of (parts 32 (plain t))) (is_exact t)
later front s t r = ap (λ b. cond b (header_of t) (read_words s (line_of (parts 32 (plain t))) (is_exact t)))
    (begun s r.begun)

judged_bad : (e : Bool) (n : Next) → judged e n ≡ Bad → n ≡ Bad
judged_bad true (Goes m) h = cc
judged_bad false (Goes m) h = cc
judged_bad e Bad h = refl
judged_bad e Odd h = cc

-- a text that is refused as bad has no form that is allowed
bad_is : (front : List (List ℕ)) (s : CertStage) (t : List ℕ) → IsState front s → read_of s t ≡ Bad → HasNoForm front t
bad_is front s t h e f = elim h [
  | inl g ↦ not_first (form_of f.of) (subst (λ y. IsAllowed y (form_of f.of)) g.0 f.allowed)
  | inr r ↦ (let words : read_words s (Some f.of) (is_exact t) ≡ Bad =
      ap (λ o. read_words s o (is_exact t)) (sym (form_again t f.of f.form)) ∙ (sym (later front s t r) ∙ e) in
      go (is_due s (form_of f.of)) refl r (judged_bad (is_exact t) (stage_of s f.of) words))
]
  where
    go : (b : Bool) → is_due s (form_of f.of) ≡ b → Reads front s → stage_of s f.of ≡ Bad → ⊥
    go true d r n = due_takes s f.of d n
    go false d r n = allowed_is_due front s r (form_of f.of) f.allowed d

-- a text that is refused for its numbers has a form that is allowed
odd_is : (front : List (List ℕ)) (s : CertStage) (t : List ℕ) → IsState front s → read_of s t ≡ Odd → HasForm front t
odd_is front s t h e = elim h [
  | inl g ↦ absurd (header_law (bytes_eq t header_text) (ap (λ y. read_of y t) (sym g.1) ∙ e))
  | inr r ↦ go r (line_of (parts 32 (plain t))) refl (sym (later front s t r) ∙ e)
]
  where
    header_law : (b : Bool) → cond b (Goes stage.K) Bad ≡ Odd → ⊥
    header_law true k = cc
    header_law false k = cc

    not_bad : (b : Bool) (n : Next) → judged b n ≡ Odd → n ≡ Bad → ⊥
    not_bad b Bad k g = cc
    not_bad b (Goes m) k g = cc
    not_bad b Odd k g = cc

    of_form : Reads front s → (x : CertLine) → line_of (parts 32 (plain t)) ≡ Some x → (stage_of s x ≡ Bad → ⊥)
        → (b : Bool) → is_due s (form_of x) ≡ b → HasForm front t
    of_form r x f n true d = record { of = x; form = form_takes t x f; allowed = allowed front s r (form_of x) d }
    of_form r x f n false d = absurd (n (not_due s x d))

    go : Reads front s → (o : Option CertLine) → line_of (parts 32 (plain t)) ≡ o → read_words s o (is_exact t) ≡ Odd
        → HasForm front t
    go r None f k = cc
    go r (Some x) f k = of_form r x f (not_bad (is_exact t) (stage_of s x) k) (is_due s (form_of x)) refl

fault_is : (Kind : List (List ℕ) → List ℕ → Type 0) (all others : List (List ℕ)) (s : CertStage) (n : ℕ) (t : List ℕ)
    (h : IsReading all (t ∷ others) s n) → others ≢ [] → is_finished_of s ≡ false →
    ((y : List (List ℕ)) → goes (read_of s t) (λ m. read_all m y) ≡ None) → Kind h.front t → IsFaultAt Kind all n
fault_is Kind all others s n t h some f none kind = record {
  front = h.front;
  text = t;
  more = others;
  split = h.split;
  fed = some;
  line = h.count;
  before = state_viable h.front s h.state;
  due = not_whole h.front s (state_run h.front s h.state) f;
  here = refused h.front s t (state_run h.front s h.state) none;
  kind = kind;
}

-- a line was refused
pub reading_fails : (bytes : List ℕ) (others : List (List ℕ)) (s : CertStage) (n : ℕ) (t : List ℕ) (e : LineFault)
    (f : CertFault) → IsReading (parts 10 bytes) (t ∷ others) s n → others ≢ [] →
    is_finished_of s ≡ false → GoesTo (Err e) (read_of s t) → IsFaultOn e n f → JudgesLines bytes (Err f)
reading_fails bytes others s n t lines.Memory f h some d g k = subst (λ y. JudgesLines bytes (Err y)) (sym k) tt
reading_fails bytes others s n t lines.Bad f h some d g k = subst (λ y. JudgesLines bytes (Err y)) (sym k)
    (fault_is HasNoForm (parts 10 bytes) others s n t h some d (λ y. ap (λ k. goes k (λ m. read_all m y)) g)
    (bad_is h.front s t h.state g))
reading_fails bytes others s n t lines.Odd f h some d g k = subst (λ y. JudgesLines bytes (Err y)) (sym k)
    (inl (fault_is HasForm (parts 10 bytes) others s n t h some d (λ y. ap (λ k. goes k (λ m. read_all m y)) g)
    (odd_is h.front s t h.state g)))

-- a certificate has been read
finished_state : (front : List (List ℕ)) (c : Cert) → IsState front (stage.Finished c)
    → HasText c × (cert_lines c ≡ front)
finished_state front c h = elim h [
  | inl g ↦ absurd (let no : true ≡ false = ap is_finished_of g.1 in cc)
  | inr r ↦ (text_of c (record { lines = r.good; rising = r.sound }), sym r.lines)
]

-- the certificate of a stage where one is
is_finished : (s : CertStage) → is_finished_of s ≡ true → (c : Cert) × (s ≡ stage.Finished c)
is_finished (stage.Finished c) h = (c, refl)
is_finished stage.Header h = cc
is_finished stage.K h = cc
is_finished (stage.Count k) h = cc
is_finished (stage.Between o) h = cc
is_finished (stage.Nodes o m ns) h = cc
is_finished (stage.Chains o s) h = cc

-- a line stands behind a certificate
pub reading_goes_on : (all others : List (List ℕ)) (s : CertStage) (n : ℕ) (t : List ℕ) → IsReading all (t ∷ others) s n
    → is_finished_of s ≡ true → t ∷ others ≢ [] ∷ [] → IsMoreAt all n
reading_goes_on all others s n t h f some =
    let c : (c : Cert) × (s ≡ stage.Finished c) = is_finished s f in
    let got : HasText c.0 × (cert_lines c.0 ≡ h.front) =
    finished_state h.front c.0 (subst (IsState h.front) c.1 h.state) in
    record {
      front = h.front;
      text = t;
      more = others;
      split = h.split;
      some = some;
      line = h.count;
      whole =
          (c.0, got.0, got.1);
    }

-- no line feed is left
pub reading_closes : (bytes : List ℕ) (s : CertStage) (n : ℕ) (t : List ℕ) (r : Result Cert CertFault)
    → IsReading (parts 10 bytes) (t ∷ []) s n → Closes s t n r → JudgesLines bytes r
reading_closes bytes s n t (Ok c) h k =
    let got : HasText c × (cert_lines c ≡ h.front) = finished_state h.front c (subst (IsState h.front) k.0 h.state) in (
      got.0,
      sym (join_with_byte-slice_split 10 bytes)
          ∙ (ap (join_with_byte 10) (h.split ∙ (ap (λ y. h.front ++ y ∷ []) k.1 ∙ ap (λ y. y ++ [] ∷ []) (sym got.1)))
          ∙ fed_join (cert_lines c)),
    )
reading_closes bytes s n t (Err (fault.CertEnd line)) h k =
    subst (IsEndAt (parts 10 bytes)) (sym k.0) (ends (parts 10 bytes) s n t h k.1)
reading_closes bytes s n t (Err (fault.NotCanonical line)) h k =
    inr (subst (IsMoreAt (parts 10 bytes)) (sym k.0)
    (reading_goes_on (parts 10 bytes) [] s n t h k.1 (λ g. let blank : t ≡ [] = cc in k.2 blank)))
reading_closes bytes s n t (Err fault.Memory) h k = absurd k
reading_closes bytes s n t (Err fault.OldVersion) h k = absurd k
reading_closes bytes s n t (Err (fault.BadCertLine line)) h k = absurd k
