-- A certificate that the checker finds valid is valid for the scheme of the source.
use Rattle.std.proofs.Common.{◌≡◌, ℕ, List, sym, ◌∙◌, subst}
use Rattle.sect_names.specs.{Schemes.{SchemeView}, Sources.{IsAccepted}}
use Rattle.sect_names.proofs.shared.{Refusing.{one_text}, OneScheme.{one_scheme}}
use Rattle.sect_cert.specs.declared.certificate.Cert.{Cert}
use Rattle.sect_check.specs.{Valid.{IsValid}, Verdicts.{IsRead}}
use Rattle.sect_check.proofs.Either.{valid_either}

-- a certificate that is valid for a text is valid for the scheme that the text was given
pub valid_for : (source : List ℕ) (k : ℕ) (bytes : List ℕ) (s : SchemeView) → IsAccepted source k s → (c : Cert)
    → (v : IsRead source k bytes IsValid) → c ≡ v.cert → IsValid s c
valid_for source k bytes s accepted c v same =
    let program = one_text source s.program v.s.program accepted.text v.accepted.text in
    let one = one_scheme v.s s v.accepted.scheme accepted.scheme program in
    subst (IsValid s) (sym same) (valid_either v.s s one program (v.accepted.most ∙ sym accepted.most) v.cert v.holds)
