-- What a text is answered with. Cited by `read_cert` and `write_cert`.
use Rattle.std.specs.Prelude.{◌≡◌, ◌≢◌, ℕ, ◌+◌, Bool, true, false, nat_eq, List, [], ◌∷◌, ◌++◌, length, codes, Result}
use Rattle.std.specs.{Prelude.{Ok, Err, ⊤, ◌⊎◌}, List.{starts_with}}
use Rattle.sect_cert.specs.{Parts.{parts}, Zeros.{plain}, Lines.{line_text}, Forms.{Form, form_of, ChainForm}}
use Rattle.sect_cert.specs.{Texts.{cert_lines, certificate_text, HasText, IsLine}, declared.certificate.Cert.{Cert}}
use Rattle.sect_cert.specs.{declared.line.CertLine.{CertLine}, declared.fault.CertFault.{CertFault}}
use Rattle.sect_cert.specs.declared.fault.CertFault.TheVariants as fault

-- some certificate's text begins with these lines
abbrev pub IsViable : List (List ℕ) → Type 0
IsViable front = (c : Cert) × (rest : List (List ℕ)) × HasText c × (cert_lines c ≡ front ++ rest)

-- these are all lines of a certificate
abbrev pub IsWhole : List (List ℕ) → Type 0
IsWhole front = (c : Cert) × HasText c × (cert_lines c ≡ front)

-- without the zeros that lead its numbers a text is this line's
pub record IsOfForm (text : List ℕ) (x : CertLine) : Type 0 where
  pub spells : plain text ≡ line_text x
  pub good : IsLine x

-- a line of a form with which some certificate's text goes on
pub record GoesOn (front : List (List ℕ)) (form : Form) : Type 0 where
  pub next : CertLine
  pub good : IsLine next
  pub same : form_of next ≡ form
  pub viable : IsViable (front ++ line_text next ∷ [])

-- the last of these lines is a chain's
pub record EndsInChain (front : List (List ℕ)) : Type 0 where
  pub before : List (List ℕ)
  pub last : CertLine
  pub good : IsLine last
  pub chain : form_of last ≡ ChainForm
  pub split : front ≡ before ++ line_text last ∷ []

-- a form is allowed after these lines: some certificate's text goes on so; and a chain may follow a chain, whatever
-- its number
abbrev pub IsAllowed : List (List ℕ) → Form → Type 0
IsAllowed front form = GoesOn front form ⊎ ((form ≡ ChainForm) × EndsInChain front)

-- a text is a line of a form that is allowed after these lines
pub record HasForm (front : List (List ℕ)) (text : List ℕ) : Type 0 where
  pub of : CertLine
  pub form : IsOfForm text of
  pub allowed : IsAllowed front (form_of of)

abbrev pub HasNoForm : List (List ℕ) → List ℕ → Type 0
HasNoForm front text = HasForm front text → ⊥

-- a line is due, and no line feed is left
pub record IsEndAt (all : List (List ℕ)) (number : ℕ) : Type 0 where
  pub front : List (List ℕ)
  pub rest : List ℕ
  pub split : all ≡ front ++ rest ∷ []
  pub line : number ≡ length front + 1
  pub before : IsViable front
  pub due : IsWhole front → ⊥

-- a line is due, and no certificate's text begins with the lines up to this one, which is of this kind
pub record IsFaultAt (Kind : List (List ℕ) → List ℕ → Type 0) (all : List (List ℕ)) (number : ℕ) : Type 0 where
  pub front : List (List ℕ)
  pub text : List ℕ
  pub more : List (List ℕ)
  pub split : all ≡ front ++ text ∷ more
  pub fed : more ≢ []
  pub line : number ≡ length front + 1
  pub before : IsViable front
  pub due : IsWhole front → ⊥
  pub here : IsViable (front ++ text ∷ []) → ⊥
  pub kind : Kind front text

-- more than nothing follows the last line of a certificate
pub record IsMoreAt (all : List (List ℕ)) (number : ℕ) : Type 0 where
  pub front : List (List ℕ)
  pub text : List ℕ
  pub more : List (List ℕ)
  pub split : all ≡ front ++ text ∷ more
  pub some : text ∷ more ≢ [] ∷ []
  pub line : number ≡ length front + 1
  pub whole : IsWhole front

-- the first line is that of version 1
abbrev pub is_old : List ℕ → Bool
is_old bytes = starts_with nat_eq bytes (codes "sect-cert 1\n")

-- the answer to a text; for one of version 1 memory cannot run out
abbrev pub Judges : List ℕ → Result Cert CertFault → Type 0
Judges bytes (Ok c) = HasText c × (bytes ≡ certificate_text c)
Judges bytes (Err fault.Memory) = is_old bytes ≡ false
Judges bytes (Err fault.OldVersion) = is_old bytes ≡ true
Judges bytes (Err (fault.CertEnd n)) = IsEndAt (parts 10 bytes) n
Judges bytes (Err (fault.BadCertLine n)) = IsFaultAt HasNoForm (parts 10 bytes) n × (is_old bytes ≡ false)
Judges bytes (Err (fault.NotCanonical n)) = IsFaultAt HasForm (parts 10 bytes) n ⊎ IsMoreAt (parts 10 bytes) n

-- this certificate is given, unless memory runs out
abbrev pub Gives : Cert → Result Cert CertFault → Type 0
Gives c (Ok d) = d ≡ c
Gives c (Err fault.Memory) = ⊤
Gives c (Err _) = ⊥

-- this fault is the answer, unless memory runs out
abbrev pub Refuses : CertFault → Result Cert CertFault → Type 0
Refuses f (Ok d) = ⊥
Refuses f (Err fault.Memory) = ⊤
Refuses f (Err g) = g ≡ f
