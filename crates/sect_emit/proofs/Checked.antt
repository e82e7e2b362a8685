-- A certificate that was checked has the sets of the compiled program.
use Rattle.std.proofs.Common.{◌≡◌, ℕ, List, refl, subst}
use Rattle.std.specs.List.{AllZip}
use Rattle.sect_types.specs.Statements.{TextView}
use Rattle.sect_names.specs.{declared.lock.Lock.{Lock}, Needed.{IsLeast}, Order.{AreInOrder}, Schemes.{SchemeView}}
use Rattle.sect_cert.specs.declared.certificate.Cert.{Cert}
use Rattle.sect_check.specs.{Names.{Denotes}, Valid.{IsValid, AreEntriesLeast}, Verdicts.{IsRead}}
use Rattle.sect_check.proofs.shared.Answering.{valid_for}
use Rattle.sect_emit.specs.{Certificates.{HasTheSets}, Compiled.{CompiledView, IsCompiledFrom}}

-- its entry lists stand for least sets in canonical order, of which each section has one
pub has_sets : ((s : SchemeView) (t : ℕ) (last : List Lock) (body : TextView) (locks others : List Lock)
    → IsLeast s t last body locks → IsLeast s t last body others → AreInOrder locks → AreInOrder others
    → locks ≡ others)
    → (source : List ℕ) (k : ℕ) (bytes : List ℕ) (c : CompiledView)
    → ((a : Cert) → IsValid c.scheme a → AreEntriesLeast c.scheme a)
    → IsCompiledFrom source k c → (read : IsRead source k bytes IsValid) → HasTheSets c read.cert
has_sets one source k bytes c least from read i of set at taken =
    let entry = least read.cert (valid_for source k bytes c.scheme from.accepted read.cert read refl) i of at in
    let said = entry.2 in
    let mine = from.least i of set at taken in
    let same : said.0 ≡ set = one c.scheme of.thread _ of.body said.0 set said.2 mine.0 said.3 mine.1 in
    (entry.0, entry.1, subst (AllZip (Denotes c.scheme of.thread) entry.0.entry) same said.1)
