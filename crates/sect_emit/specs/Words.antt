-- What a certificate says of a compiled program, by the names that stand in the text.
use Rattle.std.specs.Prelude.{◌≢◌, ℕ, ◌+◌, List, [], ◌∷◌, map}
use Rattle.sect_front.specs.TreeView.{TreeView}
use Rattle.sect_points.specs.Paths.{PathView, base_of, fields_of}
use Rattle.sect_names.specs.{declared.lock.Lock.{Lock}, declared.link.Link.{Link}, Printing.{IsNamed, field_name}}
use Rattle.sect_lemmas.specs.Lists.{Has}
use Rattle.sect_types.specs.Programs.{ProgramView}
use Rattle.sect_check.specs.Names.{words_of_variable}
use Rattle.sect_cert.specs.{declared.lock.CertPath.{CertPath}, declared.lock.CertLock.{CertLock}}
use Rattle.sect_cert.specs.{declared.certificate.CertStep.{CertStep}, declared.certificate.CertChain.{CertChain}}
use Rattle.sect_cert.specs.declared.certificate.CertSection.{CertSection}
use Rattle.sect_infer.specs.Sets.{LocksView}
use Rattle.sect_names.specs.declared.lock.Effect.TheVariants as effect
use Rattle.sect_names.specs.declared.lock.Right.TheVariants as right
use Rattle.sect_names.specs.declared.lock.Lock.TheVariants as lock
use Rattle.sect_cert.specs.declared.lock.CertLock.TheVariants as named

abbrev pub path_words : TreeView → PathView → CertPath
path_words t p = record { base = words_of_variable t (base_of p); fields = map (field_name t) (fields_of p) }

abbrev pub lock_words : TreeView → Lock → CertLock
lock_words t lock.All = named.WriteAll
lock_words t (lock.Class c right.Read) = named.ReadClass c
lock_words t (lock.Class c right.Write) = named.WriteClass c
lock_words t (lock.Class c right.Make) = named.MakeClass c
lock_words t (lock.Path p effect.Read) = named.ReadPath (path_words t p)
lock_words t (lock.Path p effect.Write) = named.WritePath (path_words t p)

abbrev pub list_words : TreeView → List Lock → List CertLock
list_words t locks = map (lock_words t) locks

abbrev pub step_words : TreeView → Link → CertStep
step_words t a = record { node = a.node; lock = lock_words t a.lock }

-- the chain of the lock of that number
abbrev pub chain_words : TreeView → ℕ → List Link → CertChain
chain_words t n links = record { lock = n; steps = map (step_words t) links }

-- the chains, by number from this one
abbrev pub chains_words : TreeView → ℕ → List (List Link) → List CertChain
chains_words t n [] = []
chains_words t n (c ∷ cs) = chain_words t n c ∷ chains_words t (n + 1) cs

abbrev pub section_words : TreeView → LocksView → List (List Link) → CertSection
section_words t locks chains =
    record {
      nodes = map (list_words t) locks.at;
      entry = list_words t locks.entry;
      chains = chains_words t 0 chains;
    }

-- what each step of a chain names is there, and there is a step
abbrev pub IsChainNamed : ProgramView → List Link → Type 0
IsChainNamed p links = (links ≢ []) × ((a : Link) → Has links a → IsNamed p a.lock)
