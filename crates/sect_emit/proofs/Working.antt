-- Why several workers refuse to compile a text.
use Rattle.std.proofs.Common.{◌≡◌, ℕ, List, inl, inr, refl, arith}
use Rattle.sect_names.specs.{Sources.{IsDue}, declared.refusal.SourceRefusal.{SourceRefusal}}
use Rattle.sect_infer.specs.{Workers.{AreOffered, AreRefused}, declared.workers.InferFault.{InferFault}}
use Rattle.sect_emit.specs.Faults.{IsDueBy, of_workers, of_source}
use Rattle.sect_names.specs.declared.refusal.SourceRefusal.TheVariants as refusal
use Rattle.sect_infer.specs.declared.workers.InferFault.TheVariants as infer
use Rattle.sect_emit.specs.declared.fault.CompileFault.TheVariants as fault

-- no number of workers is both offered and refused
pub not_both : (workers : ℕ) → AreOffered workers → AreRefused workers → ⊥
not_both workers offered refused = elim refused [
  | inl none ↦ omega (arith, none, offered.0)
  | inr many ↦ omega (arith, many, offered.1)
]

-- workers whose number is offered refuse for want of memory alone
pub refused_for_memory : (workers : ℕ) (why : InferFault) → AreOffered workers
    → (why ≡ infer.BadWorkers → AreRefused workers) → of_workers why ≡ fault.Memory
refused_for_memory workers infer.Memory offered refused = refl
refused_for_memory workers infer.BadWorkers offered refused = absurd (not_both workers offered (refused refl))

-- a number of workers that is refused is due
pub workers_due : (workers : ℕ) (bytes : List ℕ) (k : ℕ) (why : InferFault) → why ≡ infer.BadWorkers
    → AreRefused workers → IsDueBy workers bytes k (of_workers why)
workers_due workers bytes k infer.Memory bad refused = absurd (let e : infer.Memory ≡ infer.BadWorkers = bad in cc)
workers_due workers bytes k infer.BadWorkers bad refused = (refl, refused)

-- what is due of a text is due of it by so many workers as are offered
pub source_due : (workers : ℕ) (bytes : List ℕ) (k : ℕ) (why : SourceRefusal) → AreOffered workers → IsDue bytes k why
    → IsDueBy workers bytes k (of_source why)
source_due workers bytes k refusal.Memory offered due = (offered, due)
source_due workers bytes k (refusal.Front f) offered due = (offered, λ e. cc, due)
source_due workers bytes k (refusal.Types f) offered due = (offered, λ e. cc, due)
source_due workers bytes k (refusal.Scheme f) offered due = (offered, λ e. cc, due)
