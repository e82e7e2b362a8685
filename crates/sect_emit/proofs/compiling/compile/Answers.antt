use Rattle.std.proofs.Common.{◌≡◌, refl}
use Rattle.sect_lemmas.proofs.Results.{given}
use Rattle.sect_names.specs.declared.refusal.SourceRefusal.TheVariants.{Memory}
use Rattle.sect_emit.proofs.compiling.compile.Goals as goal

pub returns-in_err-compile_scheme-clause-only : goal.returns-in_err-compile_scheme-clause-only
returns-in_err-compile_scheme-clause-only c =
    λ s accepted. given c.from_residual-in_err-compile_scheme.result (λ r. r ≡ Memory) Memory refl
    c.from_residual-in_err-compile_scheme.ensures.1
