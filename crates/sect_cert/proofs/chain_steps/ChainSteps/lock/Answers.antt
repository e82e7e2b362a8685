use Rattle.std.proofs.Common.{◌∙◌, length, sym, ap, arith}
use Rattle.std.specs.{Prelude.{slice_get}, Option.{option_map}}
use Rattle.sect_cert.specs.declared.certificate.CertStep.{CertStep}
use Rattle.sect_cert.proofs.SteppingLemmas.{length_stepped, lock_at}
use Rattle.sect_cert.proofs.chain_steps.ChainSteps.lock.Goals as goal

pub at-requires : goal.at-requires
at-requires c = omega (
  arith,
  c.self.invariant,
  ap length c.self.view_is,
  length_stepped c.self.inside.nodes.items c.self.inside.locks c.self.invariant,
)

pub returns : goal.returns
returns c = ap (λ xs. option_map (λ (x : CertStep). x.lock) (slice_get xs c.args.index)) (sym c.self.view_is)
    ∙ lock_at c.self.inside.nodes.items c.self.inside.locks c.args.index c.self.invariant ∙ c.at.ensures
