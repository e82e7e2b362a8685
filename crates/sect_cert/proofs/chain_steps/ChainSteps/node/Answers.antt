use Rattle.std.proofs.{Common.{◌∙◌, length, refl, sym, ap, arith}, lemmas.Option.{slice_get_read}}
use Rattle.std.specs.{Prelude.{slice_get}, Option.{option_map}}
use Rattle.sect_cert.specs.declared.certificate.CertStep.{CertStep}
use Rattle.sect_cert.proofs.SteppingLemmas.{length_stepped, node_at}
use Rattle.sect_cert.proofs.chain_steps.ChainSteps.node.Goals as goal

pub index-requires : goal.index-requires
index-requires c = omega (
  arith,
  c.self.inside.nodes.ok.0,
  ap length c.self.view_is,
  length_stepped c.self.inside.nodes.items c.self.inside.locks c.self.invariant,
)

pub returns : goal.returns
returns c = ap (λ xs. option_map (λ (x : CertStep). x.node) (slice_get xs c.args.index)) (sym c.self.view_is)
    ∙ node_at c.self.inside.nodes.items c.self.inside.locks c.args.index c.self.invariant
    ∙ slice_get_read c.self.inside.nodes.items (length c.self.inside.nodes.items) c.args.index c.index.result.now refl
    (omega (
      arith,
      ap length c.self.view_is,
      length_stepped c.self.inside.nodes.items c.self.inside.locks c.self.invariant,
    )) c.index.ensures
