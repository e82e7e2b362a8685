use Rattle.std.proofs.Common.{◌∙◌, length, sym, ap, arith}
use Rattle.std.specs.{Prelude.{slice_get}, Option.{option_map}}
use Rattle.sect_cert.specs.declared.certificate.CertStep.{CertStep}
use Rattle.sect_cert.proofs.SteppingLemmas.{length_stepped, lock_at}
use Rattle.sect_cert.proofs.chain_steps.ChainSteps.is_one.Goals as goal

pub is_one-requires : goal.is_one-requires
is_one-requires c = record {
  index = omega (
    arith,
    c.self.invariant,
    ap length c.self.view_is,
    length_stepped c.self.inside.nodes.items c.self.inside.locks c.self.invariant,
  );
  other = omega (
    arith,
    c.self.invariant,
    ap length c.self.view_is,
    length_stepped c.self.inside.nodes.items c.self.inside.locks c.self.invariant,
  );
}

pub returns : goal.returns
returns c = λ same.
    ap (λ xs. option_map (λ (x : CertStep). x.lock) (slice_get xs c.args.index)) (sym c.self.view_is)
    ∙ lock_at c.self.inside.nodes.items c.self.inside.locks c.args.index c.self.invariant ∙ c.is_one.ensures same
    ∙ sym (lock_at c.self.inside.nodes.items c.self.inside.locks c.args.other c.self.invariant)
    ∙ ap (λ xs. option_map (λ (x : CertStep). x.lock) (slice_get xs c.args.other)) c.self.view_is
