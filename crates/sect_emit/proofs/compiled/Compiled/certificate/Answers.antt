use Rattle.std.proofs.Common.{◌∙◌, subst}
use Rattle.sect_names.specs.Schemes.{IsScheme}
use Rattle.sect_emit.specs.Compiled.{CompiledView}
use Rattle.sect_emit.proofs.{OneCertificate.{certificate_one}, Written.{read_certificate}}
use Rattle.sect_emit.proofs.compiled.Compiled.certificate.Goals as goal

pub returns-in-Ok-clause-certificate : goal.returns-in-Ok-clause-certificate
returns-in-Ok-clause-certificate c = read_certificate c.self.inside.scheme c.facts.ensures c.self.inside.locks.items _
    c.args.self.now c.self.view_is c.self.invariant.inferred c.in_ok-text.text.items c.in_ok-text.ensures c.in-Ok.cert
    (λ a good is. c.in-Ok.ensures.only a good (c.as_slice-2.ensures.value ∙ is))

pub returns-in-Ok-clause-only : goal.returns-in-Ok-clause-only
returns-in-Ok-clause-only c = λ other is.
    certificate_one c.args.self.now (subst (λ (v : CompiledView). IsScheme v.scheme) c.self.view_is c.facts.ensures)
    other c.in-Ok.cert is
    (read_certificate c.self.inside.scheme c.facts.ensures c.self.inside.locks.items _
    c.args.self.now c.self.view_is c.self.invariant.inferred c.in_ok-text.text.items c.in_ok-text.ensures c.in-Ok.cert
    (λ a good read. c.in-Ok.ensures.only a good (c.as_slice-2.ensures.value ∙ read)))
