use Rattle.std.proofs.Common.{rules, sym}
use Rattle.std.specs.Prelude.{nat_eq}
use Rattle.sect_places.specs.Declarations.{is_called, is_procedure}
use Rattle.sect_lint.proofs.Circling.{position_found, stands_in}
use Rattle.sect_lint.proofs.circle.link_of.Goals as goal

pub returns-clause-linked : goal.returns-clause-linked
returns-clause-linked c =
    let call = c.args.call.now in
    let declared = c.args.declared.now in
    let from = position_found (λ d. nat_eq d.used.item call.used.scope) declared c.in_ok-declared_in.field-0
    (sym c.in_ok-declared_in.ensures) in
    let to = position_found (is_called is_procedure call.used.name) declared c.in_ok-declared_as.field-0
    (sym c.in_ok-declared_as.ensures) in
    record {
      caller = from.0;
      from = from.1;
      stands = stands_in from.0 call from.2 (search rules);
      called = to.0;
      to = to.1;
      named = to.2;
    }
