-- What `clap` finds is what its words say by the commands.
use Rattle.std.proofs.Common.{◌≡◌, ◌∙◌, Some, ap, sym, map}
use Rattle.std.proofs.lemmas.Result.{IfOk-weaker}
use Rattle.std.specs.String.{string_bytes}
use Rattle.clap.specs.{Faults.{fault_of, is_simple_and_free}, Matches.{found_of}, Simple.{App, app_of, is_simple}}
use Rattle.clap.specs.{Simple.{subcommand_of as subcommand_met, subcommand_rows_of}, Walk.{rows_of}}
use Rattle.sect_command.specs.Commands.{commands, sectc}
use Rattle.sect_command.proofs.Wanting.{found_named, met_is, simple, simple_and_free}
use Rattle.sect_command.proofs.options.wanted_by.Goals as goal

pub returns-in-Some-subcommand_named : goal.returns-in-Some-subcommand_named
returns-in-Some-subcommand_named c =
    let told = map string_bytes c.args.told.now in
    let app : app_of c.in_ok-grammar.field-0 ≡ sectc = c.in_ok-grammar.ensures.told in
    let here = c.in_ok-matches.ensures.matches (ap is_simple app ∙ simple) in
    let right = c.in_ok-matches.ensures.kinds (ap is_simple_and_free app ∙ simple_and_free) in
    let found : subcommand_rows_of c.in_ok-matches.matches ≡ subcommand_met sectc told =
    here.1 ∙ ap (λ (a : App). subcommand_met a told) app in
    let rows = rows_of (found_of c.in-Some.options.now) in
    let met = met_is (λ p. p.0.now) (λ p. rows_of (found_of p.1.now)) _ _ _ _ c.in-Some.is c.subcommand.ensures.name
    c.subcommand.ensures.rows in
    let named = found_named c.in-Some.name.now c.in-Some-subcommand_named.subcommand commands
    c.in-Some-subcommand_named.ensures in
    IfOk-weaker c.wanted_from.result _ _ (λ wanted makes. record {
      right = ap (λ (a : App). fault_of a told) (sym app) ∙ right;
      subcommand = c.in-Some-subcommand_named.subcommand;
      found = found_of c.in-Some.options.now;
      met = sym found ∙ met ∙ ap (λ name. Some (name, rows)) (sym named);
      makes = makes;
    }) c.wanted_from.ensures
