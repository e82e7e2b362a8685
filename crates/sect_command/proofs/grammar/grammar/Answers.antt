-- One command more.
use Rattle.std.proofs.Common.{◌+◌, ◌≡◌, ◌∙◌, ◌∷◌, [], arith, ap, sym, rules, take, get_or, codes, true}
use Rattle.std.proofs.lemmas.{List.{take_more, take_all}, List.Sums.{fold-append}}
use Rattle.clap.specs.Simple.{App, app_of, app_of_fields, new_shape, shape_of, with_subcommand}
use Rattle.sect_command.specs.Commands.{commands}
use Rattle.sect_command.specs.steps.Rows.{app_with, shape_told}
use Rattle.sect_command.proofs.Rows.{told_alike}
use Rattle.sect_command.proofs.grammar.grammar.Goals as goal

-- one of the commands is wanted
abbrev wanting : App → App
wanting a = record a { top = record a.top { subcommand_required = true } }

pub loop-row-preserved : goal.loop-row-preserved
loop-row-preserved c =
    let i = c.loop-row.row-index in
    let rows = c.rows-row-items.result.now in
    let before = c.loop-row.invariant in
    let shape = shape_of c.in_ok-told_command.field-0 in
    let shaped : shape ≡ shape_told (get_or rows i _) =
    ap (λ (a : App). a.top) c.in_ok-told_command.ensures.shape in
    let added = c.in_ok-sectc.ensures.shape c.in_ok-told_command.ensures.local in
    let more : app_with (take (i + 1) rows) ≡ with_subcommand (app_with (take i rows)) (shape_told (get_or rows i _)) =
    ap app_with (take_more rows i _ (omega arith)) ∙ fold-append _ _ (take i rows) (get_or rows i _ ∷ []) in (
      search rules,
      added ∙ ap (λ (a : App). with_subcommand a shape) before.1
          ∙ ap (with_subcommand (app_with (take i rows))) shaped ∙ sym more,
    )

pub returns-clause-told : goal.returns-clause-told
returns-clause-told c =
    let rows = c.rows-row-items.result.now in
    let bare : App = record { top = record (new_shape (codes "sectc")) { has_version = true }; subs = [] } in
    let all : app_of c.loop-row.sectc ≡ app_with rows = c.loop-row.invariant.1
    ∙ ap app_with (take_all c.loop-row.row-index rows (omega (arith, c.loop-row-test.false))) in
    let required : app_of c.subcommand_required.result ≡ wanting (app_of c.loop-row.sectc) =
    ap app_of_fields c.subcommand_required.ensures in
    required ∙ ap wanting (all ∙ told_alike bare rows commands c.rows-row-items.ensures)
