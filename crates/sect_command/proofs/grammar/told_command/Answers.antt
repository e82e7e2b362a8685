-- One argument more.
use Rattle.std.proofs.Common.{◌+◌, ◌≡◌, ◌∙◌, ◌∷◌, ◌++◌, [], arith, ap, sym, rules, take, map, get_or}
use Rattle.std.proofs.lemmas.List.{map_more}
use Rattle.clap.specs.{Simple.{App, with_rule}, Walk.{rule_of}}
use Rattle.sect_command.specs.steps.Rows.{rule_told, shape_with}
use Rattle.sect_command.proofs.grammar.told_command.Goals as goal

pub loop-argument-preserved : goal.loop-argument-preserved
loop-argument-preserved c =
    let i = c.loop-argument.argument-index in
    let row = c.args.row.now in
    let before = c.loop-argument.invariant in
    let added = c.in_ok-told.ensures in
    let item : rule_of c.told_argument.result ≡ rule_told (get_or row.takes.now i _) = c.told_argument.ensures.rule in
    let rule = rule_of c.told_argument.result in
    let first = map rule_told (take i row.takes.now) in
    let more : map rule_told (take (i + 1) row.takes.now) ≡ first ++ rule ∷ [] =
    map_more rule_told row.takes.now i _ (omega arith) ∙ ap (λ r. first ++ r ∷ []) (sym item) in
    let shaped = added.shape c.told_argument.ensures.local ∙ ap (λ (a : App). with_rule a rule) before.1 in
    (search rules, shaped ∙ ap (λ rs. record { top = record (shape_with row []) { rules = rs }; subs = [] }) (sym more))
