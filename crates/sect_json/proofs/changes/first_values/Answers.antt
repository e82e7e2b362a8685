use Rattle.std.proofs.{Common.{◌≤◌, ◌++◌, length, map, sym, ap, ◌∙◌, arith}, lemmas.List.{append-nil, drop_all}}
use Rattle.serde_json.specs.View.{view}
use Rattle.sect_types.specs.declared.meaning.store.ObjectName.TheVariants.{Made}
use Rattle.sect_store.specs.Printing.{fields_at}
use Rattle.sect_json.specs.{Values.{by_place}, steps.Changing.{first_json}}
use Rattle.sect_json.proofs.Changed.{by_place_map}
use Rattle.sect_json.proofs.changes.first_values.Goals as goal

pub returns : goal.returns
returns c =
    let p = c.args.by.now.printer.now in
    let o = Made c.args.by.now.thread c.args.by.now.work.now.made in
    let names = fields_at p c.args.site in
    let types = c.args.types.now in
    let n = c.loop-number.number in
    let values = map view c.loop-number.values.items in
    let past : length types ≤ n = omega (arith, c.loop-number-test.false) in
    sym (append-nil values)
    ∙ (ap (λ ts. values ++ by_place (first_json p o names) n ts) (sym (drop_all n types past))
    ∙ (c.loop-number.invariant.added ∙ by_place_map p o names 0 types))
