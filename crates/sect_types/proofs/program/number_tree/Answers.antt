use Rattle.std.proofs.Common.{◌≡◌, ap, sym, ◌∙◌, subst, length, map, true}
use Rattle.sect_types.specs.{Environments.{field_types, global_records}, Expanded.{texts_of, fresh_in}}
use Rattle.std.specs.Prelude.{IsSome}
use Rattle.sect_types.specs.steps.{Written.{written_texts}, Threads.{variables_fine}}
use Rattle.sect_types.specs.steps.{FreshTypes.{local_types, all_fresh_known}, Expanding.{SettingView, AllFit, tree_of}}
use Rattle.sect_types.proofs.{EndCounts.{fine_typed}, WrittenThreads.{typed_fits, typed_flat}}
use Rattle.sect_types.proofs.{ByNumbers.{texts_written}, Readable.{texts_there}, FreshKnown.{all_fresh, types_are}}
use Rattle.sect_types.proofs.ProgramLemmas.{well_numbered}
use Rattle.sect_types.proofs.program.number_tree.Goals as goal

pub new-setting-requires-clause-flat : goal.new-setting-requires-clause-flat
new-setting-requires-clause-flat c =
    let t = c.args.context.now.tree.now in
    typed_flat t (fine_typed t c.args.spot.now c.requires.counted.fine).0

pub expand-requires-clause-fits : goal.expand-requires-clause-fits
expand-requires-clause-fits c =
    let t = c.args.context.now.tree.now in
    let typed = (fine_typed t c.args.spot.now c.requires.counted.fine).0 in
    let w = c.new-setting.result in
    subst (AllFit w (length w.globals) 0) (sym c.threads.ensures)
    (typed_fits t w (ap (λ (x : SettingView). x.procedures) c.new-setting.ensures)
    (ap (λ (x : SettingView). x.globals) c.new-setting.ensures) typed)

pub expand-requires-clause-known : goal.expand-requires-clause-known
expand-requires-clause-known c =
    let t = c.args.context.now.tree.now in
    let typed = (fine_typed t c.args.spot.now c.requires.counted.fine).0 in
    subst IsSome
    (λ i. texts_of (tree_of (sym c.new-setting.ensures i) (sym c.threads.ensures i))) (texts_there t typed)

pub local_types-requires-clause-fresh : goal.local_types-requires-clause-fresh
local_types-requires-clause-fresh c =
    let t = c.args.context.now.tree.now in
    let names = c.args.context.now.shown.now.record_names in
    let same : map (fresh_in (tree_of c.new-setting.result c.threads.result.now)) c.threads.result.now
    ≡ map (fresh_in t) t.threads =
    λ i. map (fresh_in (tree_of (c.new-setting.ensures i) (c.threads.ensures i))) (c.threads.ensures i) in
    let fresh = c.as_slice.ensures.value ∙ c.in_ok-texts.ensures.fresh ∙ same in
    subst (λ l. all_fresh_known names l ≡ true) (sym fresh)
    (all_fresh t names t.threads
    (subst (λ n. variables_fine n t.procedures ≡ true) (sym c.requires.context.shows.records)
    c.requires.counted.fine_variables))

pub returns-clause-numbers : goal.returns-clause-numbers
returns-clause-numbers c =
    let t = c.args.context.now.tree.now in
    let names = c.requires.context.shows.records in
    let texts : c.in_ok-texts.texts.items ≡ written_texts t =
    sym (texts_written t c.in_ok-texts.texts.items
    ((λ i. texts_of (tree_of (sym c.new-setting.ensures i) (sym c.threads.ensures i)))
    ∙ c.in_ok-texts.ensures.texts)) in
    let same : map (fresh_in (tree_of c.new-setting.result c.threads.result.now)) c.threads.result.now
    ≡ map (fresh_in t) t.threads =
    λ i. map (fresh_in (tree_of (c.new-setting.ensures i) (c.threads.ensures i))) (c.threads.ensures i) in
    let fresh = c.as_slice.ensures.value ∙ c.in_ok-texts.ensures.fresh ∙ same in
    well_numbered t c.args.spot.now c.in_ok-records.records.items c.in_ok-globals.globals.items
    c.in_ok-locals.locals.items
    c.in_ok-texts.texts.items c.in_ok-lockings.lockings.items c.sections.result c.sites.result c.statements.result
    c.requires.counted
    (c.in_ok-records.ensures ∙ (λ i. field_types (names i) (c.records.ensures i)))
    (c.in_ok-globals.ensures ∙ (λ i. global_records (names i) (c.globals.ensures i)))
    (c.in_ok-locals.ensures ∙ (λ i. local_types (names i) (c.threads-2.ensures i) (fresh i)) ∙ types_are t t.threads)
    texts c.in_ok-lockings.ensures c.sections.ensures.count c.sites.ensures.count c.statements.ensures.count
