use Rattle.std.proofs.Common.{◌≤◌, ◌<◌, ◌-◌, sym, ap, ◌∙◌, length, [], get_or, arith}
use Rattle.std.proofs.lemmas.Bool.{ltb-false, ltb-true}
use Rattle.std.specs.Prelude.{slice_get, slice_index_or}
use Rattle.sect_front.specs.declared.tree.Thread.{Thread}
use Rattle.sect_types.specs.{LocalNames.{all_local_names}, Programs.{ProgramView}}
use Rattle.sect_types.proofs.LocalRows.{has_name_there, own_here, fresh_here}
use Rattle.sect_types.proofs.program.Program.local_name.Goals as goal

pub returns-in-Some : goal.returns-in-Some
returns-in-Some c =
    let t = c.self.inside.tree in
    let u = c.args.thread in
    let n = c.args.number in
    let th = c.index-threads-thread.result in
    let d = c.in-Some.local.now in
    let source = ap (λ (p : ProgramView). p.source) c.self.view_is in
    let row = has_name_there _ _ c.self.view_is c.self.invariant.0.numbers.of_tree u n c.requires in
    let is = c.index-threads-thread.is ∙ ap (λ l. get_or l u th) c.threads.ensures in
    let own = c.as_slice-own.ensures ∙ ap (λ (z : Thread). z.locals) (sym c.index-threads-thread.is) in
    let looked = c.in-Some.ensures.lookup in
    let few : n < length th.locals = omega (arith, ltb-true n _ (sym looked.0), ap length own) in
    ap (λ s. slice_get (slice_index_or (all_local_names s) u []) n) (sym source)
    ∙ own_here t u n th d row is few (looked.1 ∙ ap (λ l. get_or l n d) own)

pub returns-in-None : goal.returns-in-None
returns-in-None c =
    let t = c.self.inside.tree in
    let u = c.args.thread in
    let n = c.args.number in
    let th = c.index-threads-thread.result in
    let f = c.index-as_slice-place.result in
    let source = ap (λ (p : ProgramView). p.source) c.self.view_is in
    let row = has_name_there _ _ c.self.view_is c.self.invariant.0.numbers.of_tree u n c.requires in
    let is = c.index-threads-thread.is ∙ ap (λ l. get_or l u th) c.threads.ensures in
    let own = c.as_slice-own.ensures ∙ ap (λ (z : Thread). z.locals) (sym c.index-threads-thread.is) in
    let past : length th.locals ≤ n = omega (arith, ltb-false n _ (sym c.in-None.ensures.lookup.0), ap length own) in
    let at = c.index-as_slice-place.is ∙ ap (λ l. get_or l (n - length c.as_slice-own.result.now) f) c.as_slice.ensures
    ∙ ap (λ ls. get_or c.index.result.now (n - length ls) f) own in
    ap (λ s. slice_get (slice_index_or (all_local_names s) u []) n) (sym source)
    ∙ fresh_here t u n th c.self.inside.fresh.items c.index.result.now f row c.self.invariant.1 is c.index.ensures past
    at
