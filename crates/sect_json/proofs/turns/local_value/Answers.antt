use Rattle.std.proofs.{Common.{◌≡◌, ◌∙◌, [], rules, sym, ap}, lemmas.Option.{get_or_from_slice_get}}
use Rattle.std.proofs.lemmas.Result.{IfOk-weaker}
use Rattle.std.specs.{Prelude.{None, slice_index_or}, String.{string_bytes}}
use Rattle.sect_types.specs.LocalNames.{local_text, all_local_names}
use Rattle.sect_names.specs.Printing.{local_at}
use Rattle.sect_json.specs.Turns.{local_with}
use Rattle.sect_json.proofs.turns.local_value.Goals as goal

pub returns : goal.returns
returns c =
    let p = c.args.program.now in
    let u = c.args.thread in
    let x = c.args.local in
    let called = c.local_name-called.result in
    let text : string_bytes c.in_ok-name.name ≡ local_text called = search rules in
    let named : local_text called ≡ local_text (local_at p.source u x) =
    ap local_text (sym (get_or_from_slice_get (slice_index_or (all_local_names p.source) u []) x called
    (record { name = []; call = None }) c.local_name-called.ensures)) in
    IfOk-weaker c.told_local.result _ _
    (λ value h. h ∙ (ap (λ n. local_with p n c.local.result) (text ∙ named)
    ∙ ap (local_with p (local_text (local_at p.source u x))) c.local.ensures)) c.told_local.ensures
