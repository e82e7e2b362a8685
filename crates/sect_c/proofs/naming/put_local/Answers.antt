use Rattle.std.proofs.Common.{◌≡◌, ◌++◌, [], None, sym, ap, ◌∙◌, codes}
use Rattle.std.proofs.lemmas.{List.{append_assoc}, Option.{get_or_from_slice_get}}
use Rattle.std.specs.{Prelude.{slice_index_or}, Fmt.{decimal}, String.{string_bytes}}
use Rattle.sect_types.specs.declared.declarations.local_name.LocalName.{LocalName}
use Rattle.sect_types.specs.LocalNames.{all_local_names}
use Rattle.sect_names.specs.Printing.{local_at}
use Rattle.sect_c.proofs.naming.put_local.Goals as goal

pub returns : goal.returns
returns c =
    let t = c.args.program.now.source in
    let u = c.args.thread in
    let x = c.args.local in
    let called = c.local_name-called.result in
    let old = string_bytes c.args.text.now in
    let is : called ≡ local_at t u x = sym (get_or_from_slice_get (slice_index_or (all_local_names t) u []) x called
    (record { name = []; call = None }) c.local_name-called.ensures) in
    simp append_assoc (c.in_ok-write.ensures.bytes
    ∙ ap (λ (l : LocalName). old ++ (codes "l" ++ (decimal x ++ (codes "_" ++ l.name)))) is)
