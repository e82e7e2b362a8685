use Rattle.std.proofs.{Common.{◌++◌, map, codes, refl, sym, ap, ◌∙◌}, lemmas.Result.{on_ok_weaker}}
use Rattle.std.specs.Prelude.{slice_index_or}
use Rattle.serde_json.specs.{Data.{Data}, Written.{has_float, compact_text}}
use Rattle.sect_front.specs.declared.tree.Locking.TheVariants.{Inferred}
use Rattle.sect_emit.specs.Compiled.{program_of}
use Rattle.sect_json.specs.{Inspecting.{section_json}, Locks.{lock_json}}
use Rattle.sect_json.specs.steps.Writes.{member_text}
use Rattle.sect_json.proofs.{PlainCompiling.{plain_set}, PlainInspecting.{plain_all}}
use Rattle.sect_json.proofs.Sections.{section_written, seven_written}
use Rattle.sect_json.proofs.inspected_sections.put_section.Goals as goal

pub put_member-requires : goal.put_member-requires
put_member-requires c =
    ap has_float c.all_value.ensures
    ∙ plain_all (slice_index_or (program_of c.args.of.now.compiled.now).lockings c.args.section Inferred)

pub put_section_chains-requires-clause-told : goal.put_section_chains-requires-clause-told
put_section_chains-requires-clause-told c =
    c.new-texts.ensures.texts
    ∙ ap (map (λ l. compact_text (lock_json (program_of c.args.of.now.compiled.now).source l)))
    (sym c.new-texts.ensures.keys)

pub put_member-requires-2 : goal.put_member-requires-2
put_member-requires-2 c = ap has_float c.in_ok-set.ensures ∙ plain_set c.args.of.now.compiled.now c.args.section

pub returns : goal.returns
returns c =
    let of = c.args.of.now in
    let v = of.compiled.now in
    let i = c.args.section in
    let old = c.args.out.now.items in
    let why = c.in_ok-put_section_chains.ensures.text in
    let nodes = c.in_ok-put_nodes.ensures in
    let value : Data = section_json v of.source.now of.spans.now i nodes.needed why.chains in
    on_ok_weaker c.put_end.result (λ h. (
      value,
      record {
        needed = nodes.needed;
        at = nodes.at;
        chains = why.chains;
        chained = why.chained;
        told = refl;
      },
      seven_written _ _ _ _ _ _ _ old _ _ _ _ _ _ _
          (c.in_ok-put_member.ensures ∙ ap (λ d. old ++ member_text 123 (codes "all") d) c.all_value.ensures)
          c.in_ok-put_name.ensures why.written
          (c.in_ok-put_member-2.ensures
          ∙ ap (λ d. c.put_section_chains.new.out.items ++ member_text 44 (codes "locks") d) c.in_ok-set.ensures)
          c.in_ok-put_name-2.ensures nodes.written h
          ∙ ap (λ r. old ++ r) (sym (section_written v of.source.now of.spans.now i nodes.needed why.chains)),
    )) c.put_end.ensures
