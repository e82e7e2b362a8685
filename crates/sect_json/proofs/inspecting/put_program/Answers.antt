use Rattle.std.proofs.{Common.{◌++◌, length, map, ap, ◌∙◌}, lemmas.Result.{on_ok_weaker}}
use Rattle.std.specs.List.{range_with_len}
use Rattle.serde_json.specs.{View.{view}, Written.{has_float}}
use Rattle.sect_emit.specs.Compiled.{program_of}
use Rattle.sect_json.specs.{Calls.{procedure_json}, Inspecting.{thread_json}, Sites.{sites_json}}
use Rattle.sect_json.specs.steps.{Inspected.{rest_with}, Writes.{tail_text}}
use Rattle.sect_json.proofs.{PlainInspecting.{plain_rest}, Programs.{program_written}}
use Rattle.sect_json.proofs.inspecting.put_program.Goals as goal

pub put_tail-requires-clause-plain : goal.put_tail-requires-clause-plain
put_tail-requires-clause-plain c =
    let of = c.args.of.now in
    ap has_float (c.in_ok-rest_value.ensures
    ∙ (ap (λ s. rest_with s (map view c.in_ok-threads.threads.items)) c.in_ok-sites.ensures
    ∙ ap (rest_with (sites_json of.compiled.now of.source.now of.spans.now.sections of.names.now))
    c.in_ok-threads.ensures))
    ∙ plain_rest of.compiled.now of.source.now of.spans.now of.names.now

pub returns : goal.returns
returns c =
    let of = c.args.of.now in
    let v = of.compiled.now in
    let head = c.in_ok-put_head.ensures in
    let told = c.in_ok-put_sections.ensures in
    let sites = sites_json v of.source.now of.spans.now.sections of.names.now in
    let threads = map (thread_json v of.source.now of.spans.now of.names.now)
    (range_with_len 0 (length (program_of v).texts)) in
    on_ok_weaker c.put_tail.result (λ h. record {
      classes = head.classes;
      parted = head.parted;
      sections = told.sections;
      inspected = told.inspected;
      written = program_written head.classes (map (procedure_json of.source.now of.names.now)
          (program_of v).source.procedures) told.sections sites threads v.scheme.most _ _ _ _ _ head.written
          c.in_ok-put_name.ensures told.written
          (h ∙ ap (λ d. c.put_sections.new.out.items ++ tail_text d) (c.in_ok-rest_value.ensures
          ∙ (ap (λ s. rest_with s (map view c.in_ok-threads.threads.items)) c.in_ok-sites.ensures
          ∙ ap (rest_with sites) c.in_ok-threads.ensures)));
    }) c.put_tail.ensures
