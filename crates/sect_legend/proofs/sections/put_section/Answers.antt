use Rattle.std.proofs.Common.{◌∙◌, ◌++◌, ap, append_assoc, codes, sym}
use Rattle.std.proofs.lemmas.{Option.{get_or_from_slice_get}, Result.{on_ok_weaker}}
use Rattle.std.specs.{Prelude.{length, slice_index_or}, String.{string_bytes}}
use Rattle.sect_front.specs.declared.span.Span.{Span}
use Rattle.sect_places.specs.Spans.{no_span}
use Rattle.sect_emit.specs.{Compiled.{program_of}, Explaining.{section_at}, Labels.{thread_name}}
use Rattle.sect_legend.specs.Legend.{mark_of, spot}
use Rattle.sect_legend.proofs.Placing.{head_within}
use Rattle.sect_legend.proofs.sections.put_section.Goals as goal

pub put_spot-requires : goal.put_spot-requires
put_spot-requires c =
    let of = c.args.places.now in
    head_within (length of.source.now) of.spans.now.heads c.args.section c.head.result c.requires.placed.heads_within
    c.head.ensures

pub returns : goal.returns
returns c =
    let of = c.args.places.now in
    let v = of.compiled.now in
    let old = string_bytes c.args.text.now in
    let name = thread_name (program_of v).source (section_at v c.args.section).thread in
    let at = λ (s : Span). spot (mark_of of) of.source.now s.start in
    let head = slice_index_or of.spans.now.heads c.args.section no_span in
    on_ok_weaker c.put_spot.result
    (λ put. put ∙ (ap (λ b. b ++ at c.head.result)
    (c.in_ok-push_str-2.ensures.bytes ∙ (ap (λ b. b ++ codes ", ")
    (c.in_ok-put_thread.ensures ∙ (ap (λ b. b ++ name) c.in_ok-push_str.ensures.bytes
    ∙ append_assoc old (codes "thread ") name)) ∙ append_assoc old (codes "thread " ++ name) (codes ", ")))
    ∙ (append_assoc old (codes "thread " ++ name ++ codes ", ") (at c.head.result)
    ∙ ap (λ s. old ++ (codes "thread " ++ name ++ codes ", " ++ at s))
    (sym (get_or_from_slice_get of.spans.now.heads c.args.section c.head.result no_span c.head.ensures)))))
    c.put_spot.ensures
