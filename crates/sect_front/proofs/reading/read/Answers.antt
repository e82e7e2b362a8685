use Rattle.std.proofs.Common.{◌≡◌, ◌≤◌, [], ◌++◌, length, sym, ◌∙◌, ap, subst}
use Rattle.sect_front.specs.{Gaps.{after_gap}, ItemSpans.{source_spans}}
use Rattle.sect_front.specs.{Limits.{most_depth}, Depth.{depth}, Tokens.{source_tokens}, Faults.{IsTree}}
use Rattle.sect_front.specs.steps.{Passing.{ArePassed, text_start}, Declaring.{StopsText}, Verdicts.{Spelling}}
use Rattle.sect_front.proofs.Halting.{stopped_at, stopped_deep, tree_text, text_rest, begun}
use Rattle.sect_front.specs.declared.cursor.Stop.TheVariants as stop
use Rattle.sect_front.proofs.reading.read.Goals as goal

pub new-tree-requires : goal.new-tree-requires
new-tree-requires c =
    let bytes = c.args.bytes.now in
    let there = c.program.new.self in
    let tree = c.in-Ok.source in
    let same : c.new-cursor.result ≡ text_start bytes = c.new-cursor.ensures ∙ ap begun c.after_gap.ensures in
    let are = subst (λ x. ArePassed x (source_tokens tree []) there) same c.in-Ok.ensures.ok in
    subst (λ s. depth s ≤ most_depth) (sym c.source.view_is)
    (tree_text bytes there tree are c.in-Ok.ensures.end).is.shallow

pub returns-in-Ok-clause-tree : goal.returns-in-Ok-clause-tree
returns-in-Ok-clause-tree c =
    let bytes = c.args.bytes.now in
    let there = c.program.new.self in
    let tree = c.in-Ok.source in
    let same : c.new-cursor.result ≡ text_start bytes = c.new-cursor.ensures ∙ ap begun c.after_gap.ensures in
    let are = subst (λ x. ArePassed x (source_tokens tree []) there) same c.in-Ok.ensures.ok in
    subst (λ t. Spelling bytes (λ list. IsTree list t)) (sym (c.new-tree.ensures ∙ c.source.view_is))
    (tree_text bytes there tree are c.in-Ok.ensures.end)

pub returns-in-Ok-clause-spans : goal.returns-in-Ok-clause-spans
returns-in-Ok-clause-spans c =
    let bytes = c.args.bytes.now in
    let tree = c.in-Ok.source in
    let same : c.new-cursor.result ≡ text_start bytes = c.new-cursor.ensures ∙ ap begun c.after_gap.ensures in
    c.into_items.ensures ∙ (ap (λ s. s.items) c.in-Ok.ensures.spans
    ∙ (ap (λ s. s.items ++ source_spans s.total c.new-cursor.result.here tree) c.new-spans.ensures
    ∙ (ap (λ x. source_spans (length bytes) x.here tree) same
    ∙ ap (source_spans (length bytes) (after_gap bytes)) (sym (c.new-tree.ensures ∙ c.source.view_is)))))

pub unexpected-requires : goal.unexpected-requires
unexpected-requires c =
    let bytes = c.args.bytes.now in
    let there = c.program.new.self in
    let same : c.new-cursor.result ≡ text_start bytes = c.new-cursor.ensures ∙ ap begun c.after_gap.ensures in
    let h = subst (λ x. StopsText (stop.At c.in-Err-At.expected) x there) same
    (subst (λ s. StopsText s c.new-cursor.result there) c.in-Err-At.field-0-is c.in-Err-At.ensures.err) in
    rw c.rest.ensures ((stopped_at bytes c.in-Err-At.expected there h).0.read.reached.fits)

pub returns-in-Err-At-clause-fault : goal.returns-in-Err-At-clause-fault
returns-in-Err-At-clause-fault c =
    let bytes = c.args.bytes.now in
    let there = c.program.new.self in
    let same : c.new-cursor.result ≡ text_start bytes = c.new-cursor.ensures ∙ ap begun c.after_gap.ensures in
    let h = subst (λ x. StopsText (stop.At c.in-Err-At.expected) x there) same
    (subst (λ s. StopsText s c.new-cursor.result there) c.in-Err-At.field-0-is c.in-Err-At.ensures.err) in
    (rw c.in-Err-At.field-0-is at c.in_ok-unexpected-in-Err-At.ensures) there.braces there.last there.end
    (text_rest (stop.At c.in-Err-At.expected) bytes c.rest.result.now there h c.rest.ensures)

pub too_deep-requires : goal.too_deep-requires
too_deep-requires c =
    let bytes = c.args.bytes.now in
    let there = c.program.new.self in
    let same : c.new-cursor.result ≡ text_start bytes = c.new-cursor.ensures ∙ ap begun c.after_gap.ensures in
    let h = subst (λ x. StopsText stop.TooDeep x there) same
    (subst (λ s. StopsText s c.new-cursor.result there) c.in-Err-TooDeep.field-0-is c.in-Err-TooDeep.ensures.err) in
    rw c.rest-in-Err-TooDeep.ensures ((stopped_deep bytes there h).1.read.reached.fits)

pub returns-clause-fault : goal.returns-clause-fault
returns-clause-fault c =
    let bytes = c.args.bytes.now in
    let there = c.program.new.self in
    let same : c.new-cursor.result ≡ text_start bytes = c.new-cursor.ensures ∙ ap begun c.after_gap.ensures in
    let h = subst (λ x. StopsText stop.TooDeep x there) same
    (subst (λ s. StopsText s c.new-cursor.result there) c.in-Err-TooDeep.field-0-is c.in-Err-TooDeep.ensures.err) in
    c.too_deep.ensures there.braces there.last there.end
    (text_rest stop.TooDeep bytes c.rest-in-Err-TooDeep.result.now there h c.rest-in-Err-TooDeep.ensures)
