use Rattle.std.specs.{Prelude.{codes}, Fmt.{decimal}}
use Rattle.sect_warnings.specs.Labels.{needs_text}
use Rattle.sect_warnings.proofs.Parting.{compared_within, text_of_two}
use Rattle.sect_warnings.proofs.apart_mark.apart_text.Goals as goal

pub put_needs-requires : goal.put_needs-requires
put_needs-requires c = (compared_within c.args.compiled.now c.args.section c.args.other c.requires.0).0

pub put_needs-requires-2 : goal.put_needs-requires-2
put_needs-requires-2 c = (compared_within c.args.compiled.now c.args.section c.args.other c.requires.0).1

pub returns : goal.returns
returns c =
    let v = c.args.compiled.now in
    text_of_two (codes "takes ") (needs_text v c.args.section) (codes ", and section ") (decimal c.args.other)
    (codes " takes ") (needs_text v c.args.other) _ _ _ _ _ c.new-text.ensures.bytes c.in_ok-push_str.ensures.bytes
    c.in_ok-put_needs.ensures c.in_ok-write.ensures.bytes c.in_ok-put_needs-2.ensures
