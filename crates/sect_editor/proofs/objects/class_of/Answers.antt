use Rattle.std.proofs.{Common.{sym}, lemmas.Option.{get_or_from_slice_get}}
use Rattle.sect_editor.proofs.objects.class_of.Goals as goal

pub returns : goal.returns
returns c =
    sym (get_or_from_slice_get c.args.classes.now.numbers c.args.site c.class_of_site.result 0 c.class_of_site.ensures)
