use Rattle.std.proofs.Common.{◌∙◌, ◌++◌, ap, append_assoc, codes}
use Rattle.std.specs.String.{string_bytes}
use Rattle.sect_legend.specs.Legend.{mark_of, spot}
use Rattle.sect_legend.proofs.sites.put_called.Goals as goal

pub returns : goal.returns
returns c =
    let of = c.args.places.now in
    let old = string_bytes c.args.text.now in
    let place = spot (mark_of of) of.source.now c.args.at in
    c.in_ok-push_str-2.ensures.bytes ∙ (ap (λ b. b ++ codes ")")
    (c.in_ok-put_spot.ensures ∙ ap (λ b. b ++ place) c.in_ok-push_str.ensures.bytes)
    ∙ (append_assoc (old ++ codes " (called in ") place (codes ")")
    ∙ append_assoc old (codes " (called in ") (place ++ codes ")")))
