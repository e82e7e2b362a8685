use Rattle.std.proofs.Common.{List, ◌++◌, map, ap, ◌∙◌}
use Rattle.serde_json.specs.Written.{compact_text}
use Rattle.sect_names.specs.declared.link.Link.{Link}
use Rattle.sect_json.specs.{Explaining.{step_json}, Values.{list}}
use Rattle.sect_json.proofs.Stepped.{chain_written}
use Rattle.sect_json.proofs.step_texts.put_chain.Goals as goal

pub returns-clause-text : goal.returns-clause-text
returns-clause-text c =
    let v = c.args.of.compiled.now in
    let i = c.args.of.section in
    let begun = c.extend_from_slice.new.self.items in
    chain_written v i c.args.chain.now c.args.out.now.items begun c.put_steps.new.out.items c.push.new.self.items
    c.in_ok-extend_from_slice.ensures.items
    (c.in_ok-put_steps.ensures.text
    ∙ ap (λ (ls : List Link). begun ++ compact_text (list (map (step_json v i) ls))) c.links.ensures)
    c.in_ok-push.ensures.items
