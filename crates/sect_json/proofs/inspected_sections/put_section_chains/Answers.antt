use Rattle.std.proofs.{Common.{List, [], ◌+◌, ◌++◌, length, map, sym, ap, subst, ◌∙◌}, lemmas.Result.{on_ok_weaker}}
use Rattle.std.specs.Prelude.{slice_index_or}
use Rattle.serde_json.specs.Written.{compact_text}
use Rattle.sect_lemmas.specs.Lists.{Has}
use Rattle.sect_graph.specs.Layout.{flow_nodes}
use Rattle.sect_names.specs.{Needed.{end_of}, declared.link.Link.{Link}}
use Rattle.sect_emit.specs.{Compiled.{program_of}, Explaining.{section_at}, Words.{IsChainNamed}}
use Rattle.sect_json.specs.{Explaining.{chain_json}, Values.{list}}
use Rattle.sect_json.specs.steps.Stepping.{AreStepTails, AreStepsBelow}
use Rattle.sect_json.proofs.Stepped.{chains_below}
use Rattle.sect_json.proofs.inspected_sections.put_section_chains.Goals as goal

pub put_chains-requires-clause-stepped : goal.put_chains-requires-clause-stepped
put_chains-requires-clause-stepped c = record {
  there = c.requires.section;
  tails = subst (λ ts. AreStepTails c.args.compiled.now c.args.section (map (λ v. v.items) ts))
      (sym c.as_slice.ensures.value) c.in_ok-tails.ensures.tails;
}

pub put_chains-requires-clause-named : goal.put_chains-requires-clause-named
put_chains-requires-clause-named c =
    subst (λ (cs : List (List Link)). (links : List Link) → Has cs links
    → IsChainNamed (program_of c.args.compiled.now) links) (sym c.as_slice-2.ensures.value) c.in_ok-chains.ensures.named

pub put_chains-requires-clause-there : goal.put_chains-requires-clause-there
put_chains-requires-clause-there c =
    let v = c.args.compiled.now in
    let i = c.args.section in
    let many = sym (ap length c.as_slice.ensures.value ∙ c.in_ok-tails.ensures.count) in
    subst (λ n. (links : List Link) → Has c.as_slice-2.result.now links → AreStepsBelow n links) many
    (subst (λ (cs : List (List Link)). (links : List Link) → Has cs links
    → AreStepsBelow (length (flow_nodes (section_at v i).body) + 1) links) (sym c.as_slice-2.ensures.value)
    (chains_below v.scheme (section_at v i).thread (end_of v.scheme i) (flow_nodes (section_at v i).body)
    (slice_index_or v.sets i []) c.in_ok-chains.chains.items c.in_ok-chains.ensures.chained))

pub returns-clause-text : goal.returns-clause-text
returns-clause-text c =
    let v = c.args.compiled.now in
    let i = c.args.section in
    let old = c.args.out.now.items in
    on_ok_weaker c.put_chains.result (λ h. record {
      chains = c.in_ok-chains.chains.items;
      chained = c.in_ok-chains.ensures.chained;
      written = h ∙ ap (λ (cs : List (List Link)). old ++ compact_text (list (map (chain_json v i) cs)))
          c.as_slice-2.ensures.value;
    }) c.put_chains.ensures.text
