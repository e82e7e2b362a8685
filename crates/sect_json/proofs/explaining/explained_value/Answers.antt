use Rattle.std.proofs.{Common.{List, map, ap, sym, subst, ◌∙◌}, lemmas.Result.{IfOk-weaker}}
use Rattle.sect_lemmas.specs.Lists.{Has}
use Rattle.sect_names.specs.declared.link.Link.{Link}
use Rattle.sect_emit.specs.{Words.{IsChainNamed}, Compiled.{program_of}}
use Rattle.sect_json.specs.{Values.{list}, Explaining.{section_with, chain_json}}
use Rattle.sect_json.proofs.explaining.explained_value.Goals as goal

pub chains_value-requires-clause-named : goal.chains_value-requires-clause-named
chains_value-requires-clause-named c =
    subst (λ (cs : List (List Link)). (links : List Link) → Has cs links
    → IsChainNamed (program_of c.args.compiled.now) links) (sym c.as_slice.ensures.value) c.in_ok-found.ensures.named

pub returns : goal.returns
returns c =
    let v = c.args.compiled.now in
    let i = c.args.section in
    let chains = c.in_ok-found.found.items in
    let thread = c.section_thread.result in
    IfOk-weaker c.told_section.result _ _
    (λ value h. record {
      chains = chains;
      chained = c.in_ok-found.ensures.chained;
      told = h ∙ (ap (λ d. section_with d i thread)
          (c.in_ok-chains.ensures ∙ ap (λ cs. list (map (chain_json v i) cs)) c.as_slice.ensures.value)
          ∙ ap (λ t. section_with (list (map (chain_json v i) chains)) i t) c.section_thread.ensures);
    }) c.told_section.ensures
