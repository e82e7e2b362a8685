use Rattle.std.proofs.Common.{◌≡◌, ◌+◌, ◌∙◌, ◌++◌, ◌∷◌, [], Some, length, arith, sym, ap, subst}
use Rattle.std.proofs.lemmas.{List.{length-map}, Option.{slice_get_within}}
use Rattle.std.specs.{Prelude.{slice_get}, List.{AllByRecursion, AllZip}}
use Rattle.sect_lemmas.proofs.Places.{at_of}
use Rattle.sect_types.specs.{Programs.{ProgramView}, Sections.{sections_of}}
use Rattle.sect_graph.specs.Graphs.{GraphView}
use Rattle.sect_names.specs.{Needed.{end_of}, Printing.{AreNamed}}
use Rattle.sect_chains.specs.Numbered.{chains_in}
use Rattle.sect_cert.specs.{Texts.{IsLock, IsSection, section_lines}}
use Rattle.sect_cert.specs.Texts.{lines_text, begun_text}
use Rattle.sect_cert.proofs.shared.Lines.{section_written}
use Rattle.sect_emit.specs.{Words.{list_words, section_words}, steps.Known.{IsFirstNamed}}
use Rattle.sect_emit.proofs.{Spelling.{rising}, Stepping.{firsts_named}, Wholes.{all_named, entry_first, nodes_counted}}
use Rattle.sect_emit.proofs.Written.{one_begun}
use Rattle.sect_cert.specs.declared.line.CertLine.TheVariants as line
use Rattle.sect_emit.proofs.certificate.put_words.Goals as goal

pub first_list-requires-clause-there : goal.first_list-requires-clause-there
first_list-requires-clause-there c =
    let locks = c.args.locks.now in
    let first = entry_first c.args.scheme.now c.facts.ensures c.args.section locks c.requires.section
    c.requires.inferred in
    let some = slice_get_within locks.at 0 locks.entry first in
    omega (arith, some)

pub first_list-requires-clause-names : goal.first_list-requires-clause-names
first_list-requires-clause-names c = λ list has. subst (λ p. AreNamed p list) (sym c.program.ensures)
    (all_named c.args.scheme.now c.facts.ensures c.args.section c.args.locks.now c.requires.section
    c.requires.inferred list has)

pub put_nodes-requires-clause-count : goal.put_nodes-requires-clause-count
put_nodes-requires-clause-count c =
    let i = c.args.section in
    let g = c.section.result.now in
    let graph = subst (λ (v : GraphView). slice_get v.sections i ≡ Some g) c.graph.ensures c.section.ensures in
    nodes_counted c.args.scheme.now i c.args.locks.now c.requires.section c.requires.inferred g graph c.exit.result
    c.exit.ensures.number

pub put_nodes-requires-clause-names : goal.put_nodes-requires-clause-names
put_nodes-requires-clause-names c = λ list has. subst (λ p. AreNamed p list) (sym c.program.ensures)
    (all_named c.args.scheme.now c.facts.ensures c.args.section c.args.locks.now c.requires.section
    c.requires.inferred list has)

pub put_chains-requires-clause-first : goal.put_chains-requires-clause-first
put_chains-requires-clause-first c =
    let s = c.args.scheme.now in
    let i = c.args.section in
    let locks = c.args.locks.now in
    let t = c.program.result.now.source in
    let within = c.requires.section in
    let of = at_of (sections_of s.program.texts) i within in
    let g = at_of s.graphs.sections i (omega (arith, within, c.facts.ensures.graphed.section_count)) in
    let chains = chains_in c.in_ok-chains.chains in
    let first = entry_first s c.facts.ensures i locks c.requires.section c.requires.inferred in
    let told = c.in_ok-list.ensures locks.entry first in
    let entry : c.as_slice-3.result.now ≡ list_words t locks.entry = c.as_slice-3.ensures
    ∙ (c.in_ok-entry.ensures ∙ (c.as_slice.ensures ∙ told.0)) in
    subst (λ ls. AllZip (IsFirstNamed t) ls chains) (sym entry)
    (firsts_named s of.0.thread (end_of s i) g.0 t locks.entry chains (c.in_ok-chains.ensures.chains of.0 g.0 of.1 g.1))

pub put_chains-requires-clause-good : goal.put_chains-requires-clause-good
put_chains-requires-clause-good c =
    let locks = c.args.locks.now in
    let first = entry_first c.args.scheme.now c.facts.ensures c.args.section locks c.requires.section
    c.requires.inferred in
    let told = c.in_ok-list.ensures locks.entry first in
    subst (AllByRecursion IsLock) (sym (c.as_slice-3.ensures ∙ (c.in_ok-entry.ensures ∙ c.as_slice.ensures))) told.3

pub returns : goal.returns
returns c =
    let s = c.args.scheme.now in
    let i = c.args.section in
    let locks = c.args.locks.now in
    let t = c.program.result.now.source in
    let old = c.args.out.now.items in
    let chains = chains_in c.in_ok-chains.chains in
    let x = section_words t locks chains in
    let first = entry_first s c.facts.ensures i locks c.requires.section c.requires.inferred in
    let told = c.in_ok-list.ensures locks.entry first in
    let entry : c.as_slice-2.result.now ≡ x.entry = c.as_slice-2.ensures
    ∙ (c.in_ok-entry.ensures ∙ (c.as_slice.ensures ∙ told.0)) in
    let g = c.section.result.now in
    let graph = subst (λ (v : GraphView). slice_get v.sections i ≡ Some g) c.graph.ensures c.section.ensures in
    let counted = nodes_counted s i locks c.requires.section c.requires.inferred g graph c.exit.result
    c.exit.ensures.number in
    let count : c.exit.result + 1 ≡ length x.nodes = sym (length-map locks.at (list_words t) ∙ counted) in
    let good : IsSection x = record {
      count = (let most = c.exit.ensures.most in omega (arith, most, count));
      nodes = c.in_ok-put_nodes.ensures.good;
      entry = subst (AllByRecursion IsLock) told.0 told.3;
      chains = c.in_ok-put_chains.ensures.good;
      rising = rising t 0 chains;
    } in
    let lines = section_written i x old _ _ _ _
    (c.in_ok-put_head.ensures ∙ ap (λ n. old ++ lines_text (line.Section i n ∷ [])) count)
    c.in_ok-put_nodes.ensures.lines
    (c.in_ok-put_entry.ensures ∙ ap (λ ls. c.put_nodes.new.out.items ++ lines_text (line.Entry ls ∷ [])) entry)
    c.in_ok-put_chains.ensures.lines in
    one_begun s i locks x old _ c.requires.begun c.requires.inferred
    (λ of h at there. (
      chains,
      c.in_ok-chains.ensures.chains of h at there,
      ap (λ (p : ProgramView). section_words p.source locks chains) c.program.ensures,
    )) good
    (λ k n before is begun. lines
    ∙ (ap (λ o. o ++ lines_text (line.Section i (length x.nodes) ∷ section_lines x [])) begun
    ∙ (ap (λ m. begun_text k n before ++ lines_text (line.Section m (length x.nodes) ∷ section_lines x [])) (sym is)
    ∙ sym (c.sections_are_lines.ensures k n before x))))
