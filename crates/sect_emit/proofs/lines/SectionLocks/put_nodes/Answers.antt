use Rattle.std.proofs.Common.{◌≡◌, ◌+◌, ◌<◌, ◌≤◌, ◌∙◌, ◌++◌, ◌∷◌, [], List, length, map, take, refl, sym, ap}
use Rattle.std.proofs.Common.{subst, arith, append-nil}
use Rattle.std.proofs.lemmas.List.{length-map, length-take-le, take_all}
use Rattle.std.specs.{List.{AllByRecursion}, Map.Iter.{deref}}
use Rattle.sect_lemmas.proofs.Places.{at_of}
use Rattle.sect_cert.specs.{declared.lock.CertLock.{CertLock}, Spelling.{spaced}}
use Rattle.sect_cert.specs.Texts.{IsLock, nodes_lines, lines_text}
use Rattle.sect_cert.specs.Spelling as spelling
use Rattle.sect_cert.proofs.shared.Lines.{next_node}
use Rattle.sect_emit.specs.{Words.{list_words}, steps.Spelled.{IsListAt}}
use Rattle.sect_emit.proofs.Spelling.{next_list, all_more}
use Rattle.sect_emit.proofs.lines.SectionLocks.put_nodes.Goals as goal

pub loop-node-init : goal.loop-node-init
loop-node-init c = record { last = c.requires.first; lines = sym (append-nil c.args.out.now.items); good = tt }

pub loop-node-preserved : goal.loop-node-preserved
loop-node-preserved c =
    let AreLocks : List CertLock → Type 0 = λ l. AllByRecursion IsLock l in
    let t = c.args.self.program.now.source in
    let at = c.args.self.locks.now.at in
    let node = c.loop-node.node in
    let front = c.args.out.now.items in
    let within : node < length at = omega (arith, c.loop-node-test.true, c.requires.count) in
    let locks = at_of at node within in
    let told = c.in_ok-next_list.ensures locks.0 locks.1 in
    let named = list_words t locks.0 in
    let before = map (list_words t) (take node at) in
    let long : length before ≡ node = length-map (take node at) (list_words t)
    ∙ length-take-le node at (omega (arith, within)) in
    let put = c.in_ok-put_node.ensures named
    (c.as_slice.ensures.value ∙ told.2 ∙ ap (λ ls. spaced (spelling.list_words ls)) told.0) in
    let more : before ++ named ∷ [] ≡ map (list_words t) (take (node + 1) at) =
    next_list t at node locks.0 named before _ locks.1 refl refl refl in record {
      last = subst (λ n. IsListAt t at n c.next_list.new.list.named (map deref c.next_list.new.list.locks.items)
          c.next_list.new.list.text.items) (omega arith) c.in_ok-next_list.ensures;
      lines = next_node before named node front c.loop-node.out.items _ long c.loop-node.invariant.lines put
          ∙ ap (λ ns. front ++ lines_text (nodes_lines 0 ns [])) more;
      good = subst (AllByRecursion AreLocks) more
          (all_more AreLocks before named c.loop-node.invariant.good (subst AreLocks told.0 told.3));
    }

pub returns-clause-lines : goal.returns-clause-lines
returns-clause-lines c =
    let t = c.args.self.program.now.source in
    let at = c.args.self.locks.now.at in
    let node = c.loop-node.node in
    let past : length at ≤ node = omega (arith, c.loop-node-test.false, c.requires.count) in
    c.loop-node.invariant.lines
    ∙ ap (λ ls. c.args.out.now.items ++ lines_text (nodes_lines 0 (map (list_words t) ls) [])) (take_all node at past)

pub returns-clause-good : goal.returns-clause-good
returns-clause-good c =
    let t = c.args.self.program.now.source in
    let at = c.args.self.locks.now.at in
    let node = c.loop-node.node in
    let past : length at ≤ node = omega (arith, c.loop-node-test.false, c.requires.count) in
    subst (λ ls. AllByRecursion (λ locks. AllByRecursion IsLock locks) (map (list_words t) ls)) (take_all node at past)
    c.loop-node.invariant.good
