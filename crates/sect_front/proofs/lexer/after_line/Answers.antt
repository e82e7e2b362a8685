use Rattle.std.proofs.Common.{◌≡◌, suc, ◌+◌, ◌-◌, false, true, drop, take, length, sym, subst, arith}
use Rattle.std.proofs.lemmas.List.{length-drop, take_all}
use Rattle.sect_front.specs.Gaps.{skip}
use Rattle.sect_front.proofs.Comments.{feed_found, feed_missing}
use Rattle.sect_front.proofs.lexer.after_line.Goals as goal

pub returns-in-Some-clause-same : goal.returns-in-Some-clause-same
returns-in-Some-clause-same c =
    let bytes = c.args.bytes.now in
    let at = c.in-Some.at in
    let found = c.in-Some.ensures in
    let behind : suc at ≡ at + 1 = omega arith in
    let rest = drop (at + 1) bytes in
    let is : take (length bytes - (at + 1)) rest ≡ rest =
    take_all (length bytes - (at + 1)) rest (omega (arith, length-drop (at + 1) bytes)) in
    subst (λ l. skip false l ≡ skip true bytes) (sym is)
    (subst (λ n. skip false (drop n bytes) ≡ skip true bytes) behind
    (feed_found bytes at found.0.high found.0.before found.1))

pub returns-in-None-clause-same : goal.returns-in-None-clause-same
returns-in-None-clause-same c = feed_missing c.args.bytes.now c.in-None.ensures
