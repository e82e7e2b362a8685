use Rattle.std.proofs.{Common.{◌∙◌, Some, sym, ap, nat_eq}, lemmas.Bool.Decides.{Decides-eqb}}
use Rattle.std.specs.Cmp.Lexicographic.{pointwise, pointwise_decides}
use Rattle.sect_cert.proofs.KnownLemmas.{read_there}
use Rattle.sect_cert.proofs.known_paths.KnownPaths.path.Goals as goal

pub returns-in-Some : goal.returns-in-Some
returns-in-Some c =
    let word = c.args.word.now in
    read_there (λ w. pointwise nat_eq word w.items) word (λ w. (pointwise_decides Decides-eqb word w.items).0)
    c.self.inside.paths.entries c.in-Some.path.now c.self.invariant (sym c.in-Some.ensures.value)
    ∙ ap Some (sym c.in_ok-share.ensures)
