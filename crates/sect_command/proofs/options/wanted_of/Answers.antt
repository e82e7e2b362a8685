-- The words are told apart.
use Rattle.std.proofs.Common.{◌≡◌, ◌-◌, arith, drop, length, map, subst, take}
use Rattle.std.proofs.lemmas.{List.{length-drop, take_all}, Result.{IfOk-weaker}}
use Rattle.std.specs.String.{string_bytes}
use Rattle.sect_command.specs.Wanting.{IsMadeBy}
use Rattle.sect_command.proofs.Wanting.{told_apart}
use Rattle.sect_command.proofs.options.wanted_of.Goals as goal

pub returns : goal.returns
returns c =
    let words = c.args.words.now in
    let n = c.told_count-count.result in
    let rest : take (length words - n) (drop n words) ≡ drop n words =
    take_all (length words - n) (drop n words) (omega (arith, length-drop n words)) in
    IfOk-weaker c.wanted_by.result _ _ (λ wanted made. record {
      told = map string_bytes (take n words);
      behind = map string_bytes (drop n words);
      apart = told_apart string_bytes words n c.told_count-count.ensures.threads;
      made = subst (λ xs. IsMadeBy (map string_bytes (take n words)) (map string_bytes xs) wanted) rest made;
    }) c.wanted_by.ensures
