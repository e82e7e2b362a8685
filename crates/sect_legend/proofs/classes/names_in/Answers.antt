use Rattle.std.proofs.Common.{Bor, ◌≡◌, ◌∙◌, ◌<◌, ◌+◌, ◌++◌, ◌∷◌, ℕ, List, [], map, drop, length, get_or}
use Rattle.std.proofs.{Common.{ap, sym, arith, inl, inr}, lemmas.Bool.{eq-eqb, ne_eqb, cases_lt}}
use Rattle.std.proofs.lemmas.List.{append_assoc, append-nil, get_or-map, length-map, map-append}
use Rattle.std.specs.String.{string_bytes}
use Rattle.sect_legend.specs.Legend.{names_of_class}
use Rattle.sect_legend.proofs.Naming.{no_names_left, none_left, not_of, one_of}
use Rattle.sect_legend.proofs.classes.names_in.Goals.{then-numbers-site+in_ok-push, else-numbers-site}
use Rattle.sect_legend.proofs.classes.names_in.Goals as goal

pub loop-site-preserved : goal.loop-site-preserved
loop-site-preserved c =
    let n = c.args.class in
    let numbers = c.args.numbers.now in
    let names = map string_bytes c.args.names.now in
    let i = c.loop-site.site in
    let within : i < length numbers = omega (arith, c.loop-site-test.true, c.min-site-end.ensures) in
    let few : i < length c.args.names.now = omega (arith, c.loop-site-test.true, c.min-site-end.ensures) in
    let named : i < length names = omega (arith, few, length-map c.args.names.now string_bytes) in
    elim c.if-numbers-site.branch [
      | then-numbers-site+in_ok-push w ↦
          (let name = w.as_str.result.now in
          let rest = names_of_class n (drop (i + 1) numbers) (drop (i + 1) names) in
          let told : List (List ℕ) = map (λ x. x.now) c.loop-site.found.items in
          let here : get_or names i [] ≡ name =
          get_or-map string_bytes c.args.names.now i w.index-names-site.result [] few
          ∙ ap string_bytes (sym w.index-names-site.is) ∙ sym w.as_str.ensures.value in
          ap (λ v. map (λ x. x.now) v.items ++ rest) w.found-is
          ∙ ap (λ xs. map (λ x. x.now) xs ++ rest) w.in_ok-push.ensures.items
          ∙ ap (λ xs. xs ++ rest)
          (map-append (λ (x : Bor (List ℕ)). x.now) c.loop-site.found.items (w.as_str.result ∷ []))
          ∙ append_assoc told (name ∷ []) rest
          ∙ ap (λ x. told ++ x ∷ rest) (sym here)
          ∙ ap (λ xs. told ++ xs) (sym (one_of n numbers names i [] within named (eq-eqb _ _ w.if-numbers-site.true)))
          ∙ c.loop-site.invariant)
      | else-numbers-site w ↦
          (ap (λ v. map (λ x. x.now) v.items ++ names_of_class n (drop (i + 1) numbers) (drop (i + 1) names)) w.found-is
          ∙ ap (λ xs. map (λ x. x.now) c.loop-site.found.items ++ xs)
          (sym (not_of n numbers names i [] within named (ne_eqb _ _ w.if-numbers-site.false)))
          ∙ c.loop-site.invariant)
    ]

pub returns : goal.returns
returns c =
    let n = c.args.class in
    let numbers = c.args.numbers.now in
    let names = map string_bytes c.args.names.now in
    let i = c.loop-site.site in
    let told : List (List ℕ) = map (λ x. x.now) c.loop-site.found.items in
    let none : names_of_class n (drop i numbers) (drop i names) ≡ [] = elim (cases_lt i (length numbers)) [
      | inl before ↦ no_names_left n numbers names i
          (omega (
            arith,
            before,
            c.loop-site-test.false,
            c.min-site-end.ensures,
            length-map c.args.names.now string_bytes,
          ))
      | inr past ↦ none_left n numbers names i (omega (arith, past))
    ] in
    sym (append-nil told) ∙ ap (λ xs. told ++ xs) (sym none) ∙ c.loop-site.invariant
