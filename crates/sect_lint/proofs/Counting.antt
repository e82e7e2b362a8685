-- How the items of records are counted.
use Rattle.std.proofs.Common.{◌≡◌, ℕ, zero, suc, ◌+◌, ◌-◌, ◌<◌, ◌≤◌, List, [], ◌∷◌, length, get_or, drop, refl, sym}
use Rattle.std.proofs.{Common.{◌∙◌, ap, arith}, lemmas.List.{drop_more, drop_all}}
use Rattle.sect_front.specs.declared.tree.Record.{Record}
use Rattle.sect_lint.specs.Places.{record_item}

pub record_step : (rs : List Record) (i left : ℕ) (x : Record) → i < length rs → x ≡ get_or rs i x → 0 < left
    → record_item (drop i rs) left ≡ 1 + length x.fields + record_item (drop (i + 1) rs) (left - 1)
record_step rs i zero x lt is some = absurd (omega (arith, some))
record_step rs i (suc left) x lt is some =
    let less : left ≡ suc left - 1 = omega arith in
    ap (λ (xs : List Record). record_item xs (suc left)) (drop_more rs i x lt ∙ ap (λ y. y ∷ drop (i + 1) rs) (sym is))
    ∙ ap (λ n. 1 + length x.fields + record_item (drop (i + 1) rs) n) less

-- none are left
pub record_here : (rs : List Record) (left : ℕ) → left ≡ 0 → record_item rs left ≡ 0
record_here [] left e = refl
record_here (x ∷ rs) zero e = refl
record_here (x ∷ rs) (suc left) e = absurd (omega arith)

pub record_end : (rs : List Record) (i left : ℕ) → length rs ≤ i → record_item (drop i rs) left ≡ 0
record_end rs i left h = ap (λ (xs : List Record). record_item xs left) (drop_all i rs h)
