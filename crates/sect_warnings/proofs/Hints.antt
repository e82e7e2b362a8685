-- What a hint is put into: names end in their text, and its words stand behind what is there.
use Rattle.std.proofs.Common.{◌≡◌, ℕ, ◌<◌, ◌≤◌, ◌++◌, ◌∙◌, ap, zero, suc, List, [], ◌∷◌, map, length, get_or, arith}
use Rattle.std.proofs.Common.{Some, None, refl, sym, subst, inl, inr}
use Rattle.std.proofs.lemmas.List.{append_assoc}
use Rattle.sect_places.specs.{Spans.{AreProper}, declared.name_use.NameSpan.{NameSpan}}
use Rattle.sect_names.specs.{declared.lock.Lock.{Lock}, Printing.{global_name}}
use Rattle.sect_emit.specs.Compiled.{CompiledView}
use Rattle.sect_warnings.specs.Hinting.{hinted, hint_words, record_name, guard_for, IsHintOf, IsHintSaid}
use Rattle.sect_warnings.specs.Hinting.{IsTried as IsTriedHere}
use Rattle.sect_warnings.specs.{Outcomes.{IsOutcome}, steps.Hinted.{IsHinted}, steps.Trials.{IsTried}}

pub name_within : (total : ℕ) (names : List NameSpan) → AreProper total (map (λ n. n.span) names) → (k : ℕ)
    (d : NameSpan) → k < length names → (get_or names k d).span.end ≤ total
name_within total [] proper k d lt = absurd (omega (arith, lt))
name_within total (n ∷ names) proper zero d lt = proper.0.1
name_within total (n ∷ names) proper (suc k) d lt = name_within total names proper.1 k d (omega (arith, lt))

-- five texts behind another
pub five_behind : (o a b c d e : List ℕ) → o ++ a ++ b ++ c ++ d ++ e ≡ o ++ (a ++ b ++ c ++ d ++ e)
five_behind o a b c d e =
    ap (λ t. t ++ e) (ap (λ t. t ++ d) (ap (λ t. t ++ c) (append_assoc o a b) ∙ append_assoc o (a ++ b) c)
    ∙ append_assoc o (a ++ b ++ c) d) ∙ append_assoc o (a ++ b ++ c ++ d) e

module _ (source : List ℕ) (names : List NameSpan) (c : CompiledView) (r : ℕ) (n : NameSpan) (g : ℕ)
    (named : record_name names c.scheme.program.source r ≡ Some n) (guarded : guard_for c.scheme r ≡ Some g)
  where
    abbrev text : List ℕ
    text = hinted source n (global_name c.scheme.program.source g)

    -- what is said of the one hint that a record may have
    said_of : (i : ℕ) (l : Lock) (said : List ℕ)
        → IsTriedHere source c i l n (global_name c.scheme.program.source g) said
        → IsHintSaid source names c i l (Some r) said
    said_of i l said tried =
        subst (λ x. IsHintOf source c i l x (guard_for c.scheme r) said) (sym named)
        (subst (λ y. IsHintOf source c i l (Some n) y said) (sym guarded) tried)

    -- nothing, where the text with it is refused
    pub refused_said : IsHinted text c.scheme.most None → IsTried source names c r None
    refused_said (why, known, due) i l = said_of i l [] (inl (why, known, due, refl))

    -- and else what it comes to
    pub tried_said : (guard : List ℕ) → guard ≡ global_name c.scheme.program.source g → (d : CompiledView)
        → IsHinted text c.scheme.most (Some d) → (i : ℕ) (l : Lock) (end : List ℕ) → IsOutcome d i l end
        → IsHintSaid source names c i l (Some r) (hint_words n.used.name guard ++ end)
    tried_said guard called d from i l end outcome =
        said_of i l (hint_words n.used.name guard ++ end)
        (inr (d, end, from, outcome, ap (λ b. hint_words n.used.name b ++ end) called))
