use Rattle.std.proofs.Common.{◌≡◌, ◌++◌, ◌∙◌, ℕ, List, sym, ap}
use Rattle.std.proofs.lemmas.List.{append_assoc}
use Rattle.std.specs.{Prelude.{codes}, Fmt.{decimal}}
use Rattle.sect_emit.specs.Explaining.{section_deed}
use Rattle.sect_warnings.specs.Labels.{load_text}
use Rattle.sect_warnings.proofs.lost_mark.put_load.Goals as goal

-- texts one behind the other
said : (a d b s t0 t1 t2 t3 : List ℕ) → t1 ≡ t0 ++ a → t2 ≡ t1 ++ d → t3 ≡ t2 ++ (b ++ s)
    → t3 ≡ t0 ++ (a ++ d ++ b ++ s)
said a d b s t0 t1 t2 t3 one two three =
    let before : t2 ≡ t0 ++ (a ++ d) = two ∙ ap (λ t. t ++ d) one ∙ append_assoc t0 a d in
    three ∙ ap (λ t. t ++ (b ++ s)) before ∙ append_assoc t0 (a ++ d) (b ++ s)
    ∙ ap (λ t. t0 ++ t) (sym (append_assoc (a ++ d) b s))

pub returns : goal.returns
unfolding load_text
returns c =
    let load = c.args.load.now in
    said (codes "`") (section_deed c.args.compiled.now load.section load.node) (codes "` in section ")
    (decimal load.section) _ _ _ _ c.in_ok-push_str.ensures.bytes c.in_ok-put_section_node.ensures
    c.in_ok-write.ensures.bytes
