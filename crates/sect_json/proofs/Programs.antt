-- A program as it is written.
use Rattle.std.proofs.Common.{◌≡◌, ℕ, List, [], ◌∷◌, ◌++◌, codes, append_assoc, sym, ap, ◌∙◌}
use Rattle.serde_json.specs.{Data.{Data}, Written.{compact_text}}
use Rattle.sect_json.specs.{Values.{count, list}, Inspecting.{inspection_with}}
use Rattle.sect_json.specs.steps.{Inspected.{rest_with}, Writes.{name_text, member_text, tail_text}}
use Rattle.sect_json.proofs.Texts.{record_written, members_written, parts_written}

-- what stands before the sections, the sections, and what stands behind them
pub program_written : (classes procedures sections sites threads : List Data) (k : ℕ)
    → (old head named listed new : List ℕ)
    → head ≡ old ++ (member_text 123 (codes "classes") (list classes) ++ (member_text 44 (codes "k") (count k)
    ++ member_text 44 (codes "procedures") (list procedures)))
    → named ≡ head ++ name_text 44 (codes "sections") → listed ≡ named ++ compact_text (list sections)
    → new ≡ listed ++ tail_text (rest_with sites threads)
    → new ≡ old ++ compact_text (inspection_with k (record {
      classes = classes;
      procedures = procedures;
      sections = sections;
      sites = sites;
      threads = threads;
    }))
program_written classes procedures sections sites threads k old head named listed new e f g h =
    let a = member_text 123 (codes "classes") (list classes) in
    let b = member_text 44 (codes "k") (count k) in
    let d = member_text 44 (codes "procedures") (list procedures) in
    let s = name_text 44 (codes "sections") in
    let l = compact_text (list sections) in
    let rest : List (List ℕ × Data) = (codes "sites", list sites) ∷ (codes "threads", list threads) ∷ [] in
    let t = tail_text (rest_with sites threads) in
    parts_written s l t head named listed new f g h
    ∙ (ap (λ r. r ++ (s ++ (l ++ t))) e
    ∙ (append_assoc old (a ++ (b ++ d)) (s ++ (l ++ t))
    ∙ ap (λ r. old ++ r) (append_assoc a (b ++ d) (s ++ (l ++ t))
    ∙ (ap (λ r. a ++ r) (append_assoc b d (s ++ (l ++ t)))
    ∙ sym (record_written (codes "classes") (list classes)
    ((codes "k", count k) ∷ (codes "procedures", list procedures) ∷ (codes "sections", list sections) ∷ rest)
    ∙ ap (λ r. a ++ r) (append_assoc b _ (125 ∷ []) ∙ ap (λ r. b ++ r) (append_assoc d _ (125 ∷ [])
    ∙ ap (λ r. d ++ r) (append_assoc (member_text 44 (codes "sections") (list sections)) _ (125 ∷ [])
    ∙ (append_assoc s l _ ∙ ap (λ r. s ++ (l ++ r)) (sym (members_written rest)))))))))))
