-- The document of pairs of sections has no float.
use Rattle.std.proofs.{Common.{ℕ, List, refl}, lemmas.Bool.{or_from}}
use Rattle.sect_types.specs.Programs.{ProgramView}
use Rattle.sect_conflicts.specs.{declared.conflict.SectionPair.{SectionPair}, declared.conflict.Conflict.{Conflict}}
use Rattle.sect_conflicts.specs.declared.conflict.Conflict.TheVariants.{Always, Sometimes, Never}
use Rattle.sect_json.specs.Conflicts.{path_pair_json, conflict_json, section_pair_json, conflicts_json}
use Rattle.sect_json.proofs.{Plain.{IsPlain, plain_map}, PlainKeys.{plain_key}}

module _ (p : ProgramView) where
  plain_conflict : (i j : ℕ) (conflict : Conflict) → IsPlain (conflict_json p i j conflict)
  plain_conflict i j (Always clash) = or_from _ _ (plain_key p clash.key) refl
  plain_conflict i j (Sometimes pairs) =
      or_from _ _ (plain_map (path_pair_json p.source) (λ pair. refl) pairs.items) refl
  plain_conflict i j Never = refl

  pub plain_conflicts : (pairs : List SectionPair) → IsPlain (conflicts_json p pairs)
  plain_conflicts pairs =
      or_from _ _ (plain_map (section_pair_json p) (λ pair. plain_conflict pair.first pair.second pair.conflict) pairs)
      refl
