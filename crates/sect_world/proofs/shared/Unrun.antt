-- Schedules that aren't run.
use Rattle.std.proofs.Common.{◌≡◌, ℕ, ◌+◌, ◌<◌, ◌≤◌, ◌++◌, List, ◌∷◌, length, get_or, take, drop, sym, ap, subst, ◌∙◌}
use Rattle.std.proofs.lemmas.List.{drop_more, take-append-drop}
use Rattle.sect_lemmas.specs.Lists.{Has}
use Rattle.sect_world.specs.declared.turned.WorldFault.{WorldFault}
use Rattle.sect_world.specs.{declared.turned.WorldFault.TheVariants.{NoSuchThread, Memory}, Schedules.{IsUnrun}}
use Rattle.sect_world.specs.Worlds.{IsRefused}

-- a refused turn is why a schedule isn't run whose earlier entries are threads
pub unrun : (fault : WorldFault) (ts : List ℕ) (i count : ℕ) → i < length ts
    → ((t : ℕ) → Has (take i ts) t → t < count) → IsRefused fault (get_or ts i 0) count → IsUnrun fault ts count
unrun (NoSuchThread u) ts i count lt there r = record {
  before = take i ts;
  after = drop (i + 1) ts;
  split = subst (λ t. ts ≡ take i ts ++ t ∷ drop (i + 1) ts) (sym r.0)
      (sym (take-append-drop i ts) ∙ ap (λ z. take i ts ++ z) (drop_more ts i 0 lt));
  there = there;
  missing = subst (λ n. count ≤ n) (sym r.0) r.1;
}
unrun Memory ts i count lt there r = tt
