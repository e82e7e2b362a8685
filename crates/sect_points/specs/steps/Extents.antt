-- How many sites a set has.
use Rattle.std.specs.Prelude.{◌≡◌, ◌↔◌, ◌<◌, ℕ, List, ⊤}
use Rattle.sect_types.specs.Limits.{most_sites}
use Rattle.sect_points.specs.{Sites.{HasSite}, declared.sites.Extent.{Extent}}
use Rattle.sect_points.specs.declared.sites.Extent.TheVariants as extent

abbrev pub HasExtent : List ℕ → Extent → Type 0
HasExtent words extent.Nothing = (s : ℕ) → HasSite words s → ⊥
HasExtent words (extent.Alone site) = (site < most_sites) × ((s : ℕ) → HasSite words s ↔ (s ≡ site))
HasExtent words extent.Many = ⊤
