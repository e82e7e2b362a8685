-- Where the sets of rows stand: a set of one site at most takes no room elsewhere.
use Rattle.std.specs.{Prelude.{◌≡◌, ℕ, ◌+◌, ◌*◌, ◌/◌, ◌%◌, ◌^◌, ◌<◌, ◌≤◌, List, length, map, replicate}, List.{sum_by}}
use Rattle.std.specs.Prelude.{slice_index, slice_index_or, slice_set, bit_or}
use Rattle.sect_types.specs.Limits.{most_sites}
use Rattle.sect_points.specs.{declared.sites.{SiteSet.{SiteSet}, TheConstants.{WORDS}}, Rows.{no_sites}}
use Rattle.sect_points.specs.declared.rows.Place.{Place}
use Rattle.sect_points.specs.declared.rows.Place.TheVariants as place

-- no site
abbrev pub empty_set : SiteSet
empty_set = record { words = replicate WORDS 0 }

-- words in which the bit of a site is set
abbrev pub with_bit : List ℕ → ℕ → List ℕ
with_bit words site = slice_set words (site / 64)
    (bit_or (slice_index words (site / 64)) (1 * 2 ^ (site % 64) % 18446744073709551616))

-- one site
abbrev pub set_of : ℕ → SiteSet
set_of site = record { words = with_bit (replicate WORDS 0) site }

-- the set that stands there
abbrev pub set_in : List SiteSet → Place → SiteSet
set_in sets place.Nothing = empty_set
set_in sets (place.Alone site) = set_of site
set_in sets (place.Own at) = slice_index_or sets at no_sites

-- the sets that stand at these places
abbrev pub sets_at : List SiteSet → List Place → List SiteSet
sets_at sets places = map (set_in sets) places

abbrev pub place_at : List Place → ℕ → Place
place_at places row = slice_index_or places row place.Nothing

-- how many sets more a row may ask for
abbrev pub shared : Place → ℕ
shared place.Nothing = 1
shared (place.Alone site) = 1
shared (place.Own at) = 0

abbrev pub shared_count : List Place → ℕ
shared_count places = sum_by shared places

-- each of the sets is that of one row at most; there is room for a set more for each row that has none there
pub record ArePlaces (places : List Place) (sets : List SiteSet) (capacity : ℕ) : Type 0 where
  pub within : (row at : ℕ) → place_at places row ≡ place.Own at → at < length sets
  pub apart : (row other at : ℕ) → place_at places row ≡ place.Own at → place_at places other ≡ place.Own at
      → row ≡ other
  pub few : (row site : ℕ) → place_at places row ≡ place.Alone site → site < most_sites
  pub room : length sets + shared_count places ≤ capacity
  pub most : length sets + shared_count places < 2 ^ 32
