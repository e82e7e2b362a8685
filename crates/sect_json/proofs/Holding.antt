-- What locals and fields may refer to, by tests.
use Rattle.std.proofs.Common.{◌≡◌, ◌↔◌, ◌+◌, ◌*◌, ℕ, Bool, slice_index}
use Rattle.std.proofs.lemmas.Bool.Decides.{same_from_decides, Decides-and, Decides-eqb, Decides-ltb}
use Rattle.std.specs.{Prelude.{IsTrue, ◌/◌, ◌%◌, nat_lt, slice_index_or}, Bool.{Decides}, Int.{bit_at}}
use Rattle.sect_types.specs.Limits.{most_fields}
use Rattle.sect_points.specs.{Rows.{no_sites}, Sets.{PointsToView, InSets}, Sites.{HasSite}}
use Rattle.sect_points.specs.{declared.holders.Holder.{Holder}, declared.sites.SiteSet.{SiteSet}}
use Rattle.sect_json.specs.Sites.{has_bit, may_hold}
use Rattle.sect_points.specs.declared.holders.Holder.TheVariants as holder

bit_decides : (set : SiteSet) (s : ℕ) → Decides (has_bit set s) (HasSite set.words s)
bit_decides set s = Decides-eqb (bit_at (slice_index set.words (s / 64)) (s % 64)) 1

holds_decides : (sets : PointsToView) (h : Holder) (s : ℕ) → Decides (may_hold sets h s) (InSets sets h s)
holds_decides sets (holder.Local t x) s = bit_decides _ s
holds_decides sets (holder.Slot o f) s =
    Decides-and (nat_lt f most_fields) _ (Decides-ltb f most_fields) (bit_decides (slice_index_or sets.slots
    (o * most_fields + f) no_sites) s)

-- what is told of a holder is the test
pub holds_is : (sets : PointsToView) (h : Holder) (s : ℕ) (told : Bool) → (IsTrue told ↔ InSets sets h s)
    → told ≡ may_hold sets h s
holds_is sets h s told is = same_from_decides told (may_hold sets h s) is (holds_decides sets h s)
