-- Past the last row no holder has a site.
use Rattle.std.proofs.{Common.{◌≡◌, ℕ, ◌≤◌, ◌%◌, List, length, subst, arith}, lemmas.List.{get_or_past}}
use Rattle.std.proofs.lemmas.Nat.Bits.{bit_at-zero}
use Rattle.std.specs.Int.{bit_at}
use Rattle.sect_points.specs.{Sites.{HasSite}, Rows.{RowHas, no_sites}, declared.sites.SiteSet.{SiteSet}}

-- past the last row there is nothing
pub row_past : (rows : List SiteSet) (row s : ℕ) → length rows ≤ row → RowHas rows row s → ⊥
row_past rows row s past h =
    let none : bit_at 0 (s % 64) ≡ 1 =
    subst (λ (r : SiteSet). HasSite r.words s) (get_or_past rows row no_sites past) h in
    omega (arith, none, bit_at-zero (s % 64))
