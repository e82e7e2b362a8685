use Rattle.std.proofs.Common.{◌≡◌, ◌<◌, ℕ, List, [], Some, length, map, get_or, sym, ◌∙◌, ap, arith}
use Rattle.std.proofs.{lemmas.List.{length-map}, lemmas.Option.{slice_get-map, slice_get-get_or}}
use Rattle.std.proofs.lemmas.Slice.Eq.{bytes_eq-Decides}
use Rattle.std.specs.{Prelude.{slice_get}, Option.{option_map}}
use Rattle.sect_infer.specs.Sets.{LocksView}
use Rattle.sect_infer.specs.steps.Listing.{listed}
use Rattle.sect_infer.proofs.locks.Locks.are_one.Goals as goal

-- what is made of one list at two places is one
mapped_as_one : {B : Type 0} (f : List ℕ → B) (lists : List (List ℕ)) (at : List B) (i j : ℕ) → map f lists ≡ at
    → i < length at → j < length at → get_or lists i [] ≡ get_or lists j [] → slice_get at i ≡ slice_get at j
mapped_as_one {B} f lists at i j is one other same = there i one ∙ ap (λ l. Some (f l)) same ∙ sym (there j other)
  where
    there : (n : ℕ) → n < length at → slice_get at n ≡ Some (f (get_or lists n []))
    there n within =
        let count : n < length lists = omega (arith, within, ap length is, length-map lists f) in
        ap (λ (xs : List B). slice_get xs n) (sym is)
        ∙ slice_get-map f lists n ∙ ap (option_map f) (slice_get-get_or lists n [] count)

pub returns : goal.returns
returns c = λ same.
    mapped_as_one (listed c.self.inside.numbering c.self.inside.order.items) c.self.inside.lists c.args.self.now.at
    c.args.node c.args.other (ap (λ (v : LocksView). v.at) c.self.view_is)
    c.requires.node c.requires.other
    (sym c.of.ensures ∙ (bytes_eq-Decides c.of.result.now c.of-2.result.now).0 (sym c.eq.ensures ∙ same)
    ∙ c.of-2.ensures)
