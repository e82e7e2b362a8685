use Rattle.std.proofs.{Common.{◌≡◌, ◌++◌, ◌+◌, ◌-◌, ℕ, List, length, get_or, ap, ◌∙◌, arith}, lemmas.Option.{get_or_from_slice_get}}
use Rattle.std.specs.String.{string_bytes}
use Rattle.sect_lemmas.proofs.Places.{at_of}
use Rattle.sect_types.specs.{Programs.{ProgramView}, declared.expansion.action.Field.{Field}}
use Rattle.sect_points.specs.Paths.{fields_of}
use Rattle.sect_names.proofs.shared.Named.{item_there}
use Rattle.sect_emit.specs.Listing.{by_number}
use Rattle.sect_emit.proofs.shared.Numbered.{added_on, all_added}
use Rattle.sect_c.specs.Sections.{follow_c}
use Rattle.sect_c.proofs.sections.put_follows.Goals as goal

-- by the place before and the field
followed : (p : ProgramView) (read old : List ℕ) (n m : ℕ) (f g : Field) → n ≡ m → f ≡ g
    → old ++ follow_c p read n f ≡ old ++ follow_c p read m g
followed p read old n m f g e h =
    ap (λ k. old ++ follow_c p read k f) e ∙ ap (λ (x : Field). old ++ follow_c p read m x) h

pub put_follow-requires-clause-field : goal.put_follow-requires-clause-field
put_follow-requires-clause-field c =
    item_there c.args.program.now c.args.path.now _ c.fields-fields.ensures.fields c.requires _ _
    c.loop-place-test.true

pub loop-place-preserved : goal.loop-place-preserved
loop-place-preserved c =
    let p = c.args.program.now in
    let read = c.args.read.now in
    let n = c.loop-place.place in
    let line = follow_c p read in
    let xs = fields_of c.args.path.now in
    let same = c.fields-fields.ensures.fields in
    let of = at_of xs n (omega (arith, c.loop-place-test.true, ap length same)) in
    let old = string_bytes c.loop-place.text in
    added_on line xs n of.0 old (string_bytes c.put_follow.new.text)
    (string_bytes c.args.text.now ++ by_number line 0 xs) of.1
    (c.in_ok-put_follow.ensures ∙ followed p read old (n + 1 - 1) n _ of.0 (omega arith)
    (ap (λ (l : List Field). get_or l n _) same ∙ get_or_from_slice_get xs n of.0 _ of.1)) c.loop-place.invariant

pub returns : goal.returns
returns c =
    let line = follow_c c.args.program.now c.args.read.now in
    let xs = fields_of c.args.path.now in
    all_added line xs c.loop-place.place (string_bytes c.loop-place.text)
    (string_bytes c.args.text.now ++ by_number line 0 xs)
    (omega (arith, c.loop-place-test.false, c.loop-place.auto.place-end, ap length c.fields-fields.ensures.fields))
    c.loop-place.invariant
