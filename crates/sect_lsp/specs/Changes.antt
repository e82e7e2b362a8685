-- Changes of a text, as an editor tells them.
use Rattle.std.specs.Prelude.{ℕ, max, List, ◌++◌, take, drop, Option, Some, None, option_map, option_and_then, codes}
use Rattle.serde_json.specs.{Data.{Data, Items, no_items, item}, Find.{get, as_str}}
use Rattle.sect_editor.specs.{declared.position.Encoding.{Encoding}, declared.position.Range.{Range}}
use Rattle.sect_editor.specs.Positions.{offset, range_in}

-- the text with other bytes in place of those of a range. A range that ends before it begins is empty
abbrev pub replaced : Encoding → Range → List ℕ → List ℕ → List ℕ
replaced encoding range bytes text =
    take (offset encoding range.start text) text ++ bytes
    ++ drop (max (offset encoding range.start text) (offset encoding range.end text)) text

-- the text after a change: other bytes in place of a range, or in place of all
abbrev pub edited : Encoding → Option Range → List ℕ → List ℕ → List ℕ
edited encoding None bytes text = bytes
edited encoding (Some range) bytes text = replaced encoding range bytes text

-- the text of a member
abbrev pub text_in : List ℕ → Data → Option (List ℕ)
text_in key d = option_and_then as_str (get key d)

-- a change of all has no range
abbrev pub range_of : Option Data → Option (Option Range)
range_of None = Some None
range_of (Some d) = option_map Some (range_in d)

-- the text after a change, if it is one
abbrev pub after_change : Encoding → List ℕ → Data → Option (List ℕ)
after_change encoding text d =
    option_and_then (λ bytes. option_map (λ range. edited encoding range bytes text) (range_of (get (codes "range") d)))
    (text_in (codes "text") d)

-- and after changes, one after another
abbrev pub after_changes : Encoding → List ℕ → Items → Option (List ℕ)
after_changes encoding text no_items = Some text
after_changes encoding text (item d ds) =
    option_and_then (λ now. after_changes encoding now ds) (after_change encoding text d)
