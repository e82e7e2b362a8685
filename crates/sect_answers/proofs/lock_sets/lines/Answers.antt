use Rattle.std.proofs.Common.{◌≡◌, ℕ, sym, ap, ◌∙◌, subst, arith}
use Rattle.std.specs.{Prelude.{length}, String.{string_bytes}}
use Rattle.sect_lemmas.proofs.Places.{at_of}
use Rattle.sect_types.specs.{Programs.{ProgramView}, Sections.{sections_of}}
use Rattle.sect_names.specs.Schemes.{SchemeView}
use Rattle.sect_answers.specs.Listing.{IsListing}
use Rattle.sect_answers.proofs.Lines.{no_line, line_more}
use Rattle.sect_answers.proofs.lock_sets.lines.Goals as goal

-- the sections are as many as the program has
counted : (s : SchemeView) (p : ProgramView) (n : ℕ) → p ≡ s.program → n ≡ length (sections_of p.texts)
    → n ≡ length (sections_of s.program.texts)
counted s p n is count = count ∙ ap (λ (q : ProgramView). length (sections_of q.texts)) is

pub loop-section-init : goal.loop-section-init
loop-section-init c = subst (IsListing c.args.scheme.now 0) (sym c.new-text.ensures.bytes) (no_line c.args.scheme.now)

pub loop-section-preserved : goal.loop-section-preserved
loop-section-preserved c =
    let s = c.args.scheme.now in
    let i = c.loop-section.section in
    let count = counted s c.program.result.now _ c.program.ensures c.section_count-section-end.ensures.count in
    let of = at_of (sections_of s.program.texts) i (omega (arith, c.loop-section-test.true, count)) in
    let put = c.in_ok-put_section.ensures of.0 of.1 in
    line_more s i (string_bytes c.loop-section.text) (string_bytes c.put_section.new.text) c.loop-section.invariant of.0
    of.1 put.0 put.1 put.2

pub returns : goal.returns
returns c =
    let s = c.args.scheme.now in
    let count = counted s c.program.result.now _ c.program.ensures c.section_count-section-end.ensures.count in
    let all : c.loop-section.section ≡ length (sections_of s.program.texts) =
    omega (arith, c.loop-section-test.false, c.loop-section.auto.section-end, count) in
    subst (λ n. IsListing s n (string_bytes c.loop-section.text)) all c.loop-section.invariant
