use Rattle.std.proofs.Common.{◌++◌, ◌∷◌, [], length, arith, sym, ◌∙◌, ap}
use Rattle.sect_lemmas.proofs.Options.{none_or_some}
use Rattle.sect_front.specs.steps.Passing.{CursorView}
use Rattle.sect_front.proofs.{Lexemes.{lexeme_first}, Texts.{token_here, shorter}}
use Rattle.sect_front.proofs.Halting.{stopped_deep, reached_too, too_deep_text}
use Rattle.sect_front.proofs.reading.too_deep.Goals as goal

pub overflow_sub-start : goal.overflow_sub-start
overflow_sub-start c = c.requires

pub returns-in_default : goal.returns-in_default
returns-in_default c = λ k l e h.
    let deep = stopped_deep c.args.bytes.now (record { here = c.args.here.now; braces = k; last = l; end = e }) h in
    absurd (none_or_some _ (sym (sym c.lexeme.ensures ∙ c.in_default.is) ∙ deep.2.brace.lexed))

pub overflow_add-span : goal.overflow_add-span
overflow_add-span c =
    let within = (lexeme_first c.args.here.now _ c.in-Some.length (sym c.lexeme.ensures ∙ c.in-Some.is)).within in
    let fits = c.requires in grind arith

pub behind-requires : goal.behind-requires
behind-requires c = (lexeme_first c.args.here.now _ c.in-Some.length (sym c.lexeme.ensures ∙ c.in-Some.is)).within

pub unless_bad-requires : goal.unless_bad-requires
unless_bad-requires c = omega (
  arith,
  c.requires,
  shorter c.args.here.now _ c.in-Some.length (sym c.lexeme.ensures ∙ c.in-Some.is),
  ap length c.behind.ensures,
)

pub returns : goal.returns
returns c = λ k l e h.
    let bytes = c.args.bytes.now in
    let there : CursorView = record { here = c.args.here.now; braces = k; last = l; end = e } in
    let lexed = sym c.lexeme.ensures ∙ c.in-Some.is in
    let deep = stopped_deep bytes there h in
    c.unless_bad.ensures (deep.1.read.places ++ token_here bytes c.args.here.now _ ∷ [])
    (rw c.behind.ensures (reached_too bytes deep.0 there _ c.in-Some.length deep.1 lexed))
    (λ behind spells. too_deep_text bytes deep.0 there _ c.in-Some.length deep.1 deep.2 lexed behind spells)
