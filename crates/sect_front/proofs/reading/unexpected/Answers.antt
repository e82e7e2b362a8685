use Rattle.std.proofs.Common.{◌≡◌, ◌-◌, ◌<◌, ◌++◌, ◌∷◌, [], length, arith, sym, ◌∙◌, ap}
use Rattle.std.proofs.{lemmas.Bool.Decides.{nat_tests}, lemmas.List.{nil_from_length}}
use Rattle.sect_front.specs.steps.Passing.{CursorView}
use Rattle.sect_front.proofs.{Lexemes.{lexeme_first}, Texts.{token_here, shorter}}
use Rattle.sect_front.proofs.Halting.{stopped_at, unfinished_text, bad_text, reached_too, unexpected_text}
use Rattle.sect_front.proofs.reading.unexpected.Goals as goal

pub returns-then-is_empty : goal.returns-then-is_empty
returns-then-is_empty c = λ k l e h.
    let left : length c.args.here.now ≡ 0 = grind (arith, nat_tests) in
    unfinished_text c.args.bytes.now c.args.expected (record {
      here = c.args.here.now;
      braces = k;
      last = l;
      end =
          e;
    }) h
    (nil_from_length _ left)

pub overflow_sub-start : goal.overflow_sub-start
overflow_sub-start c = c.requires

pub returns-in_default : goal.returns-in_default
returns-in_default c = λ k l e h.
    let some : 0 < length c.args.here.now = grind (arith, nat_tests) in
    let there : CursorView = record { here = c.args.here.now; braces = k; last = l; end = e } in
    bad_text c.args.bytes.now c.args.expected there (length c.args.bytes.now - length c.args.here.now)
    (stopped_at c.args.bytes.now c.args.expected there h).0
    (λ n. absurd (omega (arith, ap length n, some))) (sym c.lexeme.ensures ∙ c.in_default.is)
    (omega (arith, c.requires))

pub overflow_add-span : goal.overflow_add-span
overflow_add-span c =
    let within = (lexeme_first c.args.here.now _ c.in-Some.length (sym c.lexeme.ensures ∙ c.in-Some.is)).within in
    let fits = c.requires in grind arith

pub behind-requires : goal.behind-requires
behind-requires c = (lexeme_first c.args.here.now _ c.in-Some.length (sym c.lexeme.ensures ∙ c.in-Some.is)).within

pub unless_bad-requires : goal.unless_bad-requires
unless_bad-requires c = omega (
  arith,
  c.requires,
  shorter c.args.here.now _ c.in-Some.length (sym c.lexeme.ensures ∙ c.in-Some.is),
  ap length c.behind.ensures,
)

pub returns : goal.returns
returns c = λ k l e h.
    let bytes = c.args.bytes.now in
    let there : CursorView = record { here = c.args.here.now; braces = k; last = l; end = e } in
    let lexed = sym c.lexeme.ensures ∙ c.in-Some.is in
    let stopped = stopped_at bytes c.args.expected there h in
    c.unless_bad.ensures (stopped.0.read.places ++ token_here bytes c.args.here.now _ ∷ [])
    (rw c.behind.ensures (reached_too bytes c.args.expected there _ c.in-Some.length stopped.0 lexed))
    (λ behind spells. unexpected_text bytes c.args.expected there _ c.in-Some.length c.in_ok-kinds.kinds.items
    stopped.0 stopped.1 lexed c.in_ok-kinds.ensures behind spells)
