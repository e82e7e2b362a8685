use Rattle.std.proofs.Common.{Some, Option, ap, ◌∙◌}
use Rattle.std.specs.Option.{unwrap_or}
use Rattle.sect_asking.proofs.Marks.{name_token, none_some, same_token, same_count}
use Rattle.sect_asking.specs.declared.mark.Mark.{Mark}
use Rattle.sect_front.specs.declared.token.Token.TheVariants as token
use Rattle.sect_asking.specs.declared.mark.Mark.TheVariants as mark
use Rattle.sect_asking.proofs.mark.first_mark.Goals as goal

pub returns-in-None-mark_of-clause-names : goal.returns-in-None-mark_of-clause-names
returns-in-None-mark_of-clause-names c name n h =
    none_some (mark.Name name) (c.in-None-mark_of.ensures.names name
    (same_token _ _ _ _ (c.in-Some.ensures.each (token.Name name) n (name_token name n c.args.bytes.now h))))

pub returns-in-Some-mark_of-clause-names : goal.returns-in-Some-mark_of-clause-names
returns-in-Some-mark_of-clause-names c name n h =
    let e = c.in-Some.ensures.each (token.Name name) n (name_token name n c.args.bytes.now h) in
    ap (λ (o : Option Mark). Some (unwrap_or o c.in-Some-mark_of.mark, c.in-Some.count))
    (c.in-Some-mark_of.ensures.names name (same_token _ _ _ _ e))
    ∙ ap (λ k. Some (mark.Name name, k)) (same_count _ _ _ _ e)

pub returns-in-None-own_sign-clause-names : goal.returns-in-None-own_sign-clause-names
returns-in-None-own_sign-clause-names c name n h =
    none_some (token.Name name, n)
    (c.in-None.ensures.each (token.Name name) n (name_token name n c.args.bytes.now h))

pub returns-in-Some-own_sign-clause-names : goal.returns-in-Some-own_sign-clause-names
returns-in-Some-own_sign-clause-names c name n h =
    none_some (token.Name name, n)
    (c.in-None.ensures.each (token.Name name) n (name_token name n c.args.bytes.now h))
