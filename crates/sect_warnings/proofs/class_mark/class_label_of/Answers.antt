use Rattle.std.proofs.Common.{◌≡◌, ◌-◌, ◌++◌, [], length, sym, ap, ◌∙◌, subst}
use Rattle.std.specs.String.{string_bytes}
use Rattle.sect_lemmas.specs.Lists.{Has}
use Rattle.sect_lemmas.proofs.Membership.{Has-slice_get}
use Rattle.sect_names.specs.Schemes.{SchemeView}
use Rattle.sect_warnings.specs.ClassLocks.{need_text, where_text}
use Rattle.sect_warnings.specs.steps.Reasons.{IsLong}
use Rattle.sect_warnings.proofs.ClassMarks.{one_long, too_long, named_path}
use Rattle.sect_warnings.proofs.class_mark.class_label_of.Goals as goal

pub long_in-long-requires : goal.long_in-long-requires
long_in-long-requires c =
    let v = c.args.compiled.now in
    let n = c.args.lock.class in
    let turn = c.turn_in-turn.result in
    let one = one_long v c.facts.ensures.compiled c.args.section c.requires.section n c.args.lock.effect
    c.args.links.now
    c.requires.reason turn.node turn.lock.now c.turn_in-turn.ensures.turn c.in_ok-paths.paths.items
    c.in_ok-paths.ensures
    in (
      one.0,
      subst (λ l. Has l one.0) (sym c.as_slice.ensures.value) one.1,
      subst (λ (s : SchemeView). IsLong s n one.0) (sym c.scheme-scheme.ensures) one.2,
    )

pub put_need-requires-clause-lock : goal.put_need-requires-clause-lock
put_need-requires-clause-lock c =
    let links = c.args.links.now in
    rw (c.program.ensures, c.scheme-scheme.ensures)
    (c.requires.named.1 c.last_link-last.result.now
    (Has-slice_get links (length links - 1) c.last_link-last.result.now c.last_link-last.ensures.last))

pub put_need-requires-clause-path : goal.put_need-requires-clause-path
put_need-requires-clause-path c =
    let turn = c.turn_in-turn.result in
    let q = c.long_in-long.result.now in
    rw (c.program.ensures, c.scheme-scheme.ensures)
    (named_path c.args.compiled.now c.facts.ensures.compiled c.args.section c.requires.section c.args.lock.class
    c.args.lock.effect c.args.links.now c.requires.reason turn.node turn.lock.now c.turn_in-turn.ensures.turn
    c.in_ok-paths.paths.items c.in_ok-paths.ensures q
    (subst (λ l. Has l q) c.as_slice.ensures.value c.long_in-long.ensures.among))

pub returns : goal.returns
returns c =
    let v = c.args.compiled.now in
    let i = c.args.section in
    let n = c.args.lock.class in
    let turn = c.turn_in-turn.result in
    let last = c.last_link-last.result.now in
    let q = c.long_in-long.result.now in
    let need : string_bytes c.put_need.new.text ≡ string_bytes c.new-text.result
    ++ need_text v.scheme.program.source last.lock q =
    rw (c.program.ensures, c.scheme-scheme.ensures) at c.in_ok-put_need.ensures in
    let empty : string_bytes c.new-text.result ≡ [] = c.new-text.ensures.bytes in
    record {
      last = last;
      ends = c.last_link-last.ensures.last;
      node = turn.node;
      path = q;
      long = too_long v c.facts.ensures.compiled i c.requires.section n c.args.lock.effect c.args.links.now
          c.requires.reason turn.node turn.lock.now c.turn_in-turn.ensures.turn c.in_ok-paths.paths.items
          c.in_ok-paths.ensures q (subst (λ l. Has l q) c.as_slice.ensures.value c.long_in-long.ensures.among)
          (subst (λ (s : SchemeView). IsLong s n q) c.scheme-scheme.ensures c.long_in-long.ensures.long);
      says = c.in_ok-put_where.ensures ∙ ap (λ b. b ++ where_text v i turn.node)
          (need ∙ ap (λ b. b ++ need_text v.scheme.program.source last.lock q) empty);
    }
