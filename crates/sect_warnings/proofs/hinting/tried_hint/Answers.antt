use Rattle.std.proofs.Common.{◌≡◌, Some, None, length, get_or, sym, ◌∙◌, ap, subst}
use Rattle.std.proofs.lemmas.Option.{slice_get-get_or}
use Rattle.std.specs.{Prelude.{slice_get}, String.{string_bytes}}
use Rattle.sect_front.specs.TreeView.{TreeView}
use Rattle.sect_names.specs.{Printing.{global_name}, Schemes.{SchemeView}}
use Rattle.sect_lint.specs.Naming.{found}
use Rattle.sect_warnings.specs.Hinting.{hinted, record_name, declared_by, guard_for}
use Rattle.sect_warnings.specs.steps.Hinted.{IsHinted}
use Rattle.sect_warnings.proofs.Hints.{name_within, refused_said, tried_said}
use Rattle.sect_warnings.proofs.hinting.tried_hint.Goals as goal

pub hinted-requires : goal.hinted-requires
hinted-requires c =
    name_within (length c.args.accepted.source.now) c.args.accepted.names.now c.requires.proper
    c.in-Some.number c.index-accepted-number.result c.in-Some.ensures.within

pub returns-in_default-2 : goal.returns-in_default-2
returns-in_default-2 c =
    let v = c.args.accepted.compiled.now in
    let t = v.scheme.program.source in
    let source = c.args.accepted.source.now in
    let names = c.args.accepted.names.now in
    let r = c.args.guarded in
    let k = c.in-Some.number in
    let n = get_or names k c.index-accepted-number.result in
    let g = c.in-Some-guard_for.global in
    let tree : c.tree.result.now ≡ t = rw (c.program-program.ensures, c.scheme-scheme.ensures) at c.tree.ensures.tree in
    let declared = subst (λ (u : TreeView). declared_by names (slice_get u.records r) ≡ Some k) tree
    (sym c.declared.ensures.is ∙ c.in-Some.is) in
    let name : record_name names t r ≡ Some n = ap (found names) declared
    ∙ slice_get-get_or names k c.index-accepted-number.result c.in-Some.ensures.within in
    let guard = subst (λ (s : SchemeView). guard_for s r ≡ Some g) c.scheme-scheme.ensures
    (sym c.guard_for.ensures.is ∙ c.in-Some-guard_for.is) in
    let called : c.as_str.result.now ≡ global_name t g = c.as_str.ensures.value
    ∙ (rw (c.program-program.ensures, c.scheme-scheme.ensures) at c.in_ok-guard.ensures) in
    let all : IsHinted (hinted source n c.as_str.result.now) v.scheme.most c.in_ok-compiled.field-0 =
    rw (c.as_slice.ensures.value, c.in_ok-text.ensures, c.k.ensures, c.scheme-scheme.ensures)
    at c.in_ok-compiled.ensures in
    refused_said source names v r n g name guard
    (subst (λ b. IsHinted (hinted source n b) v.scheme.most None) called
    (subst (IsHinted (hinted source n c.as_str.result.now) v.scheme.most) c.in_default-2.is all))

pub returns : goal.returns
returns c =
    let v = c.args.accepted.compiled.now in
    let t = v.scheme.program.source in
    let source = c.args.accepted.source.now in
    let names = c.args.accepted.names.now in
    let r = c.args.guarded in
    let k = c.in-Some.number in
    let n = get_or names k c.index-accepted-number.result in
    let g = c.in-Some-guard_for.global in
    let tree : c.tree.result.now ≡ t = rw (c.program-program.ensures, c.scheme-scheme.ensures) at c.tree.ensures.tree in
    let declared = subst (λ (u : TreeView). declared_by names (slice_get u.records r) ≡ Some k) tree
    (sym c.declared.ensures.is ∙ c.in-Some.is) in
    let name : record_name names t r ≡ Some n = ap (found names) declared
    ∙ slice_get-get_or names k c.index-accepted-number.result c.in-Some.ensures.within in
    let guard = subst (λ (s : SchemeView). guard_for s r ≡ Some g) c.scheme-scheme.ensures
    (sym c.guard_for.ensures.is ∙ c.in-Some-guard_for.is) in
    let called : c.as_str.result.now ≡ global_name t g = c.as_str.ensures.value
    ∙ (rw (c.program-program.ensures, c.scheme-scheme.ensures) at c.in_ok-guard.ensures) in
    let all : IsHinted (hinted source n c.as_str.result.now) v.scheme.most c.in_ok-compiled.field-0 =
    rw (c.as_slice.ensures.value, c.in_ok-text.ensures, c.k.ensures, c.scheme-scheme.ensures)
    at c.in_ok-compiled.ensures in
    tried_said source names v r n g name guard (string_bytes c.in_ok-guard.guard)
    (sym c.as_str.ensures.value ∙ called) c.in-Some-2.compiled
    (subst (λ b. IsHinted (hinted source n b) v.scheme.most (Some c.in-Some-2.compiled)) called
    (subst (IsHinted (hinted source n c.as_str.result.now) v.scheme.most) c.in-Some-2.is all))
