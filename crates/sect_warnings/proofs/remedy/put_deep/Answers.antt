use Rattle.std.proofs.{Common.{◌≡◌, ◌++◌, refl, ◌∙◌, ap, inr, arith, codes}, lemmas.List.{append_assoc}}
use Rattle.std.specs.String.{string_bytes}
use Rattle.sect_warnings.proofs.remedy.put_deep.Goals as goal

pub returns-clause-said : goal.returns-clause-said
returns-clause-said c =
    let v = c.args.accepted.compiled.now in
    let most : c.k.result ≡ v.scheme.most = rw c.scheme.ensures at c.k.ensures in
    let end = c.in_ok-put_outcome.ensures in (
      codes "; `--k 3`" ++ end.0,
      inr (
        omega (arith, most, c.if-k-ge-MOST_PATH_FIELDS.false),
        (c.in_ok-deep.deep, end.0, c.in_ok-deep.ensures, end.1, refl),
      ),
      end.2 ∙ ap (λ t. t ++ end.0) c.in_ok-push_str.ensures.bytes
          ∙ append_assoc (string_bytes c.args.text.now) (codes "; `--k 3`") end.0,
    )
