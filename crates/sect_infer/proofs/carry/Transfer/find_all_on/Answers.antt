use Rattle.std.proofs.{Common.{◌∙◌, [], ◌∷◌, ◌++◌, ap, sym, append_assoc}, lemmas.List.{append-nil}}
use Rattle.sect_infer.specs.steps.Putting.{AreOn}
use Rattle.sect_infer.proofs.Carrying.{finds_none, finds_on_more}
use Rattle.sect_infer.proofs.carry.Transfer.find_all_on.Goals as goal

pub loop-path-init : goal.loop-path-init
loop-path-init c =
    let s = c.args.self.scheme.now in (
      [],
      sym (append-nil c.args.paths.items),
      finds_none s c.args.numbering.now c.args.found.now (AreOn s c.args.effect []) c.requires (λ l h. h.1),
    )

pub loop-path-preserved : goal.loop-path-preserved
loop-path-preserved c =
    let q = c.in-Some.path in
    let gone = c.loop-path.invariant.0 in (
      q ∷ gone,
      c.loop-path.invariant.1 ∙ ap (λ ps. ps ++ gone) c.in-Some.ensures.items
          ∙ append_assoc c.pop.new.self.items (q ∷ []) gone,
      finds_on_more c.args.self.scheme.now c.args.effect c.args.numbering.now c.loop-path.numbering
          c.find_on.new.numbering c.args.found.now c.loop-path.found c.find_on.new.found q gone
          c.loop-path.invariant.2 c.in_ok-find_on.ensures,
    )
