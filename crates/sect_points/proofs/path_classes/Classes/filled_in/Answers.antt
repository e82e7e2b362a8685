use Rattle.sect_points.proofs.path_classes.Classes.filled_in.Goals as goal

pub returns : goal.returns
returns c =
    rw (← c.self.view_is) (λ o. (
      λ h. (c.self.invariant.2 c.args.field o).0 ((c.get.ensures o).0 h),
      λ h. (c.get.ensures o).1 ((c.self.invariant.2 c.args.field o).1 h),
    ))
