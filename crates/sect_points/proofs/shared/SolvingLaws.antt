-- What a statement moves grows with the sets that it moves from.
use Rattle.std.proofs.Common.{ℕ}
use Rattle.sect_types.specs.{declared.expansion.action.Value.{Value}, declared.expansion.action.Base.{Base}}
use Rattle.sect_types.specs.declared.expansion.action.Action.{Action}
use Rattle.sect_points.specs.Flow.{Family, ValueHas, BaseHas, Moved, Within}
use Rattle.sect_types.specs.declared.expansion.action.Value.TheVariants as value
use Rattle.sect_types.specs.declared.expansion.action.Base.TheVariants as base
use Rattle.sect_types.specs.declared.expansion.action.Action.TheVariants as action

-- a value has what it had where more is there
pub value_more : (F G : Family) (t : ℕ) (v : Value) (s : ℕ) → Within F G → ValueHas F t v s → ValueHas G t v s
value_more F G t (value.Local x) s sub h = sub _ s h
value_more F G t (value.Global g) s sub h = h
value_more F G t value.Null s sub h = h
value_more F G t (value.Number n) s sub h = h

-- and so has a base
pub base_more : (F G : Family) (t : ℕ) (b : Base) (s : ℕ) → Within F G → BaseHas F t b s → BaseHas G t b s
base_more F G t (base.Local x) s sub h = sub _ s h
base_more F G t (base.Global g) s sub h = h

-- and more is moved
pub moved_more : (F G : Family) (t : ℕ) (a : Action) → Within F G → Within (Moved F t a) (Moved G t a)
moved_more F G t (action.Assign x v) sub h s m = (m.0, value_more F G t v s sub m.1)
moved_more F G t (action.Compute x v o w) sub h s m = m
moved_more F G t (action.New x r i) sub h s m = m
moved_more F G t (action.Load x b f) sub h s m = (m.0, (m.1.0, base_more F G t b m.1.0 sub m.1.1, sub _ s m.1.2))
moved_more F G t (action.Store b f v) sub h s m =
    (m.0, base_more F G t b m.0 sub m.1, m.2, value_more F G t v s sub m.3)
moved_more F G t (action.Print v) sub h s m = m
