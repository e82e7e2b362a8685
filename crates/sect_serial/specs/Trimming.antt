-- What tells states between sections apart. `outcomes` cites it.
use Rattle.std.specs.Prelude.{List, [], Option, Some, None, map}
use Rattle.sect_types.specs.{declared.meaning.store.End.{End}, declared.meaning.store.Datum.{Datum}}
use Rattle.sect_types.specs.Whole.{FrameView, RunView}

-- the locals that are still looked at: none of a thread that has ended
abbrev pub in_use : Option End → List Datum → List Datum
in_use None locals = locals
in_use (Some e) locals = []

abbrev pub trimmed_frame : FrameView → FrameView
trimmed_frame f = record {
  text = f.text;
  work = record {
    locals = in_use f.ended f.work.locals;
    fuel = f.work.fuel;
    made = f.work.made;
    printed = f.work.printed;
  };
  ended = f.ended;
}

-- the state without the locals of threads that have ended
abbrev pub trimmed : RunView → RunView
trimmed r = record { store = r.store; output = r.output; frames = map trimmed_frame r.frames }
