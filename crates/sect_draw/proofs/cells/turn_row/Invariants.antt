use Rattle.std.proofs.Common.{◌≡◌, ◌+◌, ◌++◌, ◌∷◌, drop, vec_len}
use Rattle.sect_draw.specs.Chart.{by_thread, cell_text, place_text}
use Rattle.sect_draw.specs.steps.{CellTexts.{texts}, Turning.{shown, program_in, compiled_in, places_in}}
use Rattle.sect_draw.proofs.cells.turn_row.Given as goal

abbrev pub invariant-loop-thread : goal.invariant-loop-thread
invariant-loop-thread l = (let p = program_in l.turn in
    let cell = cell_text (compiled_in l.turn) (places_in l.turn) (shown l.turn) in
    record {
      added : texts l.cells.items ++ by_thread cell l.thread (drop l.thread p.texts)
          ≡ place_text l.number ∷ by_thread cell 0 p.texts;
      count : vec_len l.cells ≡ 1 + l.thread;
    })
