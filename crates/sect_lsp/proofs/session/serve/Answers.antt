use Rattle.std.proofs.{Common.{◌++◌, ℕ, List, [], Option, ap, sym, subst, ◌∙◌, rules}, lemmas.Option.{IfSome_then}}
use Rattle.std.specs.Io.KnownBytes.{Appends}
use Rattle.sect_lsp.specs.{declared.framing.Front.TheVariants.{Part, Malformed}, Framing.{IsTaken}}
use Rattle.sect_lsp.specs.Sessions.{is_ended, status_by}
use Rattle.sect_lsp.specs.steps.Underway.{IsAnswered}
use Rattle.sect_lsp.proofs.Going.{begun_so, same_way, taken_on, read_on, ended_by_exit, ended_by_end, ended_by_fault}
use Rattle.sect_lsp.proofs.Going.{appends_none, writes_more, served}
use Rattle.sect_lsp.proofs.session.serve.Goals.{in-Message+in_ok-answer-in-Message+else-has_ended}
use Rattle.sect_lsp.proofs.session.serve.Goals.{in-Part+in_ok-read_piece-in-Part+else-not-branch}
use Rattle.sect_lsp.proofs.session.serve.Goals as goal

pub loop-turn-init : goal.loop-turn-init
loop-turn-init g c = record {
  underway = begun_so (g.I.Read.remaining c.args.input.now) (g.O.Write.contents c.args.output.now) c.new-inbox.result
      c.new-server.result c.new-inbox.ensures c.new-server.ensures;
  written = ([], appends_none (g.O.Write.contents c.args.output.now));
  on = ap (λ s. is_ended s.phase) c.new-server.ensures;
}

pub loop-turn-preserved : goal.loop-turn-preserved
loop-turn-preserved g c =
    let i = c.loop-turn.invariant in
    let old = g.O.Write.contents c.args.output.now in
    let mid = g.O.Write.contents c.loop-turn.output in
    let left = g.I.Read.remaining c.loop-turn.input in
    elim c.match-branch-2.branch [
      | in-Message+in_ok-answer-in-Message+else-has_ended w ↦
          let taken = subst (IsTaken c.loop-turn.inbox c.next.new.self) w.in-Message.is c.in_ok-message.ensures in
          let new = g.O.Write.contents w.answer.new.output in
          let answered = subst (λ (m : List ℕ). IsAnswered c.loop-turn.server m w.answer.new.server mid new)
          w.as_slice.ensures.value w.in_ok-answer-in-Message.ensures in
          record {
            underway = IfSome_then (g.I.Read.remaining c.args.input.now) i.underway (λ bytes u.
                same_way bytes old new _ _ _ left _ w.answer.new.server _ (ap g.O.Write.contents w.output-is)
                (w.inbox-is ∙ taken.4) (ap g.I.Read.remaining w.input-is) w.server-is
                (taken_on bytes old mid c.loop-turn.inbox left c.loop-turn.server u taken.0 taken.1
                w.in-Message.message.items
                w.answer.new.server new i.on taken.2 taken.3 answered));
            written = subst (λ (after : Option (List ℕ)). (sent : List ℕ) × Appends old after sent)
                (sym (ap g.O.Write.contents w.output-is))
                (writes_more old mid new c.loop-turn.server w.in-Message.message.items
                w.answer.new.server i.written answered);
            on = ap (λ s. is_ended s.phase) w.server-is ∙ (ap is_ended (sym w.phase.ensures)
                ∙ (sym w.has_ended.ensures ∙ w.if-has_ended.false));
          }
      | in-Part+in_ok-read_piece-in-Part+else-not-branch w ↦
          let taken = subst (IsTaken c.loop-turn.inbox c.next.new.self) w.in-Part.is c.in_ok-message.ensures in
          let piece = w.in_ok-read_piece-in-Part.ensures.piece in
          record {
            underway = IfSome_then (g.I.Read.remaining c.args.input.now) i.underway (λ bytes u.
                same_way bytes old mid _ (c.loop-turn.inbox ++ piece.0) _ (g.I.Read.remaining w.read_piece.new.input) _
                c.loop-turn.server _ (ap g.O.Write.contents w.output-is)
                (w.inbox-is ∙ (piece.2 ∙ ap (λ bs. bs ++ piece.0) taken.1)) (ap g.I.Read.remaining w.input-is)
                w.server-is
                (read_on bytes old mid c.loop-turn.inbox left c.loop-turn.server u piece.0
                (g.I.Read.remaining w.read_piece.new.input) piece.1));
            written = subst (λ (after : Option (List ℕ)). (sent : List ℕ) × Appends old after sent)
                (sym (ap g.O.Write.contents w.output-is)) i.written;
            on = ap (λ s. is_ended s.phase) w.server-is ∙ i.on;
          }
    ]

pub returns-then-has_ended-clause-session : goal.returns-then-has_ended-clause-session
returns-then-has_ended-clause-session g c =
    let i = c.loop-turn.invariant in
    let old = g.O.Write.contents c.args.output.now in
    let mid = g.O.Write.contents c.loop-turn.output in
    let new = g.O.Write.contents c.answer.new.output in
    let left = g.I.Read.remaining c.loop-turn.input in
    let taken = subst (IsTaken c.loop-turn.inbox c.next.new.self) c.in-Message.is c.in_ok-message.ensures in
    let answered = subst (λ (m : List ℕ). IsAnswered c.loop-turn.server m c.answer.new.server mid new)
    c.as_slice.ensures.value c.in_ok-answer-in-Message.ensures in
    served (g.I.Read.remaining c.args.input.now) old new c.status_of.result
    (writes_more old mid new c.loop-turn.server c.in-Message.message.items c.answer.new.server i.written answered)
    (IfSome_then (g.I.Read.remaining c.args.input.now) i.underway (λ bytes u.
    ended_by_exit bytes old new _ left c.answer.new.server
    (taken_on bytes old mid c.loop-turn.inbox left c.loop-turn.server u taken.0 taken.1 c.in-Message.message.items
    c.answer.new.server new i.on taken.2 taken.3 answered)
    c.status_of.result
    (ap is_ended (sym c.phase.ensures) ∙ (sym c.has_ended.ensures ∙ c.if-has_ended.true))
    (c.status_of.ensures.status ∙ ap (λ p. status_by p Part) c.phase-then-has_ended.ensures)))

pub returns-then-not-branch-clause-session : goal.returns-then-not-branch-clause-session
returns-then-not-branch-clause-session g c =
    let i = c.loop-turn.invariant in
    let taken = subst (IsTaken c.loop-turn.inbox c.next.new.self) c.in-Part.is c.in_ok-message.ensures in
    served (g.I.Read.remaining c.args.input.now) (g.O.Write.contents c.args.output.now)
    (g.O.Write.contents c.loop-turn.output) c.status_of-then-not-branch.result i.written
    (IfSome_then (g.I.Read.remaining c.args.input.now) i.underway (λ bytes u.
    ended_by_end bytes (g.O.Write.contents c.args.output.now) (g.O.Write.contents c.loop-turn.output)
    c.loop-turn.inbox (g.I.Read.remaining c.loop-turn.input) c.loop-turn.server u c.status_of-then-not-branch.result
    taken.0 (c.in_ok-read_piece-in-Part.ensures.end (search rules))
    (c.status_of-then-not-branch.ensures.status ∙ ap (λ p. status_by p Part) c.phase-then-not-branch.ensures)))

pub returns-in-Malformed-clause-session : goal.returns-in-Malformed-clause-session
returns-in-Malformed-clause-session g c =
    let i = c.loop-turn.invariant in
    let taken = subst (IsTaken c.loop-turn.inbox c.next.new.self) c.in-Malformed.is c.in_ok-message.ensures in
    served (g.I.Read.remaining c.args.input.now) (g.O.Write.contents c.args.output.now)
    (g.O.Write.contents c.loop-turn.output) c.status_of-in-Malformed.result i.written
    (IfSome_then (g.I.Read.remaining c.args.input.now) i.underway (λ bytes u.
    ended_by_fault bytes (g.O.Write.contents c.args.output.now) (g.O.Write.contents c.loop-turn.output)
    c.loop-turn.inbox (g.I.Read.remaining c.loop-turn.input) c.loop-turn.server u c.status_of-in-Malformed.result
    taken.0 (c.status_of-in-Malformed.ensures.status ∙ ap (λ p. status_by p Malformed) c.phase-in-Malformed.ensures)))
