use Rattle.std.proofs.Common.{◌≡◌, [], ◌∷◌, true, length, refl, sym, ◌∙◌, ap, subst, arith}
use Rattle.sect_front.specs.Tokens.{record_tokens, source_tokens}
use Rattle.sect_front.specs.Tokens.{block_tokens, declarations_tokens, hints_tokens, parameters_tokens}
use Rattle.sect_front.specs.steps.Places.{takes, follows, after}
use Rattle.sect_front.specs.steps.Declaring.{Starved, Before, Within, FitsPart}
use Rattle.sect_front.specs.steps.Declaring.{with_record, with_global, with_procedure, with_thread}
use Rattle.sect_front.specs.ItemSpans.{record_spans, global_spans, procedure_spans, thread_spans}
use Rattle.sect_front.proofs.SourceSpans.{record_more, global_more, procedure_more, thread_more, part_items}
use Rattle.sect_front.proofs.Spans.{ended_head}
use Rattle.sect_front.proofs.Leading.{record_after, global_after, procedure_after, thread_after}
use Rattle.sect_front.proofs.Sources.{is_records, may_globals, may_procedures, may_threads, globals_fit, procedures_fit}
use Rattle.sect_front.proofs.Sources.{global_follows, procedure_follows, thread_follows, no_other}
use Rattle.sect_front.proofs.Sources.{record_grown, global_grown, procedure_grown, thread_grown}
use Rattle.sect_front.proofs.Stopping.{refused_bare, refused_by}
use Rattle.sect_front.specs.declared.token.Token.TheVariants as token
use Rattle.sect_front.specs.declared.expected.Expected.TheVariants as expected
use Rattle.sect_front.proofs.Chains.{passed, halts}
use Rattle.sect_front.proofs.cursor.Cursor.declaration.Goals as goal

pub returns-in_default-clause-err : goal.returns-in_default-clause-err
returns-in_default-clause-err c =
    Before refl refl (refused_bare c.args.part c.args.self.now (rw c.in_default.is at c.token.ensures.none))

pub returns-then-not-takes-clause-err : goal.returns-then-not-takes-clause-err
returns-then-not-takes-clause-err c =
    Before refl refl (refused_by c.args.part c.args.self.now _ c.token.new.token
    c.in-Some.ensures.some.stands (sym c.takes.ensures ∙ c.if-not-takes.true))

pub returns-in_default-token : goal.returns-in_default-token
returns-in_default-token c =
    absurd (no_other c.args.part c.args.source.now c.token.new.token c.requires
    (sym c.takes.ensures ∙ c.if-not-takes.false) c.in_default-token.not-Record c.in_default-token.not-Global
    c.in_default-token.not-Proc c.in_default-token.not-Thread)

pub returns-in_err-record-in-Record-clause-err : goal.returns-in_err-record-in-Record-clause-err
returns-in_err-record-in-Record-clause-err c =
    let p = passed c.args.self.now c.in-Some.ensures.some c.in-Record.is (λ k. refl) c.pass.ensures in
    let may : takes c.args.part token.Record ≡ true =
    subst (λ u. takes c.args.part u ≡ true) c.in-Record.is (sym c.takes.ensures ∙ c.if-not-takes.false) in
    let s = c.args.source.now in
    let is = is_records c.args.part s c.requires may in
    halts _ (Within token.Record _ (expected.Name ∷ expected.HintOrBrace ∷ []) expected.Records
    p (ap (λ e. follows e token.Record) is)
    c.in_err-record-in-Record.ensures.err) c.from_residual.ensures.1

pub returns-in_ok-add_record-in-Record-clause-ok : goal.returns-in_ok-add_record-in-Record-clause-ok
returns-in_ok-add_record-in-Record-clause-ok c =
    let p = passed c.args.self.now c.in-Some.ensures.some c.in-Record.is (λ k. refl) c.pass.ensures in
    let may : takes c.args.part token.Record ≡ true =
    subst (λ u. takes c.args.part u ≡ true) c.in-Record.is (sym c.takes.ensures ∙ c.if-not-takes.false) in
    let s = c.args.source.now in
    let is = is_records c.args.part s c.requires may in
    let added = c.in_ok-add_record-in-Record.ensures.ok in
    part_items c.args.part expected.Records c.args.self.now c.record.new.self s c.add_record.new.self
    (with_record s c.in_ok-record-in-Record.record) (λ m x. record_spans m x c.in_ok-record-in-Record.record)
    (record {
      first = token.Record;
      tokens = token.Name c.in_ok-record-in-Record.record.name ∷ hints_tokens c.in_ok-record-in-Record.record.hints
          (token.OpenBrace ∷ declarations_tokens c.in_ok-record-in-Record.record.fields (token.CloseBrace ∷ []));
      are = (_, p, c.in_ok-record-in-Record.ensures.ok);
      next = (ap (λ e. after (e ∷ []) (record_tokens c.in_ok-record-in-Record.record [])) is
          ∙ record_after c.in_ok-record-in-Record.record []);
      spelled = ap (λ x. source_tokens x []) added ∙ record_grown s c.in_ok-record-in-Record.record
          (subst (λ e. FitsPart e s) is c.requires);
      fits = subst (FitsPart expected.Records) (sym added) (subst (λ e. FitsPart e s) is c.requires);
    }) added
    (λ total init. record_more total init s c.in_ok-record-in-Record.record (subst (λ e. FitsPart e s) is c.requires))
    (c.in_ok-record-in-Record.ensures.spans c.args.self.now p (grind arith))

pub returns-in_err-global-in-Global-clause-err : goal.returns-in_err-global-in-Global-clause-err
returns-in_err-global-in-Global-clause-err c =
    let p = passed c.args.self.now c.in-Some.ensures.some c.in-Global.is (λ k. refl) c.pass-in-Global.ensures in
    let may : takes c.args.part token.Global ≡ true =
    subst (λ u. takes c.args.part u ≡ true) c.in-Global.is (sym c.takes.ensures ∙ c.if-not-takes.false) in
    let s = c.args.source.now in
    let m = may_globals c.args.part s c.requires may in
    let fits = globals_fit c.args.part s m c.requires in
    halts _ (Within token.Global _ (expected.Name ∷ expected.Name ∷ expected.Semicolon ∷ []) expected.Globals
    p (global_follows c.args.part m)
    c.in_err-global-in-Global.ensures.err) c.from_residual-in_err-global-in-Global.ensures.1

pub returns-in_ok-add_global-in-Global-clause-ok : goal.returns-in_ok-add_global-in-Global-clause-ok
returns-in_ok-add_global-in-Global-clause-ok c =
    let p = passed c.args.self.now c.in-Some.ensures.some c.in-Global.is (λ k. refl) c.pass-in-Global.ensures in
    let may : takes c.args.part token.Global ≡ true =
    subst (λ u. takes c.args.part u ≡ true) c.in-Global.is (sym c.takes.ensures ∙ c.if-not-takes.false) in
    let s = c.args.source.now in
    let m = may_globals c.args.part s c.requires may in
    let fits = globals_fit c.args.part s m c.requires in
    let added = c.in_ok-add_global-in-Global.ensures.ok in
    part_items c.args.part expected.Globals c.args.self.now c.global.new.self s c.add_global.new.self
    (with_global s c.in_ok-global-in-Global.global) (λ m x. global_spans m x c.in_ok-global-in-Global.global)
    (record {
      first = token.Global;
      tokens = token.Name c.in_ok-global-in-Global.global.of ∷ token.Name c.in_ok-global-in-Global.global.name
          ∷ token.Semicolon ∷ [];
      are = (_, p, c.in_ok-global-in-Global.ensures.ok);
      next = (global_after c.args.part m c.in_ok-global-in-Global.global []);
      spelled = ap (λ x. source_tokens x []) added ∙ global_grown s c.in_ok-global-in-Global.global fits;
      fits = subst (FitsPart expected.Globals) (sym added) (fits);
    }) added
    (λ total init. global_more total init s c.in_ok-global-in-Global.global fits) (ended_head c.args.spans.now
    c.args.self.now c.global.new.self token.Global
    (token.Name c.in_ok-global-in-Global.global.of ∷ token.Name c.in_ok-global-in-Global.global.name ∷ [])
    (length c.self.inside.here.now) c.self-in-Global.inside.end
    (_, p, c.in_ok-global-in-Global.ensures.ok) (grind arith) (grind arith) c.in_ok-add-in-Global.ensures)

pub returns-in_err-procedure-in-Proc-clause-err : goal.returns-in_err-procedure-in-Proc-clause-err
returns-in_err-procedure-in-Proc-clause-err c =
    let p = passed c.args.self.now c.in-Some.ensures.some c.in-Proc.is (λ k. refl) c.pass-in-Proc.ensures in
    let may : takes c.args.part token.Proc ≡ true =
    subst (λ u. takes c.args.part u ≡ true) c.in-Proc.is (sym c.takes.ensures ∙ c.if-not-takes.false) in
    let s = c.args.source.now in
    let m = may_procedures c.args.part s c.requires may in
    let fits = procedures_fit c.args.part s m c.requires in
    halts _ (Within token.Proc _ (expected.Name ∷ expected.OpenParen ∷ expected.Parameter ∷ expected.OpenBody ∷ [])
    expected.Procedures
    p (procedure_follows c.args.part m)
    c.in_err-procedure-in-Proc.ensures.err) c.from_residual-in_err-procedure-in-Proc.ensures.1

pub returns-in_ok-add_procedure-in-Proc-clause-ok : goal.returns-in_ok-add_procedure-in-Proc-clause-ok
returns-in_ok-add_procedure-in-Proc-clause-ok c =
    let p = passed c.args.self.now c.in-Some.ensures.some c.in-Proc.is (λ k. refl) c.pass-in-Proc.ensures in
    let may : takes c.args.part token.Proc ≡ true =
    subst (λ u. takes c.args.part u ≡ true) c.in-Proc.is (sym c.takes.ensures ∙ c.if-not-takes.false) in
    let s = c.args.source.now in
    let m = may_procedures c.args.part s c.requires may in
    let fits = procedures_fit c.args.part s m c.requires in
    let added = c.in_ok-add_procedure-in-Proc.ensures.ok in
    part_items c.args.part expected.Procedures c.args.self.now c.procedure.new.self s c.add_procedure.new.self
    (with_procedure s c.in_ok-procedure-in-Proc.procedure) (λ m x. procedure_spans m x
    c.in_ok-procedure-in-Proc.procedure)
    (record {
      first = token.Proc;
      tokens = token.Name c.in_ok-procedure-in-Proc.procedure.name ∷ token.OpenParen ∷ parameters_tokens
          c.in_ok-procedure-in-Proc.procedure.parameters (token.CloseParen ∷ token.OpenBrace ∷ declarations_tokens
          c.in_ok-procedure-in-Proc.procedure.locals (block_tokens c.in_ok-procedure-in-Proc.procedure.body
          (token.CloseBrace ∷ [])));
      are = (_, p, c.in_ok-procedure-in-Proc.ensures.ok);
      next = (procedure_after c.args.part m c.in_ok-procedure-in-Proc.procedure []);
      spelled = ap (λ x. source_tokens x []) added ∙ procedure_grown s c.in_ok-procedure-in-Proc.procedure fits;
      fits = subst (FitsPart expected.Procedures) (sym added) (fits);
    }) added
    (λ total init. procedure_more total init s c.in_ok-procedure-in-Proc.procedure fits)
    (c.in_ok-procedure-in-Proc.ensures.spans c.args.self.now p (grind arith))

pub returns-in_err-thread-in-Thread-clause-err : goal.returns-in_err-thread-in-Thread-clause-err
returns-in_err-thread-in-Thread-clause-err c =
    let p = passed c.args.self.now c.in-Some.ensures.some c.in-Thread.is (λ k. refl) c.pass-in-Thread.ensures in
    let may : takes c.args.part token.Thread ≡ true =
    subst (λ u. takes c.args.part u ≡ true) c.in-Thread.is (sym c.takes.ensures ∙ c.if-not-takes.false) in
    let s = c.args.source.now in
    let m = may_threads c.args.part s c.requires in
    halts _ (Within token.Thread _ (expected.Name ∷ expected.OpenBody ∷ []) expected.Threads
    p (thread_follows c.args.part m)
    c.in_err-thread-in-Thread.ensures.err) c.from_residual-in_err-thread-in-Thread.ensures.1

pub returns-in_ok-add_thread-in-Thread-clause-ok : goal.returns-in_ok-add_thread-in-Thread-clause-ok
returns-in_ok-add_thread-in-Thread-clause-ok c =
    let p = passed c.args.self.now c.in-Some.ensures.some c.in-Thread.is (λ k. refl) c.pass-in-Thread.ensures in
    let may : takes c.args.part token.Thread ≡ true =
    subst (λ u. takes c.args.part u ≡ true) c.in-Thread.is (sym c.takes.ensures ∙ c.if-not-takes.false) in
    let s = c.args.source.now in
    let m = may_threads c.args.part s c.requires in
    let added = c.in_ok-add_thread-in-Thread.ensures.ok in
    part_items c.args.part expected.Threads c.args.self.now c.thread.new.self s c.add_thread.new.self
    (with_thread s c.in_ok-thread-in-Thread.thread) (λ m x. thread_spans m x c.in_ok-thread-in-Thread.thread)
    (record {
      first = token.Thread;
      tokens = token.Name c.in_ok-thread-in-Thread.thread.name ∷ token.OpenBrace ∷ declarations_tokens
          c.in_ok-thread-in-Thread.thread.locals (block_tokens c.in_ok-thread-in-Thread.thread.body
          (token.CloseBrace ∷ []));
      are = (_, p, c.in_ok-thread-in-Thread.ensures.ok);
      next = (thread_after c.args.part m c.in_ok-thread-in-Thread.thread []);
      spelled = ap (λ x. source_tokens x []) added ∙ thread_grown s c.in_ok-thread-in-Thread.thread;
      fits = subst (FitsPart expected.Threads) (sym added) (tt);
    }) added
    (λ total init. thread_more total init s c.in_ok-thread-in-Thread.thread)
    (c.in_ok-thread-in-Thread.ensures.spans c.args.self.now p (grind arith))

pub returns-in_err-add_record-in-Record-clause-err : goal.returns-in_err-add_record-in-Record-clause-err
returns-in_err-add_record-in-Record-clause-err c =
    halts _ (Starved c.in_err-add_record-in-Record.ensures.err)
    c.from_residual-in_err-add_record-in-Record.ensures.1

pub returns-in_err-add_global-in-Global-clause-err : goal.returns-in_err-add_global-in-Global-clause-err
returns-in_err-add_global-in-Global-clause-err c =
    halts _ (Starved c.in_err-add_global-in-Global.ensures.err)
    c.from_residual-in_err-add_global-in-Global.ensures.1

pub returns-in_err-add_procedure-in-Proc-clause-err : goal.returns-in_err-add_procedure-in-Proc-clause-err
returns-in_err-add_procedure-in-Proc-clause-err c =
    halts _ (Starved c.in_err-add_procedure-in-Proc.ensures.err)
    c.from_residual-in_err-add_procedure-in-Proc.ensures.1

pub returns-in_err-add_thread-in-Thread-clause-err : goal.returns-in_err-add_thread-in-Thread-clause-err
returns-in_err-add_thread-in-Thread-clause-err c =
    halts _ (Starved c.in_err-add_thread-in-Thread.ensures.err)
    c.from_residual-in_err-add_thread-in-Thread.ensures.1

pub returns-in_err-add-in-Global-clause-err : goal.returns-in_err-add-in-Global-clause-err
returns-in_err-add-in-Global-clause-err c =
    halts _ (Starved refl) c.from_residual-in_err-add-in-Global.ensures.1
