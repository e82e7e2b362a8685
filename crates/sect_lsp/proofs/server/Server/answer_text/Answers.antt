use Rattle.std.proofs.Common.{◌≡◌, ℕ, List, Option, Some, sym, subst, ap, ◌∙◌}
use Rattle.std.specs.Prelude.{option_map}
use Rattle.serde_json.specs.View.{view}
use Rattle.sect_emit.specs.Compiled.{CompiledView}
use Rattle.sect_editor.specs.{declared.text.Reading.{Reading}, Accepted.{IsCompiledIf}, Asking.{IsAnswerTo}}
use Rattle.sect_lsp.specs.{Documents.{text_of}, Server.{ServerView, IsTextReply, reading_of}}
use Rattle.sect_lsp.specs.steps.Replying.{reply_view}
use Rattle.sect_lsp.proofs.server.Server.answer_text.Goals as goal

pub answer-requires : goal.answer-requires
answer-requires c =
    let document = c.in-Some.document.now in
    let compiled = option_map (λ p. p.now) c.compiled.result in
    let k : c.self.inside.documents.k ≡ c.reading.result.k =
    ap (λ (v : ServerView). v.k) c.self.view_is ∙ sym (ap (λ (r : Reading). r.k) c.reading.ensures.reading) in
    subst (λ (text : List ℕ). IsCompiledIf text c.reading.result.k compiled) (sym c.text.ensures)
    (subst (λ n. IsCompiledIf document.text n compiled) k
    (subst (λ (o : Option CompiledView). IsCompiledIf document.text c.self.inside.documents.k o)
    (sym c.compiled.ensures) c.in-Some.ensures.kept))

pub returns : goal.returns
returns c =
    let s : ServerView = c.args.self.now in
    let q = c.args.question in
    let d = view c.args.message.now in
    let uri : List ℕ = c.args.uri.now in
    let source : List ℕ = c.in-Some.document.now.text in
    let text : Some source ≡ text_of uri s.documents =
    c.in-Some.ensures.text ∙ ap (λ (v : ServerView). text_of uri v.documents) c.self.view_is in
    let value = option_map view c.in_ok-answer.field-0 in
    let is : IsAnswerTo q (reading_of s) d uri source value =
    subst (λ (r : Reading). IsAnswerTo q r d uri source value) c.reading.ensures.reading
    (subst (λ (t : List ℕ). IsAnswerTo q c.reading.result d uri t value) c.text.ensures c.in_ok-answer.ensures) in
    subst (λ (o : Option (List ℕ)). IsTextReply s q d uri o (reply_view c.reply_with.result)) text
    (value, is, c.reply_with.ensures)
