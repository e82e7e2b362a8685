use Rattle.std.proofs.{Common.{◌+◌, ℕ, List, ap, ◌∙◌, take, drop}, lemmas.List.{drop-take}}
use Rattle.sect_lsp.proofs.framing.Inbox.next.Goals as goal

pub returns-in_ok-message-in-Message : goal.returns-in_ok-message-in-Message
returns-in_ok-message-in-Message c =
    let header : ℕ = c.in-Message.header in
    let body : ℕ = c.in-Message.body in
    let bytes : List ℕ = c.self.inside.bytes.items in
    let is = c.self.view_is in (
      header,
      body,
      cc,
      c.in_ok-message-in-Message.ensures.tail ∙ ap (drop header) c.in_ok-rest-in-Message.ensures.items
          ∙ drop-take header body bytes ∙ ap (λ bs. take body (drop header bs)) is,
      c.in_ok-rest-in-Message.ensures.tail ∙ ap (drop (header + body)) is,
    )
