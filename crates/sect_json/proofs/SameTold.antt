-- Two threads, sites or turns of which the same is told are told alike.
use Rattle.std.proofs.Common.{◌≡◌, ℕ, List, ap, ◌∙◌}
use Rattle.serde_json.specs.Data.{Data}
use Rattle.sect_json.specs.{Inspecting.{ThreadTold, thread_with}, Sites.{SiteTold, site_with}, Turns.{Told}}

abbrev threaded : Data → Data → List ℕ → Data → ThreadTold
threaded a b c d = record { calls = a; locals = b; name = c; nodes = d }

pub same_thread : (s t : ThreadTold) (u : ℕ) → s.calls ≡ t.calls → s.locals ≡ t.locals → s.name ≡ t.name
    → s.nodes ≡ t.nodes → thread_with s u ≡ thread_with t u
same_thread s t u calls locals name nodes =
    ap (λ x. thread_with (threaded x s.locals s.name s.nodes) u) calls
    ∙ (ap (λ x. thread_with (threaded t.calls x s.name s.nodes) u) locals
    ∙ (ap (λ x. thread_with (threaded t.calls t.locals x s.nodes) u) name
    ∙ ap (λ x. thread_with (threaded t.calls t.locals t.name x) u) nodes))

abbrev sited : Data → Data → Data → Data → List ℕ → SiteTold
sited a b c d e = record { call = a; fields = b; global = c; place = d; shape = e }

pub same_site : (s t : SiteTold) (n : ℕ) → s.call ≡ t.call → s.fields ≡ t.fields → s.global ≡ t.global
    → s.place ≡ t.place → s.shape ≡ t.shape → site_with s n ≡ site_with t n
same_site s t n call fields global place shape =
    ap (λ x. site_with (sited x s.fields s.global s.place s.shape) n) call
    ∙ (ap (λ x. site_with (sited t.call x s.global s.place s.shape) n) fields
    ∙ (ap (λ x. site_with (sited t.call t.fields x s.place s.shape) n) global
    ∙ (ap (λ x. site_with (sited t.call t.fields t.global x s.shape) n) place
    ∙ ap (λ x. site_with (sited t.call t.fields t.global t.place x) n) shape)))

abbrev told : Data → Data → Data → Data → List ℕ → List ℕ → Told
told a b c d e f = record { fields = a; locals = b; next = c; place = d; state = e; text = f }

pub same_told : (s t : Told) → s.fields ≡ t.fields → s.locals ≡ t.locals → s.next ≡ t.next → s.place ≡ t.place
    → s.state ≡ t.state → s.text ≡ t.text → s ≡ t
same_told s t fields locals next place state text =
    ap (λ x. told x s.locals s.next s.place s.state s.text) fields
    ∙ (ap (λ x. told t.fields x s.next s.place s.state s.text) locals
    ∙ (ap (λ x. told t.fields t.locals x s.place s.state s.text) next
    ∙ (ap (λ x. told t.fields t.locals t.next x s.state s.text) place
    ∙ (ap (λ x. told t.fields t.locals t.next t.place x s.text) state
    ∙ ap (λ x. told t.fields t.locals t.next t.place t.state x) text))))
