-- A session goes on.
use Rattle.std.proofs.Common.{◌≡◌, ℕ, ◌+◌, ◌⊎◌, List, [], ◌∷◌, ◌++◌, length, take, drop, Option, Some, None, IfSome}
use Rattle.std.proofs.Common.{◌<◌, map, get_or, true, false, refl, sym, ap, subst, ◌∙◌, inl, inr, append-nil}
use Rattle.std.proofs.{Common.{append_assoc}, lemmas.List.{take_more, map-append}}
use Rattle.std.specs.Io.KnownBytes.{Appends, Consumes, IsAtEnd}
use Rattle.serde_json.specs.{Data.{Data}, View.{view}, declared.value.Value.{Value}}
use Rattle.sect_lsp.specs.declared.framing.Front.{Front}
use Rattle.sect_lsp.specs.{declared.framing.Front.TheVariants.{Message, Part, Malformed}, declared.server.Phase.{Phase}}
use Rattle.sect_lsp.specs.{Framing.{Spells, front_of, frame}, Server.{ServerView, Step, start}}
use Rattle.sect_lsp.specs.Sessions.{is_ended, Runs, IsTextOf, AreSent, IsSession, status_by}
use Rattle.sect_lsp.specs.steps.Underway.{IsUnderway, IsAnswered}
use Rattle.sect_lsp.proofs.shared.Pieces.{front_more, message_more}
use Rattle.sect_lsp.specs.declared.server.Phase.TheVariants as phase

-- one message more
spells_one_more : (bytes : List ℕ) (ms : List (List ℕ)) (rest : List ℕ) (h b : ℕ) → Spells bytes ms rest
    → front_of rest ≡ Message h b → Spells bytes (ms ++ take b (drop h rest) ∷ []) (drop (h + b) rest)
spells_one_more bytes [] rest h b is e = (
  h,
  b,
  subst (λ (bs : List ℕ). front_of bs ≡ Message h b) is e,
  ap (λ bs. take b (drop h bs)) is,
  ap (drop (h + b)) is,
)
spells_one_more bytes (m ∷ ms) rest h b is e =
    (is.0, is.1, is.2, is.3, spells_one_more (drop (is.0 + is.1) bytes) ms rest h b is.4 e)

-- one step more
runs_one_more : (s : ServerView) (ms : List (List ℕ)) (out : List Data) (t : ServerView) (m : List ℕ)
    (first : List Data) (u : ServerView) → Runs s ms out t → is_ended t.phase ≡ false → Step t m first u
    → Runs s (ms ++ m ∷ []) (out ++ first) u
runs_one_more s [] out t m first u runs on step = (
  subst (λ (v : ServerView). is_ended v.phase ≡ false) runs.1 on,
  first,
  u,
  [],
  subst (λ (v : ServerView). Step v m first u) runs.1 step,
  ap (λ ds. ds ++ first) runs.0 ∙ sym (append-nil first),
  (refl, refl),
)
runs_one_more s (n ∷ ms) out t m first u runs on step = (
  runs.0,
  runs.1,
  runs.2,
  runs.3 ++ first,
  runs.4,
  ap (λ ds. ds ++ first) runs.5 ∙ append_assoc runs.1 runs.3 first,
  runs_one_more runs.2 ms runs.3 t m first u runs.6 on step,
)

sent_more : (ds es : List Data) (a b : List ℕ) → AreSent ds a → AreSent es b → AreSent (ds ++ es) (a ++ b)
sent_more [] es a b x y = subst (λ (bs : List ℕ). AreSent es (bs ++ b)) (sym x) y
sent_more (d ∷ ds) es a b x y =
    (x.0, x.1 ++ b, x.2, ap (λ bs. bs ++ b) x.3 ∙ append_assoc (frame x.0) x.1 b, sent_more ds es x.1 b x.4 y)

pub appends_more : (x y z : Option (List ℕ)) (a b : List ℕ) → Appends x y a → Appends y z b → Appends x z (a ++ b)
appends_more None y z a b p q = tt
appends_more (Some xs) None z a b p q = absurd p
appends_more (Some xs) (Some ys) None a b p q = absurd q
appends_more (Some xs) (Some ys) (Some zs) a b p q = q ∙ ap (λ bs. bs ++ b) p ∙ append_assoc xs a b

pub appends_none : (x : Option (List ℕ)) → Appends x x []
appends_none None = tt
appends_none (Some xs) = sym (append-nil xs)

-- what was written, and then an answer
pub writes_more : (old mid new : Option (List ℕ)) (s : ServerView) (m : List ℕ) (t : ServerView)
    → ((sent : List ℕ) × Appends old mid sent) → IsAnswered s m t mid new → (sent : List ℕ) × Appends old new sent
writes_more old mid new s m t written answered =
    (written.0 ++ answered.1, appends_more old mid new written.0 answered.1 written.1 answered.4)

-- what is written is that of the session, where the bytes of the reader are known
pub served : (left old new : Option (List ℕ)) (status : ℕ) → ((sent : List ℕ) × Appends old new sent)
    → IfSome left (λ bytes. (sent : List ℕ) × IsSession bytes sent status × Appends old new sent)
    → (sent : List ℕ) × Appends old new sent × IfSome left (λ bytes. IsSession bytes sent status)
served None old new status written session = (written.0, written.1, tt)
served (Some bytes) old new status written session = (session.0, session.2, session.1)

-- where a reader that gave no byte is at its end it was there before
pub at_end_before : (x y : Option (List ℕ)) → Consumes x y [] → IsAtEnd y → IsAtEnd x
at_end_before None y c e = tt
at_end_before (Some xs) None c e = absurd c
at_end_before (Some xs) (Some ys) c e = c ∙ e

-- nothing has come
begun : (left old : Option (List ℕ)) → IfSome left (λ bytes. IsUnderway bytes old old [] left start)
begun None old = tt
begun (Some bytes) old = record {
  messages = [];
  out = [];
  sent = [];
  more = bytes;
  left_is = refl;
  spelled = refl;
  runs = (refl, refl);
  sent_is = refl;
  appended = appends_none old;
}

pub begun_so : (left old : Option (List ℕ)) (inbox : List ℕ) (s : ServerView) → inbox ≡ [] → s ≡ start
    → IfSome left (λ bytes. IsUnderway bytes old old inbox left s)
begun_so left old inbox s none new =
    subst (λ (i : List ℕ). IfSome left (λ bytes. IsUnderway bytes old old i left s)) (sym none)
    (subst (λ (t : ServerView). IfSome left (λ bytes. IsUnderway bytes old old [] left t)) (sym new) (begun left old))

-- the same under other names
pub same_way : (bytes : List ℕ) (old new after : Option (List ℕ)) (inbox held : List ℕ) (left rest : Option (List ℕ))
    (s t : ServerView) → after ≡ new → held ≡ inbox → rest ≡ left → t ≡ s → IsUnderway bytes old new inbox left s
    → IsUnderway bytes old after held rest t
same_way bytes old new after inbox held left rest s t a b c d u = record {
  messages = u.messages;
  out = u.out;
  sent = u.sent;
  more = u.more;
  left_is = c ∙ u.left_is;
  spelled = subst (λ (bs : List ℕ). Spells bytes u.messages (bs ++ u.more)) (sym b) u.spelled;
  runs = subst (λ (v : ServerView). Runs start u.messages u.out v) (sym d) u.runs;
  sent_is = u.sent_is;
  appended = subst (λ (o : Option (List ℕ)). Appends old o u.sent) (sym a) u.appended;
}

module _ (bytes : List ℕ) (old new : Option (List ℕ)) (inbox : List ℕ) (left : Option (List ℕ)) (s : ServerView)
    (u : IsUnderway bytes old new inbox left s) where
  -- a message is taken and answered
  pub taken_on : (h b : ℕ) (m : List ℕ) (t : ServerView) (after : Option (List ℕ)) → is_ended s.phase ≡ false
      → front_of inbox ≡ Message h b → m ≡ take b (drop h inbox) → IsAnswered s m t new after
      → IsUnderway bytes old after (drop (h + b) inbox) left t
  taken_on h b m t after on e is answered =
      let stays = message_more inbox u.more h b e in
      let message : take b (drop h (inbox ++ u.more)) ≡ m = stays.1 ∙ sym is in
      record {
        messages = u.messages ++ m ∷ [];
        out = u.out ++ answered.0;
        sent = u.sent ++ answered.1;
        more = u.more;
        left_is = u.left_is;
        spelled = subst (λ (n : List ℕ). Spells bytes (u.messages ++ n ∷ []) (drop (h + b) inbox ++ u.more)) message
            (subst (λ (rest : List ℕ). Spells bytes (u.messages ++ take b (drop h (inbox ++ u.more)) ∷ []) rest) stays.2
            (spells_one_more bytes u.messages (inbox ++ u.more) h b u.spelled stays.0));
        runs = runs_one_more start u.messages u.out s m answered.0 t u.runs on answered.2;
        sent_is = sent_more u.out answered.0 u.sent answered.1 u.sent_is answered.3;
        appended = appends_more old new after u.sent answered.1 u.appended answered.4;
      }

  -- a piece comes
  pub read_on : (piece : List ℕ) (after : Option (List ℕ)) → Consumes left after piece
      → IsUnderway bytes old new (inbox ++ piece) after s
  read_on piece after consumed = came after (subst (λ (o : Option (List ℕ)). Consumes o after piece) u.left_is consumed)
    where
      came : (after : Option (List ℕ)) → Consumes (Some u.more) after piece
          → IsUnderway bytes old new (inbox ++ piece) after s
      came None h = absurd h
      came (Some ys) h = record {
        messages = u.messages;
        out = u.out;
        sent = u.sent;
        more = ys;
        left_is = refl;
        spelled = subst (λ (rest : List ℕ). Spells bytes u.messages rest)
            (ap (λ bs. inbox ++ bs) h ∙ sym (append_assoc inbox piece ys)) u.spelled;
        runs = u.runs;
        sent_is = u.sent_is;
        appended = u.appended;
      }

  -- the server has ended
  pub ended_by_exit : (status : ℕ) → is_ended s.phase ≡ true → status ≡ status_by s.phase Part
      → (sent : List ℕ) × IsSession bytes sent status × Appends old new sent
  ended_by_exit status e is = (
    u.sent,
    record {
      messages = u.messages;
      rest = inbox ++ u.more;
      out = u.out;
      end = s;
      spelled = u.spelled;
      runs = u.runs;
      sent_is = u.sent_is;
      all = λ on. absurd (no_both s.phase e on);
      status_is = is ∙ same s.phase (front_of (inbox ++ u.more)) e;
    },
    u.appended,
  )
    where
      no_both : (p : Phase) → is_ended p ≡ true → is_ended p ≡ false → ⊥
      no_both p x y = let z : true ≡ false = sym x ∙ y in cc

      same : (p : Phase) (f : Front) → is_ended p ≡ true → status_by p Part ≡ status_by p f
      same phase.Waiting f x = absurd cc
      same phase.Serving f x = absurd cc
      same phase.ShutDown f x = absurd cc
      same phase.Done f x = refl
      same phase.Abandoned f x = refl

  -- no whole message stands at the front of what is left
  ended_by_rest : (status : ℕ) (front : Front) → front_of (inbox ++ u.more) ≡ front
      → (front ≡ Part) ⊎ (front ≡ Malformed) → status ≡ status_by s.phase front
      → (sent : List ℕ) × IsSession bytes sent status × Appends old new sent
  ended_by_rest status front e rest is = (
    u.sent,
    record {
      messages = u.messages;
      rest = inbox ++ u.more;
      out = u.out;
      end = s;
      spelled = u.spelled;
      runs = u.runs;
      sent_is = u.sent_is;
      all = λ on. subst (λ (f : Front). (f ≡ Part) ⊎ (f ≡ Malformed)) (sym e) rest;
      status_is = is ∙ ap (status_by s.phase) (sym e);
    },
    u.appended,
  )

  -- the input ends
  pub ended_by_end : (status : ℕ) → front_of inbox ≡ Part → IsAtEnd left → status ≡ status_by s.phase Part
      → (sent : List ℕ) × IsSession bytes sent status × Appends old new sent
  ended_by_end status e over is =
      let none : u.more ≡ [] = subst IsAtEnd u.left_is over in
      ended_by_rest status Part (ap (λ bs. front_of (inbox ++ bs)) none ∙ ap front_of (append-nil inbox) ∙ e)
      (inl refl) is

  -- no message begins with what comes
  pub ended_by_fault : (status : ℕ) → front_of inbox ≡ Malformed → status ≡ status_by s.phase Malformed
      → (sent : List ℕ) × IsSession bytes sent status × Appends old new sent
  ended_by_fault status e is =
      ended_by_rest status Malformed
      (front_more inbox u.more (λ part. let no : Malformed ≡ Part = sym e ∙ part in cc) ∙ e) (inr refl) is

-- one message more is written
pub sent_one_more : (xs : List Value) (i : ℕ) (x : Value) (sent text : List ℕ) → i < length xs → x ≡ get_or xs i x
    → AreSent (map view (take i xs)) sent → IsTextOf (view x) text
    → AreSent (map view (take (i + 1) xs)) (sent ++ frame text)
sent_one_more xs i x sent text within is sent_is told =
    let front : take (i + 1) xs ≡ take i xs ++ x ∷ [] =
    take_more xs i x within ∙ ap (λ y. take i xs ++ y ∷ []) (sym is) in
    let all : map view (take (i + 1) xs) ≡ map view (take i xs) ++ view x ∷ [] =
    ap (map view) front ∙ map-append view (take i xs) (x ∷ []) in
    subst (λ (ds : List Data). AreSent ds (sent ++ frame text)) (sym all)
    (sent_more (map view (take i xs)) (view x ∷ []) sent (frame text) sent_is
    (text, [], told, sym (append-nil (frame text)), refl))
