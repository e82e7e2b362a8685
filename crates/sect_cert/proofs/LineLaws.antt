-- A line is read as what it spells.
use Rattle.std.proofs.Common.{◌≡◌, ◌≢◌, ℕ, ◌-◌, ◌<◌, Bool, true, false, cond, List, [], ◌∷◌, ◌++◌, Option, Some, None}
use Rattle.std.proofs.Common.{option_and_then, IfSome, take, length, refl, sym, ◌∙◌, ap, subst, append-nil}
use Rattle.std.proofs.lemmas.List.Splits.{join_with_byte-slice_split}
use Rattle.std.specs.{Prelude.{codes}, Option.{option_map}, Fmt.{decimal}, Str.{bytes_eq}}
use Rattle.std.specs.List.{join_with_byte, AllByRecursion}
use Rattle.sect_cert.specs.{Parts.{parts}, Spelling.{lock_words, list_words, some_words, chain_words}}
use Rattle.sect_cert.specs.{Lines.{line_text, line_words}, Texts.{IsLine, IsLock, IsStep, IsNumber}}
use Rattle.sect_cert.specs.{declared.lock.CertLock.{CertLock}, declared.certificate.CertStep.{CertStep}}
use Rattle.sect_cert.specs.{declared.list.ListWord.{ListWord}, declared.line.CertLine.{CertLine}, Verdicts.{IsOfForm}}
use Rattle.sect_cert.specs.Zeros.{plain, is_exact}
use Rattle.sect_cert.specs.steps.Numbers.{number_of, ends_with}
use Rattle.sect_cert.specs.steps.{Lists.{list_of, list_state, ListState, after, whole_of, whole_at}, Chains.{steps_of}}
use Rattle.sect_cert.specs.steps.Reading.{line_of, only_number, section_line, colon_number, node_line, chain_line}
use Rattle.sect_cert.specs.steps.{Reading.{end_line, section_of}, Certificates.{chain_with}}
use Rattle.sect_cert.proofs.{CutTexts.{same_bytes}, PartsLaws.{ends_end, take_end}}
use Rattle.sect_cert.proofs.{NumberLaws.{number_decimal, decimal_number}, ListLaws.{list_again}}
use Rattle.sect_cert.proofs.TakeLaws.{last_split, after_law, TakesAll, whole_words}
use Rattle.sect_cert.proofs.{StepLaws.{steps_again, steps_take}, WordLaws.{line_cut, line_exact}}
use Rattle.sect_cert.proofs.ZerosLemmas.{plain_exact}
use Rattle.sect_cert.specs.declared.list.ListWord.TheVariants as due
use Rattle.sect_cert.specs.declared.line.CertLine.TheVariants as line

whole_list : (l : CertLock) (ls : List CertLock) → whole_words (l ∷ ls) [] ≡ some_words l ls
whole_list l [] = refl
whole_list l (k ∷ ls) = ap (λ x. lock_words l (codes ",") x) (whole_list k ls)

whole_take : (w v : List ℕ) (ws : List (List ℕ)) (ls : List CertLock) → whole_words ls [] ≡ (w ∷ v ∷ ws) ++ []
    → (w ∷ v ∷ ws) ≡ list_words ls
whole_take w v ws [] h = cc
whole_take w v ws (l ∷ ls) h = sym (append-nil (w ∷ v ∷ ws)) ∙ (sym h ∙ whole_list l ls)

list_take : (ws : List (List ℕ)) (ls : List CertLock) → list_of ws ≡ Some ls
    → (ws ≡ list_words ls) × AllByRecursion IsLock ls
list_take [] ls h = cc
list_take (w ∷ []) ls h = go (bytes_eq w (codes "none")) refl h
  where
    go : (b : Bool) → bytes_eq w (codes "none") ≡ b → cond b (Some []) None ≡ Some ls
        → ((w ∷ []) ≡ list_words ls) × AllByRecursion IsLock ls
    go true e g = let is : [] ≡ ls = cc in
        subst (λ y. ((w ∷ []) ≡ list_words y) × AllByRecursion IsLock y) is
        (ap (λ y. y ∷ []) (same_bytes w (codes "none") e), tt)
    go false e g = cc
list_take (w ∷ v ∷ ws) ls h = go (after (list_state [] due.Mode) (w ∷ v ∷ ws)) (after_law [] due.Mode (w ∷ v ∷ ws)) h
  where
    at : (ks : List CertLock) (p : ListWord) → TakesAll [] due.Mode (w ∷ v ∷ ws) (list_state ks p)
        → whole_at ks p ≡ Some ls → ((w ∷ v ∷ ws) ≡ list_words ls) × AllByRecursion IsLock ls
    at ks due.Whole k g = let is : ks ≡ ls = cc in
        subst (λ y. ((w ∷ v ∷ ws) ≡ list_words y) × AllByRecursion IsLock y) is
        (whole_take w v ws ks (k.words []), k.good tt)
    at ks _ k g = cc

    go : (o : Option ListState) → IfSome o (λ s. TakesAll [] due.Mode (w ∷ v ∷ ws) s)
        → option_and_then whole_of o ≡ Some ls → ((w ∷ v ∷ ws) ≡ list_words ls) × AllByRecursion IsLock ls
    go None k g = cc
    go (Some s) k g = at s.locks s.at k g

-- a number before a colon
colon_again : (n : ℕ) → IsNumber n → colon_number (decimal n ++ codes ":") ≡ Some n
colon_again n h = rw (ends_end 58 (decimal n), take_end 58 (decimal n)) (number_decimal n h)

colon_take : (w : List ℕ) (n : ℕ) → colon_number w ≡ Some n → (w ≡ decimal n ++ codes ":") × IsNumber n
colon_take w n h = go (ends_with 58 w) refl h
  where
    go : (b : Bool) → ends_with 58 w ≡ b → cond b (number_of (cond b (take (length w - 1) w) w)) None ≡ Some n
        → (w ≡ decimal n ++ codes ":") × IsNumber n
    go true e g = let t : (take (length w - 1) w ≡ decimal n) × (n < 4294967296) =
        decimal_number (take (length w - 1) w) n g in
        (last_split 58 w e ∙ ap (λ y. y ++ codes ":") t.0, t.1)
    go false e g = cc

-- the words of a line are read as it
pub line_reads : (x : CertLine) → IsLine x → line_of (line_words x) ≡ Some x
line_reads (line.K n) h = rw (number_decimal n h) refl
line_reads (line.Sections n) h = rw (number_decimal n h) refl
line_reads (line.Section i m) h = rw (number_decimal i h.0, number_decimal m h.1) refl
line_reads (line.Node j ls) h = rw (colon_again j h.0, list_again ls h.1) refl
line_reads (line.Entry ls) h = rw (list_again ls h) refl
line_reads (line.Chain c) h = rw (colon_again c.lock h.0, steps_again c.steps h.1 h.2) refl
line_reads line.End h = refl

pub record IsAgain (x : CertLine) : Type 0 where
  pub line : line_of (parts 32 (plain (line_text x))) ≡ Some x
  pub exact : is_exact (line_text x) ≡ true

-- a text of the form of a line is read as it
pub form_again : (t : List ℕ) (x : CertLine) → IsOfForm t x → line_of (parts 32 (plain t)) ≡ Some x
form_again t x f = ap line_of (ap (parts 32) f.spells ∙ line_cut x f.good) ∙ line_reads x f.good

pub line_again : (x : CertLine) → IsLine x → IsAgain x
line_again x h =
    let e : is_exact (line_text x) ≡ true = line_exact x h in
    record { line = form_again (line_text x) x (record { spells = plain_exact (line_text x) e; good = h }); exact = e }

pub record Spells (ws : List (List ℕ)) (x : CertLine) : Type 0 where
  pub words : ws ≡ line_words x
  pub good : IsLine x

pub only_take : (ws : List (List ℕ)) (n : ℕ) → only_number ws ≡ Some n → (ws ≡ decimal n ∷ []) × IsNumber n
only_take [] n h = cc
only_take (w ∷ []) n h = let t : (w ≡ decimal n) × (n < 4294967296) = decimal_number w n h in
    (ap (λ y. y ∷ []) t.0, t.1)
only_take (w ∷ v ∷ ws) n h = cc

section_take : (h : List ℕ) (ws : List (List ℕ)) (x : CertLine) → h ≡ codes "section" → section_line ws ≡ Some x
    → Spells (h ∷ ws) x
section_take h (i ∷ s ∷ m ∷ []) x e g = go (bytes_eq s (codes "nodes")) refl g
  where
    both : (a : Option ℕ) → number_of i ≡ a → (b : Option ℕ) → number_of m ≡ b → s ≡ codes "nodes"
        → section_of a b ≡ Some x → Spells (h ∷ i ∷ s ∷ m ∷ []) x
    both (Some a) p (Some b) q r k = let t : (i ≡ decimal a) × (a < 4294967296) = decimal_number i a p in
        let u : (m ≡ decimal b) × (b < 4294967296) = decimal_number m b q in
        let is : line.Section a b ≡ x = cc in
        subst (Spells (h ∷ i ∷ s ∷ m ∷ [])) is
        (record { words = let at : i ≡ decimal a = t.0 in let to : m ≡ decimal b = u.0 in cc; good = (t.1, u.1) })
    both (Some a) p None q r k = cc
    both None p (Some b) q r k = cc
    both None p None q r k = cc

    go : (b : Bool) → bytes_eq s (codes "nodes") ≡ b → cond b (section_of (number_of i) (number_of m)) None ≡ Some x
        → Spells (h ∷ i ∷ s ∷ m ∷ []) x
    go true f k = both (number_of i) refl (number_of m) refl (same_bytes s (codes "nodes") f) k
    go false f k = cc
section_take h [] x e g = cc
section_take h (i ∷ []) x e g = cc
section_take h (i ∷ s ∷ []) x e g = cc
section_take h (i ∷ s ∷ m ∷ y ∷ ws) x e g = cc

node_take : (h : List ℕ) (ws : List (List ℕ)) (x : CertLine) → h ≡ codes "node" → node_line ws ≡ Some x
    → Spells (h ∷ ws) x
node_take h [] x e g = cc
node_take h (w ∷ ws) x e g = go (colon_number w) refl (list_of ws) refl g
  where
    go : (a : Option ℕ) → colon_number w ≡ a → (b : Option (List CertLock)) → list_of ws ≡ b
        → option_and_then (λ j. option_map (λ ls. line.Node j ls) b) a ≡ Some x → Spells (h ∷ w ∷ ws) x
    go (Some j) p (Some ls) q k = let t : (w ≡ decimal j ++ codes ":") × IsNumber j = colon_take w j p in
        let u : (ws ≡ list_words ls) × AllByRecursion IsLock ls = list_take ws ls q in
        let is : line.Node j ls ≡ x = cc in
        subst (Spells (h ∷ w ∷ ws)) is
        (record {
          words = ap (λ y. y ∷ w ∷ ws) e
              ∙ (ap (λ y. codes "node" ∷ y ∷ ws) t.0 ∙ ap (λ y. codes "node" ∷ (decimal j ++ codes ":") ∷ y) u.0);
          good =
              (t.1, u.1);
        })
    go (Some j) p None q k = cc
    go None p b q k = cc

chain_take : (h : List ℕ) (ws : List (List ℕ)) (x : CertLine) → h ≡ codes "chain" → chain_line ws ≡ Some x
    → Spells (h ∷ ws) x
chain_take h [] x e g = cc
chain_take h (w ∷ ws) x e g = go (colon_number w) refl (steps_of ws) refl g
  where
    go : (a : Option ℕ) → colon_number w ≡ a → (b : Option (List CertStep)) → steps_of ws ≡ b
        → option_and_then (λ l. option_map (λ ss. line.Chain (chain_with l ss)) b) a ≡ Some x → Spells (h ∷ w ∷ ws) x
    go (Some j) p (Some ss) q k = let t : (w ≡ decimal j ++ codes ":") × IsNumber j = colon_take w j p in
        let u : (ws ≡ chain_words ss) × (ss ≢ []) × AllByRecursion IsStep ss = steps_take ws ss q in
        let is : line.Chain (chain_with j ss) ≡ x = cc in
        subst (Spells (h ∷ w ∷ ws)) is
        (record {
          words = ap (λ y. y ∷ w ∷ ws) e
              ∙ (ap (λ y. codes "chain" ∷ y ∷ ws) t.0 ∙ ap (λ y. codes "chain" ∷ (decimal j ++ codes ":") ∷ y) u.0);
          good = (t.1, u.1, u.2);
        })
    go (Some j) p None q k = cc
    go None p b q k = cc

-- words that are read as a line are its words
pub line_spells : (ws : List (List ℕ)) (x : CertLine) → line_of ws ≡ Some x → Spells ws x
line_spells [] x h = cc
line_spells (w ∷ ws) x h = go (bytes_eq w (codes "k")) refl (bytes_eq w (codes "sections")) refl
    (bytes_eq w (codes "section")) refl (bytes_eq w (codes "node")) refl (bytes_eq w (codes "entry:")) refl
    (bytes_eq w (codes "chain")) refl (bytes_eq w (codes "end")) refl h
  where
    one : (head : List ℕ) (f : ℕ → CertLine) → w ≡ head → ((n : ℕ) → line_words (f n) ≡ head ∷ decimal n ∷ [])
        → ((n : ℕ) → IsNumber n → IsLine (f n)) → (o : Option ℕ) → only_number ws ≡ o → option_map f o ≡ Some x
        → Spells (w ∷ ws) x
    one head f e s p None q g = cc
    one head f e s p (Some n) q g = let t : (ws ≡ decimal n ∷ []) × IsNumber n = only_take ws n q in
        let is : f n ≡ x = cc in
        subst (Spells (w ∷ ws)) is (record {
          words = ap (λ y. y ∷ ws) e ∙ (ap (λ y. head ∷ y) t.0 ∙ sym (s n));
          good =
              p n t.1;
        })

    entry : w ≡ codes "entry:" → (o : Option (List CertLock)) → list_of ws ≡ o
        → option_map (λ ls. line.Entry ls) o ≡ Some x → Spells (w ∷ ws) x
    entry e None q g = cc
    entry e (Some ls) q g = let u : (ws ≡ list_words ls) × AllByRecursion IsLock ls = list_take ws ls q in
        let is : line.Entry ls ≡ x = cc in
        subst (Spells (w ∷ ws)) is (record {
          words = ap (λ y. y ∷ ws) e ∙ ap (λ y. codes "entry:" ∷ y) u.0;
          good =
              u.1;
        })

    last : w ≡ codes "end" → (vs : List (List ℕ)) → ws ≡ vs → end_line vs ≡ Some x → Spells (w ∷ ws) x
    last e [] q g = let is : line.End ≡ x = cc in
        subst (Spells (w ∷ ws)) is (record { words = ap (λ y. y ∷ ws) e ∙ ap (λ y. codes "end" ∷ y) q; good = tt })
    last e (v ∷ vs) q g = cc

    go : (a : Bool) → bytes_eq w (codes "k") ≡ a → (b : Bool) → bytes_eq w (codes "sections") ≡ b → (c : Bool)
        → bytes_eq w (codes "section") ≡ c → (d : Bool) → bytes_eq w (codes "node") ≡ d →
        (e : Bool) → bytes_eq w (codes "entry:") ≡ e → (f : Bool) → bytes_eq w (codes "chain") ≡ f → (g : Bool)
        → bytes_eq w (codes "end") ≡ g →
        cond a (option_map (λ n. line.K n) (only_number ws))
        (cond b (option_map (λ n. line.Sections n) (only_number ws))
        (cond c (section_line ws) (cond d (node_line ws)
        (cond e (option_map (λ ls. line.Entry ls) (list_of ws))
        (cond f (chain_line ws) (cond g (end_line ws) None)))))) ≡ Some x → Spells (w ∷ ws) x
    go true p b q c r d s e t f u g v k =
        one (codes "k") (λ n. line.K n) (same_bytes w (codes "k") p) (λ n. refl) (λ n m. m) (only_number ws) refl k
    go false p true q c r d s e t f u g v k =
        one (codes "sections") (λ n. line.Sections n) (same_bytes w (codes "sections") q) (λ n. refl) (λ n m. m)
        (only_number ws) refl k
    go false p false q true r d s e t f u g v k = section_take w ws x (same_bytes w (codes "section") r) k
    go false p false q false r true s e t f u g v k = node_take w ws x (same_bytes w (codes "node") s) k
    go false p false q false r false s true t f u g v k = entry (same_bytes w (codes "entry:") t) (list_of ws) refl k
    go false p false q false r false s false t true u g v k = chain_take w ws x (same_bytes w (codes "chain") u) k
    go false p false q false r false s false t false u true v k = last (same_bytes w (codes "end") v) ws refl k
    go false p false q false r false s false t false u false v k = cc

pub record IsTaken (t : List ℕ) (x : CertLine) : Type 0 where
  pub text : t ≡ line_text x
  pub good : IsLine x

-- a text that is read as a line is of its form
pub form_takes : (t : List ℕ) (x : CertLine) → line_of (parts 32 (plain t)) ≡ Some x → IsOfForm t x
form_takes t x h =
    let s : Spells (parts 32 (plain t)) x = line_spells (parts 32 (plain t)) x h in
    record { spells = sym (join_with_byte-slice_split 32 (plain t)) ∙ ap (join_with_byte 32) s.words; good = s.good }

-- without leading zeros it is its text
pub line_takes : (t : List ℕ) (x : CertLine) → line_of (parts 32 (plain t)) ≡ Some x → is_exact t ≡ true → IsTaken t x
line_takes t x h e = let f : IsOfForm t x = form_takes t x h in
    record { text = sym (plain_exact t e) ∙ f.spells; good = f.good }
