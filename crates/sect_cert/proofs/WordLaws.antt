-- The words of a line hold no blank and no line feed, and no zero leads a number in them.
use Rattle.std.proofs.Common.{◌≡◌, ◌≢◌, ℕ, true, false, List, [], ◌∷◌, ◌++◌, refl, ◌∙◌, ap, append-nil, subst}
use Rattle.std.specs.{Prelude.{codes}, Fmt.{decimal}, List.{AllByRecursion, join_with_byte}}
use Rattle.sect_cert.specs.Parts.{parts}
use Rattle.sect_cert.specs.{Paths.{path_text}, Spelling.{lock_words, some_words, list_words, steps_words}}
use Rattle.sect_cert.specs.Spelling.{chain_words}
use Rattle.sect_cert.specs.{Texts.{IsPath, IsLock, IsNumber, IsLine, IsStep}, Lines.{line_words, line_text}}
use Rattle.sect_cert.specs.{declared.lock.CertLock.{CertLock}, declared.certificate.CertStep.{CertStep}}
use Rattle.sect_cert.specs.{declared.line.CertLine.{CertLine}, Zeros.{is_exact}, declared.lock.CertPath.{CertPath}}
use Rattle.sect_front.specs.Words.{is_digit}
use Rattle.sect_cert.proofs.{PartsLaws.{lacks, bytes_lack, lacks_append, parts_join}, PathLaws.{path_lacks, exact_path}}
use Rattle.sect_cert.proofs.{NumberLaws.{digits_of_decimal}, ExactLaws.{blank, comma, colon, exact_mark, exact_number}}
use Rattle.sect_cert.specs.declared.lock.CertLock.TheVariants as lock
use Rattle.sect_cert.specs.declared.line.CertLine.TheVariants as line

pub record IsWord (w : List ℕ) : Type 0 where
  pub blank : lacks 32 w ≡ true
  pub feed : lacks 10 w ≡ true
  pub exact : is_exact w ≡ true

-- what may end a word: nothing, or one mark
record IsEnd (e : List ℕ) : Type 0 where
  blank : lacks 32 e ≡ true
  feed : lacks 10 e ≡ true
  exact : (w : List ℕ) → is_exact w ≡ true → is_exact (w ++ e) ≡ true

no_end : IsEnd []
no_end = record { blank = refl; feed = refl; exact = λ w h. ap is_exact (append-nil w) ∙ h }

comma_end : IsEnd (codes ",")
comma_end = record { blank = refl; feed = refl; exact = λ w h. exact_mark 44 comma false w [] h refl }

colon_end : IsEnd (codes ":")
colon_end = record { blank = refl; feed = refl; exact = λ w h. exact_mark 58 colon false w [] h refl }

number_word : (n : ℕ) (e : List ℕ) → IsNumber n → IsEnd e → IsWord (decimal n ++ e)
number_word n e h k = record {
  blank = lacks_append 32 (decimal n) e (bytes_lack is_digit 32 refl (decimal n) (digits_of_decimal n h)) k.blank;
  feed = lacks_append 10 (decimal n) e (bytes_lack is_digit 10 refl (decimal n) (digits_of_decimal n h)) k.feed;
  exact = k.exact (decimal n) (exact_number n h);
}

bare_number : (n : ℕ) → IsNumber n → IsWord (decimal n)
bare_number n h = subst IsWord (append-nil (decimal n)) (number_word n [] h no_end)

path_word : (p : CertPath) (e : List ℕ) → IsPath p → IsEnd e → IsWord (path_text p ++ e)
path_word p e h k = record {
  blank = lacks_append 32 (path_text p) e (path_lacks 32 refl refl refl p h) k.blank;
  feed = lacks_append 10 (path_text p) e (path_lacks 10 refl refl refl p h) k.feed;
  exact = k.exact (path_text p) (exact_path p h);
}

all_word : (e : List ℕ) → IsEnd e → IsWord (codes "all" ++ e)
all_word e k = record {
  blank = lacks_append 32 (codes "all") e refl k.blank;
  feed = lacks_append 10 (codes "all") e refl k.feed;
  exact = k.exact (codes "all") refl;
}

abbrev AreWords : List (List ℕ) → Type 0
AreWords ws = AllByRecursion IsWord ws

fixed : (w : List ℕ) → lacks 32 w ≡ true → lacks 10 w ≡ true → is_exact w ≡ true → IsWord w
fixed w a b c = record { blank = a; feed = b; exact = c }

lock_are : (l : CertLock) (e : List ℕ) (ws : List (List ℕ)) → IsLock l → IsEnd e → AreWords ws
    → AreWords (lock_words l e ws)
lock_are lock.WriteAll e ws h k g = (fixed (codes "W") refl refl refl, (all_word e k, g))
lock_are (lock.ReadPath p) e ws h k g = (fixed (codes "R") refl refl refl, (path_word p e h k, g))
lock_are (lock.WritePath p) e ws h k g = (fixed (codes "W") refl refl refl, (path_word p e h k, g))
lock_are (lock.ReadClass n) e ws h k g =
    (fixed (codes "R") refl refl refl, (fixed (codes "class") refl refl refl, (number_word n e h k, g)))
lock_are (lock.WriteClass n) e ws h k g =
    (fixed (codes "W") refl refl refl, (fixed (codes "class") refl refl refl, (number_word n e h k, g)))
lock_are (lock.MakeClass n) e ws h k g =
    (fixed (codes "M") refl refl refl, (fixed (codes "class") refl refl refl, (number_word n e h k, g)))

some_are : (l : CertLock) (ls : List CertLock) → AllByRecursion IsLock (l ∷ ls) → AreWords (some_words l ls)
some_are l [] h = lock_are l [] [] h.0 no_end tt
some_are l (k ∷ ls) h = lock_are l (codes ",") (some_words k ls) h.0 comma_end (some_are k ls h.1)

list_are : (ls : List CertLock) → AllByRecursion IsLock ls → AreWords (list_words ls)
list_are [] h = (fixed (codes "none") refl refl refl, tt)
list_are (l ∷ ls) h = some_are l ls h

steps_are : (s : CertStep) (ss : List CertStep) → AllByRecursion IsStep (s ∷ ss) → AreWords (steps_words s ss)
steps_are s [] h = (bare_number s.node h.0.0, lock_are s.lock [] [] h.0.1 no_end tt)
steps_are s (t ∷ ss) h = (
  bare_number s.node h.0.0,
  lock_are s.lock [] (codes ">" ∷ steps_words t ss) h.0.1 no_end
      (fixed (codes ">") refl refl refl, steps_are t ss h.1),
)

chain_are : (ss : List CertStep) → AllByRecursion IsStep ss → AreWords (chain_words ss)
chain_are [] h = tt
chain_are (s ∷ ss) h = steps_are s ss h

line_are : (x : CertLine) → IsLine x → AreWords (line_words x)
line_are (line.K n) h = (fixed (codes "k") refl refl refl, (bare_number n h, tt))
line_are (line.Sections n) h = (fixed (codes "sections") refl refl refl, (bare_number n h, tt))
line_are (line.Section i m) h = (
  fixed (codes "section") refl refl refl,
  (bare_number i h.0, (fixed (codes "nodes") refl refl refl, (bare_number m h.1, tt))),
)
line_are (line.Node j ls) h = (
  fixed (codes "node") refl refl refl,
  (number_word j (codes ":") h.0 colon_end, list_are ls h.1),
)
line_are (line.Entry ls) h = (fixed (codes "entry:") refl refl refl, list_are ls h)
line_are (line.Chain c) h = (
  fixed (codes "chain") refl refl refl,
  (number_word c.lock (codes ":") h.0 colon_end, chain_are c.steps h.2),
)
line_are line.End h = (fixed (codes "end") refl refl refl, tt)

exact_words : (ws : List (List ℕ)) → AreWords ws → is_exact (join_with_byte 32 ws) ≡ true
exact_words [] h = refl
exact_words (w ∷ []) h = h.0.exact
exact_words (w ∷ v ∷ ws) h = exact_mark 32 blank false w (join_with_byte 32 (v ∷ ws)) h.0.exact
    (exact_words (v ∷ ws) h.1)

blanks : (ws : List (List ℕ)) → AreWords ws → AllByRecursion (λ x. lacks 32 x ≡ true) ws
blanks [] h = tt
blanks (w ∷ ws) h = (h.0.blank, blanks ws h.1)

feeds : (ws : List (List ℕ)) → AreWords ws → lacks 10 (join_with_byte 32 ws) ≡ true
feeds [] h = refl
feeds (w ∷ []) h = h.0.feed
feeds (w ∷ v ∷ ws) h = lacks_append 10 w (32 ∷ join_with_byte 32 (v ∷ ws)) h.0.feed (feeds (v ∷ ws) h.1)

cut_words : (ws : List (List ℕ)) → ws ≢ [] → AreWords ws → parts 32 (join_with_byte 32 ws) ≡ ws
cut_words [] n h = absurd (n refl)
cut_words (w ∷ ws) n h = parts_join 32 w ws (blanks (w ∷ ws) h)

some_words_of : (x : CertLine) → line_words x ≢ []
some_words_of (line.K n) e = cc
some_words_of (line.Sections n) e = cc
some_words_of (line.Section i m) e = cc
some_words_of (line.Node j ls) e = cc
some_words_of (line.Entry ls) e = cc
some_words_of (line.Chain c) e = cc
some_words_of line.End e = cc

-- the text of a line is cut into its words
pub line_cut : (x : CertLine) → IsLine x → parts 32 (line_text x) ≡ line_words x
line_cut x h = cut_words (line_words x) (some_words_of x) (line_are x h)

-- no zero leads a number in the text of a line
pub line_exact : (x : CertLine) → IsLine x → is_exact (line_text x) ≡ true
line_exact x h = exact_words (line_words x) (line_are x h)

-- no line feed stands in the text of a line
pub line_feed : (x : CertLine) → IsLine x → lacks 10 (line_text x) ≡ true
line_feed x h = feeds (line_words x) (line_are x h)
