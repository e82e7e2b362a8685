-- What is printed spells the tokens of the tree.
use Rattle.std.proofs.Common.{◌≡◌, ℕ, ◌-◌, ◌<◌, ◌≤◌, Bool, true, false, eqb, List, [], ◌∷◌, ◌++◌, length, drop}
use Rattle.std.proofs.Common.{refl, sym, ◌∙◌, ap, subst, arith, append_assoc, length-append}
use Rattle.std.proofs.{Math.Seq.{take-append_seam}, lemmas.Bool.Decides.{nat_tests}}
use Rattle.std.proofs.{lemmas.Bool.{eqb-true, and_parts, ltb-true}, lemmas.List.{drop_at}}
use Rattle.std.specs.{List.{list_all, flat_map}, Fmt.{decimal}}
use Rattle.sect_front.specs.{Limits.{most_bytes, most_depth}, Words.{is_letter, is_digit, begins}}
use Rattle.sect_front.specs.{Gaps.{is_blank, after_gap}, TreeView.{TreeView}, Depth.{depth}}
use Rattle.sect_front.specs.Grammar.{in_braces, in_parens, separated, parameter_list, declaration_list, hint_list}
use Rattle.sect_front.specs.Grammar.{record_list, global_list, procedure_list, thread_list, statements_list, tokens_of}
use Rattle.sect_front.specs.{Spelling.{spelling_of, is_proper}, Lexing.{stands, IsFirst, Reaches}, Faults.{tokens_in}}
use Rattle.sect_front.specs.{Front.{IsSpelled}, Layout.{separator, layout_of, IsTextOf}, declared.token.Token.{Token}}
use Rattle.sect_front.specs.{TokenAt.{TokenAt}, declared.tree.Record.{Record}, declared.tree.Procedure.{Procedure}}
use Rattle.sect_front.specs.declared.tree.Thread.{Thread}
use Rattle.sect_front.specs.steps.Spread.{spread}
use Rattle.sect_front.proofs.{NamesLemmas.{named}, Numbers.{decimal_digits, decimal_some}}
use Rattle.sect_front.specs.declared.tree.Comparison.TheVariants as comparison
use Rattle.sect_front.specs.declared.token.Token.TheVariants as token

-- a spelling begins with a byte that is no blank and no slash
record IsSolid (bytes : List ℕ) : Type 0 where
  first : ℕ
  others : List ℕ
  is : bytes ≡ first ∷ others
  no_blank : is_blank first ≡ false
  no_slash : eqb first 47 ≡ false

name_solid : (n : List ℕ) → begins is_letter n ≡ true → IsSolid n
name_solid [] h = cc
name_solid (b ∷ bs) h = record {
  first = b;
  others = bs;
  is = refl;
  no_blank = grind (arith, nat_tests);
  no_slash =
      grind (arith, nat_tests);
}

digits_solid : (ds : List ℕ) → list_all is_digit ds ≡ true → 0 < length ds → IsSolid ds
digits_solid [] h some = absurd (omega arith)
digits_solid (d ∷ ds) h some =
    let digit = (and_parts (is_digit d) (list_all is_digit ds) h).0 in
    record {
      first = d;
      others = ds;
      is = refl;
      no_blank = grind (arith, nat_tests);
      no_slash =
          grind (arith, nat_tests);
    }

solid : (t : Token) → is_proper t ≡ true → IsSolid (spelling_of t)
solid (token.Name n) h = name_solid n (named n h).letter
solid (token.Number n) h =
    let low = ltb-true n 9223372036854775808 h in digits_solid (decimal n) (decimal_digits n low) (decimal_some n low)
solid token.Record h = record { first = _; others = _; is = refl; no_blank = refl; no_slash = refl }
solid token.ProtectedBy h = record { first = _; others = _; is = refl; no_blank = refl; no_slash = refl }
solid token.Global h = record { first = _; others = _; is = refl; no_blank = refl; no_slash = refl }
solid token.Proc h = record { first = _; others = _; is = refl; no_blank = refl; no_slash = refl }
solid token.Thread h = record { first = _; others = _; is = refl; no_blank = refl; no_slash = refl }
solid token.Int h = record { first = _; others = _; is = refl; no_blank = refl; no_slash = refl }
solid token.New h = record { first = _; others = _; is = refl; no_blank = refl; no_slash = refl }
solid token.Null h = record { first = _; others = _; is = refl; no_blank = refl; no_slash = refl }
solid token.Print h = record { first = _; others = _; is = refl; no_blank = refl; no_slash = refl }
solid token.If h = record { first = _; others = _; is = refl; no_blank = refl; no_slash = refl }
solid token.Else h = record { first = _; others = _; is = refl; no_blank = refl; no_slash = refl }
solid token.While h = record { first = _; others = _; is = refl; no_blank = refl; no_slash = refl }
solid token.Atomic h = record { first = _; others = _; is = refl; no_blank = refl; no_slash = refl }
solid token.All h = record { first = _; others = _; is = refl; no_blank = refl; no_slash = refl }
solid token.Call h = record { first = _; others = _; is = refl; no_blank = refl; no_slash = refl }
solid token.Class h = record { first = _; others = _; is = refl; no_blank = refl; no_slash = refl }
solid token.OpenBrace h = record { first = _; others = _; is = refl; no_blank = refl; no_slash = refl }
solid token.CloseBrace h = record { first = _; others = _; is = refl; no_blank = refl; no_slash = refl }
solid token.OpenParen h = record { first = _; others = _; is = refl; no_blank = refl; no_slash = refl }
solid token.CloseParen h = record { first = _; others = _; is = refl; no_blank = refl; no_slash = refl }
solid token.Semicolon h = record { first = _; others = _; is = refl; no_blank = refl; no_slash = refl }
solid token.Comma h = record { first = _; others = _; is = refl; no_blank = refl; no_slash = refl }
solid token.Dot h = record { first = _; others = _; is = refl; no_blank = refl; no_slash = refl }
solid token.Equal h = record { first = _; others = _; is = refl; no_blank = refl; no_slash = refl }
solid token.Plus h = record { first = _; others = _; is = refl; no_blank = refl; no_slash = refl }
solid token.Minus h = record { first = _; others = _; is = refl; no_blank = refl; no_slash = refl }
solid token.Star h = record { first = _; others = _; is = refl; no_blank = refl; no_slash = refl }
solid (token.Comparison comparison.Equal) h = record
    { first = _; others = _; is = refl; no_blank = refl; no_slash = refl }
solid (token.Comparison comparison.NotEqual) h = record
    { first = _; others = _; is = refl; no_blank = refl; no_slash = refl }
solid (token.Comparison comparison.Less) h = record
    { first = _; others = _; is = refl; no_blank = refl; no_slash = refl }
solid (token.Comparison comparison.LessOrEqual) h =
    record { first = _; others = _; is = refl; no_blank = refl; no_slash = refl }

-- each token may stand before what is printed behind it
stands_before : (t : Token) (w : List ℕ) → stands t (separator t ∷ w) ≡ true
stands_before (token.Name n) w = refl
stands_before (token.Number n) w = refl
stands_before token.Record w = refl
stands_before token.ProtectedBy w = refl
stands_before token.Global w = refl
stands_before token.Proc w = refl
stands_before token.Thread w = refl
stands_before token.Int w = refl
stands_before token.New w = refl
stands_before token.Null w = refl
stands_before token.Print w = refl
stands_before token.If w = refl
stands_before token.Else w = refl
stands_before token.While w = refl
stands_before token.Atomic w = refl
stands_before token.All w = refl
stands_before token.Call w = refl
stands_before token.Class w = refl
stands_before token.OpenBrace w = refl
stands_before token.CloseBrace w = refl
stands_before token.OpenParen w = refl
stands_before token.CloseParen w = refl
stands_before token.Semicolon w = refl
stands_before token.Comma w = refl
stands_before token.Dot w = refl
stands_before token.Equal w = refl
stands_before token.Plus w = refl
stands_before token.Minus w = refl
stands_before token.Star w = refl
stands_before (token.Comparison comparison.Equal) w = refl
stands_before (token.Comparison comparison.NotEqual) w = refl
stands_before (token.Comparison comparison.Less) w = refl
stands_before (token.Comparison comparison.LessOrEqual) w = refl

-- what is printed behind a token is a blank
separator_blank : (t : Token) → is_blank (separator t) ≡ true
separator_blank token.Semicolon = refl
separator_blank token.OpenBrace = refl
separator_blank token.CloseBrace = refl
separator_blank _ = refl

-- no gap stands before a spelling
solid_gap : (bytes w : List ℕ) → IsSolid bytes → after_gap (bytes ++ w) ≡ bytes ++ w
solid_gap bytes w s = rw s.is (rw (s.no_blank, s.no_slash) refl)

spread_gap : (w : List Token) → list_all is_proper w ≡ true → after_gap (spread w) ≡ spread w
spread_gap [] h = refl
spread_gap (t ∷ w) h = solid_gap (spelling_of t) (separator t ∷ spread w)
    (solid t (and_parts (is_proper t) (list_all is_proper w) h).0)

blank_gap : (b : ℕ) (w : List ℕ) → is_blank b ≡ true → after_gap (b ∷ w) ≡ after_gap w
blank_gap b w h = rw h refl

-- where each token stands in a text of so many bytes
abbrev places_of : ℕ → List Token → List TokenAt
places_of total [] = []
places_of total (t ∷ w) = record { token = t; at = total - length (spread (t ∷ w)) } ∷ places_of total w

tokens_of_places : (total : ℕ) (w : List Token) → tokens_in (places_of total w) ≡ w
tokens_of_places total [] = refl
tokens_of_places total (t ∷ w) = ap (λ x. t ∷ x) (tokens_of_places total w)

-- tokens that are printed are reached
record IsReached (total : ℕ) (bytes : List ℕ) (w : List Token) : Type 0 where
  rest : List ℕ
  reaches : Reaches total bytes (places_of total w) rest
  gap : after_gap rest ≡ []

first_printed : (t : Token) (w : List ℕ) → is_proper t ≡ true
    → IsFirst t (length (spelling_of t)) (spelling_of t ++ separator t ∷ w)
first_printed t w h =
    let s = solid t h in
    let bytes : List ℕ = spelling_of t ++ separator t ∷ w in
    record {
      within = omega (arith, length-append (spelling_of t) (separator t ∷ w));
      some = omega (arith, ap length s.is);
      spells = record { is = take-append_seam (spelling_of t) (separator t ∷ w); proper = h };
      free = ap (stands t) (drop_at (spelling_of t) (separator t ∷ w) (length (spelling_of t)) refl)
          ∙ stands_before t w;
    }

reach : (total : ℕ) (bytes : List ℕ) (w : List Token) → list_all is_proper w ≡ true → after_gap bytes ≡ spread w
    → length (spread w) ≤ total → IsReached total bytes w
reach total bytes [] h gap fits = record { rest = bytes; reaches = refl; gap = gap }
reach total bytes (t ∷ w) h gap fits =
    let proper = and_parts (is_proper t) (list_all is_proper w) h in
    let next : drop (length (spelling_of t)) (after_gap bytes) ≡ separator t ∷ spread w =
    ap (drop (length (spelling_of t))) gap
    ∙ drop_at (spelling_of t) (separator t ∷ spread w) (length (spelling_of t)) refl in
    let more = reach total (drop (length (spelling_of t)) (after_gap bytes)) w proper.1
    (ap after_gap next ∙ (blank_gap (separator t) (spread w) (separator_blank t) ∙ spread_gap w proper.1))
    (omega (arith, fits, length-append (spelling_of t) (separator t ∷ spread w))) in
    record {
      rest = more.rest;
      reaches = (
        length (spelling_of t),
        omega (arith, fits, ap length gap),
        subst (IsFirst t (length (spelling_of t))) (sym gap) (first_printed t (spread w) proper.0),
        more.reaches,
      );
      gap = more.gap;
    }

-- the last token is followed by a line feed
abbrev ends_line : List Token → Bool
ends_line [] = true
ends_line (t ∷ []) = eqb (separator t) 10
ends_line (t ∷ u ∷ w) = ends_line (u ∷ w)

ends_append : (v w : List Token) → ends_line v ≡ true → ends_line w ≡ true → ends_line (v ++ w) ≡ true
ends_append [] w h k = k
ends_append (t ∷ []) [] h k = h
ends_append (t ∷ []) (u ∷ w) h k = k
ends_append (t ∷ u ∷ v) w h k = ends_append (u ∷ v) w h k

ends_snoc : (v : List Token) → ends_line (v ++ token.CloseBrace ∷ []) ≡ true
ends_snoc [] = refl
ends_snoc (t ∷ []) = refl
ends_snoc (t ∷ u ∷ v) = ends_snoc (u ∷ v)

ends_each : {A : Type 0} (f : A → List Token) (xs : List A) → ((x : A) → ends_line (f x) ≡ true)
    → ends_line (flat_map f xs) ≡ true
ends_each f [] h = refl
ends_each f (x ∷ xs) h = ends_append (f x) (flat_map f xs) (h x) (ends_each f xs h)

-- what ends in braces
ends_braced : (front inner : List Token) → ends_line (front ++ in_braces inner) ≡ true
ends_braced front inner =
    ap ends_line (sym (append_assoc front (token.OpenBrace ∷ inner) (token.CloseBrace ∷ []))) ∙
    ends_snoc (front ++ token.OpenBrace ∷ inner)

record_ends : (r : Record) → ends_line (record_list r) ≡ true
record_ends r =
    ends_braced (token.Record ∷ token.Name r.name ∷ flat_map hint_list r.hints) (flat_map declaration_list r.fields)

procedure_ends : (p : Procedure) → ends_line (procedure_list p) ≡ true
procedure_ends p =
    ends_braced (token.Proc ∷ token.Name p.name ∷ in_parens (separated parameter_list p.parameters))
    (flat_map declaration_list p.locals ++ statements_list p.body)

thread_ends : (t : Thread) → ends_line (thread_list t) ≡ true
thread_ends t = ends_snoc (token.Thread ∷ token.Name t.name ∷ token.OpenBrace ∷ flat_map declaration_list t.locals
    ++ statements_list t.body)

tree_ends : (tree : TreeView) → ends_line (tokens_of tree) ≡ true
tree_ends tree =
    let records : List Token = flat_map record_list tree.records in
    let globals : List Token = flat_map global_list tree.globals in
    let procedures : List Token = flat_map procedure_list tree.procedures in
    ends_append (records ++ globals ++ procedures) (flat_map thread_list tree.threads)
    (ends_append (records ++ globals) procedures
    (ends_append records globals (ends_each record_list tree.records record_ends)
    (ends_each global_list tree.globals (λ g. refl)))
    (ends_each procedure_list tree.procedures procedure_ends))
    (ends_each thread_list tree.threads thread_ends)

spread_layout : (w : List Token) → ends_line w ≡ true → spread w ≡ layout_of w
spread_layout [] h = refl
spread_layout (t ∷ []) h = ap (λ x. spelling_of t ++ x ∷ []) (eqb-true (separator t) 10 h)
spread_layout (t ∷ u ∷ w) h = ap (λ x. spelling_of t ++ separator t ∷ x) (spread_layout (u ∷ w) h)

-- what is known of a printed text
pub record IsPrinted (tree : TreeView) (text : List ℕ) : Type 0 where
  pub layout : text ≡ layout_of (tokens_of tree)
  pub spells : IsTextOf text tree
  pub reads_back : length text ≤ most_bytes → IsSpelled text tree

printed_spread : (tree : TreeView) → list_all is_proper (tokens_of tree) ≡ true → depth tree ≤ most_depth
    → IsPrinted tree (spread (tokens_of tree))
printed_spread tree proper low =
    let list : List Token = tokens_of tree in
    let total : ℕ = length (spread list) in
    let r = reach (length (spread (tokens_of tree))) (spread (tokens_of tree)) (tokens_of tree) proper
    (spread_gap (tokens_of tree) proper) (omega arith) in
    record {
      layout = spread_layout (tokens_of tree) (tree_ends tree);
      spells = record {
        places = places_of total list;
        spells = (r.rest, r.reaches, r.gap);
        tokens =
            sym (tokens_of_places total list);
      };
      reads_back = λ fits. record {
        fits = fits;
        places = places_of total list;
        spells = (r.rest, r.reaches, r.gap);
        parses = record { tokens = sym (tokens_of_places total list); shallow = low };
      };
    }

pub printed : (tree : TreeView) (text : List ℕ) → text ≡ spread (tokens_of tree)
    → list_all is_proper (tokens_of tree) ≡ true → depth tree ≤ most_depth → IsPrinted tree text
printed tree text e proper low = subst (IsPrinted tree) (sym e) (printed_spread tree proper low)
