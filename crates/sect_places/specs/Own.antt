-- That the tokens of a range are those of an item.
use Rattle.std.specs.Prelude.{◌≡◌, ◌⊎◌, List, [], ◌∷◌, take, drop, ⊤}
use Rattle.sect_front.specs.declared.token.Token.{Token}
use Rattle.sect_front.specs.Grammar.{operand_token, operator_token, kind_token, test_list, in_parens, separated}
use Rattle.sect_front.specs.Grammar.{operand_list}
use Rattle.sect_types.specs.Items.{Head, PrimitiveHead, TestHead, AtomicHead, CallHead, Item, ARecord, AField, AGlobal}
use Rattle.sect_types.specs.Items.{AProcedure, AThread, ALocal, AStatement}
use Rattle.sect_places.specs.declared.range.TokenRange.{TokenRange}
use Rattle.sect_front.specs.declared.token.Token.TheVariants as token
use Rattle.sect_front.specs.declared.tree.Primitive as leaf
use Rattle.sect_front.specs.declared.tree.Primitive.TheVariants as primitive

-- but for the `;`
abbrev pub primitive_own : leaf.Primitive → List Token
primitive_own (primitive.Assign x v) = token.Name x ∷ token.Equal ∷ operand_token v ∷ []
primitive_own (primitive.Compute x v o u) =
    token.Name x ∷ token.Equal ∷ operand_token v ∷ operator_token o ∷ operand_token u ∷ []
primitive_own (primitive.New x r) = token.Name x ∷ token.Equal ∷ token.New ∷ token.Name r ∷ []
primitive_own (primitive.Load x y f) = token.Name x ∷ token.Equal ∷ token.Name y ∷ token.Dot ∷ token.Name f ∷ []
primitive_own (primitive.Store y f v) = token.Name y ∷ token.Dot ∷ token.Name f ∷ token.Equal ∷ operand_token v ∷ []
primitive_own (primitive.Print v) = token.Print ∷ operand_token v ∷ []

-- these are the tokens of a statement, but for its blocks and its `;`. A test doesn't say whether it is an `if` or a
-- `while`, and a section doesn't say which locks it takes
abbrev pub IsHeadOf : Head → List Token → Type 0
IsHeadOf (PrimitiveHead p) list = list ≡ primitive_own p
IsHeadOf (TestHead t) list = (list ≡ token.If ∷ test_list t) ⊎ (list ≡ token.While ∷ test_list t)
IsHeadOf AtomicHead list = (list ≡ token.Atomic ∷ []) ⊎ (list ≡ token.Atomic ∷ token.All ∷ [])
IsHeadOf (CallHead f vs) list = list ≡ token.Call ∷ token.Name f ∷ in_parens (separated operand_list vs)

-- these are the tokens of an item
abbrev pub IsOwn : Item → List Token → Type 0
IsOwn (ARecord name before) list = list ≡ token.Record ∷ token.Name name ∷ []
IsOwn (AField kind name before) list = list ≡ kind_token kind ∷ token.Name name ∷ []
IsOwn (AGlobal kind name before) list = list ≡ token.Global ∷ token.Name kind ∷ token.Name name ∷ []
IsOwn (AProcedure name before) list = list ≡ token.Proc ∷ token.Name name ∷ []
IsOwn (AThread name before) list = list ≡ token.Thread ∷ token.Name name ∷ []
IsOwn (ALocal kind name before) list = list ≡ kind_token kind ∷ token.Name name ∷ []
IsOwn (AStatement head locals at) list = IsHeadOf head list

-- there is one range for each item, and it has the tokens of that item
abbrev pub AreOwn : List Token → List TokenRange → List Item → Type 0
AreOwn all [] [] = ⊤
AreOwn all (r ∷ rs) (x ∷ xs) = IsOwn x (take r.count (drop r.first all)) × AreOwn all rs xs
AreOwn all _ _ = ⊥
