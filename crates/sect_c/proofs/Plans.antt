use Rattle.std.proofs.Common.{◌≡◌, ◌<◌, ◌+◌, ℕ, true, List, ◌++◌, refl, codes}
use Rattle.std.proofs.Common.{ap, ◌∙◌, arith}
use Rattle.std.specs.{List.{list_all, flat_map}}
use Rattle.sect_modes.specs.{declared.mode.Mode.{Mode}, declared.key.Key.{Key}, Mode.{mode_text}}
use Rattle.sect_modes.specs.declared.mode.Mode.TheVariants.{IntentionShared, IntentionExclusive, Shared}
use Rattle.sect_modes.specs.declared.mode.Mode.TheVariants.{SharedIntentionExclusive, Exclusive}
use Rattle.sect_front.specs.Words.{is_name_byte}
use Rattle.sect_emit.specs.declared.plan.Grip.{Grip}
use Rattle.sect_c.specs.Declarations.{key_c, grip_c, plan_c, whole_c}
use Rattle.sect_c.specs.Back.{IsWhole, AreWhole, TablesTellKeys}
use Rattle.sect_c.proofs.Reading.{Reads, Any, Stops, told, next, ends, behind, spelled, number}
use Rattle.sect_c.proofs.Reading.{unlike, parted, wholly}
use Rattle.sect_c.proofs.Lists.{flat_listed, NoneLeft}
use Rattle.sect_modes.specs.declared.key.Key.TheVariants as key

mode_letters : (m : Mode) → list_all is_name_byte (mode_text m) ≡ true
mode_letters IntentionShared = refl
mode_letters IntentionExclusive = refl
mode_letters Shared = refl
mode_letters SharedIntentionExclusive = refl
mode_letters Exclusive = refl

mode_back : (m n : Mode) → mode_text m ≡ mode_text n → m ≡ n
mode_back IntentionShared IntentionShared e = refl
mode_back IntentionExclusive IntentionExclusive e = refl
mode_back Shared Shared e = refl
mode_back SharedIntentionExclusive SharedIntentionExclusive e = refl
mode_back Exclusive Exclusive e = refl
mode_back m n e = absurd (unlike (mode_text m) (mode_text n) refl e)

pub mode_read : (m n : Mode) → Reads (Stops is_name_byte) (mode_text m) (mode_text n) (m ≡ n)
mode_read m n =
    told (spelled is_name_byte (mode_text m) (mode_text n) (mode_letters m) (mode_letters n)) (mode_back m n)

whole_read : (a b : ℕ) (m n : Mode) → a < 65537 → b < 65537
    → Reads Any (whole_c a m) (whole_c b n) ((a ≡ b) × (m ≡ n))
whole_read a b m n p q =
    let x = behind (codes " { &wholes[") (number a b (omega arith) (omega arith)) in
    let y = next (ends x (codes "].key, SECT_") (λ xs. refl)) (mode_read m n) in
    ends y (codes ", 0 },") (λ xs. refl)

key_read : (k l : Key) (m n : Mode) → IsWhole k → IsWhole l
    → Reads Any (key_c k m) (key_c l n) ((k ≡ l) × (m ≡ n))
key_read key.All key.All m n p q =
    told {Q = (key.All ≡ key.All) × (m ≡ n)} (whole_read 0 0 m n (omega arith) (omega arith)) (λ h. (refl, h.1))
key_read key.All (key.Class d) m n p q =
    told (whole_read 0 (d + 1) m n (omega arith) (omega arith)) (λ h. absurd (omega (arith, h.0)))
key_read (key.Class c) key.All m n p q =
    told (whole_read (c + 1) 0 m n (omega arith) (omega arith)) (λ h. absurd (omega (arith, h.0)))
key_read (key.Class c) (key.Class d) m n p q =
    told {Q = (key.Class c ≡ key.Class d) × (m ≡ n)} (whole_read (c + 1) (d + 1) m n (omega arith) (omega arith))
    (λ h. (let e : c ≡ d = omega (arith, h.0) in ap key.Class e, h.1))
key_read (key.Global g) l m n p q = absurd p
key_read (key.Made t x) l m n p q = absurd p
key_read k (key.Global g) m n p q = absurd q
key_read k (key.Made t x) m n p q = absurd q

grip_read : (g h : Grip) → IsWhole g.key → IsWhole h.key → Reads Any (grip_c g) (grip_c h) (g ≡ h)
grip_read g h p q = told (key_read g.key h.key g.mode h.mode p q) (λ e. one g h e.0 e.1)
  where
    one : (g h : Grip) → g.key ≡ h.key → g.mode ≡ h.mode → g ≡ h
    one g h e f = ap (λ k. let x : Grip = record { key = k; mode = g.mode } in x) e
        ∙ ap (λ m. let x : Grip = record { key = h.key; mode = m } in x) f

-- behind the keys stands none
key_or_end : (k : Key) (m : Mode) → IsWhole k → (rest ys : List ℕ)
    → codes " { NULL, SECT_IS, 0 } };\n" ++ rest ≡ key_c k m ++ ys → ⊥
key_or_end key.All m p rest ys e = parted (codes " { NULL, SECT_IS, 0 } };\n") (whole_c 0 m) rest ys refl e
key_or_end (key.Class c) m p rest ys e =
    parted (codes " { NULL, SECT_IS, 0 } };\n") (whole_c (c + 1) m) rest ys refl e
key_or_end (key.Global g) m p rest ys e = absurd p
key_or_end (key.Made t x) m p rest ys e = absurd p

abbrev IsWholeGrip : Grip → Type 0
IsWholeGrip g = IsWhole g.key

part_read : (a b : List Grip) → AreWhole a → AreWhole b
    → Reads (NoneLeft IsWholeGrip IsWholeGrip grip_c grip_c grip_read) (flat_map grip_c a) (flat_map grip_c b) (a ≡ b)
part_read a b p q = flat_listed IsWholeGrip IsWholeGrip grip_c grip_c grip_read a b p q

pub plan_read : (i j : ℕ) (a b : List Grip) → i < 65536 → j < 65536 → AreWhole a → AreWhole b
    → Reads Any (plan_c i a) (plan_c j b) ((i ≡ j) × (a ≡ b))
plan_read i j a b p q r s =
    let x = behind (codes "static const struct sect_grip plan_") (number i j (omega arith) (omega arith)) in
    let y = next (ends x (codes "[] = {") (λ xs. refl)) (part_read a b r s) in
    ends y (codes " { NULL, SECT_IS, 0 } };\n") (λ xs. (
      (λ n (g : Grip) zs is e. key_or_end g.key g.mode is xs zs e),
      (λ n (g : Grip) zs is e. key_or_end g.key g.mode is xs zs e),
    ))

pub tables_tell : TablesTellKeys
tables_tell i j a b p q r s e = wholly (plan_read i j a b p q r s) e
