-- Turns of one thread in a row.
use Rattle.std.proofs.Common.{◌≡◌, ◌≤◌, ◌<◌, ◌+◌, ◌-◌, ℕ, zero, suc, List, [], ◌++◌, Result, Ok, Err, OnErr, refl, sym}
use Rattle.std.proofs.Common.{subst, arith, ◌∷◌, length, true}
use Rattle.std.proofs.lemmas.{List.{append-nil}, List.Elements.{All-append}, Bool.{eqb-true}}
use Rattle.std.specs.Prelude.{◌==◌}
use Rattle.sect_world.specs.{declared.turned.Turned.{Turned}, Worlds.{WorldView, IsTurned}}
use Rattle.sect_run.specs.steps.{Shares.{AreBelow}, Turns.{MayGoOn, GoesOn, AreTurns, IsBrokenOff, AreBrokenOff}}

-- so many turns of thread t were made, at most as many as may be, the last came to this, and they have let these in
pub record AreMade (t most count : ℕ) (turned : Turned) (ts : List ℕ) (old now : WorldView) : Type 0 where
  pub before : WorldView
  pub made : ℕ
  pub earlier : List ℕ
  pub goes : GoesOn t made old before earlier
  pub last : IsTurned t turned before now
  pub let_in : ts ≡ earlier ++ now.granted
  pub few : made ≤ most - 1
  pub counted : count ≡ 1 + made

pub first_made : (t most : ℕ) (turned : Turned) (ts : List ℕ) (old now : WorldView) → IsTurned t turned old now
    → ts ≡ now.granted → AreMade t most 1 turned ts old now
first_made t most turned ts old now last let_in = record {
  before = old;
  made = zero;
  earlier = [];
  goes = (refl, refl);
  last = last;
  let_in = let_in;
  few = omega arith;
  counted = refl;
}

-- one turn more
pub next_made : (t most count : ℕ) (turned next : Turned) (ts more : List ℕ) (old now new : WorldView)
    → AreMade t most count turned ts old now → count < most → MayGoOn turned → IsTurned t next now new
    → more ≡ ts ++ new.granted → AreMade t most (count + 1) next more old new
next_made t most count turned next ts more old now new were below may last let_in = record {
  before = now;
  made = suc were.made;
  earlier = ts;
  goes = (were.before, turned, were.earlier, were.goes, were.last, may, were.let_in);
  last = last;
  let_in = let_in;
  few = (let e = were.counted in omega (arith, e, below));
  counted = (let e = were.counted in omega (arith, e));
}

-- one turn more was broken off
pub next_broken_off : (t most count : ℕ) (turned : Turned) (ts : List ℕ) (old now new : WorldView)
    → AreMade t most count turned ts old now → count < most → MayGoOn turned → IsBrokenOff t now new
    → AreBrokenOff t most old new
next_broken_off t most count turned ts old now new were below may broken =
    let e = were.counted in (
      now,
      suc were.made,
      ts,
      (were.before, turned, were.earlier, were.goes, were.last, may, were.let_in),
      omega (arith, e, below),
      broken,
    )

-- they are as many as may be, or it may make no other
pub all_made : (t most count : ℕ) (turned : Turned) (ts : List ℕ) (old now : WorldView)
    → AreMade t most count turned ts old now → (MayGoOn turned → most ≤ count) → AreTurns t most turned ts old now
all_made t most count turned ts old now were whole = record {
  before = were.before;
  made = were.made;
  earlier = were.earlier;
  goes = were.goes;
  last = were.last;
  let_in = were.let_in;
  few = were.few;
  all = λ may. (let e = were.counted in let few = were.few in let most_made = whole may in
      omega (arith, e, few, most_made));
}

-- none are added
pub none_more : (ts more : List ℕ) → (length more == 0) ≡ true → ts ≡ ts ++ more
none_more ts [] e = sym (append-nil ts)
none_more ts (t ∷ more) e = let is : suc (length more) ≡ 0 = eqb-true (length (t ∷ more)) 0 e in absurd (omega arith)

-- where some and more are all below a number, so are all of them
pub more_below : (n : ℕ) (some more all : List ℕ) → all ≡ some ++ more → AreBelow n some → AreBelow n more
    → AreBelow n all
more_below n some more all e first second =
    subst (AreBelow n) (sym e) (All-append (λ t. t < n) some more first second)

-- what holds, holds of a refusal
pub of_refusal : {T E P : Type 0} (r : Result T E) → P → OnErr r P
of_refusal (Ok v) p = tt
of_refusal (Err e) p = p
