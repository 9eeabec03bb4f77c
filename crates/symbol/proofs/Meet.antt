-- Two symbols meet exactly where some level, or some change, matches both. Assumes nothing.
use Prim.Native.Nat.{ℕ, ◌-◌, ◌/◌, ◌%◌, ◌<◌}
use mathlib.Core.Path.{◌≡◌, refl, sym, ◌∙◌}
use mathlib.Core.Bool.{Bool, true, false, ◌&&◌, cond}
use native.Mathlib.Omega.{arith}
use lib.Dec.{ltb}
use Rattle.base.proofs.Search.{some_at, some_is}
use Rattle.base.proofs.Bools.{both, and, clash}
use Rattle.value.specs.declared.Ternary.{Ternary}
use Rattle.value.specs.declared.Ternary.TheVariants.{V0, V1, Vx}
use Rattle.symbol.specs.declared.Symbol.{Symbol}
use Rattle.symbol.specs.declared.Symbol.TheVariants.{Held, Edge, Rise, Fall, Positive, Negative, Every}
use Rattle.value.specs.Value.{value_of}
use Rattle.symbol.specs.Match.{match_held, match_change, is_edge, offered, meet}

pub level_is_held : (s : Symbol) (y : Ternary) → match_held s y ≡ true → is_edge s ≡ false
unfolding match_held is_edge
level_is_held (Held l) y e = refl
level_is_held (Edge v w) y e = sym e
level_is_held Rise y e = sym e
level_is_held Fall y e = sym e
level_is_held Positive y e = sym e
level_is_held Negative y e = sym e
level_is_held Every y e = sym e

pub change_is_edge : (s : Symbol) (p y : Ternary) → match_change s p y ≡ true → is_edge s ≡ true
unfolding match_change is_edge
change_is_edge (Held l) p y e = e
change_is_edge (Edge v w) p y e = refl
change_is_edge Rise p y e = refl
change_is_edge Fall p y e = refl
change_is_edge Positive p y e = refl
change_is_edge Negative p y e = refl
change_is_edge Every p y e = refl

module _ (s u : Symbol) where
  met : (c : ℕ) → c < 12 → offered s c ≡ true → offered u c ≡ true → meet s u ≡ true
  unfolding meet
  met c h p q = some_at (λ (k : ℕ). offered s k && offered u k) 12 c h (and p q)

  pub meet_level : (y : Ternary) → match_held s y ≡ true → match_held u y ≡ true → meet s u ≡ true
  unfolding offered value_of
  meet_level V0 p q = met 0 (omega arith) p q
  meet_level V1 p q = met 1 (omega arith) p q
  meet_level Vx p q = met 2 (omega arith) p q

  pub meet_change : (z y : Ternary) → match_change s z y ≡ true → match_change u z y ≡ true → meet s u ≡ true
  unfolding offered value_of
  meet_change V0 V0 p q = met 3 (omega arith) p q
  meet_change V0 V1 p q = met 4 (omega arith) p q
  meet_change V0 Vx p q = met 5 (omega arith) p q
  meet_change V1 V0 p q = met 6 (omega arith) p q
  meet_change V1 V1 p q = met 7 (omega arith) p q
  meet_change V1 Vx p q = met 8 (omega arith) p q
  meet_change Vx V0 p q = met 9 (omega arith) p q
  meet_change Vx V1 p q = met 10 (omega arith) p q
  meet_change Vx Vx p q = met 11 (omega arith) p q

  -- what the search finds, as a level and as a change
  pub record Met : Type 0 where
    pub at : ℕ
    pub left : offered s at ≡ true
    pub right : offered u at ≡ true

  pub meet_is : meet s u ≡ true → Met
  unfolding meet
  meet_is e =
      let w = some_is (λ (k : ℕ). offered s k && offered u k) 12 e in
      let p = both (offered s w.0) (offered u w.0) w.2 in
      record { at = w.0; left = p.0; right = p.1 }

level_of_lem : (s : Symbol) (b : Bool) (y z x : Ternary) → is_edge s ≡ false → cond b (match_held s y) (match_change s z x) ≡ true → b ≡ true
level_of_lem s true y z x e p = refl
level_of_lem s false y z x e p = clash (sym (change_is_edge s z x p) ∙ e)

change_of : (s : Symbol) (b : Bool) (y z x : Ternary) → is_edge s ≡ true → cond b (match_held s y) (match_change s z x) ≡ true → b ≡ false
change_of s true y z x e p = clash (sym e ∙ level_is_held s y p)
change_of s false y z x e p = refl

module _ (s u : Symbol) (e : meet s u ≡ true) where
  pub level_met : is_edge s ≡ false → (y : Ternary) × (match_held s y ≡ true) × (match_held u y ≡ true)
  unfolding offered
  level_met l =
      let m = meet_is s u e in
      let b : ltb m.at 3 ≡ true = level_of_lem s (ltb m.at 3) (value_of m.at) _ _ l m.left in
      (value_of m.at, rw b at m.left, rw b at m.right)

  pub change_met : is_edge s ≡ true → (z : Ternary) × (y : Ternary) × (match_change s z y ≡ true) × (match_change u z y ≡ true)
  unfolding offered
  change_met l =
      let m = meet_is s u e in
      let b : ltb m.at 3 ≡ false = change_of s (ltb m.at 3) _ (value_of ((m.at - 3) / 3)) (value_of ((m.at - 3) % 3)) l m.left in
      (value_of ((m.at - 3) / 3), value_of ((m.at - 3) % 3), rw b at m.left, rw b at m.right)
