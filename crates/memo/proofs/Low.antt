-- Lists of value numbers. Assumes nothing.
use Prim.Native.Nat.{ℕ, zero, suc, ◌<◌}
use mathlib.Core.Path.{◌≡◌, refl}
use mathlib.Core.Bool.{Bool, true, false}
use mathlib.Core.List.{List}
use lib.Dec.{eqb, lit<}
use lib.ListN.{length, get_or, set, replicate}
use lib.Seq.{get_or-set_same, get_or-set_other}
use borrow.Author.Tests.{eqb-true, eqb-false}
use Rattle.memo.specs.Outputs.{Low}

zeros : (n c : ℕ) → get_or {A = ℕ} (replicate n 0) c 0 ≡ 0
zeros zero c = refl
zeros (suc n) zero = refl
zeros (suc n) (suc c) = zeros n c

pub low_none : (n : ℕ) → Low (replicate n 0)
low_none n = record { at = λ c. rw (zeros n c) (lit< tt) }

pub low_more : (f : List ℕ) (k x : ℕ) → k < length f → x < 3 → Low f → Low (set f k x)
low_more f k x h lx s = record { at = λ c. go c (eqb c k) refl }
  where
    go : (c : ℕ) (b : Bool) → eqb c k ≡ b → get_or (set f k x) c 0 < 3
    go c true e = let z : c ≡ k = eqb-true c k e in rw (z, get_or-set_same f k x 0 h) lx
    go c false e = rw (get_or-set_other f k c x 0 (eqb-false c k e)) (s.at c)
