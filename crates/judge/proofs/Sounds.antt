-- A right finding can stand in the book, and its witness tells what the two orders give. Assumes nothing.
use Prim.Native.Nat.{ℕ}
use mathlib.Core.Path.{◌≡◌}
use native.Mathlib.Omega.{arith}
use Rattle.orders.specs.Order.{Step, Laws, eval_order, Every}
use Rattle.orders.specs.Verdict.{First}
use Rattle.orders.proofs.Candidates.{both_change}
use Rattle.verdict.specs.declared.Witness.{Witness}
use Rattle.verdict.specs.declared.Finding.{Finding}
use Rattle.verdict.specs.declared.Finding.TheVariants.{Independent, Dependent}
use Rattle.verdict.specs.Meaning.{shown, Sound, SoundFinding}
use Rattle.judge.specs.Judge.{Witnesses, RightFinding}

module _ {n : ℕ} {phi : Step} (L : Laws n phi) where
  witness_sound : (w : Witness) → Witnesses n phi w → Sound n w
  witness_sound w p =
      let f : First n (Every n) phi w.first w.second p.candidate = p.first in
      let c = both_change n phi (Every n) w.first w.second L (λ e. omega (arith, f.rising)) p.candidate f.one (omega (arith, f.rising, f.last))
      (omega (arith, f.one, f.rising)) f.last f.here in
      record {
        from = f.one;
        apart = f.rising;
        to = f.last;
        small = omega (arith, p.previous, f.counted);
        first_differs = rw (p.previous, p.first_now) c.0;
        second_differs = rw (p.previous, p.second_now) c.1;
        outputs = rw (p.first_output, p.second_output) f.here.differ;
      }

  -- what the judge finds fits the book's layout: an append of it is never refused with 14 for the finding's sake
  pub finding_sound : (f : Finding) → RightFinding n phi f → SoundFinding n f
  finding_sound Independent p = tt
  finding_sound (Dependent w) p = witness_sound w p

-- in document 01's words: out1 and out2 are what order1 and order2 give from prev to cur
pub witness_told : {n : ℕ} {phi : Step} (w : Witness) → Witnesses n phi w →
    ((shown n w).out1 ≡ eval_order phi (shown n w).prev (shown n w).cur (shown n w).old (shown n w).order1)
    × ((shown n w).out2 ≡ eval_order phi (shown n w).prev (shown n w).cur (shown n w).old (shown n w).order2)
unfolding shown
witness_told w p = (rw (p.previous, p.first_now, p.second_now, p.old) p.first_output, rw (p.previous, p.first_now, p.second_now, p.old) p.second_output)
