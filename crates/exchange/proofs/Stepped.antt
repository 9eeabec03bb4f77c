-- The planes of the level rows and of the steps. Assumes nothing.
use Prim.Native.Nat.{ℕ, ◌+◌, ◌*◌, ◌/◌, ◌%◌, ◌<◌}
use mathlib.Core.Path.{◌≡◌, refl, sym, ap, ◌∙◌}
use mathlib.Core.Bool.{Bool, true, false}
use mathlib.Core.List.{List, []}
use native.Mathlib.Omega.{arith}
use lib.Bits.{bit_and}
use lib.Dec.{eqb}
use lib.ListN.{get_or}
use borrow.Author.Tests.{eq-eqb}
use Rattle.base.proofs.Bools.{clash}
use Rattle.memo.specs.declared.Memo.{Memo}
use Rattle.memo.specs.Outputs.{Low}
use Rattle.memo.specs.Rows.{cell_at}
use Rattle.planes.specs.Words.{Told}
use Rattle.planes.specs.Planes.{lane_rows, answer_in, Closed}
use Rattle.exchange.specs.Lanes.{besides, rows_by, place_of, level_of, Level, Levels, enter_of, Step, Steps, steps_at}
use Rattle.planes.proofs.Planes.{told_same, swap, lane_first, last_of}

-- the two columns change places
ends : (r a b c : ℕ) → bit_and (bit_and (bit_and r a) b) c ≡ bit_and (bit_and (bit_and r c) b) a
ends r a b c = swap (bit_and r a) b c ∙ ap (λ (x : ℕ). bit_and x b) (swap r a c) ∙ swap (bit_and r c) a b

module _ (memo : Memo) (g : List ℕ) (i j r : ℕ) where
  abbrev s : List (List ℕ)
  s = memo.cells

  level_of_lem : (u w o e : ℕ) (p : List ℕ) → u < 3 → w < 3 → o < 3 → e ≡ (u * 3 + w) * 3 + o → Low memo.outputs → Level memo g i j r e p →
      Told 4 p (λ (l : ℕ). answer_in memo.outputs o (bit_and (rows_by memo j i r w o u) (lane_rows g l)))
  level_of_lem u w o e p lu lw lo q low t =
      let a : e % 3 ≡ o = omega arith in
      let b : e / 3 % 3 ≡ w = last_of (e / 3) u w lw (omega arith) in
      let d : e / 9 ≡ u = omega arith in
      rw (a, b, d) at (t.told low)

  by_first : (u w o l : ℕ) → answer_in memo.outputs o (bit_and (rows_by memo j i r w o u) (lane_rows g l)) ≡ level_of memo g i j r u w o l
  unfolding rows_by besides level_of
  by_first u w o l = ap (answer_in memo.outputs o) (lane_first r (cell_at s j w) (cell_at s memo.inputs o) (cell_at s i u) (lane_rows g l))

  by_second : (u w o l : ℕ) → answer_in memo.outputs o (bit_and (rows_by memo j i r w o u) (lane_rows g l)) ≡ level_of memo g j i r w u o l
  unfolding rows_by besides level_of
  by_second u w o l =
      ap (answer_in memo.outputs o)
      (ap (λ (x : ℕ). bit_and x (lane_rows g l)) (ends r (cell_at s j w) (cell_at s memo.inputs o) (cell_at s i u))
      ∙ lane_first r (cell_at s i u) (cell_at s memo.inputs o) (cell_at s j w) (lane_rows g l))

  pub levels_by : (f : List (List ℕ)) → ((e : ℕ) → e < 27 → Level memo g i j r e (get_or f e [])) → Levels memo g i j false r f × Levels memo g j i true r f
  unfolding place_of
  levels_by f h = (
    record {
      at = λ low u w o lu lw lo.
          told_same 4 _ _ _ (λ l q. by_first u w o l) (level_of_lem u w o _ _ lu lw lo refl low (h ((u * 3 + w) * 3 + o) (omega arith)));
    },
    record {
      at = λ low u w o lu lw lo.
          told_same 4 _ _ _ (λ l q. by_second w u o l) (level_of_lem w u o _ _ lw lu lo refl low (h ((w * 3 + u) * 3 + o) (omega arith)));
    },
  )

module _ (memo : Memo) (g : List ℕ) (c h r : ℕ) where
  -- a step goes on from the planes of the level rows
  pub step_by : (turned : Bool) (k o set at : ℕ) (lev : List (List ℕ)) (p : List ℕ) → k < 27 → o < 3 →
      Levels memo g c h turned r lev → set ≡ rows_by memo h c r (k / 3 % 3) o (3 + (k % 3 * 3 + k / 9)) → at ≡ place_of turned (k / 9) (k / 3 % 3) →
      (Low memo.outputs → Closed memo.outputs g o set (get_or lev (at * 3 + o) []) p) → Step memo g c h r k o p
  unfolding enter_of
  step_by turned k o set at lev p lk lo lv es ea cl =
      let done = rw (es, ea) at cl in
      record { told = λ low e. told_same 3 p _ _ (λ l h. refl) ((done low).told _ (lv.at low (k / 9) (k / 3 % 3) o (omega arith) (omega arith) lo)) }

  -- the step in place e
  pub StepIn : (e : ℕ) (p : List ℕ) → Type 0
  StepIn e p = Step memo g c h r (e / 3) (e % 3) p

  pub in_place : (k o : ℕ) (p : List ℕ) → o < 3 → Step memo g c h r k o p → StepIn (k * 3 + o) p
  unfolding StepIn
  in_place k o p lo st =
      let a : (k * 3 + o) / 3 ≡ k = omega arith in
      let b : (k * 3 + o) % 3 ≡ o = omega arith in
      rw (a, b) st

  pub steps_by : (f : List (List ℕ)) → ((e : ℕ) → e < 81 → StepIn e (get_or f e [])) → Steps memo g c h r f
  unfolding StepIn
  steps_by f st = record { at = λ low u w a o lu lw la lo ne. go low u w a o (steps_at u w a + o) lu lw la lo refl ne }
    where
      go : Low memo.outputs → (u w a o e : ℕ) → u < 3 → w < 3 → a < 3 → o < 3 → e ≡ steps_at u w a + o → eqb a u ≡ false →
          Told 3 (get_or f e []) (enter_of memo g c h r u w a o)
      go low u w a o e lu lw la lo q ne =
          let eu : e / 3 / 9 ≡ u = omega arith in
          let ew : e / 3 / 3 % 3 ≡ w = last_of (e / 3 / 3) u w lw (omega arith) in
          let ea : e / 3 % 3 ≡ a = last_of (e / 3) (u * 3 + w) a la (omega arith) in
          let eo : e % 3 ≡ o = omega arith in
          (rw (ea, eu, ew, eo) at ((st e (omega arith)).told low)) ne

  -- where the column does not change, no step is told
  pub no_step : (k o : ℕ) (p : List ℕ) → k % 3 ≡ k / 9 → Step memo g c h r k o p
  no_step k o p e = record { told = λ low q. clash (sym (eq-eqb (k % 3) (k / 9) e) ∙ q) }
