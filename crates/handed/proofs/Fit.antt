-- What fits, by the test and by document 01's words. Assumes nothing.
use mathlib.Core.Path.{◌≡◌, refl, sym, ap, ◌∙◌}
use mathlib.Core.Logic.{◌≢◌}
use mathlib.Core.Bool.{true, not, ◌&&◌}
use mathlib.Core.List.{List}
use Prim.Native.Nat.{ℕ, zero, suc, ◌/◌, ◌^◌, ◌≤◌, ◌<◌}
use native.Mathlib.Nat.{pow-suc}
use native.Mathlib.Omega.{arith}
use borrow.Author.Tests.{leb-true, ltb-true, eqb-true, le-leb, lt-ltb, eq-eqb, ne_eqb}
use lib.Dec.{eqb, leb, ltb}
use lib.ListN.{length}
use Rattle.base.specs.Limits.{input_limit, row_limit}
use Rattle.base.proofs.Bools.{both, and}
use Rattle.value.specs.Value.{rank_of, value_of, same_value}
use Rattle.value.specs.declared.Ternary.{Ternary}
use Rattle.text.specs.Words.{name_fits, is_name}
use Rattle.orders.specs.Vectors.{at}
use Rattle.verdict.specs.Meaning.{before, Sound, SoundFinding}
use Rattle.verdict.specs.declared.Witness.{Witness}
use Rattle.verdict.specs.declared.Finding.{Finding}
use Rattle.verdict.specs.declared.Finding.TheVariants.{Independent, Dependent}
use Rattle.orders.proofs.Candidates.{value_rank}
use Rattle.handed.specs.Handed.{Handed, thirds, within, witness_fits, finding_fits, fits_layout}

-- ---- values

same_differ : (x y : Ternary) → not (same_value x y) ≡ true → x ≢ y
unfolding same_value
same_differ x y h e =
    let z : same_value x y ≡ true = eq-eqb (rank_of x) (rank_of y) (ap rank_of e) in
    let u : not true ≡ true = rw z at h in
    let q : ◌≡◌ {A = ℕ} 0 1 = cc in
    omega arith

differ_same : (x y : Ternary) → x ≢ y → not (same_value x y) ≡ true
unfolding same_value
differ_same x y h = rw (ne_eqb (rank_of x) (rank_of y) (λ e. h (sym (value_rank x) ∙ ap value_of e ∙ value_rank y)))

-- ---- a number below 3 ^ n is gone after n divisions

thirds_small : (n c : ℕ) → c < 3 ^ n → thirds c n ≡ 0
unfolding thirds
thirds_small zero c h = omega arith
thirds_small (suc n) c h = thirds_small n (c / 3) (omega (arith, pow-suc 3 n))

small_thirds : (n c : ℕ) → thirds c n ≡ 0 → c < 3 ^ n
unfolding thirds
small_thirds zero c h = omega arith
small_thirds (suc n) c h = omega (arith, small_thirds n (c / 3) h, pow-suc 3 n)

-- ---- the test and the words

pub witness_sound : (n : ℕ) (w : Witness) → witness_fits n w ≡ true → Sound n w
unfolding witness_fits
witness_sound n w h =
    let i = leb 1 w.first in
    let j = ltb w.first w.second in
    let k = leb w.second n in
    let z = eqb (thirds w.previous n) 0 in
    let x = not (same_value (at (before n w) w.first) w.first_now) in
    let y = not (same_value (at (before n w) w.second) w.second_now) in
    let o = not (same_value w.first_output w.second_output) in
    let a6 = both (i && j && k && z && x && y) o h in
    let a5 = both (i && j && k && z && x) y a6.0 in
    let a4 = both (i && j && k && z) x a5.0 in
    let a3 = both (i && j && k) z a4.0 in
    let a2 = both (i && j) k a3.0 in
    let a1 = both i j a2.0 in
    record {
      from = leb-true 1 w.first a1.0;
      apart = ltb-true w.first w.second a1.1;
      to = leb-true w.second n a2.1;
      small = small_thirds n w.previous (eqb-true (thirds w.previous n) 0 a3.1);
      first_differs = same_differ _ _ a4.1;
      second_differs = same_differ _ _ a5.1;
      outputs = same_differ _ _ a6.1;
    }

pub sound_witness : (n : ℕ) (w : Witness) → Sound n w → witness_fits n w ≡ true
unfolding witness_fits
sound_witness n w s =
    and (and (and (and (and (and (le-leb 1 w.first s.from) (lt-ltb w.first w.second s.apart)) (le-leb w.second n s.to))
    (eq-eqb (thirds w.previous n) 0 (thirds_small n w.previous s.small)))
    (differ_same _ _ s.first_differs)) (differ_same _ _ s.second_differs)) (differ_same _ _ s.outputs)

pub finding_sound : (n : ℕ) (f : Finding) → finding_fits n f ≡ true → SoundFinding n f
unfolding finding_fits
finding_sound n Independent h = tt
finding_sound n (Dependent w) h = witness_sound n w h

pub sound_finding : (n : ℕ) (f : Finding) → SoundFinding n f → finding_fits n f ≡ true
unfolding finding_fits
sound_finding n Independent s = refl
sound_finding n (Dependent w) s = sound_witness n w s

-- ---- the parts of a verdict that fits

pub record Parts (h : Handed) : Type 0 where
  pub named : name_fits h.name ≡ true
  pub some_inputs : 1 ≤ h.inputs
  pub few_inputs : h.inputs ≤ input_limit
  pub some_rows : 1 ≤ h.rows
  pub few_rows : h.rows ≤ row_limit
  pub found : SoundFinding h.inputs h.finding

pub parts_of : (h : Handed) → fits_layout h ≡ true → Parts h
unfolding fits_layout
parts_of h e =
    let a = name_fits h.name in
    let b = within h.inputs input_limit in
    let c = within h.rows row_limit in
    let d = finding_fits h.inputs h.finding in
    let p3 = both (a && b && c) d e in
    let p2 = both (a && b) c p3.0 in
    let p1 = both a b p2.0 in
    let q = both (leb 1 h.inputs) (leb h.inputs input_limit) p1.1 in
    let r = both (leb 1 h.rows) (leb h.rows row_limit) p2.1 in
    record {
      named = p1.0;
      some_inputs = leb-true 1 h.inputs q.0;
      few_inputs = leb-true h.inputs input_limit q.1;
      some_rows = leb-true 1 h.rows r.0;
      few_rows = leb-true h.rows row_limit r.1;
      found = finding_sound h.inputs h.finding p3.1;
    }

pub of_parts : (h : Handed) → Parts h → fits_layout h ≡ true
unfolding fits_layout
of_parts h p =
    and (and (and p.named (and (le-leb 1 h.inputs p.some_inputs) (le-leb h.inputs input_limit p.few_inputs)))
    (and (le-leb 1 h.rows p.some_rows) (le-leb h.rows row_limit p.few_rows))) (sound_finding h.inputs h.finding p.found)

pub name_short : (l : List ℕ) → name_fits l ≡ true → length l ≤ 32
unfolding name_fits
name_short l e = leb-true (length l) 32 (both (is_name l) (leb (length l) 32) e).1
