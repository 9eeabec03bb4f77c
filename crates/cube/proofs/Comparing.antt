-- The two orders compared in every lane at once. Assumes nothing.
use Prim.Native.Nat.{ℕ, ◌+◌, ◌*◌, ◌<◌, ◌≤◌}
use mathlib.Core.Path.{◌≡◌, refl, sym, ap, ◌∙◌}
use mathlib.Core.Bool.{Bool, true, false, ◌||◌, not, xor, and-true, and-false}
use mathlib.Core.List.{List, []}
use mathlib.Core.Logic.{⊎_elim}
use native.Mathlib.Omega.{arith}
use lib.Bits.{bit_and, bit_or, bit_xor}
use lib.Dec.{eqb}
use lib.ListN.{get_or}
use borrow.Author.Tests.{eq-eqb, ne_eqb, not-true}
use Rattle.base.specs.Search.{every}
use Rattle.base.proofs.Bools.{clash, lt_or_ge}
use Rattle.base.proofs.Search.{every_at, every_of, every_same}
use Rattle.symbol.specs.Masks.{mask_of, mask_from}
use Rattle.planes.specs.Words.{bit, Told}
use Rattle.exchange.specs.Paths.{path_of}
use Rattle.planes.proofs.Bits.{bit_and_lem, bit_or_lem, bit_xor_lem, bit_zero, bit_ext, bit_past}
use Rattle.planes.proofs.Planes.{all_lanes}
use Rattle.exchange.proofs.Composed.{path_bit, same_tests}
use Rattle.cube.specs.Lanes.{put_by, Moved}
use Rattle.cube.specs.Steps.{Tell, same_in, Differ}

-- ---- a word with no lane in it

no_more : (l : ℕ) → 27 ≤ l → bit 134217727 l ≡ false
unfolding mask_of mask_from
no_more l h = bit_past (λ (k : ℕ). true) 27 l h

in_lane : (x l : ℕ) → l < 27 → bit (bit_and x 134217727) l ≡ bit x l
in_lane x l h = bit_and_lem x 134217727 l ∙ rw (all_lanes l h) (and-true (bit x l))

none_in : (x : ℕ) → eqb (bit_and x 134217727) 0 ≡ every 27 (λ (l : ℕ). not (bit x l))
none_in x = go (every 27 (λ (l : ℕ). not (bit x l))) refl
  where
    go : (b : Bool) → every 27 (λ (l : ℕ). not (bit x l)) ≡ b → eqb (bit_and x 134217727) 0 ≡ b
    go true e = eq-eqb (bit_and x 134217727) 0 (bit_ext _ 0 (λ l. ⊎_elim
        (λ (h : l < 27). in_lane x l h ∙ not-true (bit x l) (every_at (λ (l : ℕ). not (bit x l)) 27 l e h) ∙ sym (bit_zero l))
        (λ (h : 27 ≤ l). bit_and_lem x 134217727 l ∙ rw (no_more l h) (and-false (bit x l)) ∙ sym (bit_zero l))
        (lt_or_ge l 27)))
    go false e = ne_eqb (bit_and x 134217727) 0 (λ z.
        clash (sym (every_of (λ (l : ℕ). not (bit x l)) 27 (λ l h. ap not (sym (in_lane x l h) ∙ ap (λ (y : ℕ). bit y l) z ∙ bit_zero l))) ∙ e))

-- ---- both ways in one lane

-- one way: the step told by the words r, and then one of the steps that the words q tell for b
way : (q : List (List ℕ)) (r : List ℕ) (e : ℕ → ℕ) (h : ℕ → ℕ → ℕ → ℕ) (b m l : ℕ) → b < 3 → m < 3 → l < 27 → Told 3 r e → Tell q h → e l < 3 →
    bit (path_of r q (b * 3) m) l ≡ eqb (h b (e l) l) m
way q r e h b m l lb lm lt tr tq le = path_bit r q (b * 3) m e (h b) l lm lt tr (λ z lz. tq.at b z lb lz) le

pub differ_by : (p q : List (List ℕ)) (v w a b o : ℕ) (r u : List ℕ) (x y x' y' : ℕ) → a < 3 → b < 3 → o < 3 →
    Moved (get_or p (a * 3 + o) []) w b r → Moved (get_or q (b * 3 + o) []) v a u →
    x ≡ path_of r q (b * 3) 1 → y ≡ path_of u p (a * 3) 1 → x' ≡ path_of r q (b * 3) 2 → y' ≡ path_of u p (a * 3) 2 →
    Differ p q v w a b o (bit_or (bit_xor x y) (bit_xor x' y'))
unfolding same_in
differ_by p q v w a b o r u x y x' y' la lb lo mr mu ex ey ex' ey' = record { at = λ f h tf th. none_in _ ∙ every_same _ _ 27 (λ l lt. lane f h tf th l lt) }
  where
    lane : (f h : ℕ → ℕ → ℕ → ℕ) → Tell p f → Tell q h → (l : ℕ) → l < 27 → not (bit (bit_or (bit_xor x y) (bit_xor x' y')) l) ≡ same_in f h v w a b o l
    lane f h tf th l lt =
        let e : ℕ → ℕ = λ (l : ℕ). f a o (put_by w b l) in
        let d : ℕ → ℕ = λ (l : ℕ). h b o (put_by v a l) in
        let te = mr.told (f a o) (tf.at a o la lo) in
        let td = mu.told (h b o) (th.at b o lb lo) in
        let le : e l < 3 = tf.low a o (put_by w b l) lo in
        let ld : d l < 3 = th.low b o (put_by v a l) lo in
        let bits : bit (bit_or (bit_xor x y) (bit_xor x' y')) l
        ≡ (xor (eqb (h b (e l) l) 1) (eqb (f a (d l) l) 1) || xor (eqb (h b (e l) l) 2) (eqb (f a (d l) l) 2)) =
        bit_or_lem (bit_xor x y) (bit_xor x' y') l
        ∙ rw (
          bit_xor_lem x y l,
          bit_xor_lem x' y' l,
          ex,
          ey,
          ex',
          ey',
          way q r e h b 1 l lb (omega arith) lt te th le,
          way q r e h b 2 l lb (omega arith) lt te th le,
          way p u d f a 1 l la (omega arith) lt td tf ld,
          way p u d f a 2 l la (omega arith) lt td tf ld,
        ) in
        ap not bits
        ∙ same_tests (h b (e l) l) (f a (d l) l) (th.low b (e l) l le) (tf.low a (d l) l ld)
