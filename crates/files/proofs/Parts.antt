-- Joined parts are split again, and each is found by its number. Assumes nothing.
use mathlib.Core.Path.{◌≡◌, refl, sym, ap, ap₂, ◌∙◌}
use mathlib.Core.Logic.{◌≢◌, ⊎_elim}
use mathlib.Core.Bool.{Bool, true, false, cond}
use mathlib.Core.List.{List, [], ◌∷◌, ◌++◌, append_assoc, append-nil}
use Prim.Native.Nat.{ℕ, zero, suc, ◌+◌, ◌-◌, ◌≤◌, ◌<◌}
use native.Mathlib.Nat.{eq-or-lt_of_le}
use native.Mathlib.Numerals.{add-one}
use native.Mathlib.Omega.{arith}
use borrow.Author.Tests.{eq-eqb, ne_eqb, eqb-true, eqb-false}
use lib.Dec.{eqb}
use lib.ListN.{length, get_or, take, drop, length-append, length-drop, length-take, take-append-drop, drop_of_length-le, get_or-append, get_or-eq_default}
use lib.Seq.{take_all, drop-drop, length-take-le, get_or-take, get_or-drop, drop-cons, take-append_seam, drop-append_seam, get_or-append-add, get_or-append_seam}
use Rattle.base.specs.Search.{first_from}
use Rattle.base.proofs.Bools.{lt_or_ge}
use Rattle.files.specs.Parts.{Without, join, split_from, split, after_mark, next_mark, between, part_at}

-- parts that hold no c
pub data Clean (c : ℕ) : List (List ℕ) → Type 0 where
  none : Clean c []
  more : {b : List ℕ} {bs : List (List ℕ)} → Without c b → Clean c bs → Clean c (b ∷ bs)

module _ (c : ℕ) where
  -- ---- splitting, one byte at a time

  pub split_mark : (so_far l : List ℕ) (x : ℕ) → x ≡ c → split_from c so_far (x ∷ l) ≡ (so_far ∷ (split c l).0, (split c l).1)
  split_mark so_far l x h = rw (eq-eqb x c h)

  pub split_other : (so_far l : List ℕ) (x : ℕ) → x ≢ c → split_from c so_far (x ∷ l) ≡ split_from c (so_far ++ (x ∷ [])) l
  split_other so_far l x h = rw (ne_eqb x c h)

  split_body : (so_far b l : List ℕ) → Without c b → split_from c so_far (b ++ (c ∷ l)) ≡ ((so_far ++ b) ∷ (split c l).0, (split c l).1)
  split_body so_far [] l h = split_mark so_far l c refl ∙ rw (append-nil so_far)
  split_body so_far (x ∷ b) l h =
      split_other so_far (b ++ (c ∷ l)) x (h 0) ∙ split_body (so_far ++ (x ∷ [])) b l (λ k. h (suc k)) ∙ rw (append_assoc so_far (x ∷ []) b)

  split_rest : (so_far t : List ℕ) → Without c t → split_from c so_far t ≡ ([], so_far ++ t)
  split_rest so_far [] h = rw (append-nil so_far)
  split_rest so_far (x ∷ t) h = split_other so_far t x (h 0) ∙ split_rest (so_far ++ (x ∷ [])) t (λ k. h (suc k)) ∙ rw (append_assoc so_far (x ∷ []) t)

  -- the split is the only one
  pub split_join : {bs : List (List ℕ)} (t : List ℕ) → Clean c bs → Without c t → split c (join c bs ++ t) ≡ (bs, t)
  split_join t none h = split_rest [] t h
  split_join t (more {b} {bs} w ws) h =
      rw (append_assoc b (c ∷ join c bs) t)
      (split_body [] b (join c bs ++ t) w ∙ ap (λ (r : List (List ℕ) × List ℕ). (b ∷ r.0, r.1)) (split_join t ws h))

  pub join_snoc : (bs : List (List ℕ)) (b : List ℕ) → join c (bs ++ (b ∷ [])) ≡ join c bs ++ (b ++ (c ∷ []))
  join_snoc [] b = refl
  join_snoc (a ∷ bs) b = rw (join_snoc bs b, append_assoc a (c ∷ join c bs) (b ++ (c ∷ [])))

  -- ---- part k by its place

  pub part_in : (bs : List (List ℕ)) (t : List ℕ) (k : ℕ) → k < length bs →
      join c bs ++ t ≡ join c (take k bs) ++ (get_or bs k [] ++ (c ∷ (join c (drop (suc k) bs) ++ t)))
  part_in [] t k h = absurd (omega arith)
  part_in (b ∷ bs) t zero h = append_assoc b (c ∷ join c bs) t
  part_in (b ∷ bs) t (suc k) h =
      append_assoc b (c ∷ join c bs) t
      ∙ ap (λ (r : List ℕ). b ++ (c ∷ r)) (part_in bs t k (omega arith))
      ∙ sym (append_assoc b (c ∷ join c (take k bs)) (get_or bs k [] ++ (c ∷ (join c (drop (suc k) bs) ++ t))))

  after_body : (k : ℕ) (b l : List ℕ) → Without c b → after_mark c (suc k) (b ++ (c ∷ l)) ≡ length b + suc (after_mark c k l)
  unfolding after_mark
  after_body k [] l h = rw (eq-eqb c c refl) (omega arith)
  after_body k (x ∷ b) l h = rw (ne_eqb x c (h 0)) (omega (arith, after_body k b l (λ m. h (suc m))))

  pub after_join : {bs : List (List ℕ)} (t : List ℕ) (k : ℕ) → Clean c bs → k ≤ length bs → after_mark c k (join c bs ++ t) ≡ length (join c (take k bs))
  unfolding after_mark
  after_join t zero w h = refl
  after_join t (suc k) none h = absurd (omega arith)
  after_join t (suc k) (more {b} {bs} w ws) h =
      rw (append_assoc b (c ∷ join c bs) t)
      (after_body k b (join c bs ++ t) w ∙ omega (arith, after_join t k ws (omega arith), length-append b (c ∷ join c (take k bs))))

  -- ---- the next c

  pub next_more : (l : List ℕ) (i : ℕ) → i < length l → get_or l i 0 ≢ c → next_mark c l i ≡ next_mark c l (i + 1)
  unfolding next_mark first_from
  next_more l i h e =
      let z : length l - i ≡ suc (length l - suc i) = omega arith in
      rw (z, ne_eqb (get_or l i 0) c e, add-one i)

  pub next_here : (l : List ℕ) (i : ℕ) → i < length l → get_or l i 0 ≡ c → next_mark c l i ≡ i
  unfolding next_mark first_from
  next_here l i h e =
      let z : length l - i ≡ suc (length l - suc i) = omega arith in
      rw (z, eq-eqb (get_or l i 0) c e)

  pub next_none : (l : List ℕ) (i : ℕ) → length l ≤ i → next_mark c l i ≡ i
  unfolding next_mark first_from
  next_none l i h =
      let z : length l - i ≡ 0 = omega arith in
      rw z

  pub next_body : (a b l : List ℕ) → Without c b → next_mark c (a ++ (b ++ (c ∷ l))) (length a) ≡ length a + length b
  next_body a [] l h =
      next_here (a ++ (c ∷ l)) (length a) (omega (arith, length-append a (c ∷ l))) (get_or-append_seam a c l 0) ∙ omega arith
  next_body a (x ∷ b) l h =
      let s : a ++ (x ∷ (b ++ (c ∷ l))) ≡ (a ++ (x ∷ [])) ++ (b ++ (c ∷ l)) = sym (append_assoc a (x ∷ []) (b ++ (c ∷ l))) in
      let n : length (a ++ (x ∷ [])) ≡ length a + 1 = length-append a (x ∷ []) in
      next_more (a ++ (x ∷ (b ++ (c ∷ l)))) (length a) (omega (arith, length-append a (x ∷ (b ++ (c ∷ l))))) (λ e. h 0 (sym (get_or-append_seam a x (b ++ (c ∷ l)) 0) ∙ e))
      ∙ ap₂ (next_mark c) s (sym n)
      ∙ next_body (a ++ (x ∷ [])) b l (λ k. h (suc k))
      ∙ omega (arith, n)

  pub between_mid : (a b l : List ℕ) (e : ℕ) → e ≡ length a + length b → between (length a) e (a ++ (b ++ l)) ≡ b
  between_mid a b l e h =
      let z : e - length a ≡ length b = omega arith in
      rw (z, drop-append_seam a (b ++ l)) (take-append_seam b l)

  clean_at : {bs : List (List ℕ)} (k : ℕ) → Clean c bs → k < length bs → Without c (get_or bs k [])
  clean_at k none h = absurd (omega arith)
  clean_at zero (more w ws) h = w
  clean_at (suc k) (more w ws) h = clean_at k ws (omega arith)

  pub next_join : {bs : List (List ℕ)} (t : List ℕ) (k : ℕ) → Clean c bs → k < length bs →
      next_mark c (join c bs ++ t) (length (join c (take k bs))) ≡ length (join c (take k bs)) + length (get_or bs k [])
  next_join {bs} t k w h =
      rw (part_in bs t k h) (next_body (join c (take k bs)) (get_or bs k []) (join c (drop (suc k) bs) ++ t) (clean_at k w h))

  pub part_join : {bs : List (List ℕ)} (t : List ℕ) (k : ℕ) → Clean c bs → k < length bs → part_at c k (join c bs ++ t) ≡ get_or bs k []
  unfolding part_at
  part_join {bs} t k w h =
      rw (after_join t k w (omega arith), next_join t k w h, part_in bs t k h)
      (between_mid (join c (take k bs)) (get_or bs k []) (c ∷ (join c (drop (suc k) bs) ++ t)) (length (join c (take k bs)) + length (get_or bs k [])) refl)

  -- ---- byte i of the parts from m on

  module _ (bs : List (List ℕ)) (t : List ℕ) (m i : ℕ) where
    front : m < length bs → join c (drop m bs) ++ t ≡ get_or bs m [] ++ (c ∷ (join c (drop (suc m) bs) ++ t))
    front h = rw (drop-cons bs m [] h) (append_assoc (get_or bs m []) (c ∷ join c (drop (suc m) bs)) t)

    pub byte_in_lem : m < length bs → i < length (get_or bs m []) → get_or (join c (drop m bs) ++ t) i 0 ≡ get_or (get_or bs m []) i 0
    byte_in_lem h l = rw (front h) (get_or-append (get_or bs m []) (c ∷ (join c (drop (suc m) bs) ++ t)) 0 i l)

    pub byte_mark : m < length bs → i ≡ length (get_or bs m []) → get_or (join c (drop m bs) ++ t) i 0 ≡ c
    byte_mark h e = rw (front h, e) (get_or-append_seam (get_or bs m []) c (join c (drop (suc m) bs) ++ t) 0)

    pub byte_more : (l : ℕ) → m < length bs → l ≡ length (get_or bs m []) → l < i →
        get_or (join c (drop m bs) ++ t) i 0 ≡ get_or (join c (drop (m + 1) bs) ++ t) (i - l - 1) 0
    byte_more l h e g =
        let z : i ≡ length (get_or bs m []) + suc (i - l - 1) = omega arith in
        rw (front h, add-one m)
        (ap (λ (j : ℕ). get_or (get_or bs m [] ++ (c ∷ (join c (drop (suc m) bs) ++ t))) j 0) z
        ∙ get_or-append-add (get_or bs m []) (c ∷ (join c (drop (suc m) bs) ++ t)) (suc (i - l - 1)) 0)

    pub byte_rest : length bs ≤ m → get_or (join c (drop m bs) ++ t) i 0 ≡ get_or t i 0
    byte_rest h = rw (drop_of_length-le bs h)

  -- ---- bounds

  after_step : (k : ℕ) (l : List ℕ) (b : Bool) (p q : ℕ) → p ≤ length l → q ≤ length l → cond b p q ≤ length l
  after_step k l true p q h g = h
  after_step k l false p q h g = g

  pub after_le : (k : ℕ) (l : List ℕ) → after_mark c k l ≤ length l
  unfolding after_mark
  after_le zero l = omega arith
  after_le (suc k) [] = omega arith
  after_le (suc k) (x ∷ l) = omega (arith, after_step k l (eqb x c) (after_mark c k l) (after_mark c (suc k) l) (after_le k l) (after_le (suc k) l))

from_bounds : (f : ℕ → Bool) (i m : ℕ) → (i ≤ first_from f i m) × (first_from f i m ≤ i + m)
unfolding first_from
from_bounds f i zero = (omega arith, omega arith)
from_bounds f i (suc m) = go (f i) (from_bounds f (suc i) m)
  where
    go : (b : Bool) → (suc i ≤ first_from f (suc i) m) × (first_from f (suc i) m ≤ suc i + m) → (i ≤ cond b i (first_from f (suc i) m)) × (cond b i (first_from f (suc i) m) ≤ i + suc m)
    go true h = (omega arith, omega arith)
    go false h = (omega arith, omega arith)

pub next_ge : (c : ℕ) (l : List ℕ) (i : ℕ) → i ≤ next_mark c l i
unfolding next_mark
next_ge c l i = (from_bounds (λ k. eqb (get_or l k 0) c) i (length l - i)).0

pub next_le : (c : ℕ) (l : List ℕ) (i : ℕ) → i ≤ length l → next_mark c l i ≤ length l
unfolding next_mark
next_le c l i h = omega (arith, (from_bounds (λ k. eqb (get_or l k 0) c) i (length l - i)).1)

-- ---- a part by its ends

module _ (c m : ℕ) (l : List ℕ) (a e : ℕ) (p : a ≡ after_mark c m l) (q : e ≡ next_mark c l a) where
  pub part_order : (a ≤ e) × (e ≤ length l)
  part_order = (omega (arith, next_ge c l a), omega (arith, next_le c l a (omega (arith, after_le c m l))))

  part_is : part_at c m l ≡ between a e l
  unfolding part_at
  part_is = rw (← p, ← q)

  pub part_length : length (part_at c m l) ≡ e - a
  part_length = ap length part_is ∙ length-take-le (e - a) (drop a l) (omega (arith, length-drop a l, part_order.0, part_order.1))

  pub part_byte : (k : ℕ) → k < e - a → get_or (part_at c m l) k 0 ≡ get_or l (a + k) 0
  part_byte k h = ap (λ (r : List ℕ). get_or r k 0) part_is ∙ get_or-take (e - a) (drop a l) k 0 h ∙ get_or-drop a l k 0

  pub part_past : (k : ℕ) → e - a ≤ k → get_or (part_at c m l) k 0 ≡ 0
  part_past k h = get_or-eq_default (part_at c m l) 0 (omega (arith, part_length))

-- a part is no longer than the whole
pub part_short : (c m : ℕ) (l : List ℕ) → length (part_at c m l) ≤ length l
part_short c m l =
    let a : ℕ = after_mark c m l in
    let e : ℕ = next_mark c l a in
    omega (arith, part_length c m l a e refl refl, (part_order c m l a e refl refl).1)

-- ---- up to the next c there is none

below_turn : (f : ℕ → Bool) (i k r : ℕ) (b : Bool) → f i ≡ b → i ≤ k → k < cond b i r → (i < k → k < r → f k ≡ false) → f k ≡ false
below_turn f i k r true e g h go = absurd (omega arith)
below_turn f i k r false e g h go = ⊎_elim (λ (q : i ≡ k). rw (← q) e) (λ (q : i < k). go q h) (eq-or-lt_of_le g)

from_below : (f : ℕ → Bool) (i m k : ℕ) → i ≤ k → k < first_from f i m → f k ≡ false
unfolding first_from
from_below f i zero k g h = absurd (omega arith)
from_below f i (suc m) k g h = below_turn f i k (first_from f (suc i) m) (f i) refl g h (from_below f (suc i) m k)

found_turn : (f : ℕ → Bool) (i m r : ℕ) (b : Bool) → f i ≡ b → cond b i r < i + suc m → (r < suc i + m → f r ≡ true) → f (cond b i r) ≡ true
found_turn f i m r true e h go = e
found_turn f i m r false e h go = go (omega arith)

from_found : (f : ℕ → Bool) (i m : ℕ) → first_from f i m < i + m → f (first_from f i m) ≡ true
unfolding first_from
from_found f i zero h = absurd (omega arith)
from_found f i (suc m) h = found_turn f i m (first_from f (suc i) m) (f i) refl h (from_found f (suc i) m)

module _ (c : ℕ) (some : c ≢ 0) (l : List ℕ) (i e : ℕ) (inside : i ≤ length l) (q : e ≡ next_mark c l i) where
  open_part : Without c (between i e l)
  unfolding next_mark
  open_part k h = ⊎_elim within beyond (lt_or_ge k (e - i))
    where
      within : k < e - i → ⊥
      within g = eqb-false (get_or l (i + k) 0) c (from_below (λ m. eqb (get_or l m 0) c) i (length l - i) (i + k) (omega arith) (omega (arith, q))) (sym (get_or-take (e - i) (drop i l) k 0 g ∙ get_or-drop i l k 0) ∙ h)

      beyond : e - i ≤ k → ⊥
      beyond g = some (sym h ∙ get_or-eq_default (between i e l) 0 {n = k} (omega (arith, length-take (e - i) (drop i l))))

  pub split_next : e < length l → split c (drop i l) ≡ (between i e l ∷ (split c (drop (e + 1) l)).0, (split c (drop (e + 1) l)).1)
  unfolding next_mark
  split_next h =
      let g : i ≤ e = omega (arith, next_ge c l i, q) in
      let z : i + (e - i) ≡ e = omega arith in
      let at-e : get_or l e 0 ≡ c = rw q (eqb-true (get_or l (next_mark c l i) 0) c (from_found (λ m. eqb (get_or l m 0) c) i (length l - i) (omega (arith, q)))) in
      let rest : drop (e - i) (drop i l) ≡ c ∷ drop (e + 1) l = drop-drop (e - i) i l ∙ rw (z, drop-cons l e 0 h, at-e, add-one e) in
      ap (split c) (sym (take-append-drop (e - i) (drop i l)) ∙ ap (λ (r : List ℕ). between i e l ++ r) rest) ∙ split_body c [] (between i e l) (drop (e + 1) l) open_part

  pub split_last : length l ≤ e → split c (drop i l) ≡ ([], drop i l)
  split_last h =
      let w : between i e l ≡ drop i l = take_all (e - i) (drop i l) (omega (arith, length-drop i l)) in
      split_rest c [] (drop i l) (rw w at open_part)

-- ---- the walk to the place after the k-th c: the answer from place i on, with `left` still to pass

pub walk_stop : (c : ℕ) (s : List ℕ) (i : ℕ) → i + after_mark c 0 (drop i s) ≡ i
unfolding after_mark
walk_stop c s i = omega arith

pub walk_end : (c left : ℕ) (s : List ℕ) (i : ℕ) → length s ≤ i → i + after_mark c left (drop i s) ≡ i
unfolding after_mark
walk_end c zero s i h = omega arith
walk_end c (suc left) s i h = rw (drop_of_length-le s h) (omega arith)

pub walk_mark : (c left : ℕ) (s : List ℕ) (i : ℕ) → i < length s → left ≢ 0 → get_or s i 0 ≡ c → i + after_mark c left (drop i s) ≡ (i + 1) + after_mark c (left - 1) (drop (i + 1) s)
unfolding after_mark
walk_mark c zero s i h p e = absurd (p refl)
walk_mark c (suc left) s i h p e =
    let z : suc left - 1 ≡ left = omega arith in
    rw (drop-cons s i 0 h, eq-eqb (get_or s i 0) c e, z, add-one i) (omega arith)

pub walk_other : (c left : ℕ) (s : List ℕ) (i : ℕ) → i < length s → left ≢ 0 → get_or s i 0 ≢ c → i + after_mark c left (drop i s) ≡ (i + 1) + after_mark c left (drop (i + 1) s)
unfolding after_mark
walk_other c zero s i h p e = absurd (p refl)
walk_other c (suc left) s i h p e = rw (drop-cons s i 0 h, ne_eqb (get_or s i 0) c e, add-one i) (omega arith)
