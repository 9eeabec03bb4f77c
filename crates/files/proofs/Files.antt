-- What an append and a cut leave of a file that is lines and an end without LF. Assumes nothing.
use mathlib.Core.Path.{◌≡◌, refl, sym, ap, ap₂, ◌∙◌}
use mathlib.Core.Logic.{◌≢◌}
use mathlib.Core.Bool.{Bool, true, false, cond}
use mathlib.Core.List.{List, [], ◌∷◌, ◌++◌, append_assoc, append-nil}
use Prim.Native.Nat.{ℕ, zero, suc, ◌+◌, ◌-◌, ◌≤◌, ◌<◌, max}
use native.Mathlib.Nat.{sub-zero, zero-sub, suc-sub-suc}
use native.Mathlib.Decide.{dec_lt}
use native.Mathlib.Omega.{arith}
use borrow.Author.Tests.{eq-eqb, ne_eqb}
use lib.Dec.{eqb}
use lib.ListN.{length, get_or, take, drop, length-append, length-take, length-drop, take-append-drop, get_or-append, get_or-eq_default}
use lib.Seq.{take-append_seam, take-append-add, take-take, take-nil, drop-append-add, get_or-append-add, get_or-drop, get_or-take, ext_get_or, length-take-le}
use Rattle.files.specs.Parts.{Without, join}
use Rattle.files.specs.Files.{LF, up, good, whole, Place, kept, new, zeroed, Cut}
use Rattle.files.proofs.Parts.{join_snoc}

-- ---- the good length

up_one : (m : ℕ) → up 1 m ≡ suc m
up_one zero = refl
up_one (suc m) = refl

good_body : (b l : List ℕ) → good (b ++ (LF ∷ l)) ≡ suc (length b + good l)
good_body [] l = ap (λ (t : Bool). up (cond {A = ℕ} t 1 0) (good l)) (eq-eqb LF LF refl) ∙ up_one (good l) ∙ omega arith
good_body (x ∷ b) l = ap (up (cond {A = ℕ} (eqb x LF) 1 0)) (good_body b l) ∙ omega arith

good_torn : (t : List ℕ) → Without LF t → good t ≡ 0
good_torn [] h = refl
good_torn (x ∷ t) h = ap (up (cond {A = ℕ} (eqb x LF) 1 0)) (good_torn t (λ k. h (suc k))) ∙ rw (ne_eqb x LF (h 0))

good_join : (bs : List (List ℕ)) (t : List ℕ) → Without LF t → good (join LF bs ++ t) ≡ length (join LF bs)
good_join [] t h = good_torn t h
good_join (b ∷ bs) t h =
    rw (append_assoc b (LF ∷ join LF bs) t) (good_body b (join LF bs ++ t) ∙ omega (arith, good_join bs t h, length-append b (LF ∷ join LF bs)))

up_le : (b : Bool) (m n : ℕ) → m ≤ n → up (cond {A = ℕ} b 1 0) m ≤ suc n
up_le true zero n h = omega arith
up_le false zero n h = omega arith
up_le b (suc m) n h = omega arith

pub good_le : (f : List ℕ) → good f ≤ length f
good_le [] = omega arith
good_le (x ∷ f) = up_le (eqb x LF) (good f) (length f) (good_le f)

-- ---- lines, then an end without LF

pub record Held (f : List ℕ) (bs : List (List ℕ)) : Type 0 where
  pub tail : List ℕ
  pub file : f ≡ join LF bs ++ tail
  pub open_end : Without LF tail

pub held_good : {f : List ℕ} {bs : List (List ℕ)} (h : Held f bs) → good f ≡ length (join LF bs)
held_good {f} {bs} h = ap good h.file ∙ good_join bs h.tail h.open_end

pub held_lines : (bs : List (List ℕ)) → Held (join LF bs) bs
held_lines bs = record { tail = []; file = sym (append-nil (join LF bs)); open_end = λ k. omega arith }

pub held_whole : {f : List ℕ} {bs : List (List ℕ)} (b : List ℕ) → Held f bs → Held (whole f b) (bs ++ (b ∷ []))
held_whole {f} {bs} b h = record {
  tail = drop (suc (length b)) h.tail;
  file = rw (held_good h, h.file, take-append_seam (join LF bs) h.tail, drop-append-add (join LF bs) h.tail (suc (length b)), join_snoc LF bs b) (simp append_assoc);
  open_end = λ k e. h.open_end (suc (length b) + k) (sym (get_or-drop (suc (length b)) h.tail k 0) ∙ e);
}

pub held_cut : {f : List ℕ} {bs : List (List ℕ)} (b g : List ℕ) → Without LF b → Held f bs → Cut f b g → Held g bs
held_cut {f} {bs} b g nb h c = record {
  tail = drop n g;
  file = sym (take-append-drop n g) ∙ ap (λ (r : List ℕ). r ++ drop n g) front;
  open_end = λ k e. after k (dec_lt (n + k) (length g)) (sym (get_or-drop n g k 0) ∙ e);
}
  where
    n : ℕ
    n = length (join LF bs)

    e : good f ≡ n
    e = held_good h

    size : length f ≡ n + length h.tail
    size = ap length h.file ∙ length-append (join LF bs) h.tail

    before : (i : ℕ) → i < n → Place f b i (get_or g i 0) → get_or g i 0 ≡ get_or (join LF bs) i 0
    before i q (kept a y) = y ∙ ap (λ (r : List ℕ). get_or r i 0) h.file ∙ get_or-append (join LF bs) h.tail 0 i q
    before i q (new a z y) = absurd (omega (arith, e))
    before i q (zeroed a z y) = absurd (omega (arith, e))

    short : length (take n g) ≡ n
    short = length-take-le n g (omega (arith, size, c.from))

    front : take n g ≡ join LF bs
    front = ext_get_or 0 (take n g) (join LF bs) short (λ i q. get_or-take n g i 0 (omega (arith, short)) ∙ before i (omega (arith, short)) (c.place i (omega (arith, short, size, c.from))))

    at_place : (k : ℕ) → Place f b (n + k) (get_or g (n + k) 0) → get_or g (n + k) 0 ≢ LF
    at_place k (kept a y) z = h.open_end k (sym (y ∙ ap (λ (r : List ℕ). get_or r (n + k) 0) h.file ∙ get_or-append-add (join LF bs) h.tail k 0) ∙ z)
    at_place k (new a q y) z = nb (n + k - good f) (sym y ∙ z)
    at_place k (zeroed a q y) z = omega (arith, y, z)

    after : (k : ℕ) → Dec (n + k < length g) → get_or g (n + k) 0 ≢ LF
    after k (yes q) z = at_place k (c.place (n + k) q) z
    after k (no q) z = omega (arith, z, get_or-eq_default g 0 {n = n + k} (omega arith))

-- ---- the file after an append: the buffer's first bytes, as many as the new stated length says

drop_take : (p n : ℕ) (l : List ℕ) → drop p (take n l) ≡ take (n - p) (drop p l)
drop_take zero n l = rw (sub-zero n)
drop_take (suc p) zero l = rw (zero-sub (suc p))
drop_take (suc p) (suc n) [] = sym (take-nil (suc n - suc p))
drop_take (suc p) (suc n) (x ∷ l) = rw (suc-sub-suc n p) (drop_take p n l)

after_write : (buf e : List ℕ) (len g : ℕ) → g ≤ len → g + length e ≤ length buf →
    take (max len (g + length e)) (take g buf ++ (e ++ drop (g + length e) buf)) ≡ take g (take len buf) ++ (e ++ drop (g + length e) (take len buf))
after_write buf e len g a b =
    let p : ℕ = g + length e in
    let k : length (take g buf ++ e) ≡ g + length e = omega (arith, length-append (take g buf) e, length-take-le g buf (omega arith)) in
    let m : max len (g + length e) ≡ length (take g buf ++ e) + (len - (g + length e)) = omega arith in
    ap₂ (λ (i : ℕ) (l : List ℕ). take i l) m (sym (append_assoc (take g buf) e (drop p buf)))
    ∙ take-append-add (take g buf ++ e) (drop p buf) (len - p)
    ∙ append_assoc (take g buf) e (take (len - p) (drop p buf))
    ∙ ap₂ (λ (x y : List ℕ). x ++ (e ++ y)) (sym (take-take g len buf a)) (sym (drop_take p len buf))

-- with the LF written apart, as `whole` has it
whole_bytes : (f b : List ℕ) → whole f b ≡ take (good f) f ++ ((b ++ (LF ∷ [])) ++ drop (good f + length (b ++ (LF ∷ []))) f)
whole_bytes f b =
    let k : length (b ++ (LF ∷ [])) ≡ suc (length b) = length-append b (LF ∷ []) ∙ omega arith in
    rw (k, append_assoc b (LF ∷ []) (drop (good f + suc (length b)) f))

pub after_append : (buf b : List ℕ) (len : ℕ) → len ≤ length buf → good (take len buf) + length (b ++ (LF ∷ [])) ≤ length buf →
    take (max len (good (take len buf) + length (b ++ (LF ∷ [])))) (take (good (take len buf)) buf ++ ((b ++ (LF ∷ [])) ++ drop (good (take len buf) + length (b ++ (LF ∷ []))) buf))
    ≡ whole (take len buf) b
after_append buf b len fits room =
    after_write buf (b ++ (LF ∷ [])) len (good (take len buf)) (omega (arith, good_le (take len buf), length-take-le len buf fits)) room ∙ sym (whole_bytes (take len buf) b)

pub length_whole : (f b : List ℕ) → length (whole f b) ≡ max (length f) (good f + suc (length b))
length_whole f b = simp (length-append, length-take, length-drop) (omega (arith, good_le f))

-- ---- two cuts there are: nothing is written; all of the line but its LF is

pub cut_nothing : (f b : List ℕ) → Cut f b f
cut_nothing f b = record { from = omega arith; to = omega arith; place = λ k h. kept h refl }
