-- The code's findings and document 01's: those that fit the book's layout are the same, one to one. Assumes nothing.
use mathlib.Core.Path.{◌≡◌, refl, sym, ap, ap₂, ◌∙◌}
use mathlib.Core.Logic.{◌≢◌}
use mathlib.Core.List.{List}
use Prim.Native.Nat.{ℕ}
use native.Mathlib.Decide.{ℕ_discrete}
use native.Mathlib.Omega.{arith}
use lib.ListN.{length}
use Rattle.value.specs.declared.Ternary.{Ternary}
use Rattle.orders.specs.Vectors.{at, put, vector_of}
use Rattle.orders.specs.Pairs.{pair_order}
use Rattle.verdict.specs.Numbers.{number_from}
use Rattle.verdict.specs.Verdict as words
use Rattle.verdict.specs.Meaning.{before, now, shown, meant, Disagrees, Fits, fits_independent, fits_dependent, Sound, SoundFinding}
use Rattle.verdict.specs.declared.Witness.{Witness}
use Rattle.verdict.specs.declared.Finding.{Finding}
use Rattle.verdict.specs.declared.Finding.TheVariants.{Independent, Dependent}
use Rattle.orders.proofs.Places.{length_put, at_same, at_other, ext_at}
use Rattle.orders.proofs.Candidates.{length_vector_of}
use Rattle.verdict.proofs.Numbers.{vector_number, number_vector, number_below}

-- ---- the current vector of a witness

pub now_length : (n : ℕ) (w : Witness) → length (now n w) ≡ n
now_length n w =
    length_put (put (before n w) w.first w.first_now) w.second w.second_now
    ∙ length_put (before n w) w.first w.first_now ∙ length_vector_of n w.previous

pub now_first : (n : ℕ) (w : Witness) → Sound n w → at (now n w) w.first ≡ w.first_now
now_first n w s =
    at_other (put (before n w) w.first w.first_now) w.second w.first w.second_now (λ e. omega (arith, s.apart))
    ∙ at_same (before n w) w.first w.first_now s.from (omega (arith, s.apart, s.to, length_vector_of n w.previous))

pub now_second : (n : ℕ) (w : Witness) → Sound n w → at (now n w) w.second ≡ w.second_now
now_second n w s =
    at_same (put (before n w) w.first w.first_now) w.second w.second_now (omega (arith, s.from, s.apart))
    (omega (arith, s.to, length_vector_of n w.previous, length_put (before n w) w.first w.first_now))

pub now_other : (n : ℕ) (w : Witness) (k : ℕ) → k ≢ w.first → k ≢ w.second → at (before n w) k ≡ at (now n w) k
now_other n w k a b =
    sym (at_other (put (before n w) w.first w.first_now) w.second k w.second_now b ∙ at_other (before n w) w.first k w.first_now a)

-- ---- what is sound fits

pub sound_fits : (n : ℕ) (f : Finding) → SoundFinding n f → Fits n (meant n f)
unfolding meant shown
sound_fits n Independent s = fits_independent
sound_fits n (Dependent w) s = fits_dependent w.first w.second (record {
  from = s.from;
  apart = s.apart;
  to = s.to;
  prev_long = length_vector_of n w.previous;
  cur_long = now_length n w;
  differs_i = λ e. s.first_differs (e ∙ now_first n w s);
  differs_j = λ e. s.second_differs (e ∙ now_second n w s);
  same = now_other n w;
  order_1 = refl;
  order_2 = refl;
  outputs = s.outputs;
})

-- ---- what fits is meant by a sound finding

module _ (n i j : ℕ) (w : words.Witness) (d : Disagrees n i j w) where
  held : Witness
  held = record {
    first = i;
    second = j;
    previous = number_from 0 w.prev;
    first_now = at w.cur i;
    second_now = at w.cur j;
    old = w.old;
    first_output = w.out1;
    second_output = w.out2;
  }

  held_before : before n held ≡ w.prev
  unfolding held
  held_before = ap (λ (m : ℕ). vector_of m (number_from 0 w.prev)) (sym d.prev_long) ∙ vector_number w.prev

  held_sound : Sound n held
  unfolding held
  held_sound = record {
    from = d.from;
    apart = d.apart;
    to = d.to;
    small = rw (← d.prev_long) (number_below w.prev);
    first_differs = λ e. d.differs_i (ap (λ (v : List Ternary). at v i) (sym held_before) ∙ e);
    second_differs = λ e. d.differs_j (ap (λ (v : List Ternary). at v j) (sym held_before) ∙ e);
    outputs = d.outputs;
  }

  held_now : now n held ≡ w.cur
  unfolding held
  held_now = ext_at (now n held) w.cur (now_length n held ∙ sym d.cur_long) (λ k l. go k (ℕ_discrete k i) (ℕ_discrete k j))
    where
      go : (k : ℕ) → Dec (k ≡ i) → Dec (k ≡ j) → at (now n held) k ≡ at w.cur k
      go k (yes e) b = rw e (now_first n held held_sound)
      go k (no a) (yes e) = rw e (now_second n held held_sound)
      go k (no a) (no b) = sym (now_other n held k a b) ∙ ap (λ (v : List Ternary). at v k) held_before ∙ d.same k a b

  held_shown : shown n held ≡ w
  unfolding held shown
  held_shown = rw (held_now, held_before, ← d.order_1, ← d.order_2)

pub fits_meant : {n : ℕ} {f : words.Finding} → Fits n f → (g : Finding) × SoundFinding n g × (meant n g ≡ f)
unfolding meant
fits_meant fits_independent = (Independent, tt, refl)
fits_meant {n} (fits_dependent {w} i j d) = (Dependent (held n i j w d), held_sound n i j w d, ap words.dependent (held_shown n i j w d))

-- ---- no two sound findings mean the same

-- a witness is known by its fields
made : ℕ → ℕ → ℕ → Ternary → Ternary → Ternary → Ternary → Ternary → Witness
made i j c x y o a b = record { first = i; second = j; previous = c; first_now = x; second_now = y; old = o; first_output = a; second_output = b }

witness_same : (n : ℕ) (v w : Witness) → Sound n v → Sound n w → shown n v ≡ shown n w → v ≡ w
unfolding shown made
witness_same n v w s t e =
    let o : pair_order n v.first v.second ≡ pair_order n w.first w.second = ap (λ (x : words.Witness). x.order1) e in
    let a : v.first ≡ w.first = cc in
    let b : v.second ≡ w.second = cc in
    let q : before n v ≡ before n w = ap (λ (x : words.Witness). x.prev) e in
    let p : v.previous ≡ w.previous = sym (number_vector n v.previous s.small) ∙ ap (number_from 0) q ∙ number_vector n w.previous t.small in
    let u : now n v ≡ now n w = ap (λ (x : words.Witness). x.cur) e in
    let c : v.first_now ≡ w.first_now = sym (now_first n v s) ∙ ap₂ at u a ∙ now_first n w t in
    let d : v.second_now ≡ w.second_now = sym (now_second n v s) ∙ ap₂ at u b ∙ now_second n w t in
    let f : v.old ≡ w.old = ap (λ (x : words.Witness). x.old) e in
    let g : v.first_output ≡ w.first_output = ap (λ (x : words.Witness). x.out1) e in
    let h : v.second_output ≡ w.second_output = ap (λ (x : words.Witness). x.out2) e in
    let z : made v.first v.second v.previous v.first_now v.second_now v.old v.first_output v.second_output ≡ w =
    rw (a, b, p, c, d, f, g, h) in
    z

pub meant_once : (n : ℕ) (f g : Finding) → SoundFinding n f → SoundFinding n g → meant n f ≡ meant n g → f ≡ g
unfolding meant
meant_once n Independent Independent s t e = refl
meant_once n Independent (Dependent w) s t e = absurd (cc)
meant_once n (Dependent v) Independent s t e = absurd (cc)
meant_once n (Dependent v) (Dependent w) s t e =
    let q : shown n v ≡ shown n w = cc in
    ap Dependent (witness_same n v w s t q)
