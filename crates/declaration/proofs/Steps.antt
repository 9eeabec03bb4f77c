-- Steps of a declaration. Assumes nothing.
use Rattle.std.proofs.Common.{◌≡◌, ℕ, ◌+◌, Bool, true, false, cond, List, drop, refl}
use Rattle.std.specs.Prelude.{◌||◌, eqb}
use Rattle.text.specs.Bytes.{is, letter}
use Rattle.text.specs.Blanks.{one}
use Rattle.text.specs.Reader.{Result, got, Reader, bind, byte, fault}
use Rattle.text.proofs.Readlaws.{byte_two}

-- what V ends with
abbrev pub digit_byte : ℕ → Bool
digit_byte c = is c "0" || is c "1" || letter c "x" "X"

-- the letter b in either case, and what follows it
module _ (t : List ℕ) (i : ℕ) where
  abbrev letter_at : Result ℕ
  letter_at = byte (λ b. eqb b 98 || eqb b 66) i (drop i t)

  abbrev chosen : Bool → Bool → Result ℕ
  chosen o p = cond o (got 98 (i + 1) (drop (i + 1) t)) (cond p (got 66 (i + 1) (drop (i + 1) t)) (fault i (drop i t)))

  pub letter_then : {A : Type 0} (m : Reader A) (o p : Bool) → o ≡ one 98 (drop i t) → p ≡ one 66 (drop i t) → (o || p) ≡ true
      → bind letter_at (λ u. m) ≡ m (i + 1) (drop (i + 1) t)
  letter_then m o p e f h = rw (byte_two t i 98 66, ← e, ← f) (go o p h)
    where
      go : (o p : Bool) → (o || p) ≡ true → bind (chosen o p) (λ u. m) ≡ m (i + 1) (drop (i + 1) t)
      go true p h = refl
      go false true h = refl
      go false false h = absurd (cc)

  pub letter_none : {A : Type 0} (m : Reader A) (o p : Bool) → o ≡ one 98 (drop i t) → p ≡ one 66 (drop i t) → (o || p) ≡ false
      → bind letter_at (λ u. m) ≡ fault i (drop i t)
  letter_none m o p e f h = rw (byte_two t i 98 66, ← e, ← f) (go o p h)
    where
      go : (o p : Bool) → (o || p) ≡ false → bind (chosen o p) (λ u. m) ≡ fault i (drop i t)
      go true p h = absurd (cc)
      go false true h = absurd (cc)
      go false false h = refl
