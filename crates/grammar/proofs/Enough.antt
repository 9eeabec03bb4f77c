-- The two rooms that the document does not name are large enough: with more room, declarations and `input` lists read the same. Assumes nothing.
use mathlib.Core.Path.{◌≡◌, refl, sym}
use mathlib.Core.List.{List, [], ◌∷◌}
use mathlib.Core.Bool.{Bool, true, false, not, cond, ◌||◌}
use Prim.Native.Nat.{ℕ, zero, suc, ◌+◌, ◌≤◌, ◌<◌}
use native.Mathlib.Omega.{arith}
use lib.ListN.{length}
use Rattle.base.specs.Limits.{input_limit}
use Rattle.base.proofs.Bools.{both, clash}
use Rattle.text.specs.Words.{same, member}
use Rattle.text.specs.Reader.{Result, got, refused, Reader, bind, ◌>>=◌, if, check}
use Rattle.grammar.specs.Header.{Ports, remove, input_list, list_room, declarations, declaration_room, declared}
use Rattle.grammar.proofs.Post.{Post, Gives, past, given, checked, branch, faults}
use Rattle.grammar.proofs.Gives.{Few}

-- two readers that read the same
pub record Alike {A : Type 0} (m l : Reader A) : Type 0 where
  pub alike : (k : ℕ) (s : List ℕ) → m k s ≡ l k s

module _ {A : Type 0} where
  itself : (m : Reader A) → Alike m m
  itself m = record { alike = λ k s. refl }

  alike_check : (b : Bool) (c p : ℕ) {f g : Unit {0} → Reader A} → (b ≡ true → (u : Unit {0}) → Alike (f u) (g u)) → Alike (check b c p >>= f) (check b c p >>= g)
  unfolding ◌>>=◌ check
  alike_check true c p h = record { alike = λ k s. (h refl tt).alike k s }
  alike_check false c p h = record { alike = λ k s. refl }

  alike_if : (b : Bool) {m m' l l' : Reader A} → Alike m m' → Alike l l' → Alike (if b m l) (if b m' l')
  unfolding if
  alike_if true f g = f
  alike_if false f g = g

module _ {A B : Type 0} where
  alike_after : {P : A → Type 0} {m : Reader A} {f g : A → Reader B} → Gives P m → ((a : A) → P a → Alike (f a) (g a)) → Alike (m >>= f) (m >>= g)
  unfolding ◌>>=◌
  alike_after {P} {m} {f} {g} h e = record { alike = λ k s. go (m k s) (h.post k s) }
    where
      go : (r : Result A) → Post P r → bind r f ≡ bind r g
      go (got a j t) p = (e a p).alike j t
      go (refused c p) q = refl

  alike_past : (m : Reader A) {f g : A → Reader B} → ((a : A) → Alike (f a) (g a)) → Alike (m >>= f) (m >>= g)
  alike_past m {f} {g} e = alike_after {P = λ a. Unit {0}} (record { post = λ k s. any (m k s) }) (λ a u. e a)
    where
      any : (r : Result A) → Post (λ a. Unit {0}) r
      any (got a k s) = tt
      any (refused c p) = tt

remove_less : (w : List ℕ) (l : List (List ℕ)) → member w l ≡ true → length (remove w l) < length l
remove_less w [] e = clash (sym e)
remove_less w (v ∷ l) e = go (same w v) e (remove_less w l)
  where
    go : (b : Bool) → (b || member w l) ≡ true → (member w l ≡ true → length (remove w l) < length l) → length (cond b l (v ∷ remove w l)) < suc (length l)
    go true u h = omega arith
    go false u h = omega (arith, h u)

list_less : (m room : ℕ) (q : List ℕ) (left : List (List ℕ)) → length left ≤ m → Gives (λ l. length l < m) (input_list room q left)
unfolding input_list
list_less m zero q left h = faults
list_less m (suc room) q left h =
    past _ (λ w. checked _ _ _ _ (λ t. let u = remove_less w.spelt left (both (not (same w.spelt q)) (member w.spelt left) t).1 in
    past _ (λ more. branch _ _ _ (λ x. list_less m room q (remove w.spelt left) (omega arith)) (λ x. given _ (omega arith)))))

pub list_alike : (f g : ℕ) (q : List ℕ) (left : List (List ℕ)) → length left < f → length left < g → Alike (input_list f q left) (input_list g q left)
unfolding input_list
list_alike zero g q left a b = absurd (omega arith)
list_alike (suc f) zero q left a b = absurd (omega arith)
list_alike (suc f) (suc g) q left a b =
    alike_past _ (λ w. alike_check _ _ _ (λ t v. let u = remove_less w.spelt left (both (not (same w.spelt q)) (member w.spelt left) t).1 in
    alike_past _ (λ more. alike_if _ (list_alike f g q (remove w.spelt left) (omega arith) (omega arith)) (itself _))))

-- how many declarations can still be right
abbrev size : List (List ℕ) → Bool → ℕ
size left reg = length left + cond reg 0 1

not_yet : (reg : Bool) (left : List (List ℕ)) → not reg ≡ true → size left true < size left reg
not_yet true left e = clash (sym e)
not_yet false left e = omega arith

pub declarations_alike : (f g : ℕ) (q : List ℕ) (left : List (List ℕ)) (reg : Bool) → size left reg < f → size left reg < g → Alike (declarations f q left reg) (declarations g q left reg)
unfolding declarations
declarations_alike zero g q left reg a b = absurd (omega arith)
declarations_alike (suc f) zero q left reg a b = absurd (omega arith)
declarations_alike (suc f) (suc g) q left reg a b =
    alike_past _ (λ u. alike_past _ (λ p. alike_past _ (λ w.
    alike_if _ (alike_past _ (λ x. alike_check _ _ _ (λ t v. let h = remove_less q left (both (same x.spelt q) (member q left) t).1 in
    alike_past _ (λ c. declarations_alike f g q (remove q left) reg (omega arith) (omega arith)))))
    (alike_if _ (alike_past _ (λ x. alike_check _ _ _ (λ t v. let h = not_yet reg left (both (same x.spelt q) (not reg) t).1 in
    alike_past _ (λ c. declarations_alike f g q left true (omega arith) (omega arith)))))
    (alike_if _ (alike_after (list_less (length left) list_room q left (omega arith)) (λ l h. declarations_alike f g q l reg (omega arith) (omega arith)))
    (itself _))))))

-- for ports that a port list gave
pub enough_declarations : (h : Ports) → Few input_limit h.inputs → (f : ℕ) → declaration_room ≤ f → Alike (declared h) (declarations f h.output (h.output ∷ h.inputs) false)
unfolding declared
enough_declarations h e f a = declarations_alike declaration_room f h.output (h.output ∷ h.inputs) false (omega (arith, e.1)) (omega (arith, e.1))

-- for the ports of such a list, or fewer
pub enough_names : (f : ℕ) (q : List ℕ) (left : List (List ℕ)) → length left ≤ suc input_limit → list_room ≤ f → Alike (input_list list_room q left) (input_list f q left)
enough_names f q left a b = list_alike list_room f q left (omega arith) (omega arith)
