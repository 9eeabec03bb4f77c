-- What the code's answers mean: the bytes behind a place are `drop place text`.
use Rattle.std.specs.Prelude.{List, ℕ, ◌-◌, take, drop, Result, Ok, Err}
use Rattle.refusal.specs.Refusal.{number_of}
use Rattle.refusal.specs.declared.Refusal.{Refusal}
use Rattle.text.specs.Reader.{Result as Read, got, refused, Named}
use Rattle.text.specs.declared.Span.{Span}

-- an answer stands for a value and the place behind it, or for the refusal
abbrev pub meant : {T A : Type 0} → List ℕ → (T → ℕ) → (T → A) → Result T Refusal → Read A
meant t end f (Ok x) = got (f x) (end x) (drop (end x) t)
meant t end f (Err r) = refused (number_of r.fault) r.place

-- the answer is the place behind a
abbrev pub ended : {A : Type 0} → List ℕ → A → Result ℕ Refusal → Read A
ended t a = meant t (λ e. e) (λ e. a)

-- the answer is what stands for a value, and the place behind it
abbrev pub stood : {V A : Type 0} → List ℕ → (V → A) → Result (V × ℕ) Refusal → Read A
stood t f = meant t (λ p. p.1) (λ p. f p.0)

-- the bytes of a text from a to e
abbrev pub part : List ℕ → ℕ → ℕ → List ℕ
part t a e = take (e - a) (drop a t)

-- the answer is where a name stands
abbrev pub named : List ℕ → Result Span Refusal → Read Named
named t = meant t (λ p. p.end) (λ p. record { spelt = part t p.start p.end; place = p.start })
