use Prim.Native.Nat.{ℕ}
use mathlib.Core.Path.{◌∙◌, ap}
use lib.Dec.{eqb}
use Rattle.text.specs.Bytes.{class_of, num_of, is_blank}
use Rattle.text.proofs.Classes.{by_bytes}
use Rattle.text.proofs.is_blank.Goals as goal

pub returns : goal.returns
returns c = ap (λ (k : ℕ). eqb k 5) c.class_of.ensures ∙ by_bytes (λ b. eqb (num_of (class_of b)) 5) is_blank tt _ c.ranges.b.fits
