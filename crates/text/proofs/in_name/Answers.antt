use Prim.Native.Nat.{ℕ}
use mathlib.Core.Path.{◌∙◌, ap}
use lib.Dec.{ltb}
use Rattle.text.specs.Bytes.{class_of, num_of, in_name}
use Rattle.text.proofs.Classes.{by_bytes}
use Rattle.text.proofs.in_name.Goals as goal

pub returns : goal.returns
returns c = ap (λ (k : ℕ). ltb k 4) c.class_of.ensures ∙ by_bytes (λ b. ltb (num_of (class_of b)) 4) in_name tt _ c.ranges.b.fits
