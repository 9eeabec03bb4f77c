use Prim.Native.Nat.{ℕ, ◌-◌, min}
use mathlib.Core.Path.{◌≡◌}
use mathlib.Core.List.{List, [], ◌∷◌}
use lib.ListN.{length, take, drop}
use Rattle.std.proofs.lemmas.List.{take_min}
use native.Mathlib.Omega.{arith}
use lib.Seq.{take-length}
use Rattle.table.specs.Area.{decode}
use Rattle.table.proofs.name_in.Goals as goal

-- what stands behind an area's first byte
behind_first : (a : List ℕ) (m : ℕ) → m ≡ min 1 (length a) → take (length a - m) (drop m a) ≡ drop 1 a
behind_first [] m e = rw e
behind_first (x ∷ xs) m e =
    let one : m ≡ 1 = omega arith in
    let rest : length (x ∷ xs) - 1 ≡ length xs = omega arith in
    rw (one, rest) (take-length xs)

pub returns : goal.returns
unfolding decode
returns c =
    rw (c.min-2.ensures, take_min, behind_first c.args.a.now c.min.result c.min.ensures, c.from-size.ensures, c.byte_at.ensures)
