-- When a row matches. No byte of an area is mentioned here.
use Rattle.std.specs.Prelude.{ℕ, Bool, ◌&&◌, List, eqb, get_or}
use Rattle.base.specs.Search.{every, first}
use Rattle.value.specs.declared.Ternary.{Ternary}
use Rattle.value.specs.declared.Ternary.TheVariants.{V0}
use Rattle.symbol.specs.declared.Symbol.{Symbol}
use Rattle.symbol.specs.declared.Field.{Field}
use Rattle.symbol.specs.Match.{match_field, match_level, is_edge}
use Rattle.table.specs.Table.{Row, symbol_at}

-- column k with symbol s, the inputs at v, the one in column j offered as a change from `from`
unfoldable pub field_of : Symbol → List Ternary → ℕ → Ternary → ℕ → Field
field_of s v j from k = record { symbol = s; before = from; current = get_or v k V0; considered = eqb k j }

unfoldable pub columns_match : ℕ → Row → List Ternary → ℕ → Ternary → Bool
columns_match n r v j from = every n (λ (k : ℕ). match_field (field_of (symbol_at r k) v j from k))

-- every column and the state match; where no column is offered as a change, as j = n says, only a level row can
unfoldable pub row_matches : ℕ → Row → List Ternary → ℕ → Ternary → Ternary → Bool
row_matches n r v j from old = columns_match n r v j from && match_level r.state old

-- the column of a row's edge, or n in a level row
unfoldable pub edge_at : ℕ → Row → ℕ
edge_at n r = first n (λ (k : ℕ). is_edge (symbol_at r k))
