use Rattle.plain.proofs.Sets.{edges_first, edges_second}
use Rattle.plain.proofs.PlainRows.of.Goals as goal

pub returns : goal.returns
returns c = record {
  rows = c.steady_rows.ensures;
  first = edges_first _ _ c.edge_rows.result c.edge_rows-2.result c.edge_rows.ensures;
  second = edges_second _ _ c.edge_rows.result c.edge_rows-2.result c.edge_rows-2.ensures;
}
