use Rattle.std.specs.Prelude.{None, Some, Ok}
use Rattle.listing.proofs.Nexts.{tells, judged_table, never_refused, refused_next}
use Rattle.listing.proofs.next_verdict.Goals as goal

pub returns-in_err-next : goal.returns-in_err-next
returns-in_err-next c = refused_next _ _ _ _ _ _ c.from_residual.ensures.1 c.in_err-next.ensures

pub returns-in_err-finding-in-Some : goal.returns-in_err-finding-in-Some
returns-in_err-finding-in-Some c =
    never_refused _ _ _ _ _ (tells _ _ _ (Ok (Some c.in-Some.next)) _ (rw c.in-Some.is at c.in_ok-next.ensures)) c.in_err-finding-in-Some.ensures

pub returns-in_ok-finding-in-Some : goal.returns-in_ok-finding-in-Some
returns-in_ok-finding-in-Some c =
    judged_table _ _ _ _ _ (tells _ _ _ (Ok (Some c.in-Some.next)) _ (rw c.in-Some.is at c.in_ok-next.ensures)) c.in_ok-finding-in-Some.ensures

pub returns-in-None : goal.returns-in-None
returns-in-None c = tells _ _ _ (Ok None) _ (rw c.in-None.is at c.in_ok-next.ensures)
