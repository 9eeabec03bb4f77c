use Rattle.lanes.proofs.+outer_agree.Given as goal

-- the number of columns that are left
abbrev pub decreases-outer_agree : goal.decreases-outer_agree
decreases-outer_agree l = l.k
