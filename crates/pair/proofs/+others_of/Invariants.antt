use Rattle.pair.proofs.+others_of.Given as goal

-- the number of columns that are left
abbrev pub decreases-others_of : goal.decreases-others_of
decreases-others_of l = l.k
