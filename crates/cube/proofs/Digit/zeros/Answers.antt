use Rattle.cube.proofs.Weights.{zeros_one, zeros_three, zeros_nine}
use Rattle.cube.proofs.Digit.zeros.Goals as goal

pub returns-in-One : goal.returns-in-One
returns-in-One c = rw c.in-One.is zeros_one

pub returns-in-Three : goal.returns-in-Three
returns-in-Three c = rw c.in-Three.is zeros_three

pub returns-in-Nine : goal.returns-in-Nine
returns-in-Nine c = rw c.in-Nine.is zeros_nine
