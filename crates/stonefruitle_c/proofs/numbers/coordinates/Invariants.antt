-- The loop keeps the coordinates of the corners so far, and zeros.
use mathlib.Core.Path.{◌≡◌}
use Prim.Native.Nat.{◌*◌}
use lib.IntN.{pos}
use Rattle.whole.proofs.Padding.{filled}
use Rattle.stonefruitle_c.specs.Numbers.{coordinates}
use Rattle.stonefruitle_c.proofs.numbers.coordinates.Given as goal

abbrev pub invariant-loop-k : goal.invariant-loop-k
invariant-loop-k l = l.all ≡ filled (coordinates l.o.corners) (pos 0) 32 (2 * l.k)
