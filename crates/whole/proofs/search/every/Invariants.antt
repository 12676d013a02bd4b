-- each index so far passes
use Rattle.std.proofs.Common.{ℕ, ◌<◌, true}
use Rattle.whole.proofs.search.every.Given as goal

abbrev pub invariant-loop-k : goal.invariant-loop-k
invariant-loop-k g l = (m : ℕ) → m < l.k → goal.F-post g l.test m true
