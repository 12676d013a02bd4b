-- no index so far passes
use Rattle.std.proofs.Common.{ℕ, ◌<◌, false}
use Rattle.whole.proofs.search.lowest_where.Given as goal

abbrev pub invariant-loop-k : goal.invariant-loop-k
invariant-loop-k g l = (m : ℕ) → m < l.k → goal.F-post g l.test m false
