use Rattle.std.proofs.Common.{rules}
use Rattle.outline.specs.Refusal.{first_that_applies}
use Rattle.rectangle.specs.Refusal.{refusal, carried}
use Rattle.rectangle.proofs.refusals.check.Goals as goal
use Rattle.rectangle.proofs.refusals.check.Goals.{then-not-is_placed-via-then-not-is_placed, then-not-is_placed-via-else-not-is_placed+then-not-is_placed-2}

pub returns-then-not-is_placed : goal.returns-then-not-is_placed
unfolding refusal carried first_that_applies
returns-then-not-is_placed c = elim c.then-not-is_placed.branch [
  | then-not-is_placed-via-then-not-is_placed w ↦ search rules
  | then-not-is_placed-via-else-not-is_placed+then-not-is_placed-2 w ↦ search rules
]
