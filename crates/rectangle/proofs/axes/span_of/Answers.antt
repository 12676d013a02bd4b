-- A rectangle of an accepted move reaches numbers in range.
use Rattle.std.proofs.Common.{sym, subst}
use Rattle.rectangle.specs.Worked.{Reaching}
use Rattle.rectangle.proofs.Reaches.{reaching}
use Rattle.rectangle.proofs.axes.span_of.Goals as goal

pub along-requires-clause-a : goal.along-requires-clause-a
along-requires-clause-a c = subst Reaching (sym c.reach-a.ensures) (reaching c.args.axis _ _ c.requires.upright_a c.requires.near_va)

pub along-requires-clause-b : goal.along-requires-clause-b
along-requires-clause-b c = subst Reaching (sym c.reach-b.ensures) (reaching c.args.axis _ _ c.requires.upright_b c.requires.near_vb)
