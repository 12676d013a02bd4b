-- What was read of a line can be worked, and is answered as the line is.
use mathlib.Core.Path.{◌≡◌}
use mathlib.Core.List.{List}
use Prim.Native.Nat.{ℕ}
use Rattle.moves.specs.Reading.{Readable}
use Rattle.moves.proofs.Listed.{reading-readable}
use Rattle.verdict.specs.Answer.{answer_by}
use Rattle.verdict.proofs.Answering.{reading-answer}
use Rattle.rectangle.specs.Reading as rectangles
use Rattle.rectangle.proofs.Refusing as rectangle-laws
use Rattle.moveline.specs.Reading.{reading_of_line}
use Rattle.moveline.proofs.RoundTrip.{accepted}
use Rattle.rectangleline.specs.Reading as second
use Rattle.rectangleline.proofs.RoundTrip as second-laws
use Rattle.frame.specs.AnswerOfLine.{answer_of_outlines, answer_of_rectangles}

module _ (l : List ℕ) where
  pub outlines-readable : Readable (reading_of_line l)
  outlines-readable = reading-readable _ _ (accepted l)

  pub rectangles-readable : rectangles.Readable (second.reading_of_line l)
  rectangles-readable = rectangle-laws.reading-readable _ _ (second-laws.accepted l)

  pub outlines-answered : answer_by (reading_of_line l) ≡ answer_of_outlines l
  outlines-answered = reading-answer _ _ (accepted l)

  pub rectangles-answered : rectangles.answer_by (second.reading_of_line l) ≡ answer_of_rectangles l
  rectangles-answered = rectangle-laws.reading-answer _ _

pub ruleset lines_read = (outlines-readable, rectangles-readable, outlines-answered, rectangles-answered)
