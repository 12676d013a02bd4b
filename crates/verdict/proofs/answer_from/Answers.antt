-- What shows a time is asked for first's.
use Rattle.verdict.proofs.answer_from.Goals as goal

pub shows-showing-requires : goal.shows-showing-requires
shows-showing-requires g c = c.requires.shows c.in-FromTo.first c.in-FromTo.last c.in-FromTo.is
