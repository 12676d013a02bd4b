-- As many bytes of the piece are copied as there are places left.
use Rattle.lines.proofs.Beginnings.{longer}
use Rattle.lines.proofs.Begun.extend.Goals as goal

pub returns : goal.returns
returns c = rw c.copy_from_slice.ensures.after (longer c.args.self.now c.requires c.args.piece.now c.min-end.result c.min-end.ensures)
