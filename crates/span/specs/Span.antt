-- A span of times.
--   Span         none, or the times from a begin to an end
--   times b e    those from b to e
use Rattle.std.specs.Prelude.{Option}
use Rattle.whole.specs.declared.Time.{Time}
use Rattle.span.specs.declared.Times.{Times}

abbrev pub Span : Type 0
Span = Option Times

abbrev pub times : Time → Time → Times
times b e = record { begin = b; end = e }
