use Rattle.std.proofs.Common.{◌≡◌, map, take}
use Rattle.httparse.specs.Spans.{header_bytes}
use Rattle.al_http.specs.Fields.{says_close}
use Rattle.al_http.proofs.fields.says_close.Given as goal

abbrev pub invariant-loop-field : goal.invariant-loop-field
invariant-loop-field l = l.found ≡ says_close (map (header_bytes l.buf) (take l.field-index l.fields))
