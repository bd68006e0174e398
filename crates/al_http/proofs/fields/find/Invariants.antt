use Rattle.std.proofs.Common.{map, take}
use Rattle.httparse.specs.Spans.{header_bytes}
use Rattle.al_http.specs.Fields.{values, IsNamed}
use Rattle.al_http.proofs.fields.find.Given as goal

abbrev pub invariant-loop-field : goal.invariant-loop-field
invariant-loop-field l = IsNamed l.buf (values l.name (map (header_bytes l.buf) (take l.field-index l.fields))) l.found
