use Rattle.std.proofs.Common.{◌≡◌, drop}
use Rattle.serde_json.specs.View.{members_view}
use Rattle.al_answers.specs.Json.{put_fields, fields_of}
use Rattle.al_answers.proofs.objects.put_table.Given as goal

abbrev pub invariant-loop-line : goal.invariant-loop-line
invariant-loop-line l = put_fields (fields_of (drop l.line-index l.lines)) (members_view l.map.entries) ≡ put_fields (fields_of l.lines) (members_view l.fn.map.entries)
