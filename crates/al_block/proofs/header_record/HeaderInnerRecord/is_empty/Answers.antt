use Rattle.std.proofs.Common.{map, refl, sym, ap, ◌∙◌}
use Rattle.al_record.specs.Columns.{put, rules_of}
use Rattle.al_record.specs.Code.{count_some}
use Rattle.al_record.proofs.Appended.{count_listed}
use Rattle.al_block.specs.Header.{header, header_fields}
use Rattle.al_block.proofs.Straight.{no_fields}
use Rattle.al_block.proofs.header_record.HeaderInnerRecord.is_empty.Goals as goal

pub returns : goal.returns
returns c =
    let os = map (λ f. put f c.args.self.now) header_fields in
    let counts = count_listed (rules_of header_fields) os refl ∙ ap count_some (sym c.contents.ensures) ∙ sym c.count_written.ensures in
    no_fields (header.write c.args.self.now) c.count_written.result counts
