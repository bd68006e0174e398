use Rattle.std.proofs.lemmas.Result.{on_ok_weaker}
use Rattle.std.proofs.Common.{length, sym, ap, ◌++◌, ◌∙◌}
use Rattle.al_msgpack.specs.Spelled.{num_spelled, flag_spelled, string_head, bytes_head}
use Rattle.al_msgpack.proofs.Spellings.{spelled_num, spelled_flag, spelled_str, spelled_bin}
use Rattle.al_record.specs.declared.write.Content.TheVariants as contents
use Rattle.al_record.proofs.Appended.{valued}
use Rattle.al_record.proofs.write.Content.write.Goals as goal

pub returns-in-Number-clause-bytes : goal.returns-in-Number-clause-bytes
returns-in-Number-clause-bytes c =
    on_ok_weaker c.write_number.result (valued c.args.out.now.items c.write_number.new.out.items c.args.self.now (contents.Number c.in-Number.n) (num_spelled c.in-Number.n) c.in-Number.is (spelled_num c.in-Number.n)) c.write_number.ensures.bytes

pub returns-in-Flag-clause-bytes : goal.returns-in-Flag-clause-bytes
returns-in-Flag-clause-bytes c =
    on_ok_weaker c.write_flag.result (valued c.args.out.now.items c.write_flag.new.out.items c.args.self.now (contents.Flag c.in-Flag.flag) (flag_spelled c.in-Flag.flag) c.in-Flag.is (spelled_flag c.in-Flag.flag)) c.write_flag.ensures.bytes

pub returns-in-Word-clause-bytes : goal.returns-in-Word-clause-bytes
returns-in-Word-clause-bytes c =
    on_ok_weaker c.write_string.result (valued c.args.out.now.items c.write_string.new.out.items c.args.self.now (contents.Word c.in-Word.word) (string_head (length c.as_bytes.result.now) ++ c.as_bytes.result.now) c.in-Word.is (spelled_str c.in-Word.word.now ∙ ap (λ z. string_head (length z) ++ z) (sym c.as_bytes.ensures.value))) c.write_string.ensures.bytes

pub returns-in-Text-clause-bytes : goal.returns-in-Text-clause-bytes
returns-in-Text-clause-bytes c =
    on_ok_weaker c.write_string-in-Text.result (valued c.args.out.now.items c.write_string-in-Text.new.out.items c.args.self.now (contents.Text c.in-Text.b) (string_head (length c.as_slice.result.now) ++ c.as_slice.result.now) c.in-Text.is (spelled_str c.in-Text.b.now ∙ ap (λ z. string_head (length z) ++ z) (sym c.as_slice.ensures))) c.write_string-in-Text.ensures.bytes

pub returns-in-Bytes-clause-bytes : goal.returns-in-Bytes-clause-bytes
returns-in-Bytes-clause-bytes c =
    on_ok_weaker c.write_bytes.result (valued c.args.out.now.items c.write_bytes.new.out.items c.args.self.now (contents.Bytes c.in-Bytes.b) (bytes_head (length c.as_slice-in-Bytes.result.now) ++ c.as_slice-in-Bytes.result.now) c.in-Bytes.is (spelled_bin c.in-Bytes.b.now ∙ ap (λ z. bytes_head (length z) ++ z) (sym c.as_slice-in-Bytes.ensures))) c.write_bytes.ensures.bytes

pub returns-in-Slice-clause-bytes : goal.returns-in-Slice-clause-bytes
returns-in-Slice-clause-bytes c =
    on_ok_weaker c.write_bytes-in-Slice.result (valued c.args.out.now.items c.write_bytes-in-Slice.new.out.items c.args.self.now (contents.Slice c.in-Slice.b) (bytes_head (length c.in-Slice.b.now) ++ c.in-Slice.b.now) c.in-Slice.is (spelled_bin c.in-Slice.b.now)) c.write_bytes-in-Slice.ensures.bytes

pub returns-in-Array-clause-bytes : goal.returns-in-Array-clause-bytes
returns-in-Array-clause-bytes c =
    on_ok_weaker c.write_bytes-in-Array.result (valued c.args.out.now.items c.write_bytes-in-Array.new.out.items c.args.self.now (contents.Array c.in-Array.b) (bytes_head (length c.as_slice-in-Array.result.now) ++ c.as_slice-in-Array.result.now) c.in-Array.is (spelled_bin c.in-Array.b.now ∙ ap (λ z. bytes_head (length z) ++ z) (sym c.as_slice-in-Array.ensures))) c.write_bytes-in-Array.ensures.bytes

pub returns-in-Wide-clause-bytes : goal.returns-in-Wide-clause-bytes
returns-in-Wide-clause-bytes c =
    on_ok_weaker c.write_bytes-in-Wide.result (valued c.args.out.now.items c.write_bytes-in-Wide.new.out.items c.args.self.now (contents.Wide c.in-Wide.b) (bytes_head (length c.as_slice-in-Wide.result.now) ++ c.as_slice-in-Wide.result.now) c.in-Wide.is (spelled_bin c.in-Wide.b.now ∙ ap (λ z. bytes_head (length z) ++ z) (sym c.as_slice-in-Wide.ensures))) c.write_bytes-in-Wide.ensures.bytes
