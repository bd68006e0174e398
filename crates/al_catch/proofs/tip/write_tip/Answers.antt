use Rattle.std.proofs.Common.{◌≡◌, ap}
use Rattle.al_catch.specs.declared.label.Label.{Label}
use Rattle.al_catch.proofs.TipLemmas.{blocks_stand, blocks_tip, info_tip, label_tip, tip_kept, tip_stands}
use Rattle.al_catch.proofs.tip.write_tip.Goals as goal

pub returns-in_err-save_info-clause-kept : goal.returns-in_err-save_info-clause-kept
returns-in_err-save_info-clause-kept g c = info_tip c.args.w.now.round (g.F.Folder.files c.args.folder.now) (g.F.Folder.files c.save_info.new.folder) _ c.save_info.result c.save_info.ensures.files

pub returns-in_err-save_blocks-clause-kept : goal.returns-in_err-save_blocks-clause-kept
returns-in_err-save_blocks-clause-kept g c = tip_kept c.args.w.now.round (g.F.Folder.files c.args.folder.now) (g.F.Folder.files c.save_info.new.folder) (g.F.Folder.files c.save_blocks.new.folder) (info_tip c.args.w.now.round (g.F.Folder.files c.args.folder.now) (g.F.Folder.files c.save_info.new.folder) _ c.save_info.result c.save_info.ensures.files) (blocks_tip c.args.w.now.round (g.F.Folder.files c.save_info.new.folder) (g.F.Folder.files c.save_blocks.new.folder) c.save_blocks.ensures.kept)

pub returns-in_err-bytes-clause-kept : goal.returns-in_err-bytes-clause-kept
returns-in_err-bytes-clause-kept g c = tip_kept c.args.w.now.round (g.F.Folder.files c.args.folder.now) (g.F.Folder.files c.save_info.new.folder) (g.F.Folder.files c.save_blocks.new.folder) (info_tip c.args.w.now.round (g.F.Folder.files c.args.folder.now) (g.F.Folder.files c.save_info.new.folder) _ c.save_info.result c.save_info.ensures.files) (blocks_tip c.args.w.now.round (g.F.Folder.files c.save_info.new.folder) (g.F.Folder.files c.save_blocks.new.folder) c.save_blocks.ensures.kept)

pub returns-in_err-block-clause-kept : goal.returns-in_err-block-clause-kept
returns-in_err-block-clause-kept g c = tip_kept c.args.w.now.round (g.F.Folder.files c.args.folder.now) (g.F.Folder.files c.save_info.new.folder) (g.F.Folder.files c.save_blocks.new.folder) (info_tip c.args.w.now.round (g.F.Folder.files c.args.folder.now) (g.F.Folder.files c.save_info.new.folder) _ c.save_info.result c.save_info.ensures.files) (blocks_tip c.args.w.now.round (g.F.Folder.files c.save_info.new.folder) (g.F.Folder.files c.save_blocks.new.folder) c.save_blocks.ensures.kept)

pub returns-in_err-label-clause-kept : goal.returns-in_err-label-clause-kept
returns-in_err-label-clause-kept g c = tip_kept c.args.w.now.round (g.F.Folder.files c.args.folder.now) (g.F.Folder.files c.save_info.new.folder) (g.F.Folder.files c.save_blocks.new.folder) (info_tip c.args.w.now.round (g.F.Folder.files c.args.folder.now) (g.F.Folder.files c.save_info.new.folder) _ c.save_info.result c.save_info.ensures.files) (blocks_tip c.args.w.now.round (g.F.Folder.files c.save_info.new.folder) (g.F.Folder.files c.save_blocks.new.folder) c.save_blocks.ensures.kept)

pub returns-in_err-save_label-clause-kept : goal.returns-in_err-save_label-clause-kept
returns-in_err-save_label-clause-kept g c =
    let same : c.in_ok-label.label.round ≡ c.args.w.now.round = ap (λ (l : Label). l.round) c.in_ok-label.ensures.value in
    tip_kept c.args.w.now.round (g.F.Folder.files c.args.folder.now) (g.F.Folder.files c.save_blocks.new.folder) (g.F.Folder.files c.save_label.new.folder) (tip_kept c.args.w.now.round (g.F.Folder.files c.args.folder.now) (g.F.Folder.files c.save_info.new.folder) (g.F.Folder.files c.save_blocks.new.folder) (info_tip c.args.w.now.round (g.F.Folder.files c.args.folder.now) (g.F.Folder.files c.save_info.new.folder) _ c.save_info.result c.save_info.ensures.files) (blocks_tip c.args.w.now.round (g.F.Folder.files c.save_info.new.folder) (g.F.Folder.files c.save_blocks.new.folder) c.save_blocks.ensures.kept)) (label_tip c.args.w.now.round c.in_ok-label.label.round (g.F.Folder.files c.save_blocks.new.folder) (g.F.Folder.files c.save_label.new.folder) _ c.save_label.result same c.save_label.ensures.files)

pub returns-clause-kept : goal.returns-clause-kept
returns-clause-kept g c =
    let same : c.in_ok-label.label.round ≡ c.args.w.now.round = ap (λ (l : Label). l.round) c.in_ok-label.ensures.value in
    tip_kept c.args.w.now.round (g.F.Folder.files c.args.folder.now) (g.F.Folder.files c.save_blocks.new.folder) (g.F.Folder.files c.save_label.new.folder) (tip_kept c.args.w.now.round (g.F.Folder.files c.args.folder.now) (g.F.Folder.files c.save_info.new.folder) (g.F.Folder.files c.save_blocks.new.folder) (info_tip c.args.w.now.round (g.F.Folder.files c.args.folder.now) (g.F.Folder.files c.save_info.new.folder) _ c.save_info.result c.save_info.ensures.files) (blocks_tip c.args.w.now.round (g.F.Folder.files c.save_info.new.folder) (g.F.Folder.files c.save_blocks.new.folder) c.save_blocks.ensures.kept)) (label_tip c.args.w.now.round c.in_ok-label.label.round (g.F.Folder.files c.save_blocks.new.folder) (g.F.Folder.files c.save_label.new.folder) _ c.save_label.result same c.save_label.ensures.files)

pub returns-clause-tip : goal.returns-clause-tip
returns-clause-tip g c =
    let same : c.in_ok-label.label.round ≡ c.args.w.now.round = ap (λ (l : Label). l.round) c.in_ok-label.ensures.value in
    tip_stands _ _ c.args.w.now c.in_ok-label.label (g.F.Folder.files c.args.folder.now) (g.F.Folder.files c.save_info.new.folder) (g.F.Folder.files c.save_blocks.new.folder) (g.F.Folder.files c.save_label.new.folder) c.in_ok-save_info.field-0 c.in_ok-save_label.field-0 c.requires.round.1 same c.in_ok-save_info.ensures.files c.save_blocks.ensures.kept c.in_ok-save_label.ensures.files

pub returns-clause-blocks : goal.returns-clause-blocks
returns-clause-blocks g c t =
    let same : c.in_ok-label.label.round ≡ c.args.w.now.round = ap (λ (l : Label). l.round) c.in_ok-label.ensures.value in
    blocks_stand _ _ c.args.w.now.round c.in_ok-label.label.round (g.R.RowsAt.shown c.args.rows.now).block _ _ _ (g.F.Folder.files c.args.folder.now) (g.F.Folder.files c.save_info.new.folder) (g.F.Folder.files c.save_blocks.new.folder) (g.F.Folder.files c.save_label.new.folder) c.in_ok-save_info.field-0 c.in_ok-save_label.field-0 c.requires.round.1 same c.in_ok-save_info.ensures.files (c.in_ok-save_blocks.ensures.blocks t) c.in_ok-save_label.ensures.files
