-- The files of the rest of a catchpoint, one written behind the other.
use Rattle.std.proofs.Common.{◌≡◌, ◌≢◌, ◌≤◌, ◌<◌, ◌+◌, ◌^◌, ℕ, List, refl, sym, ap, ◌∙◌, subst, arith, Option, Some, None, Result, Ok, Err, IfOk}
use Rattle.al_base.specs.Folders.{FileMap, Writes}
use Rattle.al_block.specs.Block.{BlockAnswers}
use Rattle.al_block.specs.Hashes.{header_hash_of}
use Rattle.al_block.specs.declared.block.Block.{Block}
use Rattle.al_block.specs.declared.decoding.BlockFault.{BlockFault}
use Rattle.al_block.specs.declared.decoding.BlockFault.TheVariants as blocks
use Rattle.al_catch.specs.declared.files.CatchFile.TheVariants as file
use Rattle.al_catch.specs.declared.label.Label.{Label}
use Rattle.al_catch.specs.declared.writing.RowsWritten.{RowsWritten}
use Rattle.al_catch.specs.Catching.{HoldsBlocks, HoldsTip, IsTipName, KeepsBut, Leaves, first_block, info_bytes, label_line}
use Rattle.al_catch.specs.Files.{name_of}
use Rattle.al_catch.specs.Steps.{HoldsUpTo, IsBlockName, IsNoMemory}
use Rattle.al_catch.proofs.FileLemmas.{own_names}
use Rattle.al_catch.proofs.StepLemmas.{keeps_more, keeps_wider, keeps_written}

info_no_block : (round : ℕ) → round < 2 ^ 63 → IsBlockName round (name_of round file.Info) → ⊥
info_no_block round few (n, most, same) =
    let e : file.Info ≡ file.Block n = own_names round file.Info (file.Block n) tt (omega (arith, most, few)) same in
    absurd cc

info_no_label : (round : ℕ) → name_of round file.Info ≢ name_of round file.Label
info_no_label round same =
    let e : file.Info ≡ file.Label = own_names round file.Info file.Label tt tt same in
    absurd cc

block_no_label : (round n : ℕ) → n < 2 ^ 64 → name_of round (file.Block n) ≢ name_of round file.Label
block_no_label round n few same =
    let e : file.Block n ≡ file.Label = own_names round (file.Block n) file.Label few tt same in
    absurd cc

-- a block's file is one of the tip
pub block_of_tip : (round : ℕ) (name : List ℕ) → IsBlockName round name → IsTipName round name
block_of_tip round name (n, most, same) = (file.Block n, (λ h. h), same)

pub blocks_tip : (round : ℕ) (a b : Option FileMap) → KeepsBut (IsBlockName round) a b → KeepsBut (IsTipName round) a b
blocks_tip round a b kept = keeps_wider (IsBlockName round) (IsTipName round) a b (block_of_tip round) kept

pub info_tip : {T E : Type 0} (round : ℕ) (a b : Option FileMap) (bytes : List ℕ) (r : Result T E) → Writes a b (name_of round file.Info) bytes r → KeepsBut (IsTipName round) a b
info_tip round a b bytes r w = keeps_written (IsTipName round) a b (name_of round file.Info) bytes r (file.Info, (λ h. h), refl) w

pub label_tip : {T E : Type 0} (round other : ℕ) (a b : Option FileMap) (bytes : List ℕ) (r : Result T E) → other ≡ round → Writes a b (name_of other file.Label) bytes r → KeepsBut (IsTipName round) a b
label_tip round other a b bytes r same w = keeps_written (IsTipName round) a b (name_of other file.Label) bytes r (file.Label, (λ h. h), ap (λ n. name_of n file.Label) same) w

pub tip_kept : (round : ℕ) (a b c : Option FileMap) → KeepsBut (IsTipName round) a b → KeepsBut (IsTipName round) b c → KeepsBut (IsTipName round) a c
tip_kept round a b c p q = keeps_more (IsTipName round) a b c p q

-- what the catchpoint says of itself stands, and its label
pub tip_stands : {T U : Type 0} (E F : Type 0) (w : RowsWritten) (l : Label) (a b c d : Option FileMap) (x : T) (y : U) → w.round < 2 ^ 63 → l.round ≡ w.round → Writes {E = E} a b (name_of w.round file.Info) (info_bytes w) (Ok x) → KeepsBut (IsBlockName w.round) b c → Writes {E = F} c d (name_of l.round file.Label) (label_line l) (Ok y) → Leaves a d (HoldsTip w l)
tip_stands E F w l None b c d x y few same info kept label = tt
tip_stands E F w l (Some f) None c d x y few same info kept label = absurd info
tip_stands E F w l (Some f) (Some g) None d x y few same info kept label = absurd kept
tip_stands E F w l (Some f) (Some g) (Some h) None x y few same info kept label = absurd label
tip_stands E F w l (Some f) (Some g) (Some h) (Some k) x y few same info kept label =
    let other : name_of w.round file.Info ≢ name_of l.round file.Label = λ e. info_no_label w.round (e ∙ ap (λ n. name_of n file.Label) same) in
    record {
      info = label.1 (name_of w.round file.Info) other ∙ kept (name_of w.round file.Info) (info_no_block w.round few) ∙ info.0;
      label = ap (λ n. k (name_of n file.Label)) (sym same) ∙ label.0;
    }

-- the blocks stand behind the label too
pub blocks_stand : {T U : Type 0} (E F : Type 0) (round other : ℕ) (block : ℕ → List ℕ) (name said line : List ℕ) (a b c d : Option FileMap) (x : T) (y : U) → round < 2 ^ 63 → other ≡ round → Writes {E = E} a b name said (Ok x) → Leaves b c (HoldsBlocks round block) → Writes {E = F} c d (name_of other file.Label) line (Ok y) → Leaves a d (HoldsBlocks round block)
blocks_stand E F round other block name said line None b c d x y few same info held label = tt
blocks_stand E F round other block name said line (Some f) None c d x y few same info held label = absurd info
blocks_stand E F round other block name said line (Some f) (Some g) None d x y few same info held label = absurd held
blocks_stand E F round other block name said line (Some f) (Some g) (Some h) None x y few same info held label = absurd label
blocks_stand E F round other block name said line (Some f) (Some g) (Some h) (Some k) x y few same info held label =
    λ n from most. label.1 (name_of round (file.Block n)) (λ e. block_no_label round n (omega (arith, most, few)) (e ∙ ap (λ m. name_of m file.Label) same)) ∙ held n from most

-- the blocks up to the round are all
blocks_whole : (round : ℕ) (block : ℕ → List ℕ) (files : FileMap) → HoldsUpTo round (first_block round) block (round + 1) files → HoldsBlocks round block files
blocks_whole round block files held n from most = held n from (omega (arith, most))

pub blocks_all : (round first end : ℕ) (block : ℕ → List ℕ) (a b : Option FileMap) → first ≡ first_block round → end ≡ round + 1 → Leaves a b (HoldsUpTo round first block end) → Leaves a b (HoldsBlocks round block)
blocks_all round first end block None b p q held = tt
blocks_all round first end block (Some f) None p q held = absurd held
blocks_all round first end block (Some f) (Some g) p q held = blocks_whole round block g (subst (λ n. HoldsUpTo round (first_block round) block n g) q (subst (λ n. HoldsUpTo round n block end g) p held))

-- ---- the hash of the last block

ok_same : (a b : Block) → ◌≡◌ {A = Result Block BlockFault} (Ok a) (Ok b) → a ≡ b
ok_same a b e = cc

-- a block that is read is the one that is spelled
pub read_hash : {E : Type 0} (a b : Block) (r : Result (List ℕ) E) → BlockAnswers (Ok a) (Ok b) → IfOk r (λ hash. hash ≡ header_hash_of a.header) → IfOk r (λ hash. hash ≡ header_hash_of b.header)
read_hash a b r e is = subst (λ (x : Block). IfOk r (λ hash. hash ≡ header_hash_of x.header)) (sym (ok_same b a e)) is

-- bytes that spell a block are read, unless memory is short
pub no_other : {E : Type 0} (b : Block) (f : BlockFault) (r : Result (List ℕ) E) → BlockAnswers (Err f) (Ok b) → IfOk r (λ hash. IsNoMemory f) → IfOk r (λ hash. hash ≡ header_hash_of b.header)
no_other b blocks.Memory (Ok h) e is = absurd is
no_other b blocks.Memory (Err x) e is = tt
no_other b (blocks.Decode f) r e is = absurd (let x : ◌≡◌ {A = Result Block BlockFault} (Ok b) (Err (blocks.Decode f)) = e in cc)
no_other b (blocks.Field name) r e is = absurd (let x : ◌≡◌ {A = Result Block BlockFault} (Ok b) (Err (blocks.Field name)) = e in cc)
no_other b (blocks.Range name) r e is = absurd (let x : ◌≡◌ {A = Result Block BlockFault} (Ok b) (Err (blocks.Range name)) = e in cc)
