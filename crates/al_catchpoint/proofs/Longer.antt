-- What is said of a round of a chain stays so of a longer chain, and of files that keep what it asks of them.
use Rattle.std.proofs.Common.{◌≡◌, ◌≢◌, ◌≤◌, ◌<◌, ◌^◌, ℕ, zero, suc, List, [], ◌∷◌, ◌++◌, length, get_or, codes, Option, Some, None, slice_get, refl, sym, ap, ◌∙◌, arith, append_assoc}
use Rattle.std.proofs.lemmas.List.{append_cancel_left, take-append-le}
use Rattle.std.specs.FinMap.{FinMap}
use Rattle.std.specs.Fmt.{decimal}
use Rattle.al_base.specs.Keys.{key_cmp}
use Rattle.al_rows.specs.declared.stored.Stored.{Stored}
use Rattle.al_base.specs.Folders.{FileMap}
use Rattle.al_block.specs.declared.block.Block.{Block}
use Rattle.al_catch.proofs.FileLemmas.{same_round}
use Rattle.al_catch.specs.Catching.{HoldsBlocks, HoldsChunks, IsCatchName, IsOfRows, IsRowsName, IsTipName, KeepsBut, Leaves, data_round}
use Rattle.al_catch.specs.Files.{name_of, part_of}
use Rattle.al_catch.specs.declared.files.CatchFile.{CatchFile}
use Rattle.al_catch.specs.declared.files.CatchFile.TheVariants as file
use Rattle.al_catch.specs.declared.label.Label.{Label}
use Rattle.al_eval.specs.State.{State, replay}
use Rattle.al_states.specs.Held.{Held}
use Rattle.al_states.specs.Replies.{IsBlockOf}
use Rattle.al_states.specs.Spellings.{spelling_at, string_of}
use Rattle.al_catchpoint.specs.Chains.{HoldsCatchpoint, IsData, IsLabelOf}

-- ---- a longer chain

-- these blocks, and more behind them
abbrev pub longer : Held → List Block → Held
longer h more = record h { blocks = h.blocks ++ more }

-- the rows of a round
pub data_longer : (h : Held) (more : List Block) (round : ℕ) (s : State) → data_round round ≤ length h.blocks → IsData h round s → IsData (longer h more) round s
data_longer h more round s within is = ap (λ z. replay h.origin z) (take-append-le (data_round round) h.blocks more within) ∙ is

data_within : (round n : ℕ) → round ≤ n → data_round round ≤ n
data_within round n within = omega (arith, within)

-- a block that is kept
pub block_longer : (blocks more : List Block) (round : ℕ) (b : Block) → IsBlockOf blocks round b → IsBlockOf (blocks ++ more) round b
block_longer blocks more round b (front, behind, is, at) = (front, behind ++ more, ap (λ z. z ++ more) is ∙ append_assoc front (b ∷ behind) more, at)

-- a label
pub label_longer : (h : Held) (more : List Block) (l : Label) → l.round ≤ length h.blocks → IsLabelOf h l → IsLabelOf (longer h more) l
label_longer h more l within p = record {
  state = p.state;
  is_data = data_longer h more l.round p.state (data_within l.round (length h.blocks) within) p.is_data;
  last = p.last;
  block = block_longer h.blocks more l.round p.last p.block;
  is = p.is;
}

get_longer : (xs more : List Block) (n : ℕ) → n < length xs → slice_get (xs ++ more) n ≡ slice_get xs n
get_longer [] more n below = absurd (omega (arith, below))
get_longer (x ∷ xs) more zero below = refl
get_longer (x ∷ xs) more (suc n) below = get_longer xs more n (omega (arith, below))

-- the spelling of a block that is kept
pub spelling_longer : (blocks more : List Block) (n : ℕ) → n ≤ length blocks → spelling_at (blocks ++ more) n ≡ spelling_at blocks n
spelling_longer blocks more zero within = refl
spelling_longer blocks more (suc n) within = ap string_of (get_longer blocks more n (omega (arith, within)))

pub blocks_longer : (blocks more : List Block) (round : ℕ) (files : FileMap) → round ≤ length blocks → HoldsBlocks round (spelling_at blocks) files → HoldsBlocks round (spelling_at (blocks ++ more)) files
blocks_longer blocks more round files within holds n from to = holds n from to ∙ ap Some (sym (spelling_longer blocks more n (omega (arith, within, to))))

-- the files of a catchpoint
pub catchpoint_longer : (h : Held) (more : List Block) (l : Label) (files : FileMap) → l.round ≤ length h.blocks → HoldsCatchpoint h l files → HoldsCatchpoint (longer h more) l files
catchpoint_longer h more l files within p = record {
  state = p.state;
  is_data = data_longer h more l.round p.state (data_within l.round (length h.blocks) within) p.is_data;
  chunks = p.chunks;
  tip = record { info = p.tip.info; label = p.tip.label };
  blocks = blocks_longer h.blocks more l.round files within p.blocks;
}

-- ---- other files

-- the files of a round are as before
abbrev pub KeepsRound : ℕ → FileMap → FileMap → Type 0
KeepsRound round before now = (f : CatchFile) → now (name_of round f) ≡ before (name_of round f)

pub chunks_kept : (round : ℕ) (rows : FinMap key_cmp Stored) (before now : FileMap) → KeepsRound round before now → HoldsChunks round rows before → HoldsChunks round rows now
chunks_kept round rows before now kept holds k below = kept (file.Rows k) ∙ holds k below

pub catchpoint_kept : (h : Held) (l : Label) (before now : FileMap) → KeepsRound l.round before now → HoldsCatchpoint h l before → HoldsCatchpoint h l now
catchpoint_kept h l before now kept p = record {
  state = p.state;
  is_data = p.is_data;
  chunks = chunks_kept l.round p.state.rows before now kept p.chunks;
  tip = record { info = kept file.Info ∙ p.tip.info; label = kept file.Label ∙ p.tip.label };
  blocks = λ n from to. kept (file.Block n) ∙ p.blocks n from to;
}

-- ---- two changes of the files

-- what a first change and then a second one keep
pub kept_both : (P Q R : List ℕ → Type 0) (a b c : Option FileMap) → ((name : List ℕ) → P name → R name) → ((name : List ℕ) → Q name → R name) → KeepsBut P a b → KeepsBut Q b c → KeepsBut R a c
kept_both P Q R None b c p q first second = _
kept_both P Q R (Some a) None c p q first second = absurd first
kept_both P Q R (Some a) (Some b) None p q first second = second
kept_both P Q R (Some a) (Some b) (Some c) p q first second = λ name other. second name (λ own. other (q name own)) ∙ first name (λ own. other (p name own))

-- nothing was changed
pub keeps_none : (P : List ℕ → Type 0) (a : Option FileMap) → KeepsBut P a a
keeps_none P None = _
keeps_none P (Some a) = λ name other. refl

-- fewer names were changed
pub keeps_more : (P R : List ℕ → Type 0) (a b : Option FileMap) → ((name : List ℕ) → P name → R name) → KeepsBut P a b → KeepsBut R a b
keeps_more P R None b p kept = _
keeps_more P R (Some a) None p kept = kept
keeps_more P R (Some a) (Some b) p kept = λ name other. kept name (λ own. other (p name own))

-- what the files are after a first change is still so after a second one that keeps it
pub leaves_then : (P : FileMap → Type 0) (Q : List ℕ → Type 0) (a b c : Option FileMap) → ((before now : FileMap) → KeepsBut Q (Some before) (Some now) → P before → P now) → Leaves a b P → KeepsBut Q b c → Leaves a c P
leaves_then P Q None b c stays first second = _
leaves_then P Q (Some a) None c stays first second = absurd first
leaves_then P Q (Some a) (Some b) None stays first second = second
leaves_then P Q (Some a) (Some b) (Some c) stays first second = stays b c second first

pub leaves_more : (P R : FileMap → Type 0) (a b : Option FileMap) → ((now : FileMap) → P now → R now) → Leaves a b P → Leaves a b R
leaves_more P R None b more first = _
leaves_more P R (Some a) None more first = first
leaves_more P R (Some a) (Some b) more first = more b first

pub leaves_both : (P R : FileMap → Type 0) (a b : Option FileMap) → Leaves a b P → Leaves a b R → Leaves a b (λ now. P now × R now)
leaves_both P R None b first second = _
leaves_both P R (Some a) None first second = first
leaves_both P R (Some a) (Some b) first second = (first, second)

-- ---- the files of a round, where others were changed

-- files of rows of a round are no others of it
part_byte : (f g : CatchFile) → IsOfRows f → (IsOfRows g → ⊥) → part_of f ≡ part_of g → ⊥
part_byte (file.Rows k) (file.Rows n) p q e = q _
part_byte (file.Rows k) file.Info p q e = let first : 114 ≡ 105 = ap (λ (t : List ℕ). get_or t 0 0) e in absurd (omega (arith, first))
part_byte (file.Rows k) (file.Block n) p q e = let first : 114 ≡ 98 = ap (λ (t : List ℕ). get_or t 0 0) e in absurd (omega (arith, first))
part_byte (file.Rows k) file.Label p q e = let first : 114 ≡ 108 = ap (λ (t : List ℕ). get_or t 0 0) e in absurd (omega (arith, first))
part_byte file.Info g p q e = absurd p
part_byte (file.Block n) g p q e = absurd p
part_byte file.Label g p q e = absurd p

same_part : (round : ℕ) (f g : CatchFile) → name_of round f ≡ name_of round g → part_of f ≡ part_of g
same_part round f g same =
    append_cancel_left (codes "-") (part_of f) (part_of g)
    (append_cancel_left (decimal round) (codes "-" ++ part_of f) (codes "-" ++ part_of g)
    (append_cancel_left (codes "cp-") (decimal round ++ (codes "-" ++ part_of f)) (decimal round ++ (codes "-" ++ part_of g)) same))

-- what is written beside the rows keeps the rows
pub rows_beside : (round : ℕ) (rows : FinMap key_cmp Stored) (before now : FileMap) → KeepsBut (IsTipName round) (Some before) (Some now) → HoldsChunks round rows before → HoldsChunks round rows now
rows_beside round rows before now kept holds k below =
    kept (name_of round (file.Rows k)) (λ own. part_byte (file.Rows k) own.0 _ own.1 (same_part round (file.Rows k) own.0 own.2)) ∙ holds k below

-- what is written for a round keeps the files of another
pub others_kept : (P : List ℕ → Type 0) (r s : ℕ) (before now : FileMap) → ((name : List ℕ) → P name → IsCatchName r name) → r ≢ s → r < 2 ^ 64 → s < 2 ^ 64 → KeepsBut P (Some before) (Some now) → KeepsRound s before now
others_kept P r s before now own apart low least kept f =
    kept (name_of s f) (λ p. let named = own (name_of s f) p in apart (sym (same_round s r f named.0 least low named.1)))

-- the rows of a round, and what is written beside them, are files of its catchpoint
pub rows_named : (round : ℕ) (name : List ℕ) → IsRowsName round name → IsCatchName round name
rows_named round name (f, is, named) = (f, named)

pub tip_named : (round : ℕ) (name : List ℕ) → IsTipName round name → IsCatchName round name
tip_named round name (f, is, named) = (f, named)
