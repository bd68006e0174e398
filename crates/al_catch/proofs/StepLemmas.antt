-- What the parts of writing a catchpoint do, one behind the other.
use Rattle.std.proofs.Common.{◌≡◌, ◌≢◌, ◌≤◌, ◌<◌, ◌+◌, ◌^◌, ℕ, List, refl, sym, ap, ◌∙◌, subst, arith, ◌⊎◌, inl, inr, Option, Some, None, Result, Ok, Err}
use Rattle.std.specs.FinMap.{FinMap}
use Rattle.al_base.specs.Folders.{FileMap, KeepsOthers, Writes}
use Rattle.al_base.specs.Keys.{key_cmp}
use Rattle.al_rows.specs.declared.stored.Stored.{Stored}
use Rattle.al_catch.specs.declared.files.CatchFile.TheVariants as file
use Rattle.al_catch.specs.declared.rows_at.RowsFault.{RowsFault}
use Rattle.al_catch.specs.declared.rows_at.RowsFault.TheVariants as faults
use Rattle.al_catch.specs.declared.writing.CatchRefusal.{CatchRefusal}
use Rattle.al_catch.specs.declared.writing.CatchRefusal.TheVariants as refusals
use Rattle.al_catch.specs.Catching.{CatchCause, Counts, IsCalm, IsNotOvertaken, IsRowsName, KeepsBut, Later, Leaves, RowsCause, TipCause, chunk_bytes}
use Rattle.al_catch.specs.Files.{name_of}
use Rattle.al_catch.specs.Steps.{HoldsFirst, HoldsUpTo, IsBlockName, PartCause, SaveCause, refusal_of}
use Rattle.al_catch.proofs.FileLemmas.{own_names}

-- ---- files

pub writes_nothing : (T : Type 0) {E : Type 0} (files : Option FileMap) (name bytes : List ℕ) (e : E) → Writes {T = T} files files name bytes (Err e)
writes_nothing T None name bytes e = tt
writes_nothing T (Some f) name bytes e = λ other h. refl

pub keeps_all : (Own : List ℕ → Type 0) (files : Option FileMap) → KeepsBut Own files files
keeps_all Own None = tt
keeps_all Own (Some f) = λ name h. refl

pub keeps_more : (Own : List ℕ → Type 0) (a b c : Option FileMap) → KeepsBut Own a b → KeepsBut Own b c → KeepsBut Own a c
keeps_more Own None b c p q = tt
keeps_more Own (Some f) None c p q = absurd p
keeps_more Own (Some f) (Some g) None p q = absurd q
keeps_more Own (Some f) (Some g) (Some h) p q = λ name other. q name other ∙ p name other

pub keeps_written : {T E : Type 0} (Own : List ℕ → Type 0) (a b : Option FileMap) (name bytes : List ℕ) (r : Result T E) → Own name → Writes a b name bytes r → KeepsBut Own a b
keeps_written Own None b name bytes r own w = tt
keeps_written Own (Some f) None name bytes r own w = absurd w
keeps_written Own (Some f) (Some g) name bytes (Ok x) own w = λ other h. w.1 other (λ e. h (subst Own (sym e) own))
keeps_written Own (Some f) (Some g) name bytes (Err e) own w = λ other h. w other (λ e. h (subst Own (sym e) own))

pub keeps_wider : (Own Wide : List ℕ → Type 0) (a b : Option FileMap) → ((name : List ℕ) → Own name → Wide name) → KeepsBut Own a b → KeepsBut Wide a b
keeps_wider Own Wide None b f k = tt
keeps_wider Own Wide (Some f) None w k = absurd k
keeps_wider Own Wide (Some f) (Some g) w k = λ name h. k name (λ own. h (w name own))

pub chunk_kept : {T E : Type 0} (round k : ℕ) (a b c : Option FileMap) (bytes : List ℕ) (r : Result T E) → KeepsBut (IsRowsName round) a b → Writes b c (name_of round (file.Rows k)) bytes r → KeepsBut (IsRowsName round) a c
chunk_kept round k a b c bytes r kept w = keeps_more (IsRowsName round) a b c kept (keeps_written (IsRowsName round) b c (name_of round (file.Rows k)) bytes r (file.Rows k, tt, refl) w)

none_held : (round : ℕ) (rows : FinMap key_cmp Stored) (files : FileMap) → HoldsFirst round rows 0 files
none_held round rows files k l = absurd (omega (arith, l))

pub first_held : (round : ℕ) (rows : FinMap key_cmp Stored) (a : Option FileMap) → Leaves a a (HoldsFirst round rows 0)
first_held round rows None = tt
first_held round rows (Some f) = none_held round rows f

held_more : (round : ℕ) (rows : FinMap key_cmp Stored) (k : ℕ) (f g : FileMap) (bytes : List ℕ) → k < 2 ^ 64 → bytes ≡ chunk_bytes rows k → HoldsFirst round rows k f → g (name_of round (file.Rows k)) ≡ Some bytes → KeepsOthers f g (name_of round (file.Rows k)) → HoldsFirst round rows (k + 1) g
held_more round rows k f g bytes low is held here others j l = by_place (cases j k l)
  where
    cases : (j k : ℕ) → j < k + 1 → (j < k) ⊎ (j ≡ k)
    cases j k l = grind arith

    number : file.Rows j ≡ file.Rows k → j ≡ k
    number e = cc

    other : j < k → name_of round (file.Rows j) ≢ name_of round (file.Rows k)
    other less same = absurd (omega (arith, less, number (own_names round (file.Rows j) (file.Rows k) (omega (arith, less, low)) low same)))

    by_place : (j < k) ⊎ (j ≡ k) → g (name_of round (file.Rows j)) ≡ Some (chunk_bytes rows j)
    by_place (inl less) = others (name_of round (file.Rows j)) (other less) ∙ held j less
    by_place (inr e) = subst (λ n. g (name_of round (file.Rows n)) ≡ Some (chunk_bytes rows n)) (sym e) (here ∙ ap Some is)

pub chunk_held : {T : Type 0} (E : Type 0) (round : ℕ) (rows : FinMap key_cmp Stored) (k : ℕ) (a b c : Option FileMap) (bytes : List ℕ) (x : T) → k < 2 ^ 64 → bytes ≡ chunk_bytes rows k → Leaves a b (HoldsFirst round rows k) → Writes {E = E} b c (name_of round (file.Rows k)) bytes (Ok x) → Leaves a c (HoldsFirst round rows (k + 1))
chunk_held E round rows k None b c bytes x low is held w = tt
chunk_held E round rows k (Some f) None c bytes x low is held w = absurd held
chunk_held E round rows k (Some f) (Some g) None bytes x low is held w = absurd w
chunk_held E round rows k (Some f) (Some g) (Some h) bytes x low is held w = held_more round rows k g h bytes low is held w.0 w.1

-- ---- counts and causes

pub later_all : (a : Counts) → Later a a
later_all a = record { overtaken = omega arith; failed = omega arith; folder = omega arith }

pub later_more : (a b c : Counts) → Later a b → Later b c → Later a c
later_more a b c p q = record { overtaken = omega (arith, p.overtaken, q.overtaken); failed = omega (arith, p.failed, q.failed); folder = omega (arith, p.folder, q.folder) }

pub later_step : (a b c : Counts) → Later a b → (b.overtaken ≤ c.overtaken) × (b.failed ≤ c.failed) → b.folder ≤ c.folder → Later a c
later_step a b c p q r = record { overtaken = omega (arith, p.overtaken, q.0); failed = omega (arith, p.failed, q.1); folder = omega (arith, p.folder, r) }

-- rows that are not given
pub rows_part : (A B : Type 0) {F : Type 0} (fault : RowsFault F) (a b c : Counts) → Later a b → RowsCause {A = A} b.overtaken c.overtaken b.failed c.failed (Err fault) → PartCause {A = B} a c (Err (refusal_of fault))
rows_part A B (faults.Overtaken round) a b c l h = omega (arith, l.overtaken, h)
rows_part A B (faults.Failed f) a b c l h = omega (arith, l.failed, h)
rows_part A B faults.Memory a b c l h = tt

pub rows_calm : (A B : Type 0) {F : Type 0} (fault : RowsFault F) → IsNotOvertaken {A = A} (Err fault) → IsCalm {A = B} (Err (refusal_of fault))
rows_calm A B (faults.Overtaken round) h = absurd h
rows_calm A B (faults.Failed f) h = tt
rows_calm A B faults.Memory h = tt

pub rows_tip : (A B : Type 0) {F : Type 0} (fault : RowsFault F) (a b c : Counts) → Later a b → IsNotOvertaken {A = A} (Err fault) → RowsCause {A = A} b.overtaken c.overtaken b.failed c.failed (Err fault) → TipCause {A = B} a c (Err (refusal_of fault))
rows_tip A B (faults.Overtaken round) a b c l free h = absurd free
rows_tip A B (faults.Failed f) a b c l free h = omega (arith, l.failed, h)
rows_tip A B faults.Memory a b c l free h = tt

pub rows_catch : (A B : Type 0) {F : Type 0} (interval round : ℕ) (fault : RowsFault F) (a c : Counts) → RowsCause {A = A} a.overtaken c.overtaken a.failed c.failed (Err fault) → CatchCause {A = B} interval round a c (Err (refusal_of fault))
rows_catch A B interval round (faults.Overtaken at) a c h = h
rows_catch A B interval round (faults.Failed f) a c h = h
rows_catch A B interval round faults.Memory a c h = tt

-- a file that is not saved
pub save_part : (A B : Type 0) {F : Type 0} (e : CatchRefusal F) (a c : Counts) (mid : ℕ) → a.folder ≤ mid → SaveCause {A = A} mid c.folder (Err e) → PartCause {A = B} a c (Err e)
save_part A B (refusals.Overtaken at) a c mid l h = absurd h
save_part A B (refusals.NotCatchpointRound n) a c mid l h = absurd h
save_part A B (refusals.FolderFault f) a c mid l h = omega (arith, l, h)
save_part A B (refusals.Rows f) a c mid l h = absurd h
save_part A B refusals.Memory a c mid l h = tt

pub save_tip : (A B : Type 0) {F : Type 0} (e : CatchRefusal F) (a c : Counts) (mid : ℕ) → a.folder ≤ mid → SaveCause {A = A} mid c.folder (Err e) → TipCause {A = B} a c (Err e)
save_tip A B (refusals.Overtaken at) a c mid l h = absurd h
save_tip A B (refusals.NotCatchpointRound n) a c mid l h = absurd h
save_tip A B (refusals.FolderFault f) a c mid l h = omega (arith, l, h)
save_tip A B (refusals.Rows f) a c mid l h = absurd h
save_tip A B refusals.Memory a c mid l h = tt

pub save_calm : (A B : Type 0) {F : Type 0} (e : CatchRefusal F) (m n : ℕ) → SaveCause {A = A} m n (Err e) → IsCalm {A = B} (Err e)
save_calm A B (refusals.Overtaken at) m n h = absurd h
save_calm A B (refusals.NotCatchpointRound n) m k h = tt
save_calm A B (refusals.FolderFault f) m n h = tt
save_calm A B (refusals.Rows f) m n h = tt
save_calm A B refusals.Memory m n h = tt

-- the files of the rows that are not written
pub part_catch : (A B : Type 0) {F : Type 0} (interval round : ℕ) (e : CatchRefusal F) (a b c : Counts) → Later a b → PartCause {A = A} b c (Err e) → CatchCause {A = B} interval round a c (Err e)
part_catch A B interval round (refusals.Overtaken at) a b c l h = omega (arith, l.overtaken, h)
part_catch A B interval round (refusals.NotCatchpointRound n) a b c l h = absurd h
part_catch A B interval round (refusals.FolderFault f) a b c l h = omega (arith, l.folder, h)
part_catch A B interval round (refusals.Rows f) a b c l h = omega (arith, l.failed, h)
part_catch A B interval round refusals.Memory a b c l h = tt

pub part_calm : (A B : Type 0) {F : Type 0} (e : CatchRefusal F) → IsCalm {A = A} (Err e) → IsCalm {A = B} (Err e)
part_calm A B (refusals.Overtaken at) h = absurd h
part_calm A B (refusals.NotCatchpointRound n) h = tt
part_calm A B (refusals.FolderFault f) h = tt
part_calm A B (refusals.Rows f) h = tt
part_calm A B refusals.Memory h = tt

-- a part of the tip that is not written
pub tip_moved : (A B : Type 0) {F : Type 0} (e : CatchRefusal F) (a b c : Counts) → Later a b → TipCause {A = A} b c (Err e) → TipCause {A = B} a c (Err e)
tip_moved A B (refusals.Overtaken at) a b c l h = absurd h
tip_moved A B (refusals.NotCatchpointRound n) a b c l h = absurd h
tip_moved A B (refusals.FolderFault f) a b c l h = omega (arith, l.folder, h)
tip_moved A B (refusals.Rows f) a b c l h = omega (arith, l.failed, h)
tip_moved A B refusals.Memory a b c l h = tt

-- ---- the blocks

pub block_kept : {T E : Type 0} (round k : ℕ) (a b c : Option FileMap) (bytes : List ℕ) (r : Result T E) → k ≤ round → KeepsBut (IsBlockName round) a b → Writes b c (name_of round (file.Block k)) bytes r → KeepsBut (IsBlockName round) a c
block_kept round k a b c bytes r most kept w = keeps_more (IsBlockName round) a b c kept (keeps_written (IsBlockName round) b c (name_of round (file.Block k)) bytes r (k, most, refl) w)

pub no_block_held : (round first : ℕ) (block : ℕ → List ℕ) (a : Option FileMap) → Leaves a a (HoldsUpTo round first block first)
no_block_held round first block None = tt
no_block_held round first block (Some f) = λ n l h. absurd (omega (arith, l, h))

block_more : (round first : ℕ) (block : ℕ → List ℕ) (k : ℕ) (f g : FileMap) (bytes : List ℕ) → k < 2 ^ 64 → bytes ≡ block k → HoldsUpTo round first block k f → g (name_of round (file.Block k)) ≡ Some bytes → KeepsOthers f g (name_of round (file.Block k)) → HoldsUpTo round first block (k + 1) g
block_more round first block k f g bytes low is held here others j from l = by_place (cases j k l)
  where
    cases : (j k : ℕ) → j < k + 1 → (j < k) ⊎ (j ≡ k)
    cases j k l = grind arith

    number : file.Block j ≡ file.Block k → j ≡ k
    number e = cc

    other : j < k → name_of round (file.Block j) ≢ name_of round (file.Block k)
    other less same = absurd (omega (arith, less, number (own_names round (file.Block j) (file.Block k) (omega (arith, less, low)) low same)))

    by_place : (j < k) ⊎ (j ≡ k) → g (name_of round (file.Block j)) ≡ Some (block j)
    by_place (inl less) = others (name_of round (file.Block j)) (other less) ∙ held j from less
    by_place (inr e) = subst (λ n. g (name_of round (file.Block n)) ≡ Some (block n)) (sym e) (here ∙ ap Some is)

pub block_held : {T : Type 0} (E : Type 0) (round first : ℕ) (block : ℕ → List ℕ) (k : ℕ) (a b c : Option FileMap) (bytes : List ℕ) (x : T) → k < 2 ^ 64 → bytes ≡ block k → Leaves a b (HoldsUpTo round first block k) → Writes {E = E} b c (name_of round (file.Block k)) bytes (Ok x) → Leaves a c (HoldsUpTo round first block (k + 1))
block_held E round first block k None b c bytes x low is held w = tt
block_held E round first block k (Some f) None c bytes x low is held w = absurd held
block_held E round first block k (Some f) (Some g) None bytes x low is held w = absurd w
block_held E round first block k (Some f) (Some g) (Some h) bytes x low is held w = block_more round first block k g h bytes low is held w.0 w.1
