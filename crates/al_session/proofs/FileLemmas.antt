-- Files that a run reads, and what is told where it could not.
use Rattle.std.proofs.Common.{◌≡◌, ◌≤◌, ◌⊎◌, ◌+◌, ◌-◌, ◌^◌, ◌∙◌, ℕ, min, List, [], length, sym, subst, inl, inr, arith, Option, Some, None, Result, Ok, Err, IfSome, IsSomeAnd, ◌<◌}
use Rattle.al_base.specs.Causes.{Left, Rose}
use Rattle.al_base.specs.Folders.{FileMap, Reads}
use Rattle.al_catch.specs.Catching.{KeepsBut, Leaves}
use Rattle.al_session.specs.Outside.{Holds, IsShort, IsTooLong, IsUnread, KeepsFiles, Outside}
use Rattle.al_session.specs.Telling.{IsInput, IsMute, TellsUnread}
use Rattle.al_session.specs.declared.input.ReadFault.{ReadFault}
use Rattle.al_session.specs.declared.input.ReadFault.TheVariants as reads

-- what a read answers is what the folder holds
pub read_holds : (before now : Option FileMap) (name : List ℕ) (limit : ℕ) (found : Option (List ℕ)) → Reads before now name limit (Ok found) → Holds before name found
read_holds None now name limit found x = tt
read_holds (Some before) None name limit found x = absurd x
read_holds (Some before) (Some now) name limit found x = sym x.1

-- a file was read
pub input_read : (before now : Option FileMap) (name : List ℕ) (limit f g : ℕ) (found : Option (List ℕ)) (bytes : List ℕ) → found ≡ Some bytes → Reads before now name limit (Ok found) → IfSome found (λ b. length b ≤ limit) → IsInput limit name before f g (Ok bytes)
input_read before now name limit f g found bytes is x within =
    (subst (λ o. Holds before name o) is (read_holds before now name limit found x), subst (λ o. IfSome o (λ b. length b ≤ limit)) is within)

-- ---- two steps

rose_top : (top a b c d : ℕ) → a ≤ b → c ≤ d → min (b + 1) top ≤ c → min (a + 1) top ≤ d
rose_top top a b c d early late rose = omega (arith, early, late, rose)

-- a rise inside is one of the whole
pub rose_inside : (a b c d : ℕ) → a ≤ b → c ≤ d → Rose b c → Rose a d
rose_inside a b c d early late rose = rose_top (2 ^ 64 - 1) a b c d early late rose

pub files_then : (a b c : Option FileMap) → KeepsFiles a b → KeepsFiles b c → KeepsFiles a c
files_then None b c p q = tt
files_then (Some a) None c p q = absurd p
files_then (Some a) (Some b) None p q = absurd q
files_then (Some a) (Some b) (Some c) p q = λ name. q name ∙ p name

pub keeps_then : (P : List ℕ → Type 0) (a b c : Option FileMap) → KeepsFiles a b → KeepsBut P b c → KeepsBut P a c
keeps_then P None b c p q = tt
keeps_then P (Some a) None c p q = absurd p
keeps_then P (Some a) (Some b) None p q = absurd q
keeps_then P (Some a) (Some b) (Some c) p q = λ name other. q name other ∙ p name

pub leaves_behind : (P : FileMap → Type 0) (a b c : Option FileMap) → KeepsFiles a b → Leaves b c P → Leaves a c P
leaves_behind P None b c p q = tt
leaves_behind P (Some a) None c p q = absurd p
leaves_behind P (Some a) (Some b) None p q = absurd q
leaves_behind P (Some a) (Some b) (Some c) p q = q

pub holds_before : (a b : Option FileMap) (name : List ℕ) (file : Option (List ℕ)) → KeepsFiles a b → Holds b name file → Holds a name file
holds_before None b name file p x = tt
holds_before (Some a) None name file p x = absurd p
holds_before (Some a) (Some b) name file p x = sym (p name) ∙ x

long_before : (limit : ℕ) (a b : Option FileMap) (name : List ℕ) → KeepsFiles a b → IsTooLong limit b name → IsTooLong limit a name
long_before limit None b name p x = tt
long_before limit (Some a) None name p x = absurd p
long_before limit (Some a) (Some b) name p x = subst (λ o. IsSomeAnd o (λ bytes. limit < length bytes)) (p name) x

-- an input that was read after another one
pub input_before : (limit : ℕ) (name : List ℕ) (a b : Option FileMap) (f g k : ℕ) (result : Result (List ℕ) ReadFault) → KeepsFiles a b → f ≤ g → IsInput limit name b g k result → IsInput limit name a f k result
input_before limit name a b f g k (Ok bytes) same up (holds, short) = (holds_before a b name (Some bytes) same holds, short)
input_before limit name a b f g k (Err reads.Unread) same up (inl rose) = inl (rose_inside f g k k up (omega arith) rose)
input_before limit name a b f g k (Err reads.Unread) same up (inr (inl none)) = inr (inl (holds_before a b name None same none))
input_before limit name a b f g k (Err reads.Unread) same up (inr (inr long)) = inr (inr (long_before limit a b name same long))
input_before limit name a b f g k (Err reads.Memory) same up x = tt

-- ---- endings

-- nothing was taken from the source
pub record IsUntaken (before after : Outside) : Type 0 where
  pub taken : Left before.left after.left []
  pub kept : after.source_faults ≡ before.source_faults

pub mute_ends : (before after : Outside) (n : ℕ) → IsUntaken before after → IsMute before.written after.written before.sink_faults after.sink_faults n → IsShort before after n
mute_ends before after n u mute = record {
  status = mute.0;
  silent = record { taken = u.taken; written = mute.1; source_kept = u.kept; sink_kept = mute.2 };
}

-- a run ends whose file was not read
pub unread_ends : (limit : ℕ) (name : List ℕ) (before after : Outside) (fault : ReadFault) (n : ℕ) → IsInput limit name before.files before.folder_faults after.folder_faults (Err fault) → IsUntaken before after → TellsUnread name fault before.written after.written before.sink_faults after.sink_faults n → IsUnread limit name before after n ⊎ IsShort before after n
unread_ends limit name before after reads.Unread n cause u (inl (is, says)) = inl (record {
  status = is;
  cause = cause;
  line = record { taken = u.taken; source_kept = u.kept; says = says };
})
unread_ends limit name before after reads.Unread n cause u (inr mute) = inr (mute_ends before after n u mute)
unread_ends limit name before after reads.Memory n cause u mute = inr (mute_ends before after n u mute)
