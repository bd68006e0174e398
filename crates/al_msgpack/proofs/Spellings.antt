-- The spelling of each kind of value, and of lists one behind the other.
use Rattle.std.proofs.Common.{◌≡◌, ℕ, Bool, List, [], ◌∷◌, ◌++◌, length, map, refl, sym, ap, ◌∙◌, append_assoc}
use Rattle.std.proofs.lemmas.List.{length-map}
use Rattle.al_msgpack.specs.declared.val.Val.{Val}
use Rattle.al_msgpack.specs.declared.val.Val.TheVariants as vals
use Rattle.al_msgpack.specs.declared.val.Entry.{Entry, fold-Entry}
use Rattle.al_msgpack.specs.declared.val.Val.TheOpen.{Val-F}
use Rattle.al_msgpack.specs.declared.val.Val.TheViews.{roll-Val, roll-Entry}
use Rattle.al_msgpack.specs.declared.val.Val.TheFolds.{fold-roll-Val, fold-roll-Entry}
use denote.Hole.Carrier.{roll}
use Rattle.al_msgpack.specs.Spelled.{flag_spelled, num_spelled, string_head, bytes_head, list_head, map_head, joined_entries, spelled, spelled_step, entry_step, all_spelled, entries_spelled}

abbrev entry_spelled : Entry → List ℕ × List ℕ
entry_spelled e = fold-Entry (List ℕ) (List ℕ × List ℕ) spelled_step entry_step e

pub spelled_num : (n : ℕ) → spelled (vals.Num n) ≡ num_spelled n
unfolding roll-Val roll
spelled_num n = fold-roll-Val (List ℕ) (List ℕ × List ℕ) spelled_step entry_step (Val-F.Num n)

pub spelled_flag : (b : Bool) → spelled (vals.Flag b) ≡ flag_spelled b
unfolding roll-Val roll
spelled_flag b = fold-roll-Val (List ℕ) (List ℕ × List ℕ) spelled_step entry_step (Val-F.Flag b)

pub spelled_str : (s : List ℕ) → spelled (vals.Str s) ≡ string_head (length s) ++ s
unfolding roll-Val roll
spelled_str s = fold-roll-Val (List ℕ) (List ℕ × List ℕ) spelled_step entry_step (Val-F.Str s)

pub spelled_bin : (s : List ℕ) → spelled (vals.Bin s) ≡ bytes_head (length s) ++ s
unfolding roll-Val roll
spelled_bin s = fold-roll-Val (List ℕ) (List ℕ × List ℕ) spelled_step entry_step (Val-F.Bin s)

pub spelled_list : (vs : List Val) → spelled (vals.List vs) ≡ list_head (length vs) ++ all_spelled vs
unfolding roll-Val roll
spelled_list vs = fold-roll-Val (List ℕ) (List ℕ × List ℕ) spelled_step entry_step (Val-F.List vs) ∙ ap (λ z. list_head z ++ all_spelled vs) (length-map vs spelled)

pub spelled_map : (es : List Entry) → spelled (vals.Map es) ≡ map_head (length es) ++ entries_spelled es
unfolding roll-Val roll
spelled_map es = fold-roll-Val (List ℕ) (List ℕ × List ℕ) spelled_step entry_step (Val-F.Map es) ∙ ap (λ z. map_head z ++ entries_spelled es) (length-map es entry_spelled)

spelled_entry : (e : Entry) → entry_spelled e ≡ (e.key, spelled e.val)
unfolding roll
spelled_entry e = fold-roll-Entry (List ℕ) (List ℕ × List ℕ) spelled_step entry_step (record { key = e.key; val = e.val })

-- an entry and what follows
pub spelled_first : (e : Entry) (es : List Entry) → entries_spelled (e ∷ es) ≡ (string_head (length e.key) ++ e.key) ++ (spelled e.val ++ entries_spelled es)
spelled_first e es = ap (λ (z : List ℕ × List ℕ). (string_head (length z.0) ++ z.0) ++ (z.1 ++ entries_spelled es)) (spelled_entry e)

pub all_append : (vs ws : List Val) → all_spelled (vs ++ ws) ≡ all_spelled vs ++ all_spelled ws
all_append [] ws = refl
all_append (v ∷ vs) ws = ap (λ z. spelled v ++ z) (all_append vs ws) ∙ sym (append_assoc (spelled v) (all_spelled vs) (all_spelled ws))

pub entries_append : (es fs : List Entry) → entries_spelled (es ++ fs) ≡ entries_spelled es ++ entries_spelled fs
entries_append [] fs = refl
entries_append (e ∷ es) fs =
    spelled_first e (es ++ fs) ∙ ap (λ z. (string_head (length e.key) ++ e.key) ++ (spelled e.val ++ z)) (entries_append es fs) ∙ rest (string_head (length e.key) ++ e.key) (spelled e.val) (entries_spelled es) (entries_spelled fs) ∙ sym (ap (λ z. z ++ entries_spelled fs) (spelled_first e es)) where
      rest : (k v a b : List ℕ) → k ++ (v ++ (a ++ b)) ≡ (k ++ (v ++ a)) ++ b
      rest k v a b = ap (λ z. k ++ z) (sym (append_assoc v a b)) ∙ sym (append_assoc k (v ++ a) b)
