-- The fields of an application's call that are kept as they stand.
use Rattle.std.specs.Prelude.{◌&&◌, ◌||◌, ◌==◌, ◌++◌, ℕ, suc, Bool, not, codes, take, drop, List, [], ◌∷◌, if◌then◌else◌}
use Rattle.std.specs.List.{list_all, starts_with}
use Rattle.std.specs.Str.{bytes_eq}
use Rattle.std.specs.Ordering.{is_lt, nat_cmp}
use Rattle.std.specs.Cmp.Lexicographic.{slice_cmp}
use Rattle.al_msgpack.specs.declared.val.Entry.{Entry}

-- `al`, or begins with `ap`, but neither `apar` nor the application's own number
abbrev pub is_kept : List ℕ → Bool
is_kept name = bytes_eq name (codes "al") || (starts_with ◌==◌ name (codes "ap") && (not (bytes_eq name (codes "apar")) && not (bytes_eq name (codes "apid"))))

abbrev pub are_kept : List Entry → Bool
are_kept es = list_all (λ e. is_kept e.key) es

abbrev pub kept : List Entry → List Entry
kept [] = []
kept (e ∷ es) = if is_kept e.key then e ∷ kept es else kept es

abbrev pub others : List Entry → List Entry
others [] = []
others (e ∷ es) = if is_kept e.key then others es else e ∷ others es

-- how many entries at the front have lower keys
abbrev pub below : List ℕ → List Entry → ℕ
below key [] = 0
below key (e ∷ es) = if is_lt (slice_cmp nat_cmp e.key key) then suc (below key es) else 0

-- two lists of entries as one, in the order of their keys
abbrev pub merged : List Entry → List Entry → List Entry
merged ks [] = ks
merged ks (e ∷ es) = take (below e.key ks) ks ++ e ∷ merged (drop (below e.key ks) ks) es
