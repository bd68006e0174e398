-- Values whose maps have keys that rise strictly, at each level: as a test.
use Rattle.std.specs.Prelude.{◌&&◌, ℕ, Bool, true, List, [], ◌∷◌, map}
use Rattle.std.specs.List.{list_all}
use Rattle.std.specs.Ordering.{is_lt, nat_cmp}
use Rattle.std.specs.Cmp.Lexicographic.{slice_cmp}
use Rattle.al_msgpack.specs.declared.val.Val.{Val, fold-Val}
use Rattle.al_msgpack.specs.declared.val.Val.TheOpen.{Val-F, Entry-F}
use Rattle.al_msgpack.specs.declared.val.Entry.{Entry}

-- texts rise strictly, compared byte by byte, a proper prefix first
abbrev pub rises : List (List ℕ) → Bool
rises [] = true
rises (a ∷ []) = true
rises (a ∷ b ∷ rest) = is_lt (slice_cmp nat_cmp a b) && rises (b ∷ rest)

abbrev pub keys : List Entry → List (List ℕ)
keys es = map (λ e. e.key) es

-- of a value whose members are tested by now
abbrev pub rising_step : Val-F Bool (List ℕ × Bool) → Bool
rising_step (Val-F.List bs) = list_all (λ b. b) bs
rising_step (Val-F.Map es) = rises (map (λ e. e.0) es) && list_all (λ e. e.1) es
rising_step v = true

abbrev pub member_step : Entry-F Bool (List ℕ × Bool) → List ℕ × Bool
member_step e = (e.key, e.val)

abbrev pub canonical : Val → Bool
canonical = fold-Val Bool (List ℕ × Bool) rising_step member_step

abbrev pub are_canonical : List Entry → Bool
are_canonical es = rises (keys es) && list_all (λ e. canonical e.val) es
