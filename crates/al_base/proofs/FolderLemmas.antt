-- A file that is put into a list of files.
use Rattle.std.proofs.Common.{◌≡◌, ◌≢◌, ℕ, ◌<◌, ◌≤◌, Bool, true, false, cond, List, [], ◌∷◌, ◌++◌, length, Some, None, refl, sym, ◌∙◌, subst, arith, suc, zero, one-add, nat_lt}
use Rattle.std.specs.List.{position, position_or_len, find}
use Rattle.std.specs.Str.{bytes_eq}
use Rattle.std.specs.Prelude.{slice_set, option_map}
use Rattle.std.proofs.lemmas.Bool.Decides.{nat_tests}
use Rattle.std.proofs.lemmas.Slice.Eq.{bytes_eq-Decides}
use Rattle.std.proofs.lemmas.Bool.{false_from_ne_true, false≢true}
use Rattle.al_base.specs.Folders.{is_named, file_of, Replaces}
use Rattle.al_base.specs.declared.folder.NamedFile.{NamedFile}

-- where the first file of this name is, or the length where there is none
abbrev pub place : List ℕ → List NamedFile → ℕ
place name files = position_or_len (is_named name) files

differs : (a b : List ℕ) → a ≢ b → bytes_eq a b ≡ false
differs a b ne = false_from_ne_true _ (λ e. ne ((bytes_eq-Decides a b).0 e))

same_name : (a b : List ℕ) → a ≡ b → bytes_eq a b ≡ true
same_name a b e = (bytes_eq-Decides a b).1 e

-- a file in front, of this name, and of another
front : (file : NamedFile) (files : List NamedFile) (name : List ℕ) → file.name ≡ name → file_of (file ∷ files) name ≡ Some file.bytes
front file files name e = rw (same_name file.name name e) refl

behind : (file : NamedFile) (files : List NamedFile) (name : List ℕ) → file.name ≢ name → file_of (file ∷ files) name ≡ file_of files name
behind file files name ne = rw (differs file.name name ne) refl

-- what follows a file is as before, and so is the whole
under : (file : NamedFile) (before now : List NamedFile) (name : List ℕ) → file_of now name ≡ file_of before name → file_of (file ∷ now) name ≡ file_of (file ∷ before) name
under file before now name e =
    elim (is_named name file) as (λ b. option_map (λ f. f.bytes) (cond b (Some file) (find (is_named name) now)) ≡ option_map (λ f. f.bytes) (cond b (Some file) (find (is_named name) before)))
    [ true ↦ refl | false ↦ e ]

place_here : (name : List ℕ) (file : NamedFile) (files : List NamedFile) → is_named name file ≡ true → place name (file ∷ files) ≡ zero
place_here name file files e = rw e refl

place_later : (name : List ℕ) (file : NamedFile) (files : List NamedFile) → is_named name file ≡ false → place name (file ∷ files) ≡ suc (place name files)
place_later name file files e = rw e (one-add (place name files))

-- the file at its place is replaced
replaced_step : (name : List ℕ) (file x : NamedFile) (files : List NamedFile) (b : Bool) → file.name ≡ name → is_named name x ≡ b →
    (place name files < length files → Replaces (file_of files) (file_of (slice_set files (place name files) file)) name file.bytes) →
    place name (x ∷ files) < length (x ∷ files) →
    Replaces (file_of (x ∷ files)) (file_of (slice_set (x ∷ files) (place name (x ∷ files)) file)) name file.bytes
replaced_step name file x files true e q rest h =
    let P : ℕ → Type 0 = λ i. Replaces (file_of (x ∷ files)) (file_of (slice_set (x ∷ files) i file)) name file.bytes in
    subst P (sym (place_here name x files q))
    (front file files name e, λ other ne. behind file files other (λ d. ne (sym d ∙ e)) ∙ sym (behind x files other (λ d. ne (sym d ∙ (bytes_eq-Decides x.name name).0 q))))
replaced_step name file x files false e q rest h =
    let P : ℕ → Type 0 = λ i. Replaces (file_of (x ∷ files)) (file_of (slice_set (x ∷ files) i file)) name file.bytes in
    let later = place_later name x files q in
    let within : place name files < length files = omega (arith, later) in
    let ne : x.name ≢ name = λ d. absurd (false≢true (sym q ∙ same_name x.name name d)) in
    subst P (sym later)
    (behind x (slice_set files (place name files) file) name ne ∙ (rest within).0, λ other other_ne. under x files (slice_set files (place name files) file) other ((rest within).1 other other_ne))

pub replaced : (name : List ℕ) (file : NamedFile) → file.name ≡ name → (files : List NamedFile) → place name files < length files →
    Replaces (file_of files) (file_of (slice_set files (place name files) file)) name file.bytes
replaced name file e [] h = absurd (omega arith)
replaced name file e (x ∷ files) h = replaced_step name file x files (is_named name x) e refl (replaced name file e files) h

-- a file of a new name is appended
appended_step : (name : List ℕ) (file x : NamedFile) (files : List NamedFile) (b : Bool) → file.name ≡ name → is_named name x ≡ b →
    (length files ≤ place name files → Replaces (file_of files) (file_of (files ++ file ∷ [])) name file.bytes) →
    length (x ∷ files) ≤ place name (x ∷ files) →
    Replaces (file_of (x ∷ files)) (file_of (x ∷ (files ++ file ∷ []))) name file.bytes
appended_step name file x files true e q rest h = absurd (omega (arith, place_here name x files q))
appended_step name file x files false e q rest h =
    let later = place_later name x files q in
    let within : length files ≤ place name files = omega (arith, later) in
    let ne : x.name ≢ name = λ d. absurd (false≢true (sym q ∙ same_name x.name name d)) in
    (behind x (files ++ file ∷ []) name ne ∙ (rest within).0, λ other other_ne. under x files (files ++ file ∷ []) other ((rest within).1 other other_ne))

pub appended : (name : List ℕ) (file : NamedFile) → file.name ≡ name → (files : List NamedFile) → length files ≤ place name files →
    Replaces (file_of files) (file_of (files ++ file ∷ [])) name file.bytes
appended name file e [] h = (front file [] name e, λ other ne. behind file [] other (λ d. ne (sym d ∙ e)))
appended name file e (x ∷ files) h = appended_step name file x files (is_named name x) e refl (appended name file e files) h

-- what the test of `position` says
position_found : (k n i : ℕ) → Some i ≡ cond (nat_lt k n) (Some k) None → (i ≡ k) × (k < n)
position_found k n i e = grind (arith, nat_tests)

position_missing : (k n : ℕ) → None ≡ cond (nat_lt k n) (Some k) None → n ≤ k
position_missing k n e = grind (arith, nat_tests)

-- a list whose file at its place was set
pub set_at_place : (name bytes : List ℕ) (file : NamedFile) (files now : List NamedFile) (i : ℕ) → Some i ≡ position (is_named name) files →
    now ≡ slice_set files i file → file.name ≡ name → file.bytes ≡ bytes → Replaces (file_of files) (file_of now) name bytes
set_at_place name bytes file files now i p q e f =
    let found : (i ≡ place name files) × (place name files < length files) = position_found (place name files) (length files) i p in
    let P : ℕ → Type 0 = λ j. now ≡ slice_set files j file in
    let same : now ≡ slice_set files (place name files) file = subst P found.0 q in
    let Q : List NamedFile → Type 0 = λ l. Replaces (file_of files) (file_of l) name bytes in
    let R : List ℕ → Type 0 = λ b. Replaces (file_of files) (file_of (slice_set files (place name files) file)) name b in
    subst Q (sym same) (subst R f (replaced name file e files found.1))

-- a list that a file of a new name was appended to
pub pushed_new : (name bytes : List ℕ) (file : NamedFile) (files now : List NamedFile) → None ≡ position (is_named name) files →
    now ≡ files ++ file ∷ [] → file.name ≡ name → file.bytes ≡ bytes → Replaces (file_of files) (file_of now) name bytes
pushed_new name bytes file files now p q e f =
    let missing : length files ≤ place name files = position_missing (place name files) (length files) p in
    let Q : List NamedFile → Type 0 = λ l. Replaces (file_of files) (file_of l) name bytes in
    let R : List ℕ → Type 0 = λ b. Replaces (file_of files) (file_of (files ++ file ∷ [])) name b in
    subst Q (sym q) (subst R f (appended name file e files missing))
