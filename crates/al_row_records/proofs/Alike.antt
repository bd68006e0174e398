-- What the elements of rows show.
use Rattle.std.proofs.Common.{◌≡◌, ℕ, suc, ◌^◌, ◌%◌, ◌<◌, ◌≤◌, List, ◌∷◌, ◌++◌, take, drop, get_or, length, refl, sym, ap, ◌∙◌, arith}
use Rattle.std.specs.Int.{w32, from_be_bytes}
use Rattle.std.proofs.lemmas.Nat.{from_be_bytes-to_be_bytes_4}
use Rattle.std.proofs.lemmas.List.{length-take-le}
use Rattle.sha2.specs.Sha512.{sha512_256}
use Rattle.sha2.proofs.Facts512.{length-sha512_256}
use Rattle.al_base.specs.declared.key.Key.{Key}
use Rattle.al_digest.specs.Digests.{prefix_of}
use Rattle.al_digest.specs.declared.hashing.Prefix.TheVariants as prefixes
use Rattle.al_msgpack.specs.Grammar.{digits}
use Rattle.al_msgpack.proofs.Written.{be_4}
use Rattle.al_rows.specs.declared.row.Row.{Row}
use Rattle.al_rows.specs.declared.stored.Stored.{Stored}
use Rattle.al_row_records.specs.Element.{AreAlike, element_of, kind_of, row_digest, row_string}

-- four digits tell the number
same_number : (m n : ℕ) → m < 2 ^ 32 → n < 2 ^ 32 → digits 4 m ≡ digits 4 n → m ≡ n
same_number m n hm hn e =
    sym (from_be_bytes-to_be_bytes_4 m hm)
    ∙ ap (from_be_bytes w32) (be_4 m hm ∙ e ∙ sym (be_4 n hn))
    ∙ from_be_bytes-to_be_bytes_4 n hn

-- the parts of a list that begins with four digits and one more number
front : (n k : ℕ) (zs : List ℕ) → take 4 (digits 4 n ++ k ∷ zs) ≡ digits 4 n
front n k zs = refl

next : (n k : ℕ) (zs : List ℕ) → get_or (digits 4 n ++ k ∷ zs) 4 0 ≡ k
next n k zs = refl

rest : (n k : ℕ) (zs : List ℕ) → drop 5 (digits 4 n ++ k ∷ zs) ≡ zs
rest n k zs = refl

long : (n k : ℕ) (zs : List ℕ) → length zs ≡ 31 → length (digits 4 n ++ k ∷ zs) ≡ 36
long n k zs l = ap (λ m. suc (suc (suc (suc (suc m))))) l

length-row_digest : (k : Key) (r : Row) → length (row_digest k r) ≡ 31
length-row_digest k r =
    let string = prefix_of prefixes.Row ++ row_string k r in
    let size : 31 ≤ length (sha512_256 string) = omega (arith, length-sha512_256 string) in
    length-take-le 31 (sha512_256 string) size

pub length-element_of : (k : Key) (s : Stored) → length (element_of k s) ≡ 36
unfolding element_of
length-element_of k s = long (s.changed % 2 ^ 32) (kind_of s.row) (row_digest k s.row) (length-row_digest k s.row)

pub alike : (j k : Key) (s t : Stored) → element_of j s ≡ element_of k t → AreAlike j k s t
unfolding element_of
alike j k s t e =
    let m = s.changed % 2 ^ 32 in
    let n = t.changed % 2 ^ 32 in
    record {
      changed = same_number m n (omega arith) (omega arith) (sym (front m (kind_of s.row) (row_digest j s.row)) ∙ ap (take 4) e ∙ front n (kind_of t.row) (row_digest k t.row));
      kind = sym (next m (kind_of s.row) (row_digest j s.row)) ∙ ap (λ zs. get_or zs 4 0) e ∙ next n (kind_of t.row) (row_digest k t.row);
      digest = sym (rest m (kind_of s.row) (row_digest j s.row)) ∙ ap (drop 5) e ∙ rest n (kind_of t.row) (row_digest k t.row);
    }
