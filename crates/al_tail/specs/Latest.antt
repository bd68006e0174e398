-- The greatest last valid round under each id and each sender's lease.
use Rattle.std.specs.Prelude.{◌≡◌, ℕ, List, [], ◌∷◌, ◌++◌, Bool, false, map, if◌then◌else◌, ⊤}
use Rattle.std.specs.declared.cmp.Ordering.{Ordering}
use Rattle.std.specs.declared.cmp.Ordering.TheVariants.{Less, Greater}
use Rattle.std.specs.declared.option.Option.{Option}
use Rattle.std.specs.declared.option.Option.TheVariants.{Some}
use Rattle.std.specs.Cmp.Lexicographic.{slice_cmp}
use Rattle.std.specs.Ordering.{nat_cmp, ordering_then}
use Rattle.std.specs.BTreeMap.{is_at}
use Rattle.std.specs.Map.{lookup}
use Rattle.al_base.specs.Keys.{address_cmp}
use Rattle.al_rows.specs.Rows.{same_bytes}
use Rattle.al_tail.specs.declared.latest.Mark.{Mark}
use Rattle.al_tail.specs.declared.latest.Mark.TheVariants.{Id, Lease}
use Rattle.al_tail.specs.declared.tail.Entry.{Entry}
use Rattle.al_tail.specs.declared.tail.Kept.{Kept}
use Rattle.al_tail.specs.Past.{greatest_last, holds_lease, is_no_lease, later}

-- the order of marks: ids, then leases, each by its bytes
abbrev pub mark_cmp : Mark → Mark → Ordering
mark_cmp (Id a) (Id b) = slice_cmp nat_cmp a b
mark_cmp (Id a) (Lease t m) = Less
mark_cmp (Lease s l) (Id b) = Greater
mark_cmp (Lease s l) (Lease t m) = ordering_then (address_cmp s t) (slice_cmp nat_cmp l m)

-- the round under a mark
abbrev pub at : List (Mark × ℕ) → Mark → Option ℕ
at rounds q = lookup (is_at (mark_cmp q)) rounds

-- the two marks of an entry, the second of which nothing is kept under where it has no lease
abbrev pub id_mark : Entry → Mark
id_mark e = Id e.id

abbrev pub lease_mark : Entry → Mark
lease_mark e = Lease e.sender e.lease

-- whether an entry has the mark
abbrev pub has_mark : Mark → Entry → Bool
has_mark (Id id) e = same_bytes e.id id
has_mark (Lease sender lease) e = holds_lease sender lease e

-- the greatest last valid round of the entries with a mark
abbrev pub last_at : List Entry → Mark → Option ℕ
last_at es q = greatest_last (has_mark q) es

-- the rounds with one entry more
abbrev pub raised : Entry → (Mark → Option ℕ) → Mark → Option ℕ
raised e rounds q = if has_mark q e then Some (later e.last (rounds q)) else rounds q

abbrev pub entries_of : List Kept → List Entry
entries_of ks = map (λ k. k.entry) ks

-- what stood at an entry's marks before it
pub record Knows (rounds : Mark → Option ℕ) (k : Kept) : Type 0 where
  pub id : k.id_before ≡ rounds (id_mark k.entry)
  pub lease : is_no_lease k.entry.lease ≡ false → k.lease_before ≡ rounds (lease_mark k.entry)

-- each entry has what stood at its marks before it, with others in front of all
abbrev pub AllKnow : List Entry → List Kept → Type 0
AllKnow front [] = ⊤
AllKnow front (k ∷ ks) = Knows (last_at front) k × AllKnow (front ++ k.entry ∷ []) ks

-- the rounds are those of the entries, and each entry has what stood before it
pub record IsIndexed (rounds : List (Mark × ℕ)) (ks : List Kept) : Type 0 where
  pub rounds_are : (q : Mark) → at rounds q ≡ last_at (entries_of ks) q
  pub know : AllKnow [] ks
