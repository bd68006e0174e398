-- The counts of an account follow one more row of its own.
use Rattle.std.proofs.Common.{◌≡◌, ◌≤◌, ◌+◌, ℕ, arith, Bool, true, false, ◌&&◌, if◌then◌else◌, Option, Ok, Err, le-leb}
use Rattle.al_base.specs.declared.account.Special.{Special}
use Rattle.al_base.specs.declared.address.Address.{Address}
use Rattle.al_rows.specs.Limits.{max_count}
use Rattle.al_rows.specs.declared.account.AccountRow.{AccountRow}
use Rattle.al_rows.specs.Rows.{RowMap, account, set_account}
use Rattle.al_overlay.specs.Rules.{of_account}
use Rattle.al_moves.specs.declared.resource.Counts.{Counts}
use Rattle.al_moves.specs.Resources.{counts_within, put_counts, recount, recounted, same_counts}
use Rattle.al_taken.proofs.Standings.{At, Good, IsCalm, IsFew, IsMore, Modest, Most, Passes, Rich, all_more, good_user, is_special, is_user, rich_of, set_stands}

pub and_both : (a b : Bool) → a ≡ true → b ≡ true → (a && b) ≡ true
and_both true b e f = f
and_both false b e f = e

-- modest counts pass no most
within : (most boxes : ℕ) (r : AccountRow) → most ≤ 100000000 → boxes ≤ 16 → Modest most boxes r → counts_within r ≡ true
within most boxes r m n h =
    and_both _ _ (and_both _ _ (and_both _ _ (and_both _ _ (and_both _ _ (and_both _ _ (and_both _ _ (and_both _ _
    (le-leb r.assets_held max_count (omega (arith, h.held)))
    (le-leb r.assets_created max_count (omega (arith, h.created))))
    (le-leb r.apps_created max_count (omega (arith, h.held))))
    (le-leb r.apps_opted max_count (omega (arith, h.opted))))
    (le-leb r.extra_pages max_count (omega (arith, h.pages))))
    (le-leb r.uints max_count (omega (arith, h.uints))))
    (le-leb r.byte_slices max_count (omega (arith, h.slices))))
    (le-leb r.boxes max_count (omega (arith, h.boxed))))
    (le-leb r.box_bytes max_count (omega (arith, h.bytes)))

-- a resource row that counts one asset or one application at most
pub record IsSmall (c : Counts) : Type 0 where
  pub held : c.assets_held + c.apps_created ≤ 1
  pub created : c.assets_created ≤ 1
  pub opted : c.apps_opted ≡ 0
  pub pages : c.extra_pages ≡ 0
  pub uints : c.uints ≡ 0
  pub slices : c.byte_slices ≡ 0
  pub boxed : c.boxes ≡ 0
  pub bytes : c.box_bytes ≡ 0

-- a transaction more
abbrev pub counted : Most → Most
counted b = record b { count = b.count + 1 }

rich_recounted : (b : Most) (old new : Counts) (r : AccountRow) → IsSmall new → Rich b r → Rich (counted b) (recounted old new r)
rich_recounted b old new r small h = record {
  counts = record {
    held = omega (arith, h.counts.held, small.held);
    created = omega (arith, h.counts.created, small.created);
    opted = omega (arith, h.counts.opted, small.opted);
    pages = omega (arith, h.counts.pages, small.pages);
    uints = omega (arith, h.counts.uints, small.uints);
    slices = omega (arith, h.counts.slices, small.slices);
    boxed = omega (arith, h.counts.boxed, small.boxed);
    bytes = omega (arith, h.counts.bytes, small.bytes);
  };
  active = h.active;
  money = h.money;
}

-- a box more, of 40 bytes
abbrev pub boxed : Most → Most
boxed b = record b { boxes = b.boxes + 1 }

pub modest_boxed : (most n : ℕ) (old new : Counts) (r : AccountRow) → new.assets_held ≡ 0 → new.assets_created ≡ 0 → new.apps_created ≡ 0 → new.apps_opted ≡ 0 → new.extra_pages ≡ 0 → new.uints ≡ 0 → new.byte_slices ≡ 0 → new.boxes ≡ 1 → new.box_bytes ≡ 40
    → Modest most n r → Modest most (n + 1) (recounted old new r)
modest_boxed most n old new r a b c d e f g i j h = record {
  held = omega (arith, h.held);
  created = omega (arith, h.created);
  opted = omega (arith, h.opted);
  pages = omega (arith, h.pages);
  uints = omega (arith, h.uints);
  slices = omega (arith, h.slices);
  boxed = omega (arith, h.boxed);
  bytes = omega (arith, h.bytes);
}

few_most : (b : Most) → IsFew b → b.count ≤ 100000000
few_most b few = omega (arith, few.money)

pub good_within : (user special : Bool) (b : Most) (r : AccountRow) → special ≡ false → IsFew b → Good user special b r → counts_within r ≡ true
good_within true special b r off few g = within b.count b.boxes r (few_most b few) few.boxed g.counts
good_within false true b r off few g = absurd (let x : true ≡ false = off in cc)
good_within false false b r off few g = within 0 b.boxes r (omega arith) few.boxed g.0

module _ (s : Special) (app : Option ℕ) (Q : RowMap → Type 0) (calm : IsCalm Q) where
  -- the counts move, or stay
  pub recount_passes : (b c : Most) (who : Address) (old new : Counts) (m : RowMap) → IsMore b c → IsFew c → counts_within (recounted old new (account m who)) ≡ true → Good (is_user who) (is_special s who) c (recounted old new (account m who)) → At s app Q calm b m → Passes (At s app Q calm c) (recount who old new m)
  unfolding recount
  recount_passes b c who old new m more few in_range good h = by_same (same_counts old new)
    where
      more_at : At s app Q calm c m
      more_at = (all_more s app b c m more h.0, h.1)

      by_range : (t : Bool) → t ≡ true → Passes (At s app Q calm c) (if t then Ok (set_account m who (recounted old new (account m who))) else Err (of_account 65 who))
      by_range true e = (set_stands s app c m who (recounted old new (account m who)) few good more_at.0, calm m who (recounted old new (account m who)) h.1)
      by_range false e = absurd (let x : false ≡ true = e in cc)

      by_same : (t : Bool) → Passes (At s app Q calm c) (if t then Ok m else put_counts m who (recounted old new (account m who)))
      by_same true = more_at
      by_same false = by_range (counts_within (recounted old new (account m who))) in_range

  -- a user gets a resource row
  pub resource_counted : (b : Most) (who : Address) (old new : Counts) (m : RowMap) → is_user who ≡ true → IsFew (counted b) → IsSmall new → At s app Q calm b m → Passes (At s app Q calm (counted b)) (recount who old new m)
  resource_counted b who old new m is few small h =
      let rich = rich_recounted b old new (account m who) small (rich_of s app b m who is h.0) in
      recount_passes b (counted b) who old new m (record { count = omega arith; spent = omega arith; boxes = omega arith }) few
      (within (b.count + 1) b.boxes (recounted old new (account m who)) (few_most (counted b) few) few.boxed rich.counts)
      (good_user s (counted b) who (recounted old new (account m who)) is rich) h
