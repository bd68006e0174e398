-- A value by its first byte, and values of each depth.
use Rattle.std.proofs.Common.{◌≡◌, ℕ, zero, suc, ◌-◌, ◌^◌, ◌<◌, ◌≤◌, Bool, true, false, List, [], ◌∷◌, ◌++◌, length, Option, Some, None, refl, sym, ap, subst, ◌∙◌, arith, inl, inr, ◌⊎◌}
use Rattle.std.proofs.lemmas.Bool.{ltb-true, lt-ltb}
use Rattle.al_msgpack.specs.declared.val.Val.{Val}
use Rattle.al_msgpack.specs.declared.val.Val.TheVariants as vals
use Rattle.al_msgpack.specs.declared.head.Head.{Head}
use Rattle.al_msgpack.specs.declared.head.Head.TheVariants as heads
use Rattle.al_msgpack.specs.Heads.{head_at, is_open}
use Rattle.al_msgpack.specs.Reading.{Read, then_at, byte_at, size_at, string_at, list_at, map_at, all_by, entries_by, is_head, body_by, no_value, value_at}
use Rattle.al_msgpack.specs.Grammar.{Spelling}
use Rattle.al_msgpack.specs.Spelling as spell
use Rattle.al_msgpack.specs.Spelling.{Near, Far, NumIs, Counted, StringHead, BytesHead, ListHead, MapHead, PlainIs, NestIs, Spells, AllSpelled, EntriesSpelled}
use Rattle.al_msgpack.proofs.Exact.{Takes, Exact, Then, then_takes, then_exact, takes_from, exact_as, PureOf, pure_takes, pure_exact, Mapped, mapped_takes, mapped_exact, ByteOf, byte_takes, byte_exact}
use Rattle.al_msgpack.proofs.Numbers.{Any}
use Rattle.al_msgpack.proofs.Heads.{line_of, SizeOf, Num_headed, Num_is, Num_fits, Str_headed, Str_is, Str_fits, Bin_headed, Bin_is, Bin_fits, Row_headed, Row_is, Row_fits, Map_headed, Map_is, Map_fits}
use Rattle.al_msgpack.proofs.Sizes.{size_takes, size_exact, size_live, StringBody, string_takes, string_exact, string_live, counted_split, counted_join, limit}
use Rattle.al_msgpack.proofs.Nest.{AllOf, all_takes, all_live, all_exact, Inner, EntriesOf, entries_take, entries_live, entries_exact}

abbrev pub BodyOf : Spelling Val → Option Head → Spelling Val
BodyOf S None v c = ⊥
BodyOf S (Some (heads.Num size)) v c = Mapped vals.Num (SizeOf size) v c
BodyOf S (Some (heads.Flag b)) v c = PureOf (vals.Flag b) v c
BodyOf S (Some (heads.Str size)) v c = Mapped vals.Str (StringBody size) v c
BodyOf S (Some (heads.Bin size)) v c = Mapped vals.Bin (StringBody size) v c
BodyOf S (Some (heads.List size)) v c = Mapped vals.List (Then (SizeOf size) (λ n. AllOf S n)) v c
BodyOf S (Some (heads.Map size)) v c = Mapped vals.Map (Then (SizeOf size) (λ n. EntriesOf S None n)) v c

abbrev head_ok : ℕ → ℕ → Bool
head_ok depth h = is_head depth (head_at h)

abbrev pub ValueOf : ℕ → Spelling Val → Spelling Val
ValueOf depth S = Then (ByteOf (head_ok depth)) (λ h. BodyOf S (head_at h))

abbrev pub value_by : ℕ → (List ℕ → Read Val) → List ℕ → Read Val
value_by depth one = then_at (byte_at (head_ok depth)) (λ h. body_by one (head_at h))

flag_no : head_at 0xc2 ≡ Some (heads.Flag false)
unfolding head_at
flag_no = refl

flag_yes : head_at 0xc3 ≡ Some (heads.Flag true)
unfolding head_at
flag_yes = refl

-- ---- the relation by first bytes

module _ (depth : ℕ) (S : Spelling Val) where
  build : (v : Val) (b : List ℕ) (h : ℕ) (c : List ℕ) (x : Head) → b ≡ h ∷ c → h < 256 → head_at h ≡ Some x → is_open depth x ≡ true → BodyOf S (Some x) v c → ValueOf depth S v b
  build v b h c x e small at open_is body = (h, h ∷ [], c, e, (refl, small, ap (is_head depth) at ∙ open_is), subst (λ z. BodyOf S z v c) (sym at) body)

  split_plain : (v : Val) (b : List ℕ) → PlainIs v b → ValueOf depth S v b
  split_plain v b (spell.number n e p) = let h = Num_headed n b p in build v b h.first h.behind (heads.Num h.size) h.is h.small h.kind refl (n, e, h.sized)
  split_plain v b (spell.no e is) = build v b 0xc2 [] (heads.Flag false) is (omega arith) flag_no refl (e, refl)
  split_plain v b (spell.yes e is) = build v b 0xc3 [] (heads.Flag true) is (omega arith) flag_yes refl (e, refl)
  split_plain v b (spell.string s e p) = let h = counted_split heads.Str StringHead Str_headed Str_is s b p in build v b h.0 h.1 (heads.Str h.2) h.4 h.3 h.5 refl (s, e, h.6)
  split_plain v b (spell.bytes s e p) = let h = counted_split heads.Bin BytesHead Bin_headed Bin_is s b p in build v b h.0 h.1 (heads.Bin h.2) h.4 h.3 h.5 refl (s, e, h.6)

  split_nest : 0 < depth → (v : Val) (b : List ℕ) → NestIs S v b → ValueOf depth S v b
  split_nest deep v b (spell.list vs a c e head is p) =
      let h = Row_headed (length vs) a head in
      build v b h.first (h.behind ++ c) (heads.List h.size) (is ∙ ap (λ z. z ++ c) h.is) h.small h.kind (lt-ltb 0 depth deep) (vs, e, (length vs, h.behind, c, refl, h.sized, (refl, p)))
  split_nest deep v b (spell.map es a c e head is p) =
      let h = Map_headed (length es) a head in
      build v b h.first (h.behind ++ c) (heads.Map h.size) (is ∙ ap (λ z. z ++ c) h.is) h.small h.kind (lt-ltb 0 depth deep) (es, e, (length es, h.behind, c, refl, h.sized, (refl, p)))

  abbrev Valued : Val → List ℕ → Type 0
  Valued v b = PlainIs v b ⊎ ((0 < depth) × NestIs S v b)

  join_body : (v : Val) (b : List ℕ) (h : ℕ) (c : List ℕ) → b ≡ h ∷ c → (o : Option Head) → head_at h ≡ o → is_head depth o ≡ true → BodyOf S o v c → Valued v b
  join_body v b h c e None at ok body = absurd body
  join_body v b h c e (Some (heads.Num size)) at ok (n, is, p) = inl (spell.number n is (Num_is n h size b c at e p))
  join_body v b h c e (Some (heads.Flag false)) at ok (is, p) = inl (spell.no is (e ∙ ap (λ z. h ∷ z) p ∙ ap (λ z. z ∷ []) (line_of h (heads.Flag false) at)))
  join_body v b h c e (Some (heads.Flag true)) at ok (is, p) = inl (spell.yes is (e ∙ ap (λ z. h ∷ z) p ∙ ap (λ z. z ∷ []) (line_of h (heads.Flag true) at)))
  join_body v b h c e (Some (heads.Str size)) at ok (s, is, p) = inl (spell.string s is (counted_join heads.Str StringHead Str_headed Str_is s b h c size at e p))
  join_body v b h c e (Some (heads.Bin size)) at ok (s, is, p) = inl (spell.bytes s is (counted_join heads.Bin BytesHead Bin_headed Bin_is s b h c size at e p))
  join_body v b h c e (Some (heads.List size)) at ok (vs, is, (n, a, x, c-is, sized, (len, p))) =
      inr (ltb-true 0 depth ok, spell.list vs (h ∷ a) x is (subst (λ z. ListHead z (h ∷ a)) (sym len) (Row_is n h size (h ∷ a) a at refl sized)) (e ∙ ap (λ z. h ∷ z) c-is) p)
  join_body v b h c e (Some (heads.Map size)) at ok (es, is, (n, a, x, c-is, sized, (len, p))) =
      inr (ltb-true 0 depth ok, spell.map es (h ∷ a) x is (subst (λ z. MapHead z (h ∷ a)) (sym len) (Map_is n h size (h ∷ a) a at refl sized)) (e ∙ ap (λ z. h ∷ z) c-is) p)

  join : (v : Val) (b : List ℕ) → ValueOf depth S v b → Valued v b
  join v b (h, a, c, e, (one, small, ok), body) = join_body v b h c (e ∙ ap (λ z. z ++ c) one) (head_at h) refl ok body

-- ---- readers

map_count : (n : ℕ) (b : List ℕ) → MapHead n b → n < 2 ^ 32
map_count n b (spell.map_0 p) = omega (arith, p.below)
map_count n b (spell.map_2 p) = omega (arith, p.fits)
map_count n b (spell.map_4 p) = omega (arith, p.fits)

module _ (S : Spelling Val) (one : List ℕ → Read Val) (takes : Takes S one) where
  body_takes : (o : Option Head) → Takes (BodyOf S o) (body_by one o)
  body_takes None v b rest p = absurd p
  body_takes (Some (heads.Num size)) v b rest p = mapped_takes vals.Num (SizeOf size) (size_at size) (size_takes size) v b rest p
  body_takes (Some (heads.Flag x)) v b rest p = pure_takes (vals.Flag x) v b rest p
  body_takes (Some (heads.Str size)) v b rest p = mapped_takes vals.Str (StringBody size) (string_at size) (string_takes size) v b rest p
  body_takes (Some (heads.Bin size)) v b rest p = mapped_takes vals.Bin (StringBody size) (string_at size) (string_takes size) v b rest p
  body_takes (Some (heads.List size)) v b rest p =
      mapped_takes vals.List (Then (SizeOf size) (λ n. AllOf S n)) (list_at one size) (then_takes (SizeOf size) (λ n. AllOf S n) (size_at size) (λ n. all_by one n) (size_takes size) (λ n a q. all_takes S one takes n)) v b rest p
  body_takes (Some (heads.Map size)) v b rest p =
      mapped_takes vals.Map (Then (SizeOf size) (λ n. EntriesOf S None n)) (map_at one size) (then_takes (SizeOf size) (λ n. EntriesOf S None n) (size_at size) (λ n. entries_by one None n) (size_takes size) (λ n a q. entries_take S one takes n None)) v b rest p

  value_takes : (depth : ℕ) → Takes (ValueOf depth S) (value_by depth one)
  value_takes depth = then_takes (ByteOf (head_ok depth)) (λ h. BodyOf S (head_at h)) (byte_at (head_ok depth)) (λ h. body_by one (head_at h)) (byte_takes (head_ok depth)) (λ h a p. body_takes (head_at h))

  module _ (depth : ℕ) (inner : 0 < depth → Inner S one) where
    body_exact : (n : ℕ) → n ≤ limit → (h : ℕ) (o : Option Head) → head_at h ≡ o → is_head depth o ≡ true → Exact n (BodyOf S o) Any (body_by one o)
    body_exact n le h None at ok = absurd cc
    body_exact n le h (Some (heads.Num size)) at ok = mapped_exact vals.Num (SizeOf size) (size_at size) n Any Any (λ v q. tt) (size_exact n size (Num_fits h size at))
    body_exact n le h (Some (heads.Flag x)) at ok = pure_exact n (vals.Flag x) Any tt
    body_exact n le h (Some (heads.Str size)) at ok = mapped_exact vals.Str (StringBody size) (string_at size) n Any Any (λ v q. tt) (string_exact n size (Str_fits h size at))
    body_exact n le h (Some (heads.Bin size)) at ok = mapped_exact vals.Bin (StringBody size) (string_at size) n Any Any (λ v q. tt) (string_exact n size (Bin_fits h size at))
    body_exact n le h (Some (heads.List size)) at ok =
        let i = inner (ltb-true 0 depth ok) in
        mapped_exact vals.List (Then (SizeOf size) (λ n. AllOf S n)) (list_at one size) n Any Any (λ v q. tt)
        (then_exact (SizeOf size) (λ n. AllOf S n) (size_at size) (λ n. all_by one n) n Any Any (size_takes size) (size_exact n size (Row_fits h size at))
        (λ m a p g. all_exact S one takes i m (n - length a) (omega arith))
        (λ m a p g. let r = all_live S one takes i m in (r.0, r.1, r.2, tt)))
    body_exact n le h (Some (heads.Map size)) at ok =
        let i = inner (ltb-true 0 depth ok) in
        mapped_exact vals.Map (Then (SizeOf size) (λ n. EntriesOf S None n)) (map_at one size) n Any Any (λ v q. tt)
        (then_exact (SizeOf size) (λ n. EntriesOf S None n) (size_at size) (λ n. entries_by one None n) n Any Any (size_takes size) (size_exact n size (Map_fits h size at))
        (λ m a p g. entries_exact S one takes i m (map_count m (h ∷ a) (Map_is m h size (h ∷ a) a at refl p)) None tt (omega arith) (n - length a) (omega arith))
        (λ m a p g. let r = entries_live S one takes i None tt (omega arith) m (map_count m (h ∷ a) (Map_is m h size (h ∷ a) a at refl p)) in (r.0, r.1, r.2, tt)))

    body_live : (h : ℕ) (o : Option Head) → head_at h ≡ o → is_head depth o ≡ true → (w : Val) × (c : List ℕ) × BodyOf S o w c × Any w
    body_live h None at ok = absurd cc
    body_live h (Some (heads.Num size)) at ok = let r = size_live size (Num_fits h size at) in (vals.Num r.0, r.1, (r.0, refl, r.2), tt)
    body_live h (Some (heads.Flag x)) at ok = (vals.Flag x, [], (refl, refl), tt)
    body_live h (Some (heads.Str size)) at ok = let r = string_live size (Str_fits h size at) in (vals.Str r.0, r.1, (r.0, refl, r.2), tt)
    body_live h (Some (heads.Bin size)) at ok = let r = string_live size (Bin_fits h size at) in (vals.Bin r.0, r.1, (r.0, refl, r.2), tt)
    body_live h (Some (heads.List size)) at ok =
        let m = size_live size (Row_fits h size at) in
        let r = all_live S one takes (inner (ltb-true 0 depth ok)) m.0 in
        (vals.List r.0, m.1 ++ r.1, (r.0, refl, (m.0, m.1, r.1, refl, m.2, r.2)), tt)
    body_live h (Some (heads.Map size)) at ok =
        let m = size_live size (Map_fits h size at) in
        let r = entries_live S one takes (inner (ltb-true 0 depth ok)) None tt (omega arith) m.0 (map_count m.0 (h ∷ m.1) (Map_is m.0 h size (h ∷ m.1) m.1 at refl m.2)) in
        (vals.Map r.0, m.1 ++ r.1, (r.0, refl, (m.0, m.1, r.1, refl, m.2, r.2)), tt)

    value_exact : (n : ℕ) → n ≤ limit → Exact n (ValueOf depth S) Any (value_by depth one)
    value_exact n le =
        then_exact (ByteOf (head_ok depth)) (λ h. BodyOf S (head_at h)) (byte_at (head_ok depth)) (λ h. body_by one (head_at h)) n Any Any
        (byte_takes (head_ok depth))
        (byte_exact (head_ok depth) n Any 0xc2 (omega arith) (ap (is_head depth) flag_no) tt)
        (λ h a p g. body_exact (n - length a) (omega arith) h (head_at h) refl p.2)
        (λ h a p q. body_live h (head_at h) refl p.2)

-- ---- by depth

abbrev zero_at : Spelling Val
zero_at v b = ⊥

spelled_as : (depth : ℕ) (v : Val) (b : List ℕ) → Valued (suc depth) (Spells depth) v b → Spells (suc depth) v b
unfolding Spells
spelled_as depth v b (inl p) = inl p
spelled_as depth v b (inr p) = inr p.1

spelled_by : (depth : ℕ) (v : Val) (b : List ℕ) → Spells (suc depth) v b → ValueOf (suc depth) (Spells depth) v b
unfolding Spells
spelled_by depth v b (inl p) = split_plain (suc depth) (Spells depth) v b p
spelled_by depth v b (inr p) = split_nest (suc depth) (Spells depth) (omega arith) v b p

flat_as : (v : Val) (b : List ℕ) → ValueOf 0 zero_at v b → Spells 0 v b
unfolding Spells
flat_as v b p = by (join 0 zero_at v b p)
  where
    by : Valued 0 zero_at v b → PlainIs v b
    by (inl q) = q
    by (inr q) = absurd (omega (arith, q.0))

flat_by : (v : Val) (b : List ℕ) → Spells 0 v b → ValueOf 0 zero_at v b
unfolding Spells
flat_by v b p = split_plain 0 zero_at v b p

-- every spelling in front is taken
pub spells_takes : (depth : ℕ) → Takes (Spells depth) (value_at depth)
unfolding value_at
spells_takes zero = takes_from (ValueOf 0 zero_at) (Spells 0) (value_by 0 no_value) (value_at 0) flat_by (λ bytes. refl) (value_takes zero_at no_value (λ v b rest p. absurd p) 0)
spells_takes (suc depth) = takes_from (ValueOf (suc depth) (Spells depth)) (Spells (suc depth)) (value_by (suc depth) (value_at depth)) (value_at (suc depth)) (spelled_by depth) (λ bytes. refl) (value_takes (Spells depth) (value_at depth) (spells_takes depth) (suc depth))

flag_spelled : (depth : ℕ) → Spells depth (vals.Flag false) (0xc2 ∷ [])
unfolding Spells
flag_spelled zero = spell.no refl refl
flag_spelled (suc depth) = inl (spell.no refl refl)

-- each answer of the reader is right
pub spells_exact : (depth n : ℕ) → n ≤ limit → Exact n (Spells depth) Any (value_at depth)
unfolding value_at
spells_exact zero n le =
    exact_as (ValueOf 0 zero_at) (Spells 0) flat_as flat_by (value_by 0 no_value) (value_at 0) (λ bytes. refl) n Any Any (λ v q. tt)
    (value_exact zero_at no_value (λ v b rest p. absurd p) 0 (λ h. absurd (omega arith)) n le)
spells_exact (suc depth) n le =
    let inner : 0 < suc depth → Inner (Spells depth) (value_at depth) = λ h. record { exact = spells_exact depth; some = vals.Flag false; some_bytes = 0xc2 ∷ []; some_is = flag_spelled depth } in
    exact_as (ValueOf (suc depth) (Spells depth)) (Spells (suc depth)) (λ v b p. spelled_as depth v b (join (suc depth) (Spells depth) v b p)) (spelled_by depth) (value_by (suc depth) (value_at depth)) (value_at (suc depth)) (λ bytes. refl) n Any Any (λ v q. tt)
    (value_exact (Spells depth) (value_at depth) (spells_takes depth) (suc depth) inner n le)
