-- The elements in their places, as one comes or goes.
use Rattle.std.proofs.Common.{◌≡◌, ℕ, zero, suc, inl, inr, List, [], ◌∷◌, ◌++◌, set, slice_get, Option, Some, refl, sym, ap, ◌∙◌, subst, append-nil}
use Rattle.std.proofs.lemmas.Bool.{cases_eq}
use Rattle.al_trie.specs.declared.slots.Slot.{Slot}
use Rattle.al_trie.specs.declared.slots.Slot.TheVariants.{Full, Free}
use Rattle.al_trie.specs.declared.slots.SlotId.{SlotId}
use Rattle.al_trie.specs.Slots.{full, Inserted, HoldsAt, KeepsFull, Among}
use Rattle.al_trie.proofs.Gets.{get-set_other, get-push_old}

in_front : (x e : List ℕ) (xs ys : List (List ℕ)) → Inserted e xs ys → Inserted e (x ∷ xs) (x ∷ ys)
in_front x e xs ys (a, b, old, new) = (x ∷ a, b, ap (λ zs. x ∷ zs) old, ap (λ zs. x ∷ zs) new)

pub Inserted-set : (slots : List Slot) (s : ℕ) (next : Option SlotId) (e : List ℕ) → slice_get slots s ≡ Some (Free next) → Inserted e (full slots) (full (set slots s (Full e)))
Inserted-set [] s next e h = cc
Inserted-set (Full x ∷ slots) zero next e h = cc
Inserted-set (Free m ∷ slots) zero next e h = ([], full slots, refl, refl)
Inserted-set (Full x ∷ slots) (suc s) next e h = in_front x e (full slots) (full (set slots s (Full e))) (Inserted-set slots s next e h)
Inserted-set (Free m ∷ slots) (suc s) next e h = Inserted-set slots s next e h

full-push : (slots : List Slot) (e : List ℕ) → full (slots ++ Full e ∷ []) ≡ full slots ++ e ∷ []
full-push [] e = refl
full-push (Full x ∷ slots) e = ap (λ zs. x ∷ zs) (full-push slots e)
full-push (Free m ∷ slots) e = full-push slots e

pub Inserted-push : (slots : List Slot) (e : List ℕ) → Inserted e (full slots) (full (slots ++ Full e ∷ []))
Inserted-push slots e = (full slots, [], sym (append-nil (full slots)), full-push slots e)

pub Inserted-release : (slots : List Slot) (s : ℕ) (next : Option SlotId) (e : List ℕ) → HoldsAt slots s e → Inserted e (full (set slots s (Free next))) (full slots)
Inserted-release [] s next e h = cc
Inserted-release (Full x ∷ slots) zero next e h = ([], full slots, refl, (λ i. same i ∷ full slots))
  where
    same : x ≡ e
    same = cc
Inserted-release (Free m ∷ slots) zero next e h = cc
Inserted-release (Full x ∷ slots) (suc s) next e h = in_front x e (full (set slots s (Free next))) (full slots) (Inserted-release slots s next e h)
Inserted-release (Free m ∷ slots) (suc s) next e h = Inserted-release slots s next e h

pub KeepsFull-set : (slots : List Slot) (s : ℕ) (next : Option SlotId) (e : List ℕ) → slice_get slots s ≡ Some (Free next) → KeepsFull slots (set slots s (Full e))
KeepsFull-set slots s next e free t x h =
    elim (cases_eq t s) [
      | inl same ↦ absurd (clash (subst (λ n. slice_get slots n ≡ Some (Full x)) same h))
      | inr other ↦ get-set_other slots s t (Full e) other ∙ h
    ]
  where
    clash : slice_get slots s ≡ Some (Full x) → ⊥
    clash g = cc

pub KeepsFull-push : (slots : List Slot) (e : List ℕ) → KeepsFull slots (slots ++ Full e ∷ [])
KeepsFull-push slots e t x h = get-push_old slots t (Full x) (Full e) h

-- an element that was put into a free place is taken back
pub undone_set : (slots : List Slot) (s : ℕ) (old : Option SlotId) (e : List ℕ) (next : Option SlotId) → slice_get slots s ≡ Some (Free old) → full (set (set slots s (Full e)) s (Free next)) ≡ full slots
undone_set [] s old e next h = cc
undone_set (Full x ∷ slots) zero old e next h = cc
undone_set (Free m ∷ slots) zero old e next h = refl
undone_set (Full x ∷ slots) (suc s) old e next h = ap (λ zs. x ∷ zs) (undone_set slots s old e next h)
undone_set (Free m ∷ slots) (suc s) old e next h = undone_set slots s old e next h

pub held_among : (slots : List Slot) (s : ℕ) (x : List ℕ) → HoldsAt slots s x → Among x (full slots)
held_among [] s x h = cc
held_among (Full y ∷ slots) zero x h = inl (same y x h)
  where
    same : (y x : List ℕ) → Some (Full y) ≡ Some (Full x) → x ≡ y
    same y x h = cc
held_among (Free m ∷ slots) zero x h = cc
held_among (Full y ∷ slots) (suc s) x h = inr (held_among slots s x h)
held_among (Free m ∷ slots) (suc s) x h = held_among slots s x h
