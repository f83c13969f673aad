-- An enum whose variants hold nothing. A test that is computed for each variant holds of every value; two values with one tag are one; and an arm of a
-- `match` that several variants share, as `A | B` or `_`, has what is computed for those, if they are all that meet its test, in the enum's order. What the
-- toolchain makes of an enum (its `Record`) is all that is used, so that no variant is named here. Assumes nothing.
use mathlib.Core.Path.{◌≡◌, refl, sym, ap, subst, ◌∙◌}
use mathlib.Core.Bool.{Bool, true, false, not, ◌&&◌}
use mathlib.Core.List.{List, [], ◌∷◌}
use mathlib.Core.Logic.{◌⊎◌, inl, inr}
use Prim.Native.Nat.{ℕ, suc, ◌+◌, ◌≤◌}
use native.Mathlib.Nat.{suc_inj, add-suc, suc-add, zero-add}
use native.Mathlib.Omega.{arith}
use lib.Dec.{T, eqb, eqb→eq}
use lib.Ieee.Fits.{and_l, and_r}
use denote.Enum.Declared.{Choice, Record, declared, tag_of, intoss, rowss, values_one}
use denote.Enum.Enum.{tag}
use denote.Struct.Field.{Field}
use types.Run.{OneOf}

-- a test of each variant; a variant that holds something has none
abbrev pub all : (Fss : List (List Field)) → (Choice Fss → Bool) → Bool
all [] f = true
all ([] ∷ Fss) f = f (inl tt) && all Fss (λ c. f (inr c))
all ((F ∷ Fs) ∷ Fss) f = false

every : (Fss : List (List Field)) (f : Choice Fss → Bool) → T (all Fss f) → (c : Choice Fss) → T (f c)
every [] f t c = absurd c
every ([] ∷ Fss) f t (inl v) = and_l (f (inl tt)) (all Fss (λ c. f (inr c))) t
every ([] ∷ Fss) f t (inr c) = every Fss (λ e. f (inr e)) (and_r (f (inl tt)) (all Fss (λ e. f (inr e))) t) c
every ((F ∷ Fs) ∷ Fss) f t c = absurd t

-- two choices with one tag are one
one : (Fss : List (List Field)) → T (all Fss (λ c. true)) → (c e : Choice Fss) → tag (rowss Fss) (intoss Fss c) ≡ tag (rowss Fss) (intoss Fss e) → c ≡ e
one [] t c e p = absurd c
one ([] ∷ Fss) t (inl v) (inl w) p = refl
one ([] ∷ Fss) t (inl v) (inr e) p = absurd (omega arith)
one ([] ∷ Fss) t (inr c) (inl w) p = absurd (omega arith)
one ([] ∷ Fss) t (inr c) (inr e) p = ap inr (one Fss t c e (suc_inj p))
one ((F ∷ Fs) ∷ Fss) t c e p = absurd t

-- one more place, or not
abbrev pub front : Bool → ℕ → List ℕ → List ℕ
front true i ks = i ∷ ks
front false i ks = ks

-- the places of the variants that meet a test, counted from i
abbrev pub keys : (Fss : List (List Field)) → (Choice Fss → Bool) → ℕ → List ℕ
keys [] f i = []
keys ([] ∷ Fss) f i = front (f (inl tt)) i (keys Fss (λ c. f (inr c)) (suc i))
keys ((F ∷ Fs) ∷ Fss) f i = []

-- a number among these places is not below i; if it is a choice's place, the choice meets the test
module _ (ks : List ℕ) (i x : ℕ) where
  at_first : (b : Bool) → OneOf (front b i ks) x → ((x ≡ i) × T b) ⊎ OneOf ks x
  at_first false e = inr e
  at_first true e = first ks e
    where
      first : (ks : List ℕ) → OneOf (i ∷ ks) x → ((x ≡ i) × T true) ⊎ OneOf ks x
      first [] e = inl (e, tt)
      first (k ∷ ks) (inl e) = inl (e, tt)
      first (k ∷ ks) (inr e) = inr e

from : (Fss : List (List Field)) (f : Choice Fss → Bool) (i x : ℕ) → OneOf (keys Fss f i) x → i ≤ x
from [] f i x e = absurd e
from ([] ∷ Fss) f i x e = elim (at_first (keys Fss (λ c. f (inr c)) (suc i)) i x (f (inl tt)) e) [
  | inl h ↦ omega (arith, h.0)
  | inr h ↦ omega (arith, from Fss (λ c. f (inr c)) (suc i) x h)
]
from ((F ∷ Fs) ∷ Fss) f i x e = absurd e

meets : (Fss : List (List Field)) (f : Choice Fss → Bool) (i : ℕ) (c : Choice Fss) → OneOf (keys Fss f i) (i + tag (rowss Fss) (intoss Fss c)) → T (f c)
meets [] f i c e = absurd c
meets ([] ∷ Fss) f i (inl v) e = elim (at_first (keys Fss (λ c. f (inr c)) (suc i)) i (i + 0) (f (inl tt)) e) [
  | inl h ↦ h.1
  | inr h ↦ absurd (omega (arith, from Fss (λ c. f (inr c)) (suc i) (i + 0) h))
]
meets ([] ∷ Fss) f i (inr c) e =
    let p = tag (rowss Fss) (intoss Fss c) in
    elim (at_first (keys Fss (λ c. f (inr c)) (suc i)) i (i + suc p) (f (inl tt)) e) [
      | inl h ↦ absurd (omega (arith, h.0))
      | inr h ↦ meets Fss (λ c. f (inr c)) (suc i) c (subst (λ (x : ℕ). OneOf (keys Fss (λ c. f (inr c)) (suc i)) x) (add-suc i p ∙ sym (suc-add i p)) h)
    ]
meets ((F ∷ Fs) ∷ Fss) f i c e = absurd e

is_true : (b : Bool) → T b → true ≡ b
is_true true t = refl
is_true false t = absurd t

is_false : (b : Bool) → T (not b) → false ≡ b
is_false true t = absurd t
is_false false t = refl

module _ (N : Record) where
  pub each : (f : N.D → Bool) → T (all N.parts (λ c. f (N.make c))) → (d : N.D) → T (f d)
  each f t d = subst (λ (x : N.D). T (f x)) (N.eta d) (every N.parts (λ c. f (N.make c)) t (N.as_values d))

  pub one_tag : T (all N.parts (λ c. true)) → (d e : N.D) → tag_of (declared N) d ≡ tag_of (declared N) e → d ≡ e
  one_tag t d e p = values_one N d e (one N.parts t (N.as_values d) (N.as_values e) p)

  -- the tags of the variants that meet a test, in their order
  abbrev pub keys_of : (N.D → Bool) → List ℕ
  keys_of f = keys N.parts (λ c. f (N.make c)) 0

  -- An arm whose keys are these. The tag x is d's; it is given by itself, so that it is compared once and not key by key.
  in_arm : (f : N.D → Bool) (d : N.D) {x : ℕ} → x ≡ tag_of (declared N) d → OneOf (keys_of f) x → T (f d)
  in_arm f d t e =
      subst (λ (v : N.D). T (f v)) (N.eta d)
      (meets N.parts (λ c. f (N.make c)) 0 (N.as_values d) (rw zero-add (subst (λ (k : ℕ). OneOf (keys_of f) k) t e)))

  -- .. of those that meet a test, and of those that do not
  pub yes_arm : (f : N.D → Bool) (d : N.D) {x : ℕ} → x ≡ tag_of (declared N) d → OneOf (keys_of f) x → true ≡ f d
  yes_arm f d t e = is_true (f d) (in_arm f d t e)

  pub no_arm : (f : N.D → Bool) (d : N.D) {x : ℕ} → x ≡ tag_of (declared N) d → OneOf (keys_of (λ v. not (f v))) x → false ≡ f d
  no_arm f d t e = is_false (f d) (in_arm (λ v. not (f v)) d t e)

-- .. of those that a function to another enum gives the value v
module _ (N K : Record) (plain : T (all K.parts (λ c. true))) (g : N.D → K.D) (v : K.D) where
  abbrev pub gives : N.D → Bool
  gives d = eqb (tag_of (declared K) v) (tag_of (declared K) (g d))

  pub arm_is : (d : N.D) {x : ℕ} → x ≡ tag_of (declared N) d → OneOf (keys_of N gives) x → v ≡ g d
  arm_is d t e = one_tag K plain v (g d) (eqb→eq _ _ (in_arm N gives d t e))
