-- Where the steps of BlendSteps.antt make no difference: the mixing, where one of the alphas is 0 or 1 and the numbers are finite; alpha, where one is 0
-- and the other finite, and where both are 1. Assumes nothing.
use mathlib.Core.Path.{◌≡◌, refl, sym, ap, ◌∙◌}
use lib.Dec.{T}
use lib.Ieee.{Float, binary32, of_bits, add, mul, sub, fits}
use lib.Ieee.Fits.{mul-fits, add-fits, sub-fits}
use lib.Ieee.Scale.{finite}
use Rattle.float_steps.specs.Notation.{◌⊕◌, ◌⊖◌, ◌⊗◌, f1}
use Rattle.ieee_laws.specs.Same.{plain, Same, Zero}
use Rattle.ieee_laws.proofs.Commute.{add_commutes}
use Rattle.ieee_laws.proofs.Zero.{times_zero, zero_times, plus_zero, zero_plus, minus_zero, add_same, mul_same}
use Rattle.standards.specs.Compositing.{αo}
use Rattle.standards.proofs.Conventions.{union, printed, spread, co_by}
use Rattle.standards.proofs.Constants.{by_one, one_by, nought, less_zero}

-- a zero among three factors
pub first : (z x y : Float) → Zero z → T (finite x) → T (finite y) → Zero (z ⊗ x ⊗ y)
first z x y q h k = zero_times binary32 (z ⊗ x) y k (zero_times binary32 z x h q)

pub second : (x z y : Float) → T (finite x) → Zero z → T (finite y) → Zero (x ⊗ z ⊗ y)
second x z y h q k = zero_times binary32 (x ⊗ z) y k (times_zero binary32 x z h q)

fm : (x y : Float) → T (fits binary32 (x ⊗ y))
fm x y = mul-fits binary32 x y

fa : (x y : Float) → T (fits binary32 (x ⊕ y))
fa x y = add-fits binary32 x y

module _ (v s b : Float) where
  -- an opaque source: what W3C mixes, Cs', alone
  pub source_whole : (ba : Float) → T (fits binary32 ba) → T (finite ba) → T (finite b) → Same (co_by spread v s f1 b ba) ((f1 ⊖ ba) ⊗ s ⊕ ba ⊗ v)
  source_whole ba h g k =
      let X = ba ⊗ v in
      let Y = (f1 ⊖ ba) ⊗ s in
      let N = ba ⊗ (f1 ⊖ f1) ⊗ b in
      (λ i. plain (one_by ba h i ⊗ v ⊕ (one_by (f1 ⊖ ba) (sub-fits binary32 f1 ba) i ⊗ s ⊕ N)))
      ∙ add_same binary32 X X (Y ⊕ N) Y refl (plus_zero binary32 Y N (fm (f1 ⊖ ba) s) (second ba (f1 ⊖ f1) b g nought k))
      ∙ ap plain (add_commutes binary32 X Y)

  pub source_one : (ba : Float) → T (fits binary32 ba) → T (finite ba) → T (finite b) → Same (co_by spread v s f1 b ba) (co_by printed v s f1 b ba)
  source_one ba h g k =
      let S = (f1 ⊖ ba) ⊗ s ⊕ ba ⊗ v in
      let M = (f1 ⊖ f1) ⊗ ba ⊗ b in
      let S-fits = fa ((f1 ⊖ ba) ⊗ s) (ba ⊗ v) in
      source_whole ba h g k
      ∙ sym (plus_zero binary32 S M S-fits (first (f1 ⊖ f1) ba b nought g k))
      ∙ ap (λ (w : Float). plain (w ⊕ M)) (sym (one_by S S-fits))

  -- an opaque backdrop
  pub backdrop_one : (sa : Float) → T (fits binary32 sa) → T (fits binary32 v) → T (finite sa) → T (finite s) → Same (co_by spread v s sa b f1) (co_by printed v s sa b f1)
  backdrop_one sa h hv g k =
      let X = sa ⊗ v in
      let Y = (f1 ⊖ sa) ⊗ b in
      let N = sa ⊗ (f1 ⊖ f1) ⊗ s in
      let M = (f1 ⊖ f1) ⊗ s in
      let m : Zero M = zero_times binary32 (f1 ⊖ f1) s k nought in
      (λ i. plain (by_one sa h i ⊗ v ⊕ (N ⊕ one_by (f1 ⊖ sa) (sub-fits binary32 f1 sa) i ⊗ b)))
      ∙ add_same binary32 X X (N ⊕ Y) Y refl (zero_plus binary32 N Y (fm (f1 ⊖ sa) b) (second sa (f1 ⊖ f1) s g nought k))
      ∙ sym (add_same binary32 (sa ⊗ (M ⊕ f1 ⊗ v)) X ((f1 ⊖ sa) ⊗ f1 ⊗ b) Y
      (mul_same binary32 sa sa (M ⊕ f1 ⊗ v) v refl (ap (λ (w : Float). plain (M ⊕ w)) (one_by v hv) ∙ zero_plus binary32 M v hv m))
      (ap (λ (w : Float). plain (w ⊗ b)) (by_one (f1 ⊖ sa) (sub-fits binary32 f1 sa))))

  -- a source of no coverage
  pub source_zero : (sa ba : Float) → Zero sa → T (fits binary32 ba) → T (finite ba) → T (finite (f1 ⊖ ba)) → T (finite s) → T (finite v) → T (finite ((f1 ⊖ ba) ⊗ s ⊕ ba ⊗ v))
      → Same (co_by spread v s sa b ba) (co_by printed v s sa b ba)
  source_zero sa ba q h g g' ks kv kz =
      let Y = ba ⊗ b in
      let N = sa ⊗ ba ⊗ v in
      let M = sa ⊗ (f1 ⊖ ba) ⊗ s in
      let Z = (f1 ⊖ ba) ⊗ s ⊕ ba ⊗ v in
      let l : Same (ba ⊗ (f1 ⊖ sa) ⊗ b) Y = mul_same binary32 (ba ⊗ (f1 ⊖ sa)) ba b b (mul_same binary32 ba ba (f1 ⊖ sa) f1 refl (less_zero sa q) ∙ ap plain (by_one ba h)) refl in
      let r : Same ((f1 ⊖ sa) ⊗ ba ⊗ b) Y = mul_same binary32 ((f1 ⊖ sa) ⊗ ba) ba b b (mul_same binary32 (f1 ⊖ sa) f1 ba ba (less_zero sa q) refl ∙ ap plain (one_by ba h)) refl in
      zero_plus binary32 N (M ⊕ ba ⊗ (f1 ⊖ sa) ⊗ b) (fa M (ba ⊗ (f1 ⊖ sa) ⊗ b)) (first sa ba v q g kv)
      ∙ zero_plus binary32 M (ba ⊗ (f1 ⊖ sa) ⊗ b) (fm (ba ⊗ (f1 ⊖ sa)) b) (first sa (f1 ⊖ ba) s q g' ks)
      ∙ l
      ∙ sym r
      ∙ sym (zero_plus binary32 (sa ⊗ Z) ((f1 ⊖ sa) ⊗ ba ⊗ b) (fm ((f1 ⊖ sa) ⊗ ba) b) (zero_times binary32 sa Z kz q))

  -- a backdrop of no coverage
  pub backdrop_zero : (sa ba : Float) → Zero ba → T (fits binary32 sa) → T (fits binary32 s) → T (finite sa) → T (finite (f1 ⊖ sa)) → T (finite v) → T (finite b)
      → Same (co_by spread v s sa b ba) (co_by printed v s sa b ba)
  backdrop_zero sa ba q h hs g g' kv kb =
      let X = sa ⊗ s in
      let N = sa ⊗ ba ⊗ v in
      let M = ba ⊗ (f1 ⊖ sa) ⊗ b in
      let P = (f1 ⊖ sa) ⊗ ba ⊗ b in
      let l : Same (sa ⊗ (f1 ⊖ ba) ⊗ s) X = mul_same binary32 (sa ⊗ (f1 ⊖ ba)) sa s s (mul_same binary32 sa sa (f1 ⊖ ba) f1 refl (less_zero ba q) ∙ ap plain (by_one sa h)) refl in
      let c : Same ((f1 ⊖ ba) ⊗ s) s = mul_same binary32 (f1 ⊖ ba) f1 s s (less_zero ba q) refl ∙ ap plain (one_by s hs) in
      let r : Same ((f1 ⊖ ba) ⊗ s ⊕ ba ⊗ v) s = plus_zero binary32 ((f1 ⊖ ba) ⊗ s) (ba ⊗ v) (fm (f1 ⊖ ba) s) (zero_times binary32 ba v kv q) ∙ c in
      zero_plus binary32 N (sa ⊗ (f1 ⊖ ba) ⊗ s ⊕ M) (fa (sa ⊗ (f1 ⊖ ba) ⊗ s) M) (second sa ba v g q kv)
      ∙ plus_zero binary32 (sa ⊗ (f1 ⊖ ba) ⊗ s) M (fm (sa ⊗ (f1 ⊖ ba)) s) (first ba (f1 ⊖ sa) b q g' kb)
      ∙ l
      ∙ sym (plus_zero binary32 (sa ⊗ ((f1 ⊖ ba) ⊗ s ⊕ ba ⊗ v)) P (fm sa ((f1 ⊖ ba) ⊗ s ⊕ ba ⊗ v)) (second (f1 ⊖ sa) ba b g' q kb)
      ∙ mul_same binary32 sa sa ((f1 ⊖ ba) ⊗ s ⊕ ba ⊗ v) s refl r)

-- ---- alpha
pub union_source_zero : (sa da : Float) → Zero sa → T (fits binary32 da) → T (finite da) → Same (union sa da) (αo sa da)
union_source_zero sa da q h g =
    minus_zero binary32 (sa ⊕ da) (sa ⊗ da) (fa sa da) (zero_times binary32 sa da g q)
    ∙ add_same binary32 sa sa da (da ⊗ (f1 ⊖ sa)) refl (sym (mul_same binary32 da da (f1 ⊖ sa) f1 refl (less_zero sa q) ∙ ap plain (by_one da h)))

pub union_backdrop_zero : (sa da : Float) → Zero da → T (finite sa) → T (finite (f1 ⊖ sa)) → Same (union sa da) (αo sa da)
union_backdrop_zero sa da q g g' =
    minus_zero binary32 (sa ⊕ da) (sa ⊗ da) (fa sa da) (times_zero binary32 sa da g q)
    ∙ add_same binary32 sa sa da (da ⊗ (f1 ⊖ sa)) refl (q ∙ sym (zero_times binary32 da (f1 ⊖ sa) g' q))

pub union_both_one : union f1 f1 ≡ αo f1 f1
unfolding of_bits add sub mul
union_both_one = refl
