-- On the documents' own domain, numbers from 0 to 1: every hypothesis of PorterDuff.antt holds there but the one for the colours of Over and DstOver, that
-- the coverage is not at most 0; and what W3C's modes store is so with B as printed, but for ColorBurn of black on white where the product of the alphas is
-- not 0. Assumes nothing.
use mathlib.Core.Path.{◌≡◌, refl, sym, ◌∙◌, subst}
use mathlib.Core.Logic.{inl, inr}
use mathlib.Core.Bool.{Bool, true, false, not, ◌&&◌, true≢false}
use lib.Dec.{T}
use lib.Ieee.{Float, nan, inf, fin, binary32, lt, eq}
use lib.Ieee.Scale.{finite}
use Rattle.float_steps.specs.Notation.{◌⊕◌, ◌⊖◌, ◌⊗◌, f0, f1, half}
use Rattle.ieee_laws.specs.Same.{plain}
use Rattle.ieee_laws.proofs.Zero.{plain_twice, times_zero, add_same}
use Rattle.ieee_laws.proofs.Order.{lt_same}
use Rattle.ieee_laws.proofs.Bound.{add_unsigned}
use Rattle.standards.specs.PorterDuff.{Operator, clear, A, B, AoverB, BoverA, AinB, BinA, AoutB, BoutA, AatopB, BatopA, AxorB, AplusB}
use Rattle.standards.specs.Compositing.{Mode, multiply, screen, overlay, darken, lighten, color_dodge, color_burn, hard_light, soft_light, difference, exclusion}
use Rattle.standards.specs.FractionSteps.{over_coverage, among, steps}
use Rattle.standards.specs.FractionDifferences.{Cleared, ColourOutside, AlphaOutside}
use Rattle.standards.specs.BlendDifferences.{infinite, burns}
use Rattle.standards.proofs.Conventions.{StoredOutside}
use Rattle.standards.specs.Range.{InUnit}
use Rattle.standards.proofs.Constants.{is_zero, none_left}
use Rattle.standards.proofs.LeftOut.{left_finite}
use Rattle.standards.proofs.InRange.{finite_of_lem, unsigned, not_below, product_in, complement_in, one_in, doubles_in}
use Rattle.standards.proofs.BlendRange.{blend_in_lem}
use Rattle.standards.proofs.Blends.{doubled_alike}

-- ---- Porter and Duff
sum_not_below : {x y : Float} → InUnit x → InUnit y → lt (x ⊕ y) f0 ≡ false
sum_not_below {x} {y} p q =
    lt_same (x ⊕ y) (plain x ⊕ plain y) f0 f0 (add_same binary32 x (plain x) y (plain y) (sym (plain_twice x)) (sym (plain_twice y))) refl
    ∙ not_below (plain x ⊕ plain y) (add_unsigned binary32 (plain x) (plain y) (unsigned p) (unsigned q))

-- the operators that do not divide
abbrev pub undivided : Operator → Bool
undivided o = not (among over_coverage (steps o))

module _ {s sa d da : Float} (ps : InUnit s) (psa : InUnit sa) (pd : InUnit d) (pda : InUnit da) where
  source : T (finite (s ⊗ sa))
  source = finite_of_lem (product_in ps psa)

  destination : T (finite (d ⊗ da))
  destination = finite_of_lem (product_in pd pda)

  pub alpha_outside : (o : Operator) → AlphaOutside o sa da
  alpha_outside clear = (finite_of_lem psa, finite_of_lem pda)
  alpha_outside A = left_finite da sa (finite_of_lem pda)
  alpha_outside B = left_finite sa da (finite_of_lem psa)
  alpha_outside AoverB = sum_not_below (product_in psa one_in) (product_in pda (complement_in psa))
  alpha_outside BoverA = sum_not_below (product_in psa (complement_in pda)) (product_in pda one_in)
  alpha_outside AinB = left_finite da (sa ⊗ da) (finite_of_lem pda)
  alpha_outside BinA = (left_finite sa (da ⊗ sa) (finite_of_lem psa), (product_in pda psa).low)
  alpha_outside AoutB = left_finite da (sa ⊗ (f1 ⊖ da)) (finite_of_lem pda)
  alpha_outside BoutA = (left_finite sa (da ⊗ (f1 ⊖ sa)) (finite_of_lem psa), (product_in pda (complement_in psa)).low)
  alpha_outside AatopB = tt
  alpha_outside BatopA = tt
  alpha_outside AxorB = tt
  alpha_outside AplusB = tt

  cleared : {a : Float} → InUnit a → Cleared a (d ⊗ a)
  cleared {a} p t = times_zero binary32 d a (finite_of_lem pd) (is_zero a p.held (none_left a p.held p.low t))

  pub colour_outside : (o : Operator) → T (undivided o) → ColourOutside o s sa d da
  colour_outside clear w = (source, destination)
  colour_outside A w = left_finite (d ⊗ da) (s ⊗ sa) destination
  colour_outside B w = left_finite (s ⊗ sa) (d ⊗ da) source
  colour_outside AoverB w = absurd w
  colour_outside BoverA w = absurd w
  colour_outside AinB w = left_finite (d ⊗ da) (s ⊗ (sa ⊗ da)) destination
  colour_outside BinA w = (left_finite (s ⊗ sa) (d ⊗ (da ⊗ sa)) source, cleared (product_in pda psa))
  colour_outside AoutB w = left_finite (d ⊗ da) (s ⊗ (sa ⊗ (f1 ⊖ da))) destination
  colour_outside BoutA w = (left_finite (s ⊗ sa) (d ⊗ (da ⊗ (f1 ⊖ sa))) source, cleared (product_in pda (complement_in psa)))
  colour_outside AatopB w = tt
  colour_outside BatopA w = tt
  colour_outside AxorB w = tt
  colour_outside AplusB w = tt

  -- ---- W3C
  not_infinite : (b : Bool) {x : Float} → InUnit x → b && infinite x ≡ false
  not_infinite b {x} p = and_false b (infinite x) (number x (finite_of_lem p))
    where
      number : (x : Float) → T (finite x) → infinite x ≡ false
      number nan h = refl
      number (inf s) h = absurd h
      number (fin s m e) h = refl

      and_false : (a b : Bool) → b ≡ false → a && b ≡ false
      and_false true b e = e
      and_false false b e = refl

  not_white : (u v : Bool) → T u → u && (v && true) ≡ false → v ≡ false
  not_white true true t n = n
  not_white true false t n = refl
  not_white false v t n = absurd t

  pub stored_outside : (m : Mode) → burns m s sa d da ≡ false → StoredOutside m s sa d da
  stored_outside multiply n = inl tt
  stored_outside screen n = inl tt
  stored_outside overlay n = inl (not_infinite (eq d half) ps)
  stored_outside darken n = inl tt
  stored_outside lighten n = inl tt
  stored_outside color_dodge n = inl (record { below = λ e. absurd (true≢false (sym e ∙ pd.low)); above = λ k e. absurd (true≢false (sym e ∙ ps.high)) })
  stored_outside color_burn n = go (eq (sa ⊗ da) f0) refl n
    where
      go : (b : Bool) → eq (sa ⊗ da) f0 ≡ b → eq s f0 && (eq d f1 && not b) ≡ false → StoredOutside color_burn s sa d da
      go true k n = inr (inr (is_zero (sa ⊗ da) (product_in psa pda).held (subst T (sym k) tt), finite_of_lem (blend_in_lem color_burn d s pd ps)))
      go false k n =
          inl (record { white = λ e. not_white (eq s f0) (eq d f1) (none_left s ps.held ps.low (subst T (sym e) tt)) n; below = λ e. absurd (true≢false (sym e ∙ ps.low)); above = λ k e. absurd (true≢false (sym e ∙ pd.high)) })
  stored_outside hard_light n = inl (not_infinite (eq s half) pd)
  stored_outside soft_light n = inl tt
  stored_outside difference n = inl tt
  stored_outside exclusion n = inl (doubled_alike (s ⊗ sa) (d ⊗ da) x.held y.held (doubles_in x) (doubles_in y))
    where
      x : InUnit (s ⊗ sa)
      x = product_in ps psa

      y : InUnit (d ⊗ da)
      y = product_in pd pda
