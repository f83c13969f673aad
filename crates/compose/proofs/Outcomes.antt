-- The three outcomes of a single composition, as `compose_of` has them. Assumes nothing.
use mathlib.Core.Path.{◌≡◌, refl, sym, ap}
use mathlib.Core.Bool.{Bool, true, false, not}
use mathlib.Core.List.{List}
use Prim.Native.Nat.{ℕ, ◌*◌, ◌≤◌}
use native.Mathlib.Nat.{mul-le-mul}
use lib.Dec.{eqb}
use lib.ListN.{length}
use Rattle.std.specs.Prelude.{Ok, Err}
use borrow.Author.Tests.{eq-eqb, ne_eqb, eqb-true, eqb-false, not-true, not-false}
use Rattle.faults.specs.declared.Fault.{Fault}
use Rattle.faults.specs.declared.Fault.TheVariants.{Work}
use Rattle.faults.specs.Numbers.{number_of, refused_if}
use Rattle.faults.proofs.Apart.{passed}
use Rattle.places.specs.Bounds.{slack}
use Rattle.pictures.specs.Shapes.{nat_of}
use Rattle.layers.specs.GoodLayers.{Picture}
use Rattle.layers.specs.declared.Layer.{Layer}
use Rattle.layers.specs.Inputs.{Inputs, Verdict, verdict, job_fault}
use Rattle.layers.specs.Layers.{layer_at}
use Rattle.layers.proofs.Accepted.{Accepted, accepted, destination}
use Rattle.compose.specs.Compose.{composed_of}
use Rattle.compose.specs.Single.{composed, compose_of}

-- a test that refuses holds, and the reason is its own
held : (holds : Bool) (fault : Fault) {e : Fault} → refused_if holds fault ≡ Err e → (holds ≡ true) × (fault ≡ e)
held true fault e = (refl, cc)
held false fault e = absurd cc

-- no fault, and the destination's sides and channels: what is then known, and what the output's length decides
pub record Accepting (i : Inputs) (out : List ℕ) (w h channels : ℕ) : Type 0 where
  pub fit : Accepted i
  pub small : w * h ≤ slack * slack
  pub dst : Picture w h channels (length i.dst)
  pub unfit : {e : Fault} → refused_if (not (eqb (length out) (4 * (w * h)))) Work ≡ Err e → composed (number_of e) out ≡ compose_of i out
  pub fits : {u : Unit} → refused_if (not (eqb (length out) (4 * (w * h)))) Work ≡ Ok u → length out ≡ 4 * (w * h)
  pub done : {l : Layer} {after : List ℕ} → length out ≡ 4 * (w * h) → l ≡ layer_at i.table i.args 0 → after ≡ composed_of i.samples l w h channels i.dst
      → composed 0 after ≡ compose_of i out

module _ (i : Inputs) (out : List ℕ) where
  pub refusing : {v : Verdict} → v ≡ job_fault i → (v.number ≡ 0 → ⊥) → composed v.number out ≡ compose_of i out
  unfolding compose_of
  refusing {v} e h = rw (← e, ne_eqb v.number 0 h)

  pub accepting : {w h channels : ℕ} → verdict 0 0 ≡ job_fault i → w ≡ nat_of i.shape.width → h ≡ nat_of i.shape.height → channels ≡ nat_of i.shape.channels
      → Accepting i out w h channels
  unfolding compose_of
  accepting e wide high deep =
      let fit : Accepted i = accepted i (ap (λ (u : Verdict). u.number) (sym e)) in
      let dst = destination i fit in
      rw (wide, high, deep)
      record {
        fit = fit;
        small = mul-le-mul dst.width dst.height;
        dst = dst;
        unfit = λ r. let k = held _ _ r in rw (← k.1, ← e, ne_eqb (length out) _ (eqb-false _ _ (not-true _ k.0)));
        fits = λ r. eqb-true _ _ (not-false _ (passed _ _ r));
        done = λ l a p. rw (p, a, ← e, eq-eqb (length out) _ l);
      }
