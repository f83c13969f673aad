-- One write of a call and runs of them: what they change of the memory, what they leave of its lengths, its position and the picture beneath, and that a
-- run is cut anywhere. Assumes nothing.
use mathlib.Core.Path.{◌≡◌, refl, sym, ◌∙◌}
use mathlib.Core.Bool.{Bool, true, false, cond, not}
use mathlib.Core.List.{List, [], ◌∷◌, ◌++◌}
use mathlib.Core.Logic.{⊎_elim}
use Prim.Native.Nat.{ℕ, zero, suc, ◌+◌, ◌*◌, ◌/◌, ◌%◌, ◌<◌, ◌≤◌}
use native.Mathlib.Nat.{add-zero, zero-add, add-suc, add_assoc, mul-add-div_right, mul-add-mod_self_right, div-eq_of_lt, mod-eq_of_lt, eq-zero-or-pos, eq-or-lt_of_le}
use native.Mathlib.Omega.{arith}
use lib.Dec.{eqb}
use lib.ListN.{length, get_or, set, drop, length-set}
use lib.Seq.{get_or-set_same, get_or-drop}
use borrow.Author.Tests.{eq-eqb, ne_eqb}
use Rattle.layers.specs.Inputs.{Inputs}
use Rattle.pictures.specs.Widen.{rgba_at}
use Rattle.job.specs.declared.Write.{Write}
use Rattle.job.specs.declared.Write.TheVariants.{Work0, Work1, Checkpoint}
use Rattle.job.specs.Memory.{Mem, put, stored, work_of, word_write, write_of, position_of, job_number_of}
use Rattle.job.specs.Job.{pixel_count, phase_at, pixel_at, end_of}
use Rattle.job.specs.Call.{phase_pixel, write_at, run_of}
use Rattle.job.specs.Uses.{Sized, Batch, Midway}
use Rattle.job.proofs.Checked.{pixel_within}

-- ---- any write

-- the number that it names is there
abbrev pub InRange : Mem → Write → Type 0
InRange m (Work0 at word) = at < length m.work0
InRange m (Work1 at word) = at < length m.work1
InRange m (Checkpoint position) = 0 < length m.checkpoint

-- the lists keep their lengths
put_sized : {i : Inputs} (w : Write) (m : Mem) → Sized i m → Sized i (put w m)
put_sized (Work0 at word) m z = omega (arith, length-set m.work0 at word)
put_sized (Work1 at word) m z = omega (arith, length-set m.work1 at word)
put_sized (Checkpoint position) m z = omega (arith, length-set m.checkpoint 0 position)

-- of the checkpoint all but the position
drop_set : (xs : List ℕ) (x : ℕ) → drop 1 (set xs 0 x) ≡ drop 1 xs
drop_set [] x = refl
drop_set (y ∷ ys) x = refl

pub put_kept : (w : Write) (m : Mem) → drop 1 (put w m).checkpoint ≡ drop 1 m.checkpoint
put_kept (Work0 at word) m = refl
put_kept (Work1 at word) m = refl
put_kept (Checkpoint position) m = drop_set m.checkpoint position

stored_kept : (ws : List Write) (m : Mem) → drop 1 (stored ws m).checkpoint ≡ drop 1 m.checkpoint
unfolding stored
stored_kept [] m = refl
stored_kept (w ∷ ws) m = stored_kept ws (put w m) ∙ put_kept w m

pub stored_number : (ws : List Write) (m : Mem) → job_number_of (stored ws m) ≡ job_number_of m
stored_number ws m = sym (get_or-drop 1 (stored ws m).checkpoint 0 0) ∙ rw (stored_kept ws m) (get_or-drop 1 m.checkpoint 0 0)

-- a list of writes, and one more
pub stored_snoc : (ws : List Write) (w : Write) (m : Mem) → stored (ws ++ (w ∷ [])) m ≡ put w (stored ws m)
unfolding stored
stored_snoc [] w m = refl
stored_snoc (x ∷ ws) w m = stored_snoc ws w (put x m)

-- ---- a word of a picture

-- pictures b and b + 1 stand in different work buffers
parity : (b k : ℕ) → suc b ≡ k → eqb (b % 2) 0 ≡ not (eqb (k % 2) 0)
parity b k e =
    ⊎_elim
    (λ f. rw (eq-eqb (b % 2) 0 f, ne_eqb (k % 2) 0 (omega arith)))
    (λ f. rw (ne_eqb (b % 2) 0 (omega arith), eq-eqb (k % 2) 0 (omega arith)))
    (eq-zero-or-pos (b % 2))

module _ (at word : ℕ) (m : Mem) where
  -- it changes one work buffer, which b tells, and leaves the other and the checkpoint
  word_by : (b : Bool) → let r = put (cond b (Work0 at word) (Work1 at word)) m in
      (cond b r.work0 r.work1 ≡ set (cond b m.work0 m.work1) at word)
      × (cond (not b) r.work0 r.work1 ≡ cond (not b) m.work0 m.work1)
      × (r.checkpoint ≡ m.checkpoint)
  word_by true = (refl, refl, refl)
  word_by false = (refl, refl, refl)

  pub word_same : (k : ℕ) → work_of k (put (word_write k at word) m) ≡ set (work_of k m) at word
  word_same k = (word_by (eqb (k % 2) 0)).0

  pub word_other : (b k : ℕ) → suc b ≡ k → work_of b (put (word_write k at word) m) ≡ work_of b m
  word_other b k e = rw (parity b k e) (word_by (eqb (k % 2) 0)).1

  word_checkpoint : (k : ℕ) → (put (word_write k at word) m).checkpoint ≡ m.checkpoint
  word_checkpoint k = (word_by (eqb (k % 2) 0)).2

  word_range : (b : Bool) → at < length m.work0 → at < length m.work1 → InRange m (cond b (Work0 at word) (Work1 at word))
  word_range true l0 l1 = l0
  word_range false l0 l1 = l1

-- write c of a pixel's five, from pixel x of a picture of four channels
pub word_of : (k j : ℕ) (xs : List ℕ) (x q c : ℕ) → c < 4 → write_of k j (rgba_at xs 4 x) q c ≡ word_write k (4 * j + c) (get_or xs (4 * x + c) 0)
unfolding rgba_at
word_of k j xs x q zero h = simp add-zero
word_of k j xs x q (suc zero) h = refl
word_of k j xs x q (suc (suc zero)) h = refl
word_of k j xs x q (suc (suc (suc zero))) h = refl
word_of k j xs x q (suc (suc (suc (suc c)))) h = absurd (omega arith)

-- ---- quotient and remainder of a position

module _ (n p k j : ℕ) (split : p ≡ k * n + j) (inside : j < n) where
  pub place_div : p / n ≡ k
  place_div = let pos : 0 < n = omega arith in rw (split, mul-add-div_right pos, div-eq_of_lt inside, add-zero)

  pub place_mod : p % n ≡ j
  place_mod = rw (split, mul-add-mod_self_right, mod-eq_of_lt inside)

-- ---- write t of the job

module _ (i : Inputs) (m : Mem) (t : ℕ) where
  abbrev k : ℕ
  k = phase_at i (t / 5)

  abbrev j : ℕ
  j = pixel_at i (t / 5)

  -- what holds of each word of its pixel and of each position holds of it
  each : (P : Write → Type 0) → ((at word : ℕ) → at < 4 * j + 4 → P (word_write k at word)) → ((p : ℕ) → P (Checkpoint p)) → P (write_at i m t)
  unfolding write_at
  each P f g = by (t % 5)
    where
      by : (c : ℕ) → P (write_of k j (phase_pixel i m k j) (t / 5 + 1) c)
      by zero = f _ _ (omega arith)
      by (suc zero) = f _ _ (omega arith)
      by (suc (suc zero)) = f _ _ (omega arith)
      by (suc (suc (suc zero))) = f _ _ (omega arith)
      by (suc (suc (suc (suc zero)))) = g _
      by (suc (suc (suc (suc (suc c))))) = g _

  -- the number that it changes is there
  pub write_range : Sized i m → t / 5 < end_of i → InRange m (write_at i m t)
  write_range z room =
      let inside = pixel_within i (t / 5) room in
      each (InRange m) (λ at word l. word_range at word m (eqb (k % 2) 0) (omega arith) (omega arith)) (λ p. omega arith)

  -- it does not touch the picture beneath
  write_other : (b : ℕ) → suc b ≡ k → work_of b (put (write_at i m t) m) ≡ work_of b m
  write_other b e = each (λ w. work_of b (put w m) ≡ work_of b m) (λ at word l. word_other at word m b k e) (λ p. refl)

  -- a word leaves the position, and the fifth write raises it
  write_position : Sized i m → position_of m ≡ t / 5 → position_of (put (write_at i m t) m) ≡ suc t / 5
  unfolding write_at rgba_at
  write_position z e =
      let w = phase_pixel i m k j in
      ⊎_elim
      (λ f. rw f (get_or-set_same m.checkpoint 0 (t / 5 + 1) 0 (omega arith) ∙ omega arith))
      (λ l. rw (word_of k j (w.r ∷ w.g ∷ w.b ∷ w.a ∷ []) 0 (t / 5 + 1) (t % 5) l, word_checkpoint (4 * j + t % 5) _ m k) (omega arith))
      (eq-or-lt_of_le {n = t % 5} {m = 4} (omega arith))

  -- it is one of pixel y of phase x
  pub write_is : (x y : ℕ) → t / 5 ≡ x * pixel_count i + y → y < pixel_count i → write_at i m t ≡ write_of x y (phase_pixel i m x y) (t / 5 + 1) (t % 5)
  unfolding write_at
  write_is x y e h = rw (place_div (pixel_count i) (t / 5) x y e h, place_mod (pixel_count i) (t / 5) x y e h)

-- ---- runs

pub run_split : (i : Inputs) (t a b : ℕ) (m : Mem) → run_of i t (a + b) m ≡ run_of i (t + a) b (run_of i t a m)
unfolding run_of
run_split i t a zero m = rw add-zero
run_split i t a (suc b) m = rw (add-suc, add_assoc, ← (run_split i t a b m))

-- the same picture beneath phase k
abbrev pub Under : ℕ → Mem → Mem → Type 0
Under k m m' = (b : ℕ) → suc b ≡ k → work_of b m ≡ work_of b m'

pub under_pixel : (i : Inputs) (k : ℕ) (m m' : Mem) (j : ℕ) → Under k m m' → phase_pixel i m k j ≡ phase_pixel i m' k j
unfolding phase_pixel
under_pixel i zero m m' j h = refl
under_pixel i (suc k) m m' j h = rw (h k refl)

-- a run that lies in phase x, from pixel y on, leaves it
pub run_under : (i : Inputs) (t n x y : ℕ) (m : Mem) → t / 5 ≡ x * pixel_count i + y → 5 * y + (t % 5 + n) ≤ 5 * pixel_count i → Under x (run_of i t n m) m
unfolding run_of
run_under i t zero x y m e h b f = refl
run_under i t (suc n) x y m e h b f =
    let d = place_div (pixel_count i) ((t + n) / 5) x (y + (t % 5 + n) / 5) (omega arith) (omega arith) in
    write_other i (run_of i t n m) (t + n) b (f ∙ sym d) ∙ run_under i t n x y m e (omega arith) b f

-- after n more writes of a call
pub run_midway : {b : Batch} {uses : ℕ} {m : Mem} → Midway b uses m → (n : ℕ) → Midway b (uses + n) (run_of b.inputs (5 * b.start + uses) n m)
unfolding run_of
run_midway {b} {uses} {m} h zero = rw add-zero h
run_midway {b} {uses} {m} h (suc n) =
    let v = run_midway h n in
    let t = 5 * b.start + uses + n in
    let r = run_of b.inputs (5 * b.start + uses) n m in
    let z = put_sized (write_at b.inputs r t) r v.sized in
    omega (arith, write_position b.inputs r t v.sized (omega arith))

-- after n writes from its beginning
pub start_midway : {b : Batch} {m : Mem} → Midway b 0 m → (n : ℕ) → Midway b n (run_of b.inputs (5 * b.start) n m)
start_midway h n = rw (add-zero, zero-add) at (run_midway h n)
