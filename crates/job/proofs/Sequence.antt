-- The reference model's pictures and write sequence, how long they are and what stands where; what is known of a job's memory at each write, and that each
-- entry of the sequence keeps it; and that a call makes just these entries. Assumes nothing.
use mathlib.Core.Path.{◌≡◌, refl, ◌∙◌, ap, sym}
use mathlib.Core.Bool.{Bool, true, false, cond}
use mathlib.Core.List.{List, [], append-nil}
use mathlib.Core.Logic.{⊎_elim}
use Prim.Native.Nat.{ℕ, zero, suc, ◌+◌, ◌-◌, ◌*◌, ◌/◌, ◌%◌, ◌<◌, ◌≤◌}
use native.Mathlib.Nat.{zero-mul, suc-mul, zero-add, add-zero, add-suc, suc-add, div-add-mod', eq-or-lt_of_le}
use native.Mathlib.Omega.{arith}
use lib.Dec.{eqb}
use lib.ListN.{length, get_or, take, drop, length-append, length-drop, get_or-append}
use lib.Seq.{take_all, take-take, take-suc, take-suc-set, get_or-append-add, get_or-drop}
use Rattle.layers.specs.Inputs.{Inputs}
use Rattle.pictures.specs.declared.Words.{Words}
use Rattle.pictures.specs.Widen.{rgba_at}
use Rattle.pictures.specs.FlatWords.{flat}
use Rattle.pictures.proofs.FlatWords.{length_flat, flat_pixel}
use Rattle.job.specs.declared.Write.{Write}
use Rattle.job.specs.declared.Write.TheVariants.{Checkpoint}
use Rattle.job.specs.Memory.{Mem, position_of, job_number_of, put, stored, work_of, word_write, five_writes, write_of}
use Rattle.job.specs.Job.{pixel_count, layer_count, phase_at, pixel_at, end_of, call_fault}
use Rattle.job.specs.Call.{phase_pixel, write_at, run_of}
use Rattle.job.specs.Uses.{Works, Sized}
use Rattle.job.specs.Model.{picture_of, blocks, picture_writes, write_sequence}
use Rattle.job.proofs.Checked.{some_pixel, phase_within, pixel_within, call_midway}
use Rattle.job.proofs.Runs.{stored_snoc, word_of, word_same, word_other, place_div, place_mod, start_midway}

-- ---- lists of one length, one after the other

module _ {A : Type 0} (f : ℕ → List A) (w : ℕ) (same : (i : ℕ) → length (f i) ≡ w) where
  length_blocks : (i n : ℕ) → length (blocks f i n) ≡ n * w
  unfolding blocks
  length_blocks i zero = sym (zero-mul w)
  length_blocks i (suc n) = rw (length-append, same, length_blocks (suc i) n, suc-mul) (omega arith)

  -- element b of list a
  blocks_from : (d : A) (n i a b : ℕ) → a < n → b < w → get_or (blocks f i n) (a * w + b) d ≡ get_or (f (i + a)) b d
  unfolding blocks
  blocks_from d zero i a b h l = absurd (omega arith)
  blocks_from d (suc n) i zero b h l =
      let inside : b < length (f i) = omega (arith, same i) in
      rw (zero-mul, zero-add, add-zero, get_or-append)
  blocks_from d (suc n) i (suc a) b h l =
      let e : suc a * w + b ≡ length (f i) + (a * w + b) = omega (arith, same i, suc-mul a w) in
      rw (e, get_or-append-add, blocks_from d n (suc i) a b (omega arith) l, add-suc, suc-add)

  blocks_at : (d : A) (n a b : ℕ) → a < n → b < w → get_or (blocks f 0 n) (a * w + b) d ≡ get_or (f a) b d
  blocks_at d n a b h l = rw zero-add at (blocks_from d n 0 a b h l)

-- ---- lengths

work_by : (b : Bool) (m : Mem) (n : ℕ) → Works n m.work0 m.work1 → length (cond b m.work0 m.work1) ≡ 4 * n
work_by true m n z = z.length0
work_by false m n z = z.length1

module _ (i : Inputs) where
  abbrev n : ℕ
  n = pixel_count i

  pub work_length : (m : Mem) (k : ℕ) → Sized i m → length (work_of k m) ≡ 4 * n
  work_length m k z = work_by (eqb (k % 2) 0) m _ z.works

  pub picture_length : (k : ℕ) → length (picture_of i k) ≡ 4 * n
  unfolding picture_of
  picture_length zero = length_flat _ 0 n
  picture_length (suc k) = length_flat _ 0 n

  picture_writes_lem : (k : ℕ) → length (picture_writes i k) ≡ n * 5
  unfolding picture_writes
  picture_writes_lem k = length_blocks _ 5 (λ j. refl) 0 n

  pub sequence_length : length (write_sequence i) ≡ 5 * end_of i
  unfolding write_sequence
  sequence_length = omega (arith, length_blocks (picture_writes i) (n * 5) picture_writes_lem 0 (layer_count i + 1))

  pub left_length : (p : ℕ) → length (drop (5 * p) (write_sequence i)) ≡ 5 * (end_of i - p)
  left_length p = rw (length-drop, sequence_length) (omega arith)

  -- ---- the picture beneath

  -- beneath phase k it is the model's
  abbrev pub Beneath : Mem → ℕ → Type 0
  Beneath m k = (b : ℕ) → suc b ≡ k → work_of b m ≡ picture_of i b

  whole_pixel : (f : ℕ → Words) (j : ℕ) → j < n → rgba_at (flat f 0 n) 4 j ≡ f j
  whole_pixel f j h = rw (append-nil, zero-add) at (flat_pixel f 0 n [] j h)

  -- Then the pixel that a call works out is the model's.
  pixel_right : (m : Mem) (k j : ℕ) → j < n → Beneath m k → phase_pixel i m k j ≡ rgba_at (picture_of i k) 4 j
  unfolding phase_pixel picture_of
  pixel_right m zero j h beneath = sym (whole_pixel _ j h)
  pixel_right m (suc k) j h beneath = rw (beneath k refl) (sym (whole_pixel _ j h))

  -- at write c of position p: the picture that is written is right up to there, and the one beneath is whole
  pub record Here (m : Mem) (p c : ℕ) : Type 0 where
    pub right : let n = 4 * pixel_at i p + c in take n (work_of (phase_at i p) m) ≡ take n (picture_of i (phase_at i p))
    pub below : Beneath m (phase_at i p)

  -- a pixel that was written in part is begun again
  pub begun_again : {m : Mem} {p c : ℕ} → Here m p c → Here m p 0
  begun_again {m} {p} {c} v =
      let a = 4 * pixel_at i p in
      let h : a + 0 ≤ a + c = omega arith in
      record { right = rw (← (take-take (a + 0) (a + c) (work_of (phase_at i p) m) h), v.right, take-take); below = v.below }

  -- ---- entry t of the sequence, counted from 0

  abbrev pub entry : ℕ → Write
  entry t = get_or (write_sequence i) t (Checkpoint 0)

  module _ (t : ℕ) (room : t / 5 < end_of i) where
    abbrev p : ℕ
    p = t / 5

    abbrev k : ℕ
    k = phase_at i p

    abbrev j : ℕ
    j = pixel_at i p

    inside : j < n
    inside = pixel_within i p room

    -- it is one of the five writes of its position's pixel
    entry_is : entry t ≡ write_of k j (rgba_at (picture_of i k) 4 j) (p + 1) (t % 5)
    unfolding write_sequence picture_writes
    entry_is =
        let e = div-add-mod' p n in
        let at : t ≡ k * (n * 5) + (j * 5 + t % 5) = omega arith in
        let last : k < layer_count i + 1 = omega (arith, phase_within i p room) in
        ap entry at
        ∙ blocks_at (picture_writes i) (n * 5) picture_writes_lem (Checkpoint 0) (layer_count i + 1) k (j * 5 + t % 5) last (omega (arith, inside))
        ∙ blocks_at (λ x. five_writes k x (rgba_at (picture_of i k) 4 x) (k * n + x + 1)) 5 (λ x. refl) (Checkpoint 0) n j (t % 5) inside (omega arith)
        ∙ ap (λ (x : ℕ). write_of k j (rgba_at (picture_of i k) 4 j) (x + 1) (t % 5)) e

    -- Where the picture beneath is the model's, the write that a call makes is the model's.
    write_right : (m : Mem) → Beneath m k → write_at i m t ≡ entry t
    unfolding write_at
    write_right m h = ap (λ (w : Words). write_of k j w (p + 1) (t % 5)) (pixel_right m k j inside h) ∙ sym entry_is

    module _ (m : Mem) (z : Sized i m) where
      -- a word of the pixel
      entry_word : t % 5 < 4 → Here m p (t % 5) → Here (put (entry t) m) p (t % 5 + 1)
      entry_word h v =
          let at = 4 * j + t % 5 in
          let word = get_or (picture_of i k) at 0 in
          let is : entry t ≡ word_write k at word = entry_is ∙ word_of k j (picture_of i k) j (p + 1) (t % 5) h in
          let next : 4 * j + (t % 5 + 1) ≡ suc at = omega arith in
          let w : at < length (work_of k m) = omega (arith, inside, work_length m k z) in
          let q : at < length (picture_of i k) = omega (arith, inside, picture_length k) in
          rw is record {
            right = rw (next, word_same at word m k, take-suc-set (work_of k m) at word, take-suc (picture_of i k) at 0, v.right);
            below = λ b e. word_other at word m b k e ∙ v.below b e;
          }

      -- the position: of a pixel that is not the picture's last, and of the last
      entry_position : t % 5 ≡ 4 → Here m p 4 → Here (put (entry t) m) (p + 1) 0
      entry_position h v =
          let is : entry t ≡ Checkpoint (p + 1) = entry_is ∙ ap (write_of k j (rgba_at (picture_of i k) 4 j) (p + 1)) h in
          rw is (⊎_elim
          (λ (l : suc j ≡ n).
          let e : p + 1 ≡ suc k * n + 0 = omega (arith, div-add-mod' p n, suc-mul k n) in
          let pos = some_pixel i p room in
          let a : length (work_of k m) ≤ 4 * j + 4 = omega (arith, work_length m k z) in
          let b : length (picture_of i k) ≤ 4 * j + 4 = omega (arith, picture_length k) in
          let whole : work_of k m ≡ picture_of i k = rw (take_all (4 * j + 4) (work_of k m) a, take_all (4 * j + 4) (picture_of i k) b) at v.right in
          record {
            right = rw (place_mod n (p + 1) (suc k) 0 e pos) refl;
            below = rw (place_div n (p + 1) (suc k) 0 e pos) (λ b y. let x : b ≡ k = omega arith in rw x whole);
          })
          (λ (l : suc j < n).
          let e : p + 1 ≡ k * n + suc j = omega (arith, div-add-mod' p n) in
          let f : 4 * suc j + 0 ≡ 4 * j + 4 = omega arith in
          let d = place_div n (p + 1) k (suc j) e l in
          record { right = rw (d, place_mod n (p + 1) k (suc j) e l, f) v.right; below = rw d v.below })
          (eq-or-lt_of_le inside))

      -- either, by the number of the write
      entry_here : Here m p (t % 5) → Here (put (entry t) m) (suc t / 5) (suc t % 5)
      entry_here v =
          ⊎_elim
          (λ e.
          let a : suc t / 5 ≡ p + 1 = omega arith in
          let b : suc t % 5 ≡ 0 = omega arith in
          rw (a, b) (entry_position e (rw e at v)))
          (λ l.
          let a : suc t / 5 ≡ p = omega arith in
          let b : suc t % 5 ≡ t % 5 + 1 = omega arith in
          rw (a, b) (entry_word l v))
          (eq-or-lt_of_le {n = t % 5} {m = 4} (omega arith))

  -- ---- a call's writes

  -- a job without a fault, as each call finds it
  pub record Progress (m : Mem) : Type 0 where
    pub fit : (call_fault i (job_number_of m) m).number ≡ 0
    pub here : 0 < n → Here m (position_of m) 0

  -- after t writes of a call it has made t entries of the sequence
  pub record Made (m : Mem) (t : ℕ) : Type 0 where
    pub same : run_of i (5 * position_of m) t m ≡ stored (take t (drop (5 * position_of m) (write_sequence i))) m
    pub here : 0 < n → let s = 5 * position_of m + t in Here (run_of i (5 * position_of m) t m) (s / 5) (s % 5)

  module _ (m : Mem) (t : ℕ) (room : suc t ≤ 5 * (end_of i - position_of m)) (g : Made m t) where
    abbrev s : ℕ
    s = 5 * position_of m + t

    abbrev r : Mem
    r = run_of i (5 * position_of m) t m

    -- the next write is the next entry
    pub write_next : write_at i r s ≡ entry s
    write_next = let l : s / 5 < end_of i = omega arith in write_right s l r (g.here (some_pixel i (s / 5) l)).below

    made_next : Progress m → Made m (suc t)
    unfolding run_of
    made_next v =
        let left = drop (5 * position_of m) (write_sequence i) in
        let l : t < length left = omega (arith, left_length (position_of m)) in
        record {
          same = rw (write_next, g.same, take-suc left t (Checkpoint 0), stored_snoc, get_or-drop);
          here = λ z. rw (add-suc, write_next) (entry_here s (omega arith) r (start_midway (call_midway i _ m v.fit 0) t).sized (g.here z));
        }

  pub made : (m : Mem) (t : ℕ) → t ≤ 5 * (end_of i - position_of m) → Progress m → Made m t
  unfolding run_of stored
  made m zero h v =
      let a : (5 * position_of m + 0) / 5 ≡ position_of m = omega arith in
      let b : (5 * position_of m + 0) % 5 ≡ 0 = omega arith in
      record { same = refl; here = λ z. rw (a, b) (v.here z) }
  made m (suc t) h v = made_next m t h (made m t (omega arith) v) v
