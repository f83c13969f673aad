-- One step of reading arguments: k of them are at the front of the list, and s is left of the text. Assumes nothing.
use mathlib.Core.Path.{◌≡◌, refl, sym, ap, ◌∙◌}
use mathlib.Core.List.{List}
use Prim.Native.Nat.{ℕ, suc, ◌+◌, ◌-◌, ◌<◌}
use native.Mathlib.Nat.{add-zero}
use native.Mathlib.Omega.{arith}
use lib.IntN.{pos}
use lib.ListN.{length, set}
use Rattle.std.specs.Prelude.{Some, None}
use Rattle.layers.specs.Limits.{arg_words}
use Rattle.numerals.specs.Numbers.{hex_of}
use Rattle.cards.specs.Forms.{Argument, ended, word_of, rest_of, as_word, Words, no_words, words, one_more_word, after_argument, read_argument, read_words, as_arguments}
use Rattle.cards.specs.Steps.{after_byte, put, Found, nothing, found, found_in}
use Rattle.cards.proofs.Reading.{no_space, a_space}

-- what is found with those in the list and those that are left
abbrev pub left : (args : List ℕ) → ℕ → Words → Found
left args k no_words = nothing
left args k (words ws t) = found (Some (pos (k + length ws))) (put args k ws) t

pub begun : (args : List ℕ) (r : Words) → found_in args (as_arguments r) ≡ left args 0 r
begun args no_words = refl
begun args (words ws t) = let q : 0 + length ws ≡ length ws = omega arith in rw q

-- one more
one_left : (args : List ℕ) (k x : ℕ) (r : Words) → left args k (one_more_word x r) ≡ left (set args k x) (suc k) r
one_left args k x no_words = refl
one_left args k x (words ws t) = let q : k + suc (length ws) ≡ suc k + length ws = omega arith in rw q

module _ (s args : List ℕ) (k : ℕ) where
  here : k < arg_words → (a : Argument) → read_argument s ≡ a → read_words (arg_words - k) s ≡ after_argument a s (read_words (arg_words - (k + 1)))
  here h a e =
      let q : arg_words - k ≡ suc (arg_words - (k + 1)) = omega arith in
      ap (λ (m : ℕ). read_words m s) q ∙ ap (λ (x : Argument). after_argument x s (read_words (arg_words - (k + 1)))) e

  pub none_left : k < arg_words → after_byte 32 s ≡ None → left args k (read_words (arg_words - k) s) ≡ found (Some (pos k)) args s
  none_left h e =
      ap (left args k) (here h ended (no_space s e)) ∙ ap (λ (n : ℕ). found (Some (pos n)) args s) (add-zero k)

  module _ (h : k < arg_words) (t : List ℕ) (e : after_byte 32 s ≡ Some t) where
    pub bad_left : hex_of (word_of t) ≡ None → left args k (read_words (arg_words - k) s) ≡ nothing
    bad_left q =
        ap (left args k)
        (here h (as_word (hex_of (word_of t)) (rest_of t)) (a_space s t e)
        ∙ ap (λ (x : _). after_argument (as_word x (rest_of t)) s (read_words (arg_words - (k + 1)))) q)

    pub one_taken : (x : ℕ) (u : List ℕ) → hex_of (word_of t) ≡ Some x → u ≡ rest_of t
        → left args k (read_words (arg_words - k) s) ≡ left (set args k x) (k + 1) (read_words (arg_words - (k + 1)) u)
    one_taken x u q r =
        let others = read_words (arg_words - (k + 1)) (rest_of t) in
        let o : suc k ≡ k + 1 = omega arith in
        ap (left args k)
        (here h (as_word (hex_of (word_of t)) (rest_of t)) (a_space s t e)
        ∙ ap (λ (x : _). after_argument (as_word x (rest_of t)) s (read_words (arg_words - (k + 1)))) q)
        ∙ one_left args k x others
        ∙ ap (λ (n : ℕ). left (set args k x) n others) o
        ∙ ap (λ (v : List ℕ). left (set args k x) (k + 1) (read_words (arg_words - (k + 1)) v)) (sym r)

  pub all_taken : arg_words ≡ k → left args k (read_words (arg_words - k) s) ≡ found (Some (pos arg_words)) args s
  all_taken e =
      let q : arg_words - k ≡ 0 = omega arith in
      let n : k + 0 ≡ arg_words = omega arith in
      ap (λ (m : ℕ). left args k (read_words m s)) q ∙ ap (λ (n : ℕ). found (Some (pos n)) args s) n
