-- What the operations of the code give: at any width k a shifted one, a set bit, a cleared bit, the
-- bits from one on and the count of ones; the three cases of a row's mask; and what a count over
-- words is.
use Rattle.std.proofs.Common.{◌≡◌, ℕ, zero, suc, ◌+◌, ◌-◌, ◌*◌, ◌/◌, ◌%◌, ◌^◌, ◌<◌, ◌≤◌, min, Bool, true, false, not, ◌&&◌, eqb, ltb, List, [], ◌∷◌, length, get_or, sum_by, refl, sym, ap, ◌∙◌, lt_of_le_of_lt, mod-eq_of_lt, one-mul, pow-suc, div-mul-le_self, arith, ltb-false}
use Rattle.std.proofs.Math.Bool.{and_comm}
use Rattle.std.proofs.Math.Pow.{pow-lt}
use lib.Bits.{bit_and, bit_or}
use lib.Count.{ones, ones_in, ones_step}
use Rattle.std.proofs.lemmas.List.Sums.{sum_by-cons, sum_by-le}
use Rattle.words.specs.Rules.{count}
use Rattle.words.specs.Bits.{bit, set_bit, clear_bit, bits_from, row_mask, total_ones}
use Rattle.words.proofs.Rules.{count_ext, count_front, count_most}
use Rattle.words.proofs.Bits.{bits_equal, bit_out, bit_not, bit-pow, bit-suc, bit-bit_and, bit-clear_bit, low_of_bit}

pub shifted_one : (k b : ℕ) → b < k → 1 * 2 ^ b % 2 ^ k ≡ 2 ^ b
shifted_one k b h = rw one-mul (mod-eq_of_lt (pow-lt h))

pub set_is : (k n b : ℕ) → b < k → bit_or n (1 * 2 ^ b % 2 ^ k) ≡ set_bit n b
unfolding set_bit
set_is k n b h = rw (shifted_one k b h)

pub clear_is : (k n b : ℕ) → n < 2 ^ k → b < k → bit_and n ((2 ^ k - 1) - 1 * 2 ^ b % 2 ^ k) ≡ clear_bit n b
clear_is k n b hn h =
    bits_equal _ _ (λ i. bit-bit_and n _ i ∙ rw (shifted_one k b h, bit_not k (2 ^ b) i (pow-lt h), bit-pow b i, bit-clear_bit n b i) (at i (ltb i k) refl))
  where
    -- from the width on there is no bit to keep
    at : (i : ℕ) (l : Bool) → ltb i k ≡ l → bit n i && (l && not (eqb i b)) ≡ not (eqb i b) && bit n i
    at i true e = and_comm (bit n i) (not (eqb i b))
    at i false e = rw (bit_out k n i hn (ltb-false i k e)) (and_comm false (not (eqb i b)))

pub from_is : (k n i : ℕ) → n < 2 ^ k → n / 2 ^ i * 2 ^ i % 2 ^ k ≡ bits_from n i
unfolding bits_from
from_is k n i h = mod-eq_of_lt (lt_of_le_of_lt (div-mul-le_self n (2 ^ i)) h)

-- the machine's count of ones is the number of positions whose bit is 1
pub ones_is : (k n : ℕ) → n < 2 ^ k → ones n ≡ count k (bit n)
unfolding count
ones_is zero n h = let e : n ≡ 0 = omega arith in rw e (unfold ones ones_in in refl)
ones_is (suc k) n h =
    ones_step n ∙ rw (ones_is k (n / 2) (omega (arith, pow-suc 2 k)))
    (sym (count_front k (bit n) ∙ rw (low_of_bit, count_ext k (λ i. bit n (suc i)) (bit (n / 2)) (λ i l. bit-suc n i))))

-- a word with places alone, a word with none, and the word where they end
pub mask_full : (n j : ℕ) → j < n / 64 → row_mask n j ≡ 2 ^ 64 - 1
unfolding row_mask
mask_full n j h = let e : min 64 (n - 64 * j) ≡ 64 = omega arith in rw e

pub mask_none : (n j : ℕ) → n / 64 < j → row_mask n j ≡ 0
unfolding row_mask
mask_none n j h = let e : min 64 (n - 64 * j) ≡ 0 = omega arith in rw e

pub mask_part : (n j : ℕ) → n / 64 ≡ j → row_mask n j ≡ 2 ^ (n % 64) - 1
unfolding row_mask
mask_part n j h = let e : min 64 (n - 64 * j) ≡ n % 64 = omega arith in rw e

-- what words have in all is the sum of what each has
pub total_sum : (ws : List ℕ) → sum_by (λ w. count 64 (bit w)) ws ≡ total_ones ws
unfolding total_ones
total_sum [] = refl
total_sum (w ∷ ws) = sum_by-cons (λ w. count 64 (bit w)) w ws ∙ ap (λ n. count 64 (bit w) + n) (total_sum ws)

-- and few words have few
pub total_most : (ws : List ℕ) → length ws ≤ 64 → sum_by (λ w. count 64 (bit w)) ws < 2 ^ 32
total_most ws h = omega (arith, sum_by-le (λ w. count 64 (bit w)) 64 ws (λ k d h. count_most 64 (bit (get_or ws k d))))
