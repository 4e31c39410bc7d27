-- Laws of single bits, for any width.
use Rattle.std.proofs.Common.{◌≡◌, ℕ, zero, suc, ◌+◌, ◌-◌, ◌*◌, ◌/◌, ◌%◌, ◌^◌, ◌<◌, ◌≤◌, min, Bool, true, false, cond, not, ◌&&◌, ◌||◌, eqb, ltb, leb, List, length, get_or, set, sym, ap, ◌∙◌, ap₂, suc-le-suc, lt_of_lt_of_le, le_of_suc-le-suc, le-add_right, add-zero, mod-lt, zero-lt-suc, mul_comm, add_comm, pow-suc, mul-one, div-mul-le_self, div-one, mul_left_comm, arith, length-set, get_or-set_other, get_or-set_same, pow_pos, pow_mono, ltb-false, ltb-true, le-ltb, lt-ltb, eqb-true}
use Rattle.std.proofs.Math.Nat.{div-div-eq-div-mul, div-eq_of_lt, min-le_left, zero-div}
use Rattle.std.proofs.Math.Path.{refl}
use Rattle.std.proofs.Math.Bool.{and-true}
use Rattle.std.proofs.Math.Dec.{leb-zero, leb-suc-zero, leb-suc-suc, eqb-zero-suc, eqb-suc-zero, eqb-suc-suc}
use Rattle.std.proofs.Math.Pow.{ones_lt}
use lib.Bits.{bit_and, bit_or, bit_xor, and_shr, or_shr, xor_shr, and_mod, or_mod, xor_mod}
use lib.Count.{count_trailing_zeros, under}
use borrow.Author.Tests.{eqb-false}
use Rattle.words.specs.Rules.{count, tabulate, IsFirst}
use Rattle.words.specs.Bits.{bit, set_bit, clear_bit, bits_from, change_bit, row_mask, word, bit_words, total_ones}
use Rattle.words.proofs.Rules.{count-add, count_ext, count_none, length-tabulate, get_or-tabulate, tabulate_ext}

-- a digit is 0 or 1
two : (P : ℕ → Type 0) → P 0 → P 1 → (n : ℕ) → P (n % 2)
two P p q n = go (n % 2) (mod-lt n (zero-lt-suc 1))
  where
    go : (d : ℕ) → d < 2 → P d
    go zero h = p
    go (suc zero) h = q
    go (suc (suc d)) h = absurd (omega arith)

bit_low : (n : ℕ) → bit n 0 ≡ eqb (n % 2) 1
unfolding bit
bit_low n = rw div-one

pub bit-suc : (n i : ℕ) → bit n (suc i) ≡ bit (n / 2) i
unfolding bit
bit-suc n i = rw (pow-suc, mul_comm (2 ^ i) 2, ← div-div-eq-div-mul)

pub low_of_bit : (n : ℕ) → cond (bit n 0) 1 0 ≡ n % 2
low_of_bit n = rw bit_low (two (λ d. cond (eqb d 1) 1 0 ≡ d) refl refl n)

pub word_ext : (n : ℕ) (r s : ℕ → Bool) → ((i : ℕ) → i < n → r i ≡ s i) → word n r ≡ word n s
unfolding word
word_ext zero r s h = refl
word_ext (suc n) r s h =
    ap₂ (λ (b : Bool) (w : ℕ). cond b 1 0 + 2 * w) (h 0 (zero-lt-suc n)) (word_ext n (λ i. r (suc i)) (λ i. s (suc i)) (λ i l. h (suc i) (suc-le-suc l)))

-- a number is the word of its bits
word-bit : (n a : ℕ) → a < 2 ^ n → word n (bit a) ≡ a
unfolding word
word-bit zero a h = omega arith
word-bit (suc n) a h =
    ap₂ (λ (d w : ℕ). d + 2 * w) (low_of_bit a)
    (word_ext n (λ i. bit a (suc i)) (bit (a / 2)) (λ i l. bit-suc a i) ∙ word-bit n (a / 2) (omega (arith, rw pow-suc at h)))
    ∙ omega arith

-- two numbers of n bits with equal bits are equal
pub bit_ext : (n a b : ℕ) → a < 2 ^ n → b < 2 ^ n → ((i : ℕ) → i < n → bit a i ≡ bit b i) → a ≡ b
bit_ext n a b ha hb h = sym (word-bit n a ha) ∙ word_ext n (bit a) (bit b) h ∙ word-bit n b hb

-- so are two numbers of any size whose bits are all equal
pub bits_equal : (a b : ℕ) → ((i : ℕ) → bit a i ≡ bit b i) → a ≡ b
bits_equal a b h = bit_ext (a + b) a b (below a b) (rw add_comm (below b a)) (λ i l. h i)
  where
    below : (x y : ℕ) → x < 2 ^ (x + y)
    below x y = lt_of_lt_of_le (small x) (pow_mono (le-add_right x y))
      where
        small : (n : ℕ) → n < 2 ^ n
        small zero = omega arith
        small (suc n) = omega (arith, pow-suc 2 n, small n)

pub bit-zero : (i : ℕ) → bit 0 i ≡ false
unfolding bit
bit-zero i = rw zero-div

-- no bit from the width on
pub bit_out : (n a i : ℕ) → a < 2 ^ n → n ≤ i → bit a i ≡ false
unfolding bit
bit_out n a i h l = rw (div-eq_of_lt (lt_of_lt_of_le h (pow_mono l)))

-- every one of n bits turned round
pub bit_not : (n a i : ℕ) → a < 2 ^ n → bit ((2 ^ n - 1) - a) i ≡ (ltb i n && not (bit a i))
bit_not zero a i h = let e : (2 ^ 0 - 1) - a ≡ 0 = omega arith in rw (e, leb-suc-zero i) (bit-zero i)
bit_not (suc n) a zero h =
    let odd : ((2 ^ suc n - 1) - a) % 2 ≡ 1 - a % 2 = omega (arith, pow-suc 2 n) in
    rw (bit_low, odd, bit_low a, leb-suc-suc, leb-zero) (two (λ d. eqb (1 - d) 1 ≡ not (eqb d 1)) refl refl a)
bit_not (suc n) a (suc i) h =
    let half : ((2 ^ suc n - 1) - a) / 2 ≡ (2 ^ n - 1) - a / 2 = omega (arith, pow-suc 2 n) in
    rw (bit-suc, half, bit-suc a, leb-suc-suc) (bit_not n (a / 2) i (omega (arith, pow-suc 2 n)))

-- the n low bits set
pub bit_ones : (n i : ℕ) → bit (2 ^ n - 1) i ≡ ltb i n
bit_ones n i = ap (λ a. bit a i) (omega arith) ∙ bit_not n 0 i (pow_pos n) ∙ rw bit-zero (and-true (ltb i n))

pub bit-pow : (i j : ℕ) → bit (2 ^ i) j ≡ eqb j i
bit-pow zero zero = bit_low 1
bit-pow zero (suc j) = bit-suc 1 j ∙ bit-zero j ∙ sym (eqb-suc-zero j)
bit-pow (suc i) zero =
    let even : 2 ^ suc i % 2 ≡ 0 = omega (arith, pow-suc 2 i) in
    rw (bit_low, even, eqb-zero-suc i)
bit-pow (suc i) (suc j) =
    let half : 2 ^ suc i / 2 ≡ 2 ^ i = omega (arith, pow-suc 2 i) in
    rw (bit-suc, half, bit-pow i j, eqb-suc-suc)

-- an operation on numbers that works on each bit apart, as g does
module _ (op : ℕ → ℕ → ℕ) (g : Bool → Bool → Bool)
    (shr : (a b k : ℕ) → op a b / 2 ^ k ≡ op (a / 2 ^ k) (b / 2 ^ k))
    (low : (a b k : ℕ) → op a b % 2 ^ k ≡ op (a % 2 ^ k) (b % 2 ^ k))
    (e00 : eqb (op 0 0) 1 ≡ g false false)
    (e01 : eqb (op 0 1) 1 ≡ g false true)
    (e10 : eqb (op 1 0) 1 ≡ g true false)
    (e11 : eqb (op 1 1) 1 ≡ g true true) where
  bit_op : (a b i : ℕ) → bit (op a b) i ≡ g (bit a i) (bit b i)
  unfolding bit
  bit_op a b i =
      rw (shr, low (a / 2 ^ i) (b / 2 ^ i) 1)
      (two (λ x. eqb (op x (b / 2 ^ i % 2)) 1 ≡ g (eqb x 1) (eqb (b / 2 ^ i % 2) 1))
      (two (λ y. eqb (op 0 y) 1 ≡ g false (eqb y 1)) e00 e01 (b / 2 ^ i))
      (two (λ y. eqb (op 1 y) 1 ≡ g true (eqb y 1)) e10 e11 (b / 2 ^ i)) (a / 2 ^ i))

pub bit-bit_and : (a b i : ℕ) → bit (bit_and a b) i ≡ (bit a i && bit b i)
bit-bit_and = bit_op bit_and ◌&&◌ and_shr and_mod refl refl refl refl

pub bit-bit_or : (a b i : ℕ) → bit (bit_or a b) i ≡ (bit a i || bit b i)
bit-bit_or = bit_op bit_or ◌||◌ or_shr or_mod refl refl refl refl

pub bit-set_bit : (n i j : ℕ) → bit (set_bit n i) j ≡ (eqb j i || bit n j)
unfolding set_bit
bit-set_bit n i j = bit_op bit_or (λ x y. y || x) or_shr or_mod refl refl refl refl n (2 ^ i) j ∙ rw bit-pow

pub bit-clear_bit : (n i j : ℕ) → bit (clear_bit n i) j ≡ (not (eqb j i) && bit n j)
unfolding clear_bit
bit-clear_bit n i j =
    bit_op (λ a b. bit_xor (bit_or a b) b) (λ x y. not y && x) (λ a b k. rw (xor_shr, or_shr)) (λ a b k. rw (xor_mod, or_mod)) refl refl refl refl n (2 ^ i) j
    ∙ rw bit-pow

-- a number without its bits below i has those from i on
from_suc : (n i : ℕ) → bits_from n (suc i) ≡ 2 * bits_from (n / 2) i
unfolding bits_from
from_suc n i = rw (pow-suc, mul_comm (2 ^ i) 2, ← div-div-eq-div-mul) (mul_left_comm _ 2 (2 ^ i))

pub bit_from : (n i j : ℕ) → bit (bits_from n i) j ≡ (leb i j && bit n j)
bit_from n zero j = unfold bits_from in rw (leb-zero j, div-one, mul-one) refl
bit_from n (suc i) zero =
    let even : bits_from n (suc i) % 2 ≡ 0 = omega (arith, from_suc n i) in
    rw (bit_low, even, leb-suc-zero) refl
bit_from n (suc i) (suc j) =
    let half : bits_from n (suc i) / 2 ≡ bits_from (n / 2) i = omega (arith, from_suc n i) in
    rw (bit-suc, half, leb-suc-suc, bit-suc n j) (bit_from (n / 2) i j)

pub from_le : (n i : ℕ) → bits_from n i ≤ n
unfolding bits_from
from_le n i = div-mul-le_self n (2 ^ i)

-- A number is larger than itself with a set bit cleared: by its halves, down to that bit.
pub clear-lt : (n i : ℕ) → bit n i ≡ true → clear_bit n i < n
clear-lt n zero h =
    let half : clear_bit n 0 / 2 ≡ n / 2 = bits_equal _ _ (λ j. rw (← bit-suc, bit-clear_bit, eqb-suc-zero) (bit-suc n j)) in
    let low : clear_bit n 0 % 2 ≡ 0 = sym (low_of_bit (clear_bit n 0)) ∙ rw bit-clear_bit in
    let odd : 1 ≡ n % 2 = rw h at (low_of_bit n) in
    omega arith
clear-lt n (suc i) h =
    let half : clear_bit n (suc i) / 2 ≡ clear_bit (n / 2) i = bits_equal _ _ (λ j. rw (← bit-suc, bit-clear_bit n (suc i), bit-clear_bit (n / 2) i, eqb-suc-suc, bit-suc n j)) in
    let low : clear_bit n (suc i) % 2 ≡ n % 2 = sym (low_of_bit (clear_bit n (suc i))) ∙ rw (bit-clear_bit, eqb-zero-suc) (low_of_bit n) in
    let less : clear_bit (n / 2) i < n / 2 = clear-lt (n / 2) i (rw bit-suc at h) in
    omega arith

-- Every bit of some words after one of them is changed. f changes bit b of a word as op does, told
-- whether b is the bit meant; setting and clearing are two such changes.
module _ (f : ℕ → ℕ → ℕ) (op : Bool → Bool → Bool)
    (changes : (n i b : ℕ) → bit (f n i) b ≡ op (eqb b i) (bit n b))
    (skip : (x : Bool) → op false x ≡ x) where
  pub bit-change_bit : (ws : List ℕ) (m i : ℕ) → m < length ws → (k b : ℕ)
      → bit (get_or (change_bit f ws m i) k 0) b ≡ op (eqb k m && eqb b i) (bit (get_or ws k 0) b)
  unfolding change_bit
  bit-change_bit ws m i h k b = go (eqb k m) refl
    where
      go : (t : Bool) → eqb k m ≡ t → bit (get_or (set ws m (f (get_or ws m 0) i)) k 0) b ≡ op (t && eqb b i) (bit (get_or ws k 0) b)
      go true e = rw (eqb-true k m e, get_or-set_same ws m (f (get_or ws m 0) i) 0 h) (changes (get_or ws m 0) i b)
      go false e = rw (get_or-set_other ws m k (f (get_or ws m 0) i) 0 (eqb-false k m e)) (sym (skip _))

pub length-change_bit : (f : ℕ → ℕ → ℕ) (ws : List ℕ) (m i : ℕ) → length (change_bit f ws m i) ≡ length ws
unfolding change_bit
length-change_bit f ws m i = length-set ws m (f (get_or ws m 0) i)

-- a row's mask has the bits of its places, and no other
pub bit_mask : (n s : ℕ) → bit (row_mask n (s / 64)) (s % 64) ≡ ltb s n
unfolding row_mask
bit_mask n s = bit_ones _ _ ∙ go (ltb s n) refl
  where
    go : (b : Bool) → ltb s n ≡ b → ltb (s % 64) (min 64 (n - 64 * (s / 64))) ≡ b
    go true e = let inside = ltb-true s n e in lt-ltb (s % 64) (min 64 (n - 64 * (s / 64))) (omega arith)
    go false e = let past = ltb-false s n e in le-ltb (s % 64) (min 64 (n - 64 * (s / 64))) (omega arith)

pub mask_lt : (n j : ℕ) → row_mask n j < 2 ^ 64
unfolding row_mask
mask_lt n j = lt_of_lt_of_le (ones_lt (min 64 (n - 64 * j))) (pow_mono (min-le_left 64 (n - 64 * j)))

flag_lt : (b : Bool) → cond b 1 0 < 2
flag_lt true = omega arith
flag_lt false = omega arith

pub bit-word : (n : ℕ) (r : ℕ → Bool) (i : ℕ) → i < n → bit (word n r) i ≡ r i
unfolding word
bit-word zero r i l = absurd (omega arith)
bit-word (suc n) r zero l =
    let w : ℕ = word n (λ i. r (suc i)) in
    let low : (cond (r 0) 1 0 + 2 * w) % 2 ≡ cond (r 0) 1 0 = omega (arith, flag_lt (r 0)) in
    rw (bit_low, low) (flag (r 0))
  where
    flag : (b : Bool) → eqb (cond b 1 0) 1 ≡ b
    flag true = refl
    flag false = refl
bit-word (suc n) r (suc i) l =
    let w : ℕ = word n (λ i. r (suc i)) in
    let half : (cond (r 0) 1 0 + 2 * w) / 2 ≡ w = omega (arith, flag_lt (r 0)) in
    rw (bit-suc, half) (bit-word n (λ i. r (suc i)) i (le_of_suc-le-suc l))

pub word-lt : (n : ℕ) (r : ℕ → Bool) → word n r < 2 ^ n
unfolding word
word-lt zero r = omega arith
word-lt (suc n) r = omega (arith, pow-suc 2 n, flag_lt (r 0), word-lt n (λ i. r (suc i)))

-- every bit of a word that is made by a rule
pub bit-word_all : (n : ℕ) (r : ℕ → Bool) (i : ℕ) → bit (word n r) i ≡ (ltb i n && r i)
bit-word_all n r i = go (ltb i n) refl
  where
    go : (b : Bool) → ltb i n ≡ b → bit (word n r) i ≡ (b && r i)
    go true e = bit-word n r i (ltb-true i n e)
    go false e = bit_out n (word n r) i (word-lt n r) (ltb-false i n e)

-- the lowest set bit, of a number that has one
pub trailing_lowest : (n a : ℕ) → a < 2 ^ n → 0 < a → IsFirst n (bit a) (count_trailing_zeros n a)
unfolding count_trailing_zeros
trailing_lowest zero a h p = absurd (omega arith)
trailing_lowest (suc n) a h p = go (a % 2) refl (λ q. trailing_lowest n (a / 2) (omega (arith, rw pow-suc at h)) q)
  where
    go : (d : ℕ) → a % 2 ≡ d → (0 < a / 2 → IsFirst n (bit (a / 2)) (count_trailing_zeros n (a / 2))) → IsFirst (suc n) (bit a) (under d (count_trailing_zeros n (a / 2)))
    go zero e rest =
        let f = rest (omega arith) in
        record { within = suc-le-suc f.within; here = rw bit-suc f.here; none_before = before f.none_before }
      where
        before : {t : ℕ} → ((j : ℕ) → j < t → bit (a / 2) j ≡ false) → (j : ℕ) → j < suc t → bit a j ≡ false
        before b zero l = rw (bit_low, e)
        before b (suc j) l = rw bit-suc (b j (le_of_suc-le-suc l))
    go (suc d) e rest =
        let one : a % 2 ≡ 1 = omega arith in
        record { within = zero-lt-suc n; here = rw (bit_low, one); none_before = λ j l. absurd (omega arith) }

-- What a walk over the set bits of row word j finds in a turn, where s is the place of the lowest
-- bit of what is left of it.
pub record Lowest (j rest s : ℕ) : Type 0 where
  pub here : bit rest (s % 64) ≡ true
  pub whole : s ≡ 64 * j + s % 64
  pub less : clear_bit rest (s % 64) < rest

pub lowest_turn : (j rest s : ℕ) → rest < 2 ^ 64 → (rest ≡ 0 → ⊥) → s ≡ 64 * j + count_trailing_zeros 64 rest → Lowest j rest s
lowest_turn j rest s small some e =
    let first = trailing_lowest 64 rest small (omega arith) in
    let place : s % 64 ≡ count_trailing_zeros 64 rest = omega (arith, first.within) in
    let here : bit rest (s % 64) ≡ true = rw place first.here in
    record { here = here; whole = rw place e; less = clear-lt rest (s % 64) here }

-- ---- words that have a bit for each place

pub length-bit_words : (n : ℕ) (r : ℕ → Bool) → length (bit_words n r) ≡ n
unfolding bit_words
length-bit_words n r = length-tabulate n _

-- the bit of a place
pub bit-bit_words : (n : ℕ) (r : ℕ → Bool) (i : ℕ) → i < 64 * n → bit (get_or (bit_words n r) (i / 64) 0) (i % 64) ≡ r i
unfolding bit_words
bit-bit_words n r i h =
    ap (λ w. bit w (i % 64)) (get_or-tabulate n _ (i / 64) 0 (omega arith)) ∙ bit-word 64 _ (i % 64) (omega arith) ∙ ap r (omega arith)

pub bit_words_ext : (n : ℕ) (r s : ℕ → Bool) → ((i : ℕ) → r i ≡ s i) → bit_words n r ≡ bit_words n s
unfolding bit_words
bit_words_ext n r s h = tabulate_ext n _ _ (λ j l. word_ext 64 _ _ (λ b m. h (64 * j + b)))

-- they have as many ones as the rule holds often
pub ones_of_rule : (n : ℕ) (r : ℕ → Bool) → total_ones (bit_words n r) ≡ count (64 * n) r
unfolding bit_words total_ones tabulate
ones_of_rule zero r = unfold count in refl
ones_of_rule (suc n) r =
    ap₂ (λ (x y : ℕ). x + y) (count_ext 64 (bit (word 64 first)) r (λ i l. bit-word 64 first i l ∙ ap r (omega arith)))
    (ap (λ (f : ℕ → ℕ). total_ones (tabulate n f)) (simp shift) ∙ ones_of_rule n (λ i. r (64 + i)))
    ∙ sym (count-add 64 (64 * n) r) ∙ ap (λ (k : ℕ). count k r) (omega arith)
  where
    first : ℕ → Bool
    first b = r (64 * 0 + b)

    shift : (j b : ℕ) → 64 * suc j + b ≡ 64 + (64 * j + b)
    shift j b = omega arith

-- where it holds of no place from d on, those below d count
pub ones_below : (n d : ℕ) (r : ℕ → Bool) → d ≤ 64 * n → ((i : ℕ) → d ≤ i → r i ≡ false) → total_ones (bit_words n r) ≡ count d r
ones_below n d r most past =
    let whole : d + (64 * n - d) ≡ 64 * n = omega arith in
    ones_of_rule n r ∙ ap (λ k. count k r) (sym whole) ∙ count-add d (64 * n - d) r
    ∙ rw (count_none (64 * n - d) _ (λ i l. past (d + i) (omega arith))) (add-zero _)
