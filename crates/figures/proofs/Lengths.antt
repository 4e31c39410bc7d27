-- How long a figure is: sixteen digits in hexadecimal, and in decimal the fewest that hold it.
use Rattle.std.proofs.Common.{◌≡◌, ℕ, zero, suc, ◌+◌, ◌-◌, ◌/◌, ◌%◌, ◌^◌, ◌<◌, ◌≤◌, [], ◌∷◌, ◌++◌, length, refl, sym, pow-suc, sub-one, arith, length-append}
use Rattle.std.proofs.Math.Nat.{pow-le-pow_right}
use Rattle.std.proofs.Math.Decide.{dec_lt}
use Rattle.std.specs.Fmt.{decimal}
use Rattle.std.proofs.lemmas.Fmt.{decimal_by_steps}
use Rattle.io.specs.Digits.{hex_digit_ascii, last_digits, IsDigitCount}
use Rattle.figures.specs.Figures.{Bytes, hexadecimal}

digits_long : (b k n : ℕ) → length (last_digits b k n) ≡ k
digits_long b zero n = refl
digits_long b (suc k) n = omega (arith, length-append (last_digits b k (n / b)) (hex_digit_ascii (n % b) ∷ []), digits_long b k (n / b))

pub hexadecimal_long : (w : ℕ) → length (hexadecimal w) ≡ 16
unfolding hexadecimal
hexadecimal_long w = digits_long 16 16 w

-- where the least number of digits holds n, no more are spelt
fewest_least : (b least n k : ℕ) → IsDigitCount b least n k → 0 < b → n < b ^ least → k ≡ least
fewest_least b least n k f positive holds = go (dec_lt least k)
  where
    go : Dec (least < k) → k ≡ least
    go (yes more) = omega (arith, f.2 more, pow-le-pow_right positive {i = least} {j = k - 1} (omega arith))
    go (no none_more) = omega arith

-- from ten on a tenth has one digit less
tenth : (n k : ℕ) → 10 ≤ n → IsDigitCount 10 1 n (suc k) → IsDigitCount 10 1 (n / 10) k
tenth n zero h f = omega arith
tenth n (suc k) h f =
    let less : 10 ^ suc k ≤ n = rw (sub-one (suc (suc k))) at (f.2 (omega arith)) in
    (omega arith, omega (arith, pow-suc 10 (suc k)), λ _. rw (sub-one (suc k)) (omega (arith, pow-suc 10 k)))

-- `decimal` has the fewest digits that hold a number, as `io` counts digits
pub length-decimal : (n k : ℕ) → n < 2 ^ 64 → IsDigitCount 10 1 n k → length (decimal n) ≡ k
length-decimal n k small f = decimal_by_steps (λ n ds. (k : ℕ) → IsDigitCount 10 1 n k → length ds ≡ k) one more n small k f
  where
    one : (n : ℕ) → n < 10 → (k : ℕ) → IsDigitCount 10 1 n k → length ((48 + n) ∷ []) ≡ k
    one n low k f = sym (fewest_least 10 1 n k f (omega arith) (omega arith))

    more : (n : ℕ) (ds : Bytes) → 10 ≤ n → ((k : ℕ) → IsDigitCount 10 1 (n / 10) k → length ds ≡ k)
        → (k : ℕ) → IsDigitCount 10 1 n k → length (ds ++ (48 + n % 10) ∷ []) ≡ k
    more n ds high front zero f = omega arith
    more n ds high front (suc k) f = omega (arith, front k (tenth n k high f), length-append ds ((48 + n % 10) ∷ []))
