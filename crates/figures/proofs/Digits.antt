-- The digits that `io::hex` spells are those of the definition.
use Rattle.std.proofs.Common.{◌≡◌, ℕ, ◌≤◌, length, take, sym, ap, ◌∙◌, arith}
use Rattle.std.proofs.Math.Seq.{take-length}
use Rattle.io.specs.Digits.{last_digits}
use Rattle.figures.specs.Figures.{Bytes, hexadecimal}

-- where sixteen digits are asked for, all that has room are spelt
pub sixteen : (w count : ℕ) (out : Bytes) → 16 ≤ count → count ≤ length out → length out ≡ 16
    → take count out ≡ last_digits 16 count w → out ≡ hexadecimal w
unfolding hexadecimal
sixteen w count out least most long digits =
    let whole : length out ≡ count = omega arith in
    let all : count ≡ 16 = omega arith in
    sym (take-length out) ∙ ap (λ (k : ℕ). take k out) whole ∙ digits ∙ ap (λ (k : ℕ). last_digits 16 k w) all
