-- What the number that a table gives tells of its rows. By induction on the rows.
use Rattle.std.proofs.Common.{◌≡◌, ℕ, true, false, List, [], ◌∷◌, ◌++◌, Some, None, refl, sym, ap, ◌∙◌, true≢false, append-nil, arith}
use Rattle.machines.specs.Refusals.{RefusalRow, ◌given_when◌, first_refusal, NoneApplies, FirstApplies}

-- where no number is given, every row is passed
pub passes : (rows : List RefusalRow) → first_refusal rows ≡ None → NoneApplies rows
unfolding first_refusal
passes [] e = tt
passes ((n given_when true) ∷ rest) e = absurd (let z : ◌≡◌ {A = ℕ} 0 1 = cc in omega arith)
passes ((n given_when false) ∷ rest) e = (refl, passes rest e)

-- below rows that are passed, the rest decides
below_passed : (above rest : List RefusalRow) → NoneApplies above → first_refusal (above ++ rest) ≡ first_refusal rest
unfolding first_refusal
below_passed [] rest p = refl
below_passed ((n given_when true) ∷ above) rest p = absurd (true≢false p.0)
below_passed ((n given_when false) ∷ above) rest p = below_passed above rest p.1

pub passed_none : (rows : List RefusalRow) → NoneApplies rows → first_refusal rows ≡ None
unfolding first_refusal
passed_none rows p = ap first_refusal (sym (append-nil rows)) ∙ below_passed rows [] p

pub refusal_first : (rows : List RefusalRow) (n : ℕ) → first_refusal rows ≡ Some n → FirstApplies rows n
unfolding first_refusal
refusal_first [] n e = absurd (let z : ◌≡◌ {A = ℕ} 0 1 = cc in omega arith)
refusal_first ((m given_when true) ∷ rest) n e =
    let same : m ≡ n = cc in
    record { above = []; below = rest; split = ap (λ k. k given_when true ∷ rest) same; passed = tt }
refusal_first ((m given_when false) ∷ rest) n e =
    let f = refusal_first rest n e in
    record { above = m given_when false ∷ f.above; below = f.below; split = ap (λ r. m given_when false ∷ r) f.split; passed = (refl, f.passed) }

pub first_refusal_is : (rows : List RefusalRow) (n : ℕ) → FirstApplies rows n → first_refusal rows ≡ Some n
unfolding first_refusal
first_refusal_is rows n f = rw f.split (below_passed f.above (n given_when true ∷ f.below) f.passed)

-- a last row that does not apply
pub last_passes : (rows : List RefusalRow) (n : ℕ) → first_refusal (rows ++ (n given_when false ∷ [])) ≡ first_refusal rows
unfolding first_refusal
last_passes [] n = refl
last_passes ((m given_when true) ∷ rows) n = refl
last_passes ((m given_when false) ∷ rows) n = last_passes rows n

-- Each row says P of its number where its test holds.
abbrev pub Each : (ℕ → Type 0) → List RefusalRow → Type 0
Each P [] = Unit
Each P ((n given_when test) ∷ rest) = (test ≡ true → P n) × Each P rest

-- then the row that is given says it
pub given_says : (P : ℕ → Type 0) (rows : List RefusalRow) (n : ℕ) → Each P rows → first_refusal rows ≡ Some n → P n
unfolding first_refusal
given_says P [] n each e = absurd (let z : ◌≡◌ {A = ℕ} 0 1 = cc in omega arith)
given_says P ((m given_when true) ∷ rest) n each e = let same : m ≡ n = cc in rw same at (each.0 refl)
given_says P ((m given_when false) ∷ rest) n each e = given_says P rest n each.1 e
