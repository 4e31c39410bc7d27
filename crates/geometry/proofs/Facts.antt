-- What a geometry that is not refused gives, once for all that cite it.
use Rattle.std.proofs.Common.{◌≡◌, ℕ, ◌+◌, ◌*◌, ◌<◌, ◌≤◌, Bool, true, false, cond, ◌&&◌, eqb, leb, ◌⊎◌, refl, sym, ◌∙◌, inl, inr, true≢false, lt_of_le_of_lt, lt_of_not-le, arith, lit<, lit≤, pow_mono, ne_eqb, eqb-true, leb-true}
use Rattle.std.proofs.Math.Bool.{and-eq-true_iff, and-false, false≢true}
use Rattle.std.specs.Int.{div_ceil}
use Rattle.std.proofs.lemmas.Grind.{div_ceil_times}
use Rattle.geometry.specs.declared.Geometry.{Geometry}
use Rattle.geometry.specs.Valid.{is_between, segmented_rule, is_valid, kind_rule, transposed, cascaded, segmented}
use Rattle.geometry.specs.Sizes.{patterns, sets}
use Rattle.geometry.specs.Stages.{stages}

pub record Facts (g : Geometry) : Type 0 where
  pub depth_pos : 1 ≤ g.depth
  pub depth_most : g.depth ≤ 4096
  pub width_pos : 1 ≤ g.pattern_width
  pub width_most : g.pattern_width ≤ 27
  pub set_pos : 1 ≤ g.set_width
  pub set_most : g.set_width ≤ 64
  -- the sets reach to the depth, and the last one begins below it
  pub reached : g.depth ≤ g.set_width * sets g
  pub needed : g.set_width * sets g < g.depth + g.set_width
  -- only a kind with one stage has sets of more than one address
  pub single : (g.set_width ≡ 1) ⊎ (stages g ≡ 1)
  -- only the segmented kind has sets of more than one address
  pub alone : eqb g.kind segmented ≡ false → g.set_width ≡ 1
  -- stages: one, or as many as the width asks
  pub staged : (stages g ≡ 1) ⊎ (9 * stages g < g.pattern_width + 9)

pub range : (low high n : ℕ) → is_between low high n ≡ true → (low ≤ n) × (n ≤ high)
range low high n e =
    let r = (and-eq-true_iff (leb low n) (leb n high)).0 e in
    (leb-true low n r.0, leb-true n high r.1)

module _ (g : Geometry) (deep : (1 ≤ g.depth) × (g.depth ≤ 4096)) where
  made : (1 ≤ g.pattern_width) × (g.pattern_width ≤ 27) → (1 ≤ g.set_width) × (g.set_width ≤ 64)
      → (g.set_width ≡ 1) ⊎ (stages g ≡ 1) → (eqb g.kind segmented ≡ false → g.set_width ≡ 1) → Facts g
  unfolding stages sets
  made w s single alone = record {
    depth_pos = deep.0;
    depth_most = deep.1;
    width_pos = w.0;
    width_most = w.1;
    set_pos = s.0;
    set_most = s.1;
    reached = omega (arith, sets_times.0);
    needed = omega (arith, sets_times.1);
    single = single;
    alone = alone;
    staged = cut (eqb g.kind cascaded);
  }
    where
      sets_times : (g.depth ≤ div_ceil g.depth g.set_width * g.set_width) × (div_ceil g.depth g.set_width * g.set_width < g.depth + g.set_width)
      sets_times = div_ceil_times g.depth g.set_width s.0

      cut : (c : Bool) → let n = cond c (div_ceil g.pattern_width 9) 1 in (n ≡ 1) ⊎ (9 * n < g.pattern_width + 9)
      cut true = inr (omega arith)
      cut false = inl refl

  -- the kinds with one address in each set
  plain : (most : ℕ) → most ≤ 27 → is_between 1 most g.pattern_width && eqb g.set_width 1 ≡ true → Facts g
  plain most l e =
      let r = (and-eq-true_iff (is_between 1 most g.pattern_width) (eqb g.set_width 1)).0 e in
      let w = range 1 most g.pattern_width r.0 in
      let one : g.set_width ≡ 1 = eqb-true _ _ r.1 in
      made (omega arith) (omega arith) (inl one) (λ _. one)

  -- t, c and s are the tests for the three kinds
  kinds : (t c s : Bool) → eqb g.kind cascaded ≡ c → eqb g.kind segmented ≡ s
      → cond t (is_between 1 12 g.pattern_width && eqb g.set_width 1)
      (cond c (is_between 1 27 g.pattern_width && eqb g.set_width 1)
      (cond s (is_between 1 12 g.pattern_width && segmented_rule g.depth g.set_width) false)) ≡ true
      → Facts g
  unfolding stages
  kinds true c s ec es e = plain 12 (lit≤ tt) e
  kinds false true s ec es e = plain 27 (lit≤ tt) e
  kinds false false true ec es e =
      let r = (and-eq-true_iff (is_between 1 12 g.pattern_width) (segmented_rule g.depth g.set_width)).0 e in
      let q = (and-eq-true_iff (is_between 1 64 g.set_width) _).0 r.1 in
      let w = range 1 12 g.pattern_width r.0 in
      made (omega arith) (range 1 64 g.set_width q.0) (inr (rw ec)) (λ n. absurd (true≢false (sym es ∙ n)))
  kinds false false false ec es e = absurd (false≢true e)

pub facts : (g : Geometry) → is_valid g ≡ true → Facts g
unfolding is_valid
facts g h =
    let r = (and-eq-true_iff (is_between 1 4096 g.depth) (kind_rule g.kind g.depth g.pattern_width g.set_width)).0 h in
    kinds g (range 1 4096 g.depth r.0) (eqb g.kind transposed) (eqb g.kind cascaded) (eqb g.kind segmented) refl refl r.1

-- no pattern reaches the word of an empty address
pub patterns_most : (g : Geometry) → Facts g → patterns g < 4294967295
unfolding patterns
patterns_most g f = lt_of_le_of_lt (pow_mono f.width_most) (lit< tt)

-- kinds are 0, 1 and 2
pub kind_most : (g : Geometry) → is_valid g ≡ true → g.kind ≤ 2
unfolding is_valid
kind_most g ok = omega (arith, lt_of_not-le (λ l. false≢true (sym (invalid l) ∙ ok)))
  where
    invalid : 3 ≤ g.kind → is_valid g ≡ false
    invalid l =
        rw (ne_eqb g.kind transposed (λ e. omega arith), ne_eqb g.kind cascaded (λ e. omega arith), ne_eqb g.kind segmented (λ e. omega arith))
        (and-false (is_between 1 4096 g.depth))
