-- What is known of a number that is a kind's.
use Rattle.std.proofs.Common.{◌≡◌, ℕ, Bool, true, false, cond, ◌&&◌, eqb, Ok, Err, Result, refl, sym, eqb-true}
use Rattle.geometry.specs.declared.Kind.{Kind}
use Rattle.geometry.specs.declared.Kind.TheVariants.{Transposed, Cascaded, Segmented}
use Rattle.geometry.specs.declared.UnknownKind.{UnknownKind}
use Rattle.geometry.specs.Valid.{transposed, cascaded, segmented, is_between, segmented_rule, kind_rule}
use Rattle.geometry.specs.Kinds.{number_of, no_kind, kind_of}

-- it is the kind's number
pub number_of_kind : (n : ℕ) (k : Kind) → kind_of n ≡ Ok k → number_of k ≡ n
number_of_kind n k = go (eqb n transposed) (eqb n cascaded) (eqb n segmented) refl refl refl
  where
    go : (a b c : Bool) → eqb n transposed ≡ a → eqb n cascaded ≡ b → eqb n segmented ≡ c
        → cond a (Ok Transposed) (cond b (Ok Cascaded) (cond c (Ok Segmented) (Err (no_kind n)))) ≡ Ok k → number_of k ≡ n
    go true b c ea eb ec e = let is : Transposed ≡ k = cc in rw (← is) (sym (eqb-true n transposed ea))
    go false true c ea eb ec e = let is : Cascaded ≡ k = cc in rw (← is) (sym (eqb-true n cascaded eb))
    go false false true ea eb ec e = let is : Segmented ≡ k = cc in rw (← is) (sym (eqb-true n segmented ec))
    go false false false ea eb ec e = absurd (cc)

-- whether it is the cascaded one's, by the kind
module _ {n : ℕ} {k : Kind} (has : number_of k ≡ n) where
  pub cascaded_told : k ≡ Cascaded → eqb n cascaded ≡ true
  cascaded_told is = rw (← has, is)

  pub other_told : (k ≡ Cascaded → ⊥) → eqb n cascaded ≡ false
  other_told differs = rw (← has) (go k differs)
    where
      go : (k : Kind) → (k ≡ Cascaded → ⊥) → eqb (number_of k) cascaded ≡ false
      go Transposed d = refl
      go Cascaded d = absurd (d refl)
      go Segmented d = refl

-- a number of no kind makes no geometry
pub unknown_kind : (n d w s : ℕ) {r : Result Kind UnknownKind} {e : UnknownKind} → r ≡ kind_of n → r ≡ Err e → kind_rule n d w s ≡ false
unfolding kind_rule
unknown_kind n d w s found is = go (eqb n transposed) (eqb n cascaded) (eqb n segmented) (rw found at is)
  where
    go : (a b c : Bool) {e : UnknownKind} → cond a (Ok Transposed) (cond b (Ok Cascaded) (cond c (Ok Segmented) (Err (no_kind n)))) ≡ Err e
        → cond a (is_between 1 12 w && eqb s 1) (cond b (is_between 1 27 w && eqb s 1) (cond c (is_between 1 12 w && segmented_rule d s) false)) ≡ false
    go true b c h = absurd (cc)
    go false true c h = absurd (cc)
    go false false true h = absurd (cc)
    go false false false h = refl
