-- Marking: the bits of some places are set in words besides. Its laws, and how the loops of
-- all-match mark what they take of a set, of a row word, and of all row words.
use Rattle.std.proofs.Common.{◌≡◌, ℕ, ◌+◌, ◌*◌, ◌/◌, ◌%◌, ◌<◌, ◌≤◌, Bool, true, false, cond, not, ◌&&◌, ◌||◌, eqb, ltb, List, length, get_or, replicate, refl, sym, ap, ◌∙◌, arith, ext_get_or, ltb-false, ltb-true, le-ltb, lt-ltb, eq-eqb, eqb-true}
use Rattle.std.proofs.Math.Bool.{and-eq-true_iff, and-true, and-false, and_assoc, and-or_distrib_left, or_self, or-false, or_comm}
use lib.Bits.{or_zero_l}
use Rattle.std.proofs.Math.ListN.{length-replicate, get_or-replicate}
use Rattle.words.specs.Bits.{bit, bit_words, set_bit, clear_bit, change_bit}
use Rattle.words.proofs.Rules.{both_ways, digits_same, length-tabulate, get_or-tabulate, tabulate_ext}
use Rattle.words.proofs.Bits.{bits_equal, bit-zero, bit-bit_or, bit-set_bit, bit-clear_bit, bit-change_bit, bit-word_all, length-change_bit}
use Rattle.geometry.specs.declared.Geometry.{Geometry}
use Rattle.geometry.specs.Valid.{segmented}
use Rattle.geometry.specs.Sizes.{row_words, set_of, offset_of, address_of, set_length}
use Rattle.geometry.proofs.Facts.{Facts}
use Rattle.geometry.proofs.Places.{offset_lt, address_same, word-lt}
use Rattle.reference.specs.Tables.{Tables, stored_word}
use Rattle.reference.specs.Search.{joined_word, is_indicated, is_chosen, is_taken}
use Rattle.search.proofs.Seeking.{joined_word_in_sets}
use Rattle.collect.specs.Marks.{marked_words, indicates}

-- ---- laws of marking

pub length-marked_words : (r : ℕ → Bool) (ws : List ℕ) → length (marked_words r ws) ≡ length ws
unfolding marked_words
length-marked_words r ws = length-tabulate (length ws) _

-- words that were zero hold the rule alone
pub marked_words_zeros : (r : ℕ → Bool) (n : ℕ) → marked_words r (replicate n 0) ≡ bit_words n r
unfolding marked_words bit_words
marked_words_zeros r n = rw length-replicate (tabulate_ext n _ _ (λ j l. rw (get_or-replicate {A = ℕ} n j 0 0 l) (or_zero_l _)))

bit-marked_words : (r : ℕ → Bool) (ws : List ℕ) (j b : ℕ) → j < length ws
    → bit (get_or (marked_words r ws) j 0) b ≡ (bit (get_or ws j 0) b || (ltb b 64 && r (64 * j + b)))
unfolding marked_words
bit-marked_words r ws j b h = rw (get_or-tabulate (length ws) _ j 0 h, bit-bit_or, bit-word_all 64 (λ i. r (64 * j + i)))

-- words with the bits of the marked ones are those
marked_words_bits : (l ws : List ℕ) (r : ℕ → Bool) → length l ≡ length ws
    → ((j b : ℕ) → j < length ws → bit (get_or l j 0) b ≡ (bit (get_or ws j 0) b || (ltb b 64 && r (64 * j + b))))
    → l ≡ marked_words r ws
marked_words_bits l ws r e h =
    ext_get_or 0 l (marked_words r ws) (e ∙ sym (length-marked_words r ws))
    (λ j m. let inside : j < length ws = omega arith in bits_equal _ _ (λ b. h j b inside ∙ sym (bit-marked_words r ws j b inside)))

marked_words_ext : (r q : ℕ → Bool) (ws : List ℕ) → ((a : ℕ) → r a ≡ q a) → marked_words r ws ≡ marked_words q ws
marked_words_ext r q ws h = marked_words_bits (marked_words r ws) ws q (length-marked_words r ws) (λ j b l. bit-marked_words r ws j b l ∙ rw (h (64 * j + b)))

marked_words_none : (r : ℕ → Bool) (ws : List ℕ) → ((a : ℕ) → r a ≡ false) → marked_words r ws ≡ ws
marked_words_none r ws h =
    sym (marked_words_bits ws ws r refl (λ j b l. rw (h (64 * j + b), and-false (ltb b 64)) (sym (or-false (bit (get_or ws j 0) b)))))

-- marking by r and then by q is marking by a rule that is either
marked_words_twice : (r q p : ℕ → Bool) (ws : List ℕ) → ((a : ℕ) → p a ≡ (r a || q a)) → marked_words q (marked_words r ws) ≡ marked_words p ws
marked_words_twice r q p ws h =
    marked_words_bits (marked_words q (marked_words r ws)) ws p (length-marked_words q (marked_words r ws) ∙ length-marked_words r ws)
    (λ j b l. bit-marked_words q (marked_words r ws) j b (omega (arith, length-marked_words r ws))
    ∙ rw (bit-marked_words r ws j b l, h (64 * j + b)) (formula (bit (get_or ws j 0) b) (ltb b 64) (r (64 * j + b)) (q (64 * j + b))))
  where
    formula : (w t x y : Bool) → ((w || (t && x)) || (t && y)) ≡ (w || (t && (x || y)))
    formula true t x y = refl
    formula false true x y = refl
    formula false false x y = refl

-- one bit is set where a test says so
marked_words_one : (ws : List ℕ) (a : ℕ) (test : Bool) → a / 64 < length ws
    → cond test (change_bit set_bit ws (a / 64) (a % 64)) ws ≡ marked_words (λ x. eqb x a && test) ws
marked_words_one ws a false h = sym (marked_words_none _ ws (λ x. and-false (eqb x a)))
marked_words_one ws a true h =
    marked_words_bits (change_bit set_bit ws (a / 64) (a % 64)) ws _ (length-change_bit set_bit ws (a / 64) (a % 64))
    (λ j b l. bit-change_bit set_bit (λ t x. x || t) (λ n i k. bit-set_bit n i k ∙ or_comm (eqb k i) (bit n k)) or-false ws (a / 64) (a % 64) h j b
    ∙ ap (λ x. bit (get_or ws j 0) b || x) (both_ways _ _ (apart j b) (together j b) ∙ rw (and-true (eqb (64 * j + b) a))))
  where
    apart : (j b : ℕ) → (eqb j (a / 64) && eqb b (a % 64)) ≡ true → (ltb b 64 && eqb (64 * j + b) a) ≡ true
    apart j b e =
        let both = (and-eq-true_iff (eqb j (a / 64)) (eqb b (a % 64))).0 e in
        let word : j ≡ a / 64 = eqb-true _ _ both.0 in
        let place : b ≡ a % 64 = eqb-true _ _ both.1 in
        (and-eq-true_iff _ _).1 (lt-ltb b 64 (omega arith), eq-eqb (64 * j + b) a (omega arith))

    together : (j b : ℕ) → (ltb b 64 && eqb (64 * j + b) a) ≡ true → (eqb j (a / 64) && eqb b (a % 64)) ≡ true
    together j b e =
        let both = (and-eq-true_iff (ltb b 64) (eqb (64 * j + b) a)).0 e in
        let small = ltb-true b 64 both.0 in
        let same = eqb-true (64 * j + b) a both.1 in
        (and-eq-true_iff _ _).1 (eq-eqb j (a / 64) (omega arith), eq-eqb b (a % 64) (omega arith))

-- ---- numbers

below_next : (n o : ℕ) → ltb n (o + 1) ≡ (ltb n o || eqb n o)
below_next n o = go (ltb n o) refl
  where
    go : (t : Bool) → ltb n o ≡ t → ltb n (o + 1) ≡ (t || eqb n o)
    go true e = let below = ltb-true n o e in lt-ltb n (o + 1) (omega arith)
    go false e =
        let past = ltb-false n o e in
        both_ways _ _ (λ l. eq-eqb n o (omega (arith, ltb-true n (o + 1) l))) (λ q. lt-ltb n (o + 1) (omega (arith, eqb-true n o q)))

-- what comes next adds to what was before
next_part : (before here x y : Bool) → (here ≡ true → x ≡ y) → ((before || here) && x) ≡ ((before && x) || (here && y))
next_part true true x y same = rw (same refl) (sym (or_self y))
next_part true false x y same = sym (or-false x)
next_part false true x y same = same refl
next_part false false x y same = refl

-- ---- an address

-- In the segmented kind an address of an indicated set is taken where the code finds its entry
-- equal to the key, in the others always.
module _ (g : Geometry) (t : Tables) (key a : ℕ) (inside : a < g.depth) where
  pub is_chosen_all : eqb g.kind segmented ≡ false → is_chosen g t key a ≡ true
  is_chosen_all k = rw (lt-ltb a g.depth inside, k)

  pub is_chosen_equal : eqb g.kind segmented ≡ true → (v : ℕ) → v ≡ stored_word t a → is_chosen g t key a ≡ eqb v key
  is_chosen_equal k v read = rw (lt-ltb a g.depth inside, k, ← read)

-- ---- a set

-- Of set s the addresses before offset o that are taken.
unfoldable pub is_taken_before : Geometry → Tables → (key s o a : ℕ) → Bool
is_taken_before g t key s o a = (eqb (set_of g a) s && ltb (offset_of g a) o) && is_chosen g t key a

module _ (g : Geometry) (t : Tables) (key s : ℕ) (ws : List ℕ) where
  pub set_start : (o : ℕ) → o ≡ 0 → ws ≡ marked_words (is_taken_before g t key s o) ws
  unfolding is_taken_before
  set_start o e = sym (marked_words_none _ ws (λ a. rw (le-ltb (offset_of g a) o (omega arith), and-false (eqb (set_of g a) s))))

  -- at offset o the bit of its address is set where a test says that the address is taken
  pub set_step : Facts g → (o a : ℕ) → a ≡ address_of g s o → o < set_length g s → (m : List ℕ) → a / 64 < length m → m ≡ marked_words (is_taken_before g t key s o) ws
      → (test : Bool) → is_chosen g t key a ≡ test → cond test (change_bit set_bit m (a / 64) (a % 64)) m ≡ marked_words (is_taken_before g t key s (o + 1)) ws
  unfolding is_taken_before
  set_step f o a e ho m hm before test is =
      marked_words_one m a test hm
      ∙ rw before
      (marked_words_twice _ _ _ ws
      (λ x. rw (below_next (offset_of g x) o, and-or_distrib_left (eqb (set_of g x) s) (ltb (offset_of g x) o), e, address_same g f x s o ho)
      (next_part (eqb (set_of g x) s && ltb (offset_of g x) o) _ _ _ (here x))))
    where
      here : (x : ℕ) → (eqb (set_of g x) s && eqb (offset_of g x) o) ≡ true → is_chosen g t key x ≡ test
      here x h = ap (is_chosen g t key) (eqb-true x (address_of g s o) (address_same g f x s o ho ∙ h) ∙ sym e) ∙ is

  -- every offset of the set is passed, and an address from the depth on is not taken
  pub set_end : Facts g → (o : ℕ) → set_length g s ≤ o → marked_words (is_taken_before g t key s o) ws ≡ marked_words (λ a. eqb (set_of g a) s && is_chosen g t key a) ws
  unfolding is_taken_before
  set_end f o h = marked_words_ext _ _ ws (λ a. go a (eqb (set_of g a) s) (ltb a g.depth) refl refl _)
    where
      go : (a : ℕ) (here inside : Bool) → eqb (set_of g a) s ≡ here → ltb a g.depth ≡ inside → (x : Bool)
          → ((here && ltb (offset_of g a) o) && (inside && x)) ≡ (here && (inside && x))
      go a false inside p q x = refl
      go a true false p q x = and-false (ltb (offset_of g a) o)
      go a true true p q x =
          let last = rw (eqb-true (set_of g a) s p) at (offset_lt g f a (ltb-true a g.depth q)) in
          rw (lt-ltb (offset_of g a) o (omega arith))

-- ---- a row word

-- Of the sets that row word j, which is w, indicates the addresses that are taken.
unfoldable pub is_taken_in : Geometry → Tables → (key w j a : ℕ) → Bool
is_taken_in g t key w j a = indicates w j (set_of g a) && is_chosen g t key a

module _ (g : Geometry) (t : Tables) (key j : ℕ) where
  -- what is taken of a set, and then what is left when its bit is cleared
  pub word_step : (rest b s : ℕ) → bit rest b ≡ true → b < 64 → s ≡ 64 * j + b → (m last : List ℕ)
      → last ≡ marked_words (λ a. eqb (set_of g a) s && is_chosen g t key a) m
      → marked_words (is_taken_in g t key (clear_bit rest b) j) last ≡ marked_words (is_taken_in g t key rest j) m
  unfolding is_taken_in
  word_step rest b s here hb e m last done =
      rw done
      (marked_words_twice _ _ _ m
      (λ a. rw (e, digits_same 64 (set_of g a) j b hb, bit-clear_bit rest b (set_of g a % 64)) (formula (eqb (set_of g a / 64) j) _ _ _ (set_here (set_of g a % 64)))))
    where
      set_here : (i : ℕ) → eqb i b ≡ true → bit rest i ≡ true
      set_here i q = rw (eqb-true i b q) here

      formula : (among here left x : Bool) → (here ≡ true → left ≡ true)
          → ((among && left) && x) ≡ (((among && here) && x) || ((among && (not here && left)) && x))
      formula false h l x same = refl
      formula true true l x same = rw (same refl) (sym (or-false x))
      formula true false l x same = refl

  -- no bit is left
  pub word_end : (w rest : ℕ) → rest ≡ 0 → (m ws : List ℕ) → marked_words (is_taken_in g t key rest j) m ≡ marked_words (is_taken_in g t key w j) ws
      → m ≡ marked_words (λ a. indicates w j (set_of g a) && is_chosen g t key a) ws
  unfolding is_taken_in
  word_end w rest e m ws done = sym (marked_words_none _ m (λ a. rw (e, bit-zero, and-false (eqb (set_of g a / 64) j)))) ∙ done

-- ---- all row words

-- Of the sets of the row words before word j the addresses that are taken.
unfoldable pub is_taken_below : Geometry → Tables → (key j a : ℕ) → Bool
is_taken_below g t key j a = ltb (set_of g a / 64) j && is_taken g t key a

module _ (g : Geometry) (t : Tables) (key : ℕ) (ws : List ℕ) where
  pub all_start : (j : ℕ) → j ≡ 0 → ws ≡ marked_words (is_taken_below g t key j) ws
  unfolding is_taken_below
  all_start j e = sym (marked_words_none _ ws (λ a. rw (le-ltb (set_of g a / 64) j (omega arith))))

  -- row word j, which is w, is passed: the addresses of its sets that are taken are marked, and of
  -- a word that is 0 there are none
  module _ (j w : ℕ) (is : w ≡ joined_word g t key j) (m : List ℕ) (before : m ≡ marked_words (is_taken_below g t key j) ws) where
    pub all_step : (last : List ℕ) → last ≡ marked_words (λ a. indicates w j (set_of g a) && is_chosen g t key a) m → last ≡ marked_words (is_taken_below g t key (j + 1)) ws
    unfolding is_taken_below is_taken is_indicated
    all_step last done =
        done
        ∙ rw before
        (marked_words_twice _ _ _ ws
        (λ a. let s = set_of g a in rw (below_next (s / 64) j, and_assoc (eqb (s / 64) j)) (next_part (ltb (s / 64) j) _ _ _ (λ q. ap (λ x. x && is_chosen g t key a) (here s q)))))
      where
        here : (s : ℕ) → eqb (s / 64) j ≡ true → is_indicated g t key s ≡ bit w (s % 64)
        here s q = rw (eqb-true (s / 64) j q, is)

    pub zero_step : w ≡ 0 → m ≡ marked_words (is_taken_below g t key (j + 1)) ws
    zero_step e = all_step m (sym (marked_words_none _ m (λ a. rw (e, bit-zero, and-false (eqb (set_of g a / 64) j)))))

  -- every set that is indicated has its bit in a row word
  pub all_end : Facts g → (j : ℕ) → row_words g ≤ j → marked_words (is_taken_below g t key j) ws ≡ marked_words (is_taken g t key) ws
  unfolding is_taken_below is_taken is_indicated
  all_end f j h =
      marked_words_ext _ _ ws
      (λ a. both_ways _ _ (λ e. ((and-eq-true_iff (ltb (set_of g a / 64) j) _).0 e).1) (λ e. (and-eq-true_iff _ _).1 (below a e, e)))
    where
      below : (a : ℕ) → is_taken g t key a ≡ true → ltb (set_of g a / 64) j ≡ true
      below a e =
          let s = set_of g a in
          let inside = joined_word_in_sets g t key (s / 64) (s % 64) ((and-eq-true_iff _ _).0 e).0 in
          lt-ltb (s / 64) j (omega (arith, word-lt g f s (omega arith)))
