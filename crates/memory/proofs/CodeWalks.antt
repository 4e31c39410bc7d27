-- The walk of the code: each run is its step, so that it takes the walk of the steps as far as it
-- comes.
use Rattle.std.proofs.Common.{◌≡◌, ℕ, List, [], ◌∷◌, ◌++◌, Some, None, refl, sym, ap, ◌∙◌}
use Rattle.machines.specs.Chain as chain
use Rattle.geometry.specs.declared.Geometry.{Geometry}
use Rattle.reference.specs.Calls.{Call, first_match, next_match, matches_after}
use Rattle.reference.specs.Tables.{Tables}
use Rattle.reference.specs.Steps.{step}
use Rattle.reference.specs.Walks.{address_given, IsWalk, marked_addresses}
use Rattle.reference.proofs.Walks.{begun_walks}
use Rattle.memory.specs.Runs.{Run, Made, Chain, last_tables, array_after_runs}
use Rattle.memory.specs.Walks.{IsWalked, first_of, ChainsWalk}
use Rattle.memory.proofs.CodeHistory.{Steps, made_steps, chain_begins}

-- the first call of a walk gives the first address, or none
walk_gives : (g : Geometry) (key : ℕ) (t : Tables) (c : Call (List ℕ)) (visits : List ℕ) → IsWalk g key t c visits → address_given (step g t c).answer ≡ Some (first_of visits)
unfolding IsWalk
walk_gives g key t c [] w = w
walk_gives g key t c (a ∷ visits) w = w.0

module _ {Link : Tables → Run → Type 0} (g : Geometry) (steps : (t : Tables) (x : Run) → Link t x → Steps g t x) (key : ℕ) where
  -- what a run of a call gives
  run_gives : (t : Tables) (x : Run) → Link t x → (c : Call (List ℕ)) → x.call ≡ c → address_given x.answer ≡ address_given (step g t c).answer
  run_gives t x link c e = ap address_given (rw e at (steps t x link).answer)

  -- The runs ys of a walk give what the walk of the steps visits, and x the next of it: by
  -- induction on ys. A run cannot give an address where that walk is at its end.
  along : (ys : List Run) (t : Tables) (c : Call (List ℕ)) (all : List ℕ) → IsWalk g key t c all → Chain Link t ys → (visits : List ℕ) (next : Call (List ℕ))
      → IsWalked key c ys visits next → (x : Run) → Link (last_tables t ys) x → x.call ≡ next
      → (left : List ℕ) × (visits ++ left ≡ all) × (address_given x.answer ≡ Some (first_of left))
  unfolding IsWalk IsWalked chain.last
  along [] t c all w ran [] next e x link is = (all, refl, run_gives t x link c (is ∙ sym e) ∙ walk_gives g key t c all w)
  along [] t c all w ran (a ∷ visits) next e x link is = absurd e
  along (y ∷ ys) t c all w ran [] next e x link is = absurd e
  along (y ∷ ys) t c [] w (chain.next made ran) (a ∷ visits) next (called, gave, e) x link is =
      let clash : Some (Some a) ≡ Some None = sym gave ∙ run_gives t y made c called ∙ w in
      absurd (cc)
  along (y ∷ ys) t c (b ∷ all) w (chain.next made ran) (a ∷ visits) next (called, gave, e) x link is =
      let both : Some (Some a) ≡ Some (Some b) = sym gave ∙ run_gives t y made c called ∙ w.0 in
      let same : a ≡ b = cc in
      let tables : y.tables ≡ (step g t c).tables = rw called at (steps t y made).tables in
      let (left, whole, gives) = along ys y.tables (next_match a key) all (rw (tables, same) w.1) ran visits next e x link is in
      (left, rw (whole, same) refl, gives)

module _ {Link : Tables → Run → Type 0} (g : Geometry) (steps : (t : Tables) (x : Run) → Link t x → Steps g t x) where
  pub chain_walks : ChainsWalk g Link
  unfolding matches_after
  chain_walks t es b xs ran key small all made lent is long ys walked visits next w x link called =
      let u = last_tables t xs in
      let v = begun_walks g u (array_after_runs g es xs) (chain_begins g steps t es b xs ran) key small lent long in
      let s = steps u all made in
      let marks : all.matches ≡ v.matches = s.matches ∙ rw (s.answer, is, v.all) refl in
      let (left, whole, gives) = along g steps key ys u (first_match key) (marked_addresses v.matches) ((v.walks (marked_addresses v.matches)).1 refl) walked visits next w x link called in
      (left, whole ∙ sym (ap marked_addresses marks), gives)

pub code_walks : (g : Geometry) → ChainsWalk g (Made g)
code_walks g = chain_walks g (made_steps g)
