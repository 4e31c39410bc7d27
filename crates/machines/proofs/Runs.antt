-- The inductions over histories and chains. What each call keeps or tells, a history does; and
-- events that are each a call of a machine are its run.
use Rattle.std.proofs.Common.{◌≡◌, List, [], ◌∷◌, ◌++◌, map, refl, ap, ◌∙◌, ap₂}
use mathlib.Core.List.{zip_with}
use Rattle.machines.specs.Machine.{Machine, run, after}
use Rattle.machines.specs.Chain.{Chain, ended, next, last}

-- The state after one call.
abbrev next_state : {S C L : Type 0} → Machine S C L → S → C → S
next_state m s c = m.state (m.step s c)

-- `told` is what the second machine is told of a call of the first, and `seen`, `seen'` are what is
-- compared of what a call leaves.
module _ {S C L T D K A : Type 0} (m : Machine S C L) (n : Machine T D K) (told : C → D) (seen : L → A) (seen' : K → A)
    (Related : S → T → Type 0) where
  -- One call in related states: equal answers, and states that are related again.
  pub record Keeps (s : S) (t : T) (c : C) : Type 0 where
    pub answer : seen (m.step s c) ≡ seen' (n.step t (told c))
    pub related : Related (next_state m s c) (next_state n t (told c))

  -- A whole history: the same.
  pub record Together (s : S) (t : T) (cs : List C) : Type 0 where
    pub answers : map seen (run m s cs) ≡ map seen' (run n t (map told cs))
    pub ends : Related (after m s cs) (after n t (map told cs))

  pub together : ((s : S) (t : T) → Related s t → (c : C) → Keeps s t c) → (s : S) (t : T) → Related s t → (cs : List C) → Together s t cs
  unfolding run after
  together keeps s t r [] = record { answers = refl; ends = r }
  together keeps s t r (c ∷ cs) =
      let k = keeps s t r c in
      let rest = together keeps (next_state m s c) (next_state n t (told c)) k.related cs in
      record { answers = ap₂ (λ (x : A) (xs : List A). x ∷ xs) k.answer rest.answers; ends = rest.ends }

-- what is told of each call and what it leaves, whatever the state, is told of a whole history
pub run_each : {S C L A B D : Type 0} (m : Machine S C L) (f : L → A) (h : B → D → A) (p : L → B) (q : C → D)
    → ((s : S) (c : C) → f (m.step s c) ≡ h (p (m.step s c)) (q c)) → (s : S) (cs : List C)
    → map f (run m s cs) ≡ zip_with h (map p (run m s cs)) (map q cs)
unfolding run zip_with
run_each m f h p q tells s [] = refl
run_each {A = A} m f h p q tells s (c ∷ cs) = ap₂ (λ (x : A) (xs : List A). x ∷ xs) (tells s c) (run_each m f h p q tells (next_state m s c) cs)

-- a history in two parts: the second goes on in the state that the first left
module _ {S C L : Type 0} (m : Machine S C L) where
  pub run_parts : (s : S) (cs ds : List C) → run m s (cs ++ ds) ≡ run m s cs ++ run m (after m s cs) ds
  unfolding run after
  run_parts s [] ds = refl
  run_parts s (c ∷ cs) ds = ap (λ (os : List L). m.step s c ∷ os) (run_parts (next_state m s c) cs ds)

  pub after_parts : (s : S) (cs ds : List C) → after m s (cs ++ ds) ≡ after m (after m s cs) ds
  unfolding after
  after_parts s [] ds = refl
  after_parts s (c ∷ cs) ds = after_parts (next_state m s c) cs ds

-- `call` is the call of an event, `answer` what came back and `state` what it left.
module _ {S C L X A : Type 0} (m : Machine S C L) (seen : L → A) (call : X → C) (answer : X → A) (state : X → S) where
  -- An event in a state is the machine's call.
  pub record Is (s : S) (x : X) : Type 0 where
    pub same_answer : answer x ≡ seen (m.step s (call x))
    pub same_state : state x ≡ next_state m s (call x)

  -- A whole chain: the same.
  pub record Are (s : S) (xs : List X) : Type 0 where
    pub answers : map answer xs ≡ map seen (run m s (map call xs))
    pub ends : last state s xs ≡ after m s (map call xs)

  pub chain_is : {Link : S → X → Type 0} → ((s : S) (x : X) → Link s x → Is s x) → (s : S) (xs : List X) → Chain state Link s xs → Are s xs
  unfolding run after last
  chain_is is s [] ended = record { answers = refl; ends = refl }
  chain_is is s (x ∷ xs) (next link rest) =
      let k = is s x link in
      let r = chain_is is (state x) xs rest in
      record {
        answers = ap₂ (λ (a : A) (rest : List A). a ∷ rest) k.same_answer (rw (← k.same_state) r.answers);
        ends = r.ends ∙ ap (λ (u : S). after m u (map call xs)) k.same_state;
      }

-- what each link tells of its event, a chain tells of all
pub chain_each : {S X A : Type 0} {state : X → S} {Link : S → X → Type 0} (f h : X → A) → ((s : S) (x : X) → Link s x → f x ≡ h x)
    → (s : S) (xs : List X) → Chain state Link s xs → map f xs ≡ map h xs
chain_each f h tells s [] ended = refl
chain_each {A = A} {state = state} f h tells s (x ∷ xs) (next link rest) =
    ap₂ (λ (a : A) (rest : List A). a ∷ rest) (tells s x link) (chain_each f h tells (state x) xs rest)
