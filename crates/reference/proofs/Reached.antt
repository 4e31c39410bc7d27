-- Every array of a geometry is left by a history (rule 10.6 of docs/MEMORY.md): an accepted clear,
-- and then for each address the call that brings its entry there. So resume accepts exactly the
-- tables that some history leaves. By induction on the entries.
use Rattle.std.proofs.Common.{◌≡◌, ℕ, suc, ◌+◌, ◌<◌, true, false, ◌↔◌, List, [], ◌∷◌, ◌++◌, length, set, None, refl, sym, ap, ◌∙◌, arith, length-append}
use Rattle.std.proofs.Math.ListN.{length-replicate}
use Rattle.std.proofs.Math.Seq.{append_snoc, set-append_seam}
use Rattle.machines.specs.Refusals.{first_refusal}
use Rattle.machines.specs.Machine as machine
use Rattle.machines.proofs.Refusals.{passed_none}
use Rattle.geometry.specs.declared.Geometry.{Geometry}
use Rattle.geometry.specs.Valid.{is_valid}
use Rattle.reference.specs.Entry.{Entry, empty, pattern, Fits}
use Rattle.reference.specs.Calls.{Call, clear, write, erase, shape, cleared}
use Rattle.reference.specs.Array.{Array, empty_array, entry_at, IsSound, array_refusals, array_accepted, array_outcome, array_step}
use Rattle.reference.specs.Tables.{Tables}
use Rattle.reference.specs.Image.{tables_of}
use Rattle.reference.specs.Steps.{bad_lengths, bad_matches, own_refusals, refusals, accepted_outcome, outcome, step}
use Rattle.reference.specs.Resume.{shown_array, resume_step}
use Rattle.reference.specs.History.{History, array_of}
use Rattle.reference.specs.Statements.{IsReached}
use Rattle.reference.proofs.Limits.{lengths_pass, address_passes, pattern_passes}
use Rattle.reference.proofs.History.{history_begins, clear_begins}
use Rattle.reference.proofs.Resume.{resume_exactly, resume_begins, begun_resumes}

-- The call that brings an entry to an address, and those that bring some to the addresses from a
-- on.
abbrev bring : ℕ → Entry → Call (List ℕ)
bring a empty = erase a
bring a (pattern p) = write a p

load : ℕ → Array → History
load a [] = []
load a (e ∷ es) = bring a e ∷ load (suc a) es

module _ (g : Geometry) where
  brings : (fs : Array) (a : ℕ) (e : Entry) → a < g.depth → Fits g e → (array_step g fs (shape (bring a e))).array ≡ set fs a e
  unfolding array_step array_outcome array_accepted array_refusals first_refusal shape
  brings fs a empty inside fits = rw ((address_passes g a).1 inside)
  brings fs a (pattern p) inside fits = rw ((address_passes g a).1 inside, (pattern_passes g p).1 (fits p refl))

  -- the entries before the next address are those that are wanted, those from it on are any
  loads : (done rest fs : Array) → length fs ≡ length rest → length done + length rest ≡ g.depth → ((i : ℕ) → Fits g (entry_at rest i))
      → array_of g (done ++ fs) (load (length done) rest) ≡ done ++ rest
  unfolding machine.after load
  loads done [] [] long all fits = refl
  loads done [] (f ∷ fs) long all fits = absurd (omega arith)
  loads done (e ∷ rest) [] long all fits = absurd (omega arith)
  loads done (e ∷ rest) (f ∷ fs) long all fits =
      let longer : length (done ++ (e ∷ [])) ≡ suc (length done) = omega (arith, length-append done (e ∷ [])) in
      ap (λ (l : Array). array_of g l (load (suc (length done)) rest)) (brings (done ++ (f ∷ fs)) (length done) e (omega arith) (fits 0) ∙ set-append_seam done f fs e)
      ∙ (rw (longer, append_snoc done e fs, append_snoc done e rest) at (loads (done ++ (e ∷ [])) rest fs (omega arith) (omega arith) (λ i. fits (suc i))))

  load_leaves : (es : Array) → IsSound g es → array_of g (empty_array g) (load 0 es) ≡ es
  unfolding empty_array
  load_leaves es sound = loads [] es (empty_array g) (length-replicate g.depth empty ∙ sym sound.long) (omega (arith, sound.long)) sound.fits

  -- a clear of tables that fit is accepted
  clear_accepted : (t : Tables) → is_valid g ≡ true → bad_lengths g t ≡ false → (step g t clear).answer ≡ cleared
  unfolding step outcome accepted_outcome refusals own_refusals bad_matches
  clear_accepted t ok fit = rw (passed_none (refusals g t clear) (rw ok, (rw fit, tt)))

  pub resume_reached : (t : Tables) → ((resume_step g t).refusal ≡ None) ↔ IsReached g t
  resume_reached t = (there, back)
    where
      there : (resume_step g t).refusal ≡ None → IsReached g t
      there e =
          let resumable = (resume_exactly g t).0 e in
          let begun = resume_begins g t e in
          let first = clear_accepted t resumable.valid ((lengths_pass g t).1 (resumable.long, resumable.words)) in
          record {
            before = t;
            accepted = first;
            calls = load 0 (shown_array g t);
            leaves = (history_begins g _ (empty_array g) (clear_begins g t first) (load 0 (shown_array g t))).tables ∙ ap (tables_of g) (load_leaves (shown_array g t) begun.sound) ∙ sym begun.tables;
          }

      back : IsReached g t → (resume_step g t).refusal ≡ None
      back r = begun_resumes g t _ (rw r.leaves at (history_begins g _ (empty_array g) (clear_begins g r.before r.accepted) r.calls))
