-- Which stop a geometry or a file has: 7 before 1 before 9 (rule 13.6).
use Rattle.std.proofs.Common.{◌≡◌, Bool, true, false, if◌then◌else◌, Some, None, refl}
use Rattle.machines.specs.Refusals.{first_refusal}
use Rattle.geometry.specs.declared.Geometry.{Geometry}
use Rattle.geometry.specs.Valid.{is_valid}
use Rattle.figures.specs.Figures.{Bytes}
use Rattle.jobfile.specs.Files.{geometry_of, bad_file, too_large, geometry_stops, file_stop}

pub first_refusal-geometry_stops : (g : Geometry) → first_refusal (geometry_stops g) ≡ (if is_valid g then (if too_large g then Some 9 else None) else Some 1)
unfolding first_refusal
first_refusal-geometry_stops g = go (is_valid g) (too_large g) refl refl
  where
    go : (ok large : Bool) → is_valid g ≡ ok → too_large g ≡ large
        → first_refusal (geometry_stops g) ≡ (if is_valid g then (if too_large g then Some 9 else None) else Some 1)
    go true true e f = rw (f, e)
    go true false e f = rw (f, e)
    go false true e f = rw (f, e)
    go false false e f = rw (f, e)

pub file_stop_is : (file : Bytes) → file_stop file ≡ (if bad_file file then Some 7 else first_refusal (geometry_stops (geometry_of file)))
unfolding first_refusal
file_stop_is file = go (bad_file file) refl
  where
    go : (bad : Bool) → bad_file file ≡ bad → file_stop file ≡ (if bad_file file then Some 7 else first_refusal (geometry_stops (geometry_of file)))
    go true e = rw e
    go false e = rw e
