-- What the check of lent tables gives.
use Rattle.std.specs.Prelude.{Result}
use Rattle.sizes.specs.declared.Sizes.{Sizes}
use Rattle.checks.specs.declared.Refusal.{Refusal}
use Rattle.checks.specs.declared.lent.Tables.{Tables}
use Rattle.checks.specs.Checks.{result_map}

-- The sizes in it.
abbrev pub sizes_lent : Result Tables Refusal → Result Sizes Refusal
sizes_lent = result_map (λ (tables : Tables). tables.layout.sizes)
